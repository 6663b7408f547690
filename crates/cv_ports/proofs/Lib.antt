mod Streams
mod Pieces
mod ShelfPuts
pub mod Laws
mod Folders
mod Backs
