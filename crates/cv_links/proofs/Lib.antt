pub mod Laws
mod Lists
mod OneList
mod Segments
