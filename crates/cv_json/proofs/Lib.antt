mod Elements
mod Objects
pub mod Laws
