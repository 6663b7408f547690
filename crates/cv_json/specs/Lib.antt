pub mod Elements
pub mod ObjectText
