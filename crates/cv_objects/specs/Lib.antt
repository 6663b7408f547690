pub mod Objects
pub mod Names
pub mod Fresh
pub mod PlacesInner
pub mod Faults
pub mod Batches
pub mod BatchesInner
pub mod Coming
