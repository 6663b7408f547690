pub mod Wanting
pub mod Progress
pub mod Giving
pub mod OpeningInner
pub mod GrowingInner
pub mod InTree
