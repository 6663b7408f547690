pub mod Record
pub mod Reading
pub mod ReadingInner
pub mod Chain
pub mod ChainInner
