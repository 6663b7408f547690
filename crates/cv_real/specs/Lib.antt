pub mod AheadInner
pub mod ListingInner
pub mod SeenInner
