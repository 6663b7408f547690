pub mod Links
pub mod LinksInner
pub mod Arena
pub mod Chains
pub mod Lends
pub mod RawStepsInner
