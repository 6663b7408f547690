pub mod Leases
pub mod Queue
pub mod QueueInner
pub mod Names
pub mod NamesInner
pub mod Linked
pub mod LinkedInner
