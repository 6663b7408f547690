mod Naming
mod Lists
mod Noted
mod Looking
mod Seen
mod Writing
mod Placing
mod Batching
mod Stores
mod Telling
mod Once
mod Noting
mod Meaning
mod Clashing
pub mod Lemmas
