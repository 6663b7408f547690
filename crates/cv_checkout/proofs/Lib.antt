mod Zips
mod Covering
mod Coming
mod Counting
mod Ending
mod Steps
mod Gifts
pub mod Lemmas
