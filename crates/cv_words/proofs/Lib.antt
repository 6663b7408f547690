mod Entering
mod Forms
pub mod Laws
mod Leaves
mod Reading
mod Values
mod Walks
