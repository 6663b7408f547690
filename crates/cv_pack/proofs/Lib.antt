mod Contents
mod Feeding
mod Hashes
mod Lines
mod NamedIds
mod Packs
mod Steps
mod Numbers
pub mod Laws
