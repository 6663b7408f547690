mod Cuts
mod Streams
mod Reading
mod Turning
mod Running
mod Given
mod Telling
pub mod Lemmas
