pub mod Lemmas
mod Heads
mod Coming
mod Conversing
mod Telling
mod Serving
mod Supplying
mod Cuts
mod Clients
mod Urls
