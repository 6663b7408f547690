mod Clear
mod Cuts
mod Endings
mod Ends
mod Exact
mod OneFault
mod Progress
mod Puts
mod Shown
mod Splits
mod Written
pub mod Lemmas
