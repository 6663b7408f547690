mod Completing
mod Crashes
mod Effects
mod First
mod Growth
mod Histories
mod Keeping
pub mod Lemmas
mod Leases
mod Living
mod Making
mod Passing
mod Readying
mod Shelves
mod Tokens
mod Runs
mod Alone
mod Owns
