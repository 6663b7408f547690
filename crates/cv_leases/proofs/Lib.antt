mod Tables
mod Beside
mod Queues
mod Ending
mod Reaching
mod Trees
mod Climbing
mod Pruned
mod Needed
mod Places
mod Rooted
mod Tied
mod OnePath
pub mod Laws
