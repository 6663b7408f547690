mod CutNames
mod Failing
mod LastParts
pub mod Laws
mod Looking
mod Passing
mod Places
mod Reading
mod Rounds
mod Seeing
mod Settling
mod Stepping
mod Trying
mod WalkCalls
mod Walking
mod WaySyncs
