mod Fits
mod Gathers
mod Grafts
mod Made
mod Maps
mod PathLimits
mod PathRuns
mod Replacements
mod Shapes
pub mod Laws
