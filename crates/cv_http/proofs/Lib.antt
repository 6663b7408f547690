mod Numbers
mod OneMore
mod Room
mod Windows
mod Streams
mod Refusals
mod OneReading
mod OneReply
mod Replying
mod Behind
pub mod Lemmas
mod HeadEnds
