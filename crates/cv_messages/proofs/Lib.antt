pub mod Laws
mod Spellings
mod MemberReads
mod PayloadAsks
mod CommitAsks
