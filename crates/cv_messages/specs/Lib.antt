pub mod Spelling
pub mod Member
pub mod MemberName
pub mod LeaseAsk
pub mod CommitAsk
pub mod PayloadAsk
pub mod Targets
