mod ChainLaws
mod FieldLaws
mod Spelling
mod TextValues
mod WalksBack
mod Written
pub mod Lemmas
