pub mod ProgramInner
pub mod Words
