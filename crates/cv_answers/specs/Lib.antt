pub mod Refusal
pub mod RefusalInner
pub mod Answer
pub mod AnswerText
pub mod AnswerTextInner
