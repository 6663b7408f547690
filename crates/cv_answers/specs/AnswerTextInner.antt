-- The answer that a text says, or its first fault. The status is judged first. The members of each kind are judged in
-- the order in which they are written, but the reason of a refusal before those that it asks for, and the elements of
-- a list one after another. What only this crate's own functions say.
use Rattle.cv_base.specs.Digest.{IsDigest}
use Rattle.cv_messages.specs.Spelling.{IsToken}
use Rattle.cv_answers.specs.RefusalInner.{IsWholeRefusal}
use Rattle.cv_answers.specs.declared.answer.Answer.{Answer}
use Rattle.cv_answers.specs.declared.answer.Answer.TheVariants.{Granted, Committed, PathBusy, Refused}

-- the numbers of a token have 64 bits, a digest has twenty bytes, and a path is what its text says, as their types have it
abbrev pub IsWhole : Answer → Type 0
IsWhole (Granted token revision root) = IsToken token × IsDigest root
IsWhole (Committed revision root) = IsDigest root
IsWhole (PathBusy token remaining) = IsToken token
IsWhole (Refused refusal) = IsWholeRefusal refusal
IsWhole _ = Unit {0}
