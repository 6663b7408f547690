-- What the forms in memory hold.
use Rattle.std.specs.Prelude.{ℕ, ◌<◌, ◌≤◌, List, length}
use Rattle.cv_ports.specs.Calls.{Calls}

-- what a source has left, what it gave, the most that it gives a call, and its calls
pub record SourceView : Type 0 where
  pub left : List ℕ
  pub given : List ℕ
  pub piece : ℕ
  pub calls : Calls

-- what a sink took, what it passed on of that, how many bytes it has room for in all, and its calls
pub record SinkView : Type 0 where
  pub taken : List ℕ
  pub passed : List ℕ
  pub room : ℕ
  pub calls : Calls

-- no room is left for these bytes, and they aren't empty
abbrev pub IsFull : SinkView → List ℕ → Type 0
IsFull sink bytes = (0 < length bytes) × (sink.room ≤ length sink.taken)
