-- One reading after another.
use Rattle.std.specs.Prelude.{Result, Ok, Err}

-- what is read first, and then what follows it; the first fault ends it
infixl 10 ◌>>=◌
abbrev pub ◌>>=◌ : {A B E : Type 0} → Result A E → (A → Result B E) → Result B E
(Ok x) >>= next = next x
(Err fault) >>= next = Err fault
