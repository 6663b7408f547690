-- The calls of a vault in memory that are to fail, by their numbers. What only this crate's own functions say.
use Rattle.std.specs.Prelude.{ℕ, ◌==◌, Bool, true, false, if◌then◌else◌}
use Rattle.cv_vault.specs.declared.fate.Fate.{Fate}
use Rattle.cv_vault.specs.declared.fate.Fate.TheVariants.{Works, FailsUnmade, FailsMade}

-- a number that stands once: the call makes no change. One that stands twice or more: it makes its change all the same
abbrev pub fate_of : ℕ → Fate
fate_of times = if times == 0 then Works else (if times == 1 then FailsUnmade else FailsMade)

abbrev pub fate_fails : Fate → Bool
fate_fails Works = false
fate_fails FailsUnmade = true
fate_fails FailsMade = true

abbrev pub fate_makes : Fate → Bool
fate_makes Works = true
fate_makes FailsUnmade = false
fate_makes FailsMade = true
