-- Looks at a path. What only this crate's own functions say.
use Rattle.std.specs.Prelude.{◌≡◌, ℕ, Bool, true, false, List, Result, Ok, Err}
use Rattle.std.specs.declared.io.Error.{Error}
use Rattle.cv_system.specs.declared.seen.Seen.{Seen}
use Rattle.cv_system.specs.declared.seen.Kind.TheVariants.{Folder}
use Rattle.cv_system.specs.Calls.{Cause, cause_of, Log, and_call, Looked}
use Rattle.cv_system.specs.Looks.{IsNoFolder}
use Rattle.cv_system.specs.Steps.{IsNothing}

-- a look at a path, and whether a folder is there
abbrev pub LooksForFolder : List ℕ → Result Bool Error → Log → Log → Type 0
LooksForFolder path (Ok true) before after = (seen : Seen) × (seen.kind ≡ Folder) × (after ≡ and_call (Looked path (Ok seen)) before)
LooksForFolder path (Ok false) before after = (seen : Result Seen Cause) × IsNoFolder seen × (after ≡ and_call (Looked path seen) before)
LooksForFolder path (Err error) before after = (IsNothing (cause_of error) → ⊥) × (after ≡ and_call (Looked path (Err (cause_of error))) before)
