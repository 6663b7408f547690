-- What a sync of a folder answers.
use Rattle.std.specs.Prelude.{ℕ, ◌≡◌, List, [], ◌∷◌, Result, Ok, Err}
use Rattle.std.specs.declared.io.Error.{Error}
use Rattle.cv_system.specs.Calls.{cause_of, Log, Done, Failed, Opened, Synced, and_call, and_calls, outcome}

-- a folder is opened and, if it is, made durable
abbrev pub SyncsAt : {T : Type 0} → List ℕ → Result (Result T Error) Error → Log → Log → Type 0
SyncsAt folder (Ok synced) before after = after ≡ and_calls (Opened folder Done ∷ Synced folder (outcome synced) ∷ []) before
SyncsAt folder (Err error) before after = after ≡ and_call (Opened folder (Failed (cause_of error))) before
