-- A file that is created anew, and calls that are tried behind it.
use Rattle.std.proofs.Common.{[], ◌∷◌, Bool, true, false, List, ℕ, refl, subst, inl, inr}
use Rattle.std.specs.Prelude.{⊤}
use Rattle.cv_system.specs.Calls.{Call, Log, Outcome, Created, Done, Failed, Removed}
use Rattle.cv_system.specs.Steps.{Makes, Tries}
use Rattle.cv_folder.specs.Writes.{TriesAnew}
use Rattle.cv_system.proofs.Laws.{no_step, one_call, steps_then, tried_in_vain, tried_then}

module _ (next : List ℕ) where
  -- the file was created anew, and then calls were tried
  pub anew_then : (more : List (Outcome → Call)) (all : Bool) (before between after : Log)
      → TriesAnew next [] true before between → Tries more all between after → TriesAnew next more all before after
  anew_then more all before between after (inl (made, same)) then = inl (subst (λ (log : Log). Tries more all log after) same then)
  anew_then more all before between after (inr (inl (never, cause, other, is))) then = absurd (cc)
  anew_then more all before between after (inr (inr (cause, taken, again))) then = inr (inr (cause, taken, tried_then (Removed next ∷ Created next ∷ []) more all _ between after again then))

  -- it wasn't
  pub not_anew : (more : List (Outcome → Call)) (before after : Log) → TriesAnew next [] false before after → TriesAnew next more false before after
  not_anew more before after (inl (made, same)) = absurd (cc)
  not_anew more before after (inr (inl other)) = inr (inl other)
  not_anew more before after (inr (inr (cause, taken, failed))) = inr (inr (cause, taken, tried_in_vain (Removed next ∷ Created next ∷ []) more _ after failed))

-- each of these calls is such a one, however it comes out
abbrev pub AreSuch : (Call → Type 0) → List (Outcome → Call) → Type 0
AreSuch IsSuch [] = ⊤
AreSuch IsSuch (call ∷ calls) = ((out : Outcome) → IsSuch (call out)) × AreSuch IsSuch calls

module _ (IsSuch : Call → Type 0) where
  -- calls that are tried are such as each of them is
  tries_make : (calls : List (Outcome → Call)) (all : Bool) (before after : Log) → AreSuch IsSuch calls → Tries calls all before after → Makes IsSuch before after
  tries_make [] all before after such (made, same) = no_step same
  tries_make (call ∷ calls) all before after such (inl tried) = steps_then (one_call (call Done) (such.0 Done) refl) (tries_make calls all _ after such.1 tried)
  tries_make (call ∷ calls) all before after such (inr (cause, never, is)) = one_call (call (Failed cause)) (such.0 (Failed cause)) is

  -- so are those by which the file is created anew, and these
  pub anew_makes : (at : List ℕ) (calls : List (Outcome → Call)) (all : Bool) (before after : Log) → ((out : Outcome) → IsSuch (Created at out)) → ((out : Outcome) → IsSuch (Removed at out))
      → AreSuch IsSuch calls → TriesAnew at calls all before after → Makes IsSuch before after
  anew_makes at calls all before after created removed such (inl tried) = steps_then (one_call (Created at Done) (created Done) refl) (tries_make calls all _ after such tried)
  anew_makes at calls all before after created removed such (inr (inl (never, cause, other, is))) = one_call (Created at (Failed cause)) (created (Failed cause)) is
  anew_makes at calls all before after created removed such (inr (inr (cause, taken, tried))) =
      steps_then (one_call (Created at (Failed cause)) (created (Failed cause)) refl) (tries_make (Removed at ∷ Created at ∷ calls) all _ after (removed, (created, such)) tried)
