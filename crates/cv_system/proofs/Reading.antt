-- A file that was seen is read.
use Rattle.std.proofs.Common.{◌≡◌, List, ℕ, Result, Ok, Err, Vec, inl, inr, refl, subst, sym}
use Rattle.std.specs.Prelude.{◌⊎◌, IfErr, IfOk}
use Rattle.std.specs.declared.io.Error.{Error}
use Rattle.std.specs.declared.io.ErrorKind.TheVariants.{InvalidData}
use Rattle.cv_system.specs.declared.seen.Seen.{Seen}
use Rattle.cv_system.specs.Calls.{Cause, Checked, Done, Failed, Log, Opened, Read, and_call, cause_of, told_bytes}
use Rattle.cv_system.specs.Looks.{FailsToReadFile, OpensFile, OpensOther, ReadsFile}
use Rattle.cv_system.specs.Steps.{EndsFailed, Grows, Still, Then}
use Rattle.cv_system.proofs.Failing.{fails_now, fails_then}
use Rattle.cv_system.proofs.Stepping.{one_call, steps_then}
use Rattle.cv_system.proofs.Trying.{two_calls}

opens_grow : (path : List ℕ) (seen : Seen) (before after : Log) → OpensFile path seen before after → Grows before after
opens_grow path seen before after (opened, is_file, same, is) = subst (Grows before) (sym is) (Then (Then Still (Opened path Done, tt, refl)) (Checked path (Ok opened), tt, refl))

module _ {Z : Type 0} (path : List ℕ) (seen : Seen) (before opened checked after : Log) where
  -- all of it is read
  pub reads_all : (result : Result (Vec ℕ Z) Error) → OpensFile path seen before opened → (again : Seen) → checked ≡ and_call (Checked path (Ok again)) opened
      → after ≡ and_call (Read path (told_bytes result)) checked → IfOk result (λ bytes. ReadsFile path seen bytes.items before after)
  reads_all (Ok bytes) opens again check read = (opened, again, opens, two_calls _ _ _ _ _ check read)
  reads_all (Err error) opens again check read = tt

  -- or it isn't
  pub read_fails : (result : Result (Vec ℕ Z) Error) → OpensFile path seen before opened → (again : Seen) → checked ≡ and_call (Checked path (Ok again)) opened
      → after ≡ and_call (Read path (told_bytes result)) checked → IfErr result (λ error. FailsToReadFile path seen (cause_of error) before after)
  read_fails (Ok bytes) opens again check read = tt
  read_fails (Err error) opens again check read = inr (opened, opens, inr (again, two_calls _ _ _ _ _ check read))

-- a read that fails ends with the call that failed, or with what was opened in place of the file
pub reading_fails : (path : List ℕ) (seen : Seen) (cause : Cause) (before after : Log) → FailsToReadFile path seen cause before after
    → EndsFailed cause before after ⊎ ((cause.kind ≡ InvalidData) × OpensOther path seen before after)
reading_fails path seen cause before after (inl (inl is)) = inl (fails_now (Opened path (Failed cause)) refl (λ look nothing. look) is)
reading_fails path seen cause before after (inl (inr (inl is))) =
    inl (fails_then (one_call (Opened path Done) tt refl) (fails_now (Checked path (Err cause)) refl (λ look nothing. look) is))
reading_fails path seen cause before after (inl (inr (inr other))) = inr other
reading_fails path seen cause before after (inr (opened, opens, inl is)) =
    inl (fails_then (opens_grow path seen before opened opens) (fails_now (Checked path (Err cause)) refl (λ look nothing. look) is))
reading_fails path seen cause before after (inr (opened, opens, inr (again, is))) =
    inl (fails_then (steps_then (opens_grow path seen before opened opens) (one_call (Checked path (Ok again)) tt refl)) (fails_now (Read path (Err cause)) refl (λ look nothing. look) is))
