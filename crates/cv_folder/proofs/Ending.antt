-- How a part of a listing ends.
use Rattle.std.proofs.Common.{◌≡◌, List, ℕ, Option, Result, Ok, Err, refl, inl, inr, subst, sym}
use Rattle.std.specs.Prelude.{◌⊎◌, ◌↔◌, IfErr, IsOk}
use Rattle.std.specs.IoError.{error_kind}
use Rattle.std.specs.declared.io.Error.{Error}
use Rattle.std.specs.declared.io.ErrorKind.TheVariants.{InvalidInput, TimedOut}
use Rattle.cv_system.specs.declared.seen.Seen.{Seen}
use Rattle.cv_system.specs.Calls.{Call, Cause, Done, Failed, IsWant, Log, Outcome, and_call, came_out, cause_of}
use Rattle.cv_system.specs.Looks.{Looks}
use Rattle.cv_system.specs.Passed.{HidesNoName}
use Rattle.cv_system.specs.Steps.{EndsFailed, HasFailed, IsNothing, Then}
use Rattle.cv_system.proofs.Laws.{fails_then, grows, steps_then, steps_wider}
use Rattle.cv_folder.specs.declared.hold.Hold.{Hold}
use Rattle.cv_folder.specs.declared.hold.Hold.TheVariants.{Refused}
use Rattle.cv_folder.specs.GoingOn.{ComesOut, GoesOn}
use Rattle.cv_folder.specs.Listed.{FailsListing, FailsToList, IsSkipped}
use Rattle.cv_folder.specs.ListedInner.{GoesOrEnds}
use Rattle.cv_folder.proofs.Well.{looked_well}

wider_out : (out : Outcome) → ComesOut IsNothing out → ComesOut IsSkipped out
wider_out Done well = tt
wider_out (Failed cause) nothing = inl nothing

-- what found nothing at most is skipped
pub well_skipped : (before after : Log) → GoesOn IsNothing before after → GoesOn IsSkipped before after
well_skipped before after well = steps_wider (λ one other (call, out, is). (call, wider_out (came_out call) out, is)) well

pub looked_skipped : (path : List ℕ) (found : Option Seen) (before after : Log) → Looks path (Ok found) before after → GoesOn IsSkipped before after
looked_skipped path found before after look = well_skipped before after (looked_well path found before after look)

-- behind calls that were skipped
pub goes_then : {T : Type 0} (result : Result T Error) (before between after : Log) → GoesOn IsSkipped before between → GoesOrEnds result between after → GoesOrEnds result before after
unfolding GoesOrEnds
goes_then (Ok done) before between after goes more = steps_then goes more
goes_then (Err error) before between after goes (inl (last, call, more, fails, is)) = inl (last, call, steps_then goes more, fails, is)
goes_then (Err error) before between after goes (inr (why, more)) = inr (why, steps_then goes more)

pub goes_done : {T : Type 0} (done : T) (before after : Log) → GoesOn IsSkipped before after → GoesOrEnds (Ok done) before after
unfolding GoesOrEnds
goes_done done before after goes = goes

-- it is done
pub done_goes : {T : Type 0} (done : T) (before after : Log) → GoesOrEnds (Ok done) before after → GoesOn IsSkipped before after
unfolding GoesOrEnds
done_goes done before after goes = goes

-- memory is wanted
pub ends_wanting : {T : Type 0} (before : Log) (result : Result T Error) (after : Log) → IfErr result (λ error. IsWant (cause_of error)) → GoesOn IsSkipped before after → GoesOrEnds result before after
unfolding GoesOrEnds
ends_wanting before (Ok done) after want goes = goes
ends_wanting before (Err error) after want goes = inr (inl want, goes)

module _ (T : Type 0) (before : Log) where
  -- a call failed
  pub ends_failed : (error : Error) (call : Call) (between after : Log) → GoesOn IsSkipped before between → HasFailed (cause_of error) call → after ≡ and_call call between → GoesOrEnds {T = T} (Err error) before after
  unfolding GoesOrEnds
  ends_failed error call between after goes fails is = inl (between, call, goes, fails, is)

  -- there is no end
  pub ends_never : (error : Error) (after : Log) → error_kind error ≡ TimedOut → GoesOn IsSkipped before after → GoesOrEnds {T = T} (Err error) before after
  unfolding GoesOrEnds
  ends_never error after timed goes = inr (inr timed, goes)

no_want : (cause : Cause) → HidesNoName cause → IsWant cause ⊎ (cause.kind ≡ TimedOut) → ⊥
no_want cause (inl long) (inl want) = let kind = want.0 in cc
no_want cause (inl long) (inr timed) = cc
no_want cause (inr absent) (inl want) = let kind = want.0 in cc
no_want cause (inr absent) (inr timed) = cc

-- an error that is passed over
pub passed_so : {T : Type 0} (done result : Result T Error) → (IsOk done → IsOk result) → IfErr done (λ error. IsOk result ↔ HidesNoName (cause_of error)) → IfErr result (λ error. done ≡ Err error)
    → (before after : Log) → GoesOrEnds done before after → GoesOrEnds result before after
unfolding GoesOrEnds
passed_so (Ok x) (Ok y) ok passed fails before after goes = goes
passed_so (Ok x) (Err error) ok passed fails before after goes = absurd (cc)
passed_so (Err other) (Ok y) ok passed fails before after (inl (last, call, more, (out, there), is)) =
    Then more (call, subst (ComesOut IsSkipped) (sym out) (inr (passed.0 refl)), is)
passed_so (Err other) (Ok y) ok passed fails before after (inr (why, more)) = absurd (no_want (cause_of other) (passed.0 refl) why)
passed_so {T} (Err other) (Err error) ok passed fails before after ends = subst (λ (r : Result T Error). GoesOrEnds r before after) fails ends

-- so a listing fails
pub fails_listing : (T : Type 0) (error : Error) (before after : Log) → GoesOrEnds {T = T} (Err error) before after → FailsListing (cause_of error) before after
unfolding GoesOrEnds
fails_listing T error before after (inl (last, call, more, fails, is)) = inl (last, call, grows more, fails, is)
fails_listing T error before after (inr (why, more)) = inr (why, more)

-- behind what asks for the folder
module _ {F : Type 0} (hold : Hold F) (cause : Cause) (before after : Log) where
  pub list_refused : ((cause.kind ≡ InvalidInput) × (hold ≡ Refused)) ⊎ EndsFailed cause before after → FailsToList hold cause before after
  unfolding FailsToList
  list_refused (inl refused) = inl refused
  list_refused (inr fails) = inr (inl fails)

  pub list_fails : (between : Log) → GoesOn IsNothing before between → FailsListing cause between after → FailsToList hold cause before after
  unfolding FailsToList
  list_fails between goes (inl fails) = inr (inl (fails_then (grows goes) fails))
  list_fails between goes (inr (why, more)) = inr (inr (why, steps_then (well_skipped before between goes) more))
