-- Calls that are tried, one after another.
use Rattle.std.proofs.Common.{◌≡◌, ◌∙◌, ◌++◌, ◌∷◌, [], Bool, true, false, List, ℕ, Some, None, Result, Ok, Err, refl, ap, subst, inl, inr}
use Rattle.std.specs.Prelude.{IsSome, is_ok}
use Rattle.std.specs.declared.io.Error.{Error}
use Rattle.cv_system.specs.Calls.{cause_of, Call, Log, Outcome, Done, and_call, outcome}
use Rattle.cv_system.specs.Steps.{Tries}

-- these were made, and then others were tried
pub tried_then : (calls more : List (Outcome → Call)) (all : Bool) (before between after : Log)
    → Tries calls true before between → Tries more all between after → Tries (calls ++ more) all before after
tried_then [] more all before between after (made, same) then = subst (λ (log : Log). Tries more all log after) same then
tried_then (call ∷ calls) more all before between after (inl made) then =
    inl (tried_then calls more all (and_call (call Done) before) between after made then)
tried_then (call ∷ calls) more all before between after (inr (cause, never, is)) then = absurd (cc)

-- one of these failed, and no other is tried behind it
pub tried_in_vain : (calls more : List (Outcome → Call)) (before after : Log) → Tries calls false before after → Tries (calls ++ more) false before after
tried_in_vain [] more before after (made, same) = absurd (cc)
tried_in_vain (call ∷ calls) more before after (inl made) = inl (tried_in_vain calls more (and_call (call Done) before) after made)
tried_in_vain (call ∷ calls) more before after (inr failed) = inr failed

module _ {A : Type 0} (call : Outcome → Call) (more : List (Outcome → Call)) (result : Result A Error) (before between : Log)
    (is : between ≡ and_call (call (outcome result)) before) where
  -- one call was made, and then others were tried
  pub made_then : (all : Bool) (after : Log) (x : A) → result ≡ Ok x → Tries more all between after → Tries (call ∷ more) all before after
  made_then all after x was then =
      inl (subst (λ (log : Log). Tries more all log after) (is ∙ ap (λ (r : Result A Error). and_call (call (outcome r)) before) was) then)

  -- it failed
  pub failed_so : (error : Error) → result ≡ Err error → Tries (call ∷ more) false before between
  failed_so error was = inr (cause_of error, refl, is ∙ ap (λ (r : Result A Error). and_call (call (outcome r)) before) was)

-- one call was tried
pub tried_one : {A : Type 0} (call : Outcome → Call) (result : Result A Error) (before after : Log)
    → after ≡ and_call (call (outcome result)) before → Tries (call ∷ []) (is_ok result) before after
tried_one call (Ok x) before after is = inl (refl, is)
tried_one call (Err error) before after is = inr (cause_of error, refl, is)

told_at : (call : List ℕ → Call) (log : Log) (place path : List ℕ) → (IsSome log → place ≡ path) → and_call (call place) log ≡ and_call (call path) log
unfolding and_call
told_at call None place path at = refl
told_at call (Some calls) place path at = ap (λ (p : List ℕ). Some (calls ++ call p ∷ [])) (at refl)

-- a call of an open file is one at the path that it was opened at
pub call_at : {A : Type 0} (call : List ℕ → A → Call) (x : A) (place path : List ℕ) (before after : Log) → (IsSome before → place ≡ path)
    → after ≡ and_call (call place x) before → after ≡ and_call (call path x) before
call_at call x place path before after at is = is ∙ told_at (λ p. call p x) before place path at

-- one call, and then another
pub two_calls : (first second : Call) (before between after : Log) → between ≡ and_call first before → after ≡ and_call second between → after ≡ and_call second (and_call first before)
two_calls first second before between after one other = other ∙ ap (and_call second) one

-- what is told with one call more was told without it
pub told_before : (call : Call) (log after : Log) → after ≡ and_call call log → IsSome after → IsSome log
unfolding and_call
told_before call None after is some = subst (λ (log : Log). IsSome log) is some
told_before call (Some calls) after is some = refl
