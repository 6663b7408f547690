-- How a vault's folder is made and held.
use Rattle.std.proofs.Common.{◌≡◌, true, false, List, ℕ, Option, Some, None, Result, Ok, Err, subst, sym, inl, inr}
use Rattle.std.specs.Prelude.{IfOk, IfErr, is_some}
use Rattle.std.specs.declared.io.Error.{Error}
use Rattle.cv_folder.specs.declared.hold.Hold.{Hold}
use Rattle.cv_folder.specs.declared.hold.Hold.TheVariants.{Absent, Held, Refused}
use Rattle.cv_system.specs.Calls.{cause_of, Done, Log, Made, and_call}
use Rattle.cv_folder.specs.FolderVaultInner.{MakesHeld}
use Rattle.cv_folder.specs.Hold.{Locks, LocksAndLeaves, MakesRoot}
use Rattle.cv_base.specs.Path.{with_slash}

-- a folder that was made is held, another vault holds it, or it couldn't be locked
pub makes_held : {F : Type 0} (root path : List ℕ) (before made after : Log) (result : Result (Option F) Error) → path ≡ with_slash root → made ≡ and_call (Made root Done) before
    → IfOk result (λ held. Locks path (is_some held) made after) → IfErr result (λ error. LocksAndLeaves root path (cause_of error) made after)
    → MakesHeld root result before after
unfolding MakesHeld
makes_held root path before made after (Ok (Some file)) at is locks leaves =
    subst (λ (log : Log). Locks (with_slash root) true log after) is (subst (λ (p : List ℕ). Locks p true made after) at locks)
makes_held root path before made after (Ok None) at is locks leaves =
    inr (subst (λ (log : Log). Locks (with_slash root) false log after) is (subst (λ (p : List ℕ). Locks p false made after) at locks))
makes_held root path before made after (Err error) at is locks leaves =
    inr (subst (λ (log : Log). LocksAndLeaves root (with_slash root) (cause_of error) log after) is
    (subst (λ (p : List ℕ). LocksAndLeaves root p (cause_of error) made after) at leaves))

-- what a vault has of a folder whose making and locking answered so
abbrev pub made_hold : {F : Type 0} → Result (Option F) Error → Hold F
made_hold (Ok (Some file)) = Held file
made_hold (Ok None) = Refused
made_hold (Err error) = Absent

pub makes_root : {F : Type 0} (root : List ℕ) (before after : Log) (result : Result (Option F) Error) → MakesHeld root result before after → MakesRoot root (made_hold result) before after
unfolding MakesHeld MakesRoot
makes_root root before after (Ok (Some file)) makes = makes
makes_root root before after (Ok None) makes = makes
makes_root root before after (Err error) (inl (never, made)) = inr (inl (cause_of error, never, made))
makes_root root before after (Err error) (inr leaves) = inr (inr (cause_of error, leaves))

module _ {F : Type 0} (root : List ℕ) (hold : Hold F) where
  -- no folder was made
  pub makes_still : (before after : Log) → hold ≡ Absent → after ≡ before → MakesRoot root hold before after
  unfolding MakesRoot
  makes_still before after absent same = subst (λ (h : Hold F). MakesRoot root h before after) (sym absent) (inl same)

  -- one was, by the path of the vault's folder
  pub makes_then : (path : List ℕ) (result : Result (Option F) Error) (before between after : Log) → hold ≡ made_hold result → path ≡ root → between ≡ before
      → MakesHeld path result between after → MakesRoot root hold before after
  makes_then path result before between after is at same makes =
      subst (λ (h : Hold F). MakesRoot root h before after) (sym is)
      (subst (λ (log : Log). MakesRoot root (made_hold result) log after) same
      (subst (λ (p : List ℕ). MakesRoot p (made_hold result) between after) at (makes_root path between after result makes)))
