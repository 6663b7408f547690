-- Looks into a folder, and at its entries.
use Rattle.std.proofs.Common.{◌≡◌, ◌∙◌, ◌++◌, List, ℕ, Option, Some, None, Result, Ok, Err, refl, ap, inl, inr, codes}
use Rattle.std.specs.Prelude.{IfErr, IsErr}
use Rattle.std.specs.IoError.{error_kind}
use Rattle.std.specs.declared.io.Error.{Error}
use Rattle.std.specs.declared.io.ErrorKind.TheVariants.{PermissionDenied}
use Rattle.cv_system.specs.declared.seen.Seen.{Seen}
use Rattle.cv_system.specs.Calls.{Cause, cause_of, Log, Looked, and_call}
use Rattle.cv_system.specs.Looks.{Looks, LooksAtEntry}
use Rattle.cv_system.specs.Passed.{HidesNoName, IsOpen, IsShut}
use Rattle.cv_system.specs.Steps.{IsNothing}

never_nothing : (cause : Cause) → IsNothing cause → cause.kind ≡ PermissionDenied → ⊥
never_nothing cause (inl is) refused = cc
never_nothing cause (inr is) refused = cc

-- ---- a look into a folder

module _ (folder path : List ℕ) (at : path ≡ folder ++ codes ".") (before after : Log) where
  -- it wasn't refused
  pub open_so : (seen : Result (Option Seen) Error) → ((IsErr seen × IfErr seen (λ error. error_kind error ≡ PermissionDenied)) → ⊥) → Looks path seen before after → IsOpen folder before after
  open_so (Ok (Some seen)) not is = (Ok seen, λ never. never, is ∙ ap (λ (p : List ℕ). and_call (Looked p (Ok seen)) before) at)
  open_so (Ok None) not (cause, nothing, is) = (Err cause, λ same. never_nothing cause nothing same, is ∙ ap (λ (p : List ℕ). and_call (Looked p (Err cause)) before) at)
  open_so (Err error) not (there, is) =
      (Err (cause_of error), λ refused. not (refl, refused), is ∙ ap (λ (p : List ℕ). and_call (Looked p (Err (cause_of error))) before) at)

  -- it was
  pub shut_so : (seen : Result (Option Seen) Error) → IsErr seen × IfErr seen (λ error. error_kind error ≡ PermissionDenied) → Looks path seen before after → IsShut folder before after
  shut_so (Ok found) (never, refused) is = absurd (cc)
  shut_so (Err error) (failed, refused) (there, is) = inl (Err (cause_of error), refused, is ∙ ap (λ (p : List ℕ). and_call (Looked p (Err (cause_of error))) before) at)

-- ---- a look at an entry

module _ (path : List ℕ) (before after : Log) where
  pub entry_so : (found : Option Seen) → Looks path (Ok found) before after → LooksAtEntry path (Ok found) before after
  entry_so (Some seen) is = is
  entry_so None (cause, nothing, is) = (cause, inl nothing, is)

  -- nothing has a path that is too long
  pub no_entry : (error : Error) → HidesNoName (cause_of error) → Looks path (Err error) before after → LooksAtEntry path (Ok None) before after
  no_entry error no_name (there, is) = (cause_of error, inr no_name, is)
