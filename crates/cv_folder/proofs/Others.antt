-- Whether a path is another name of a file.
use Rattle.std.proofs.Common.{◌<◌, Bool, true, false, List, ℕ, None, Some, Ok, Err, inr, refl}
use Rattle.std.specs.Prelude.{◌↔◌, IsTrue}
use Rattle.cv_folder.specs.FolderVaultInner.{LooksForOther}
use Rattle.cv_system.specs.Calls.{Log}
use Rattle.cv_system.specs.Looks.{IsSame, Looks}
use Rattle.cv_system.specs.declared.seen.Seen.{Seen}

-- a look saw a file there
pub other_seen : (seen other : Seen) (same : Bool) (path : List ℕ) (before after : Log) → IsTrue same ↔ IsSame seen other → 1 < seen.links
    → Looks path (Ok (Some other)) before after → LooksForOther seen path (Ok same) before after
other_seen seen other true path before after tells more is = (more, other, tells.0 refl, is)
other_seen seen other false path before after tells more is = inr (more, Ok other, λ same. let never : IsTrue false = tells.1 same in absurd (cc), is)

-- or nothing
pub other_none : (seen : Seen) (path : List ℕ) (before after : Log) → 1 < seen.links → Looks path (Ok None) before after → LooksForOther seen path (Ok false) before after
other_none seen path before after more (cause, nothing, is) = inr (more, Err cause, nothing, is)
