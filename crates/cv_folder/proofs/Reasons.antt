-- Why calls of a vault fail.
use Rattle.std.proofs.Common.{◌≡◌, ◌+◌, ◌<◌, ◌≤◌, ◌++◌, ◌∷◌, Bool, true, false, List, ℕ, length, Some, Result, Ok, Err, refl, subst, inl, inr, string_bytes, codes, arith, length-append}
use Rattle.std.specs.Prelude.{◌⊎◌, ◌↔◌, IfErr, IsOk, IsTrue}
use Rattle.std.specs.IoError.{error_kind}
use Rattle.std.specs.declared.io.Error.{Error}
use Rattle.std.specs.declared.io.ErrorKind.TheVariants.{InvalidData, InvalidInput, NotADirectory}
use Rattle.std.proofs.Math.Nat.{lt_of_not-le}
use Rattle.cv_system.specs.declared.seen.Seen.{Seen}
use Rattle.cv_system.specs.declared.seen.Kind.TheVariants.{Folder}
use Rattle.cv_system.specs.Calls.{Cause, cause_of, Done, Failed, Log, Looked, Made, Removed, Unmade, and_call}
use Rattle.cv_system.specs.Looks.{FailsToReadFile, OpensOther}
use Rattle.cv_base.specs.Path.{with_slash}
use Rattle.cv_system.specs.Names.{folder_of, is_name, next_of, path_of, stands_at}
use Rattle.cv_system.specs.Steps.{EndsFailed, Grows, Still}
use Rattle.cv_system.proofs.Laws.{fails_now, fails_then, one_call, reading_fails, steps_then}
use Rattle.cv_folder.proofs.Growing.{asks_grow, found_grows, opens_fail}
use Rattle.cv_folder.specs.declared.folder_vault.FolderVault.{FolderVault}
use Rattle.cv_folder.specs.declared.hold.Hold.{Hold}
use Rattle.cv_folder.specs.declared.hold.Hold.TheVariants.{Refused}
use Rattle.cv_folder.specs.Causes.{FailsBy, FailsOnWay, FailsToMove, FailsToRead, FailsToWrite, IsRefused, WantsMemory}
use Rattle.cv_folder.specs.FolderVault.{Acts}
use Rattle.cv_folder.specs.FolderVaultInner.{FailsToMake, FailsToMoveOn, FailsOrRemoves, FindsNamed, MakesHeld}
use Rattle.cv_folder.specs.Reads.{HasFile}
use Rattle.cv_folder.specs.Writes.{made_at}

module _ {S F N : Type 0} (log : S → Log) (before after : FolderVault S F N) where
  found_unread : (root name path : List ℕ) (hold : Hold F) (seen : Seen) (cause : Cause) (end : Log) → path ≡ path_of root name → Acts log (FindsNamed {E = Error} root name hold (Ok (Some seen))) before after
      → EndsFailed cause (log after.system) end ⊎ ((cause.kind ≡ InvalidData) × OpensOther path seen (log after.system) end) → FailsToRead root name hold cause (log before.system) end
  unfolding Acts FailsToRead FindsNamed HasFile
  found_unread root name path hold seen cause end at acts (inl fails) = inl (inr (fails_then (found_grows log before after root name hold seen acts) fails))
  found_unread root name path hold seen cause end at (asked, asks, (held, named, finds)) (inr (is, (opened, other, opens))) = inr (
    is,
    seen,
    asked,
    log after.system,
    asks_grow (string_bytes before.root) before.hold after.hold _ asked asks,
    finds,
    subst (λ (p : List ℕ). OpensOther p seen (log after.system) end) at (opened, other, opens),
  )

  -- a file that was found isn't read
  pub reads_fail : (root name path : List ℕ) (hold : Hold F) (seen : Seen) (cause : Cause) (end : Log) → path ≡ path_of root name
      → Acts log (FindsNamed {E = Error} root name hold (Ok (Some seen))) before after → FailsToReadFile path seen cause (log after.system) end → FailsToRead root name hold cause (log before.system) end
  reads_fail root name path hold seen cause end at acts fails = found_unread root name path hold seen cause end at acts (reading_fails path seen cause (log after.system) end fails)

-- ---- what isn't served

long_so : (size : ℕ) → (size < 4096 → ⊥) → 4096 ≤ size
long_so size not = let past : 4096 < size + 1 = lt_of_not-le (λ fits. not (omega (arith, fits))) in omega (arith, past)

module _ {F : Type 0} (root name : List ℕ) (hold : Hold F) where
  not_served : (named : Bool) → is_name name ≡ named → ((IsTrue (is_name name) × (length (path_of root name) < 4096)) → ⊥) → IsRefused root name hold
  not_served false is not = inr (inl is)
  not_served true is not = inr (inr (long_so (length (path_of root name)) (λ fits. not (is, fits))))

  -- a text whose path isn't set
  pub unset_so : {T E : Type 0} (result : Result T E) → (IsOk result ↔ IsTrue (is_name name) × (length (path_of root name) < 4096)) → (error : E) → result ≡ Err error → IsRefused root name hold
  unset_so (Ok x) ok error is = absurd (cc)
  unset_so (Err fault) ok error is = not_served (is_name name) refl (λ both. let no = ok.1 both in absurd (cc))

-- a path that is too long isn't set
pub long_path : {T E : Type 0} (size : ℕ) (result : Result T E) → (IsOk result ↔ (size < 4096)) → (error : E) → result ≡ Err error → 4096 ≤ size
long_path size (Ok x) ok error is = absurd (cc)
long_path size (Err fault) ok error is = long_so size (λ fits. let no = ok.1 fits in absurd (cc))

pub next_long : (root name path : List ℕ) → path ≡ path_of root name → 4096 ≤ length (folder_of path) + 11 → 4096 ≤ length (next_of root name)
next_long root name path at long =
    subst (λ (p : List ℕ). 4096 ≤ length (folder_of p ++ codes ".cvkit-next")) at (omega (arith, long, length-append (folder_of path) (codes ".cvkit-next")))

-- ---- from one call to those that make it

module _ {F : Type 0} (root name : List ℕ) (hold : Hold F) (cause : Cause) (before after : Log) where
  -- a vault that doesn't have its folder
  pub unheld_so : ((cause.kind ≡ InvalidInput) × (hold ≡ Refused)) ⊎ EndsFailed cause before after → FailsBy root name hold cause before after
  unheld_so (inl (is, refused)) = inl (is, inl refused)
  unheld_so (inr fails) = inr fails

  pub read_so : FailsBy root name hold cause before after → FailsToRead root name hold cause before after
  unfolding FailsToRead
  read_so fails = inl fails

  pub write_so : FailsBy root name hold cause before after → FailsToWrite root name hold cause before after
  unfolding FailsOnWay FailsToWrite
  write_so (inl (is, refused)) = inl (is, inl refused)
  write_so (inr fails) = inr (inl (inl fails))

  pub move_so : (to : List ℕ) → FailsBy root name hold cause before after → FailsToMove root name to hold cause before after
  unfolding FailsOnWay FailsToMove
  move_so to (inl (is, refused)) = inl (is, inr (inl refused))
  move_so to (inr fails) = inr (inl fails)

-- calls were made before a way that isn't
pub way_then : (cause : Cause) (before between after : Log) → Grows before between → FailsOnWay cause between after → FailsOnWay cause before after
unfolding FailsOnWay
way_then cause before between after made (inl fails) = inl (fails_then made fails)
way_then cause before between after made (inr (is, (folder, seen, looked, not, more, look))) = inr (is, (folder, seen, looked, not, steps_then made more, look))

pub way_fails : (cause : Cause) (before after : Log) → EndsFailed cause before after → FailsOnWay cause before after
unfolding FailsOnWay
way_fails cause before after fails = inl fails

-- ---- the vault's folder

-- it couldn't be made, opened or locked
pub make_fails : {F : Type 0} (root path : List ℕ) (hold : Hold F) (error : Error) (before between after : Log) → path ≡ root → between ≡ before
    → MakesHeld {F = F} path (Err error) between after → FailsToMake root hold (cause_of error) before after
unfolding FailsToMake MakesHeld
make_fails root path hold error before between after at same (inl (never, is)) =
    inr (inl (subst (λ (log : Log). EndsFailed (cause_of error) log after) same (fails_now (Made path (Failed (cause_of error))) refl (λ look nothing. look) is)))
make_fails root path hold error before between after at same (inr (gone, tried, fails, is)) = inr (inr (
  tried,
  gone,
  subst (λ (log : Log). EndsFailed (cause_of error) log tried) same (fails_then (one_call (Made path Done) tt refl) (opens_fail (with_slash path) (cause_of error) _ tried fails)),
  subst (λ (p : List ℕ). after ≡ and_call (Unmade p gone) tried) at is,
))

-- its path is too long, or it is refused
pub make_long : {F : Type 0} (root : List ℕ) (hold : Hold F) (cause : Cause) (before after : Log) → cause.kind ≡ InvalidInput → 4096 ≤ length root + 1 → FailsToMake root hold cause before after
unfolding FailsToMake
make_long root hold cause before after is long = inl (is, inr long)

pub make_refused : {F : Type 0} (root : List ℕ) (hold : Hold F) (cause : Cause) (before after : Log) → cause.kind ≡ InvalidInput → hold ≡ Refused → FailsToMake root hold cause before after
unfolding FailsToMake
make_refused root hold cause before after is refused = inl (is, inl refused)

module _ {F : Type 0} (root name : List ℕ) (hold : Hold F) (cause : Cause) (before between after : Log) (made : Grows before between) where
  unmade_then : FailsToMake root hold cause between after → FailsToWrite root name hold cause before after
  unfolding FailsToMake FailsToWrite FailsOnWay
  unmade_then (inl (is, inl refused)) = inl (is, inl (inl refused))
  unmade_then (inl (is, inr long)) = inl (is, inl (inr (inr (omega (arith, long, length-append root (47 ∷ stands_at name))))))
  unmade_then (inr (inl fails)) = inr (inl (inl (fails_then made fails)))
  unmade_then (inr (inr (failed, gone, fails, is))) = inr (inr (failed, gone, fails_then made fails, inr is))

  -- a write fails where it isn't made
  pub write_unmade : (home : List ℕ) → home ≡ root → FailsToMake home hold cause between after → FailsToWrite root name hold cause before after
  write_unmade home at fails = unmade_then (subst (λ (r : List ℕ). FailsToMake r hold cause between after) at fails)

  -- or where the way isn't
  pub write_no_way : FailsOnWay cause between after → FailsToWrite root name hold cause before after
  unfolding FailsToWrite
  write_no_way fails = inr (inl (way_then cause before between after made fails))

  -- or where the file isn't put
  pub write_not_put : (place : List ℕ) → place ≡ made_at root name → FailsOrRemoves place cause between after → FailsToWrite root name hold cause before after
  unfolding FailsToWrite FailsOnWay
  write_not_put place at (inl fails) = inr (inl (inl (fails_then made fails)))
  write_not_put place at (inr (failed, gone, fails, is)) =
      inr (inr (failed, gone, fails_then made fails, inl (subst (λ (n : List ℕ). after ≡ and_call (Removed n gone) failed) at is)))

-- a name isn't served, or the path of the own file is too long
pub write_refused : {F : Type 0} (root name : List ℕ) (hold : Hold F) (cause : Cause) (before after : Log) → cause.kind ≡ InvalidInput → IsRefused root name hold → FailsToWrite root name hold cause before after
unfolding FailsToWrite
write_refused root name hold cause before after is refused = inl (is, inl refused)

pub write_long : {F : Type 0} (root name : List ℕ) (hold : Hold F) (cause : Cause) (before after : Log) → cause.kind ≡ InvalidInput → 4096 ≤ length (next_of root name) → FailsToWrite root name hold cause before after
unfolding FailsToWrite
write_long root name hold cause before after is long = inl (is, inr long)

-- ---- a rename

pub moves_unserved : {F : Type 0} (root to : List ℕ) (hold : Hold F) (cause : Cause) (before after : Log) → cause.kind ≡ InvalidInput → IsRefused root to hold → FailsToMoveOn root to hold cause before after
unfolding FailsToMoveOn
moves_unserved root to hold cause before after is refused = inl (is, refused)

pub moves_no_way : {F : Type 0} (root to : List ℕ) (hold : Hold F) (cause : Cause) (before between after : Log) → Grows before between → FailsOnWay cause between after → FailsToMoveOn root to hold cause before after
unfolding FailsToMoveOn
moves_no_way root to hold cause before between after made fails = inr (way_then cause before between after made fails)

-- one of a name to itself
pub rename_same : {F : Type 0} (root from to : List ℕ) (hold : Hold F) (cause : Cause) (before after : Log) → cause.kind ≡ InvalidInput → from ≡ to → FailsToMove root from to hold cause before after
unfolding FailsToMove
rename_same root from to hold cause before after is same = inl (is, inl same)

-- or to what is no name
pub rename_no_name : {F : Type 0} (root from to : List ℕ) (hold : Hold F) (cause : Cause) (before after : Log) → cause.kind ≡ InvalidInput → is_name to ≡ false → FailsToMove root from to hold cause before after
unfolding FailsToMove
rename_no_name root from to hold cause before after is never = inl (is, inr (inr (inr (inl never))))

moved_so : {F : Type 0} (root from to : List ℕ) (hold : Hold F) (cause : Cause) (before between after : Log) → Grows before between
    → FailsToMoveOn root to hold cause between after → FailsToMove root from to hold cause before after
unfolding FailsToMove FailsToMoveOn
moved_so root from to hold cause before between after made (inl (is, refused)) = inl (is, inr (inr refused))
moved_so root from to hold cause before between after made (inr fails) = inr (way_then cause before between after made fails)

-- what was found isn't moved
pub rename_fails : {F : Type 0} (root home from to : List ℕ) (hold : Hold F) (cause : Cause) (before between after : Log) → home ≡ root → Grows before between
    → FailsToMoveOn home to hold cause between after → FailsToMove root from to hold cause before after
rename_fails root home from to hold cause before between after at made fails =
    moved_so root from to hold cause before between after made (subst (λ (r : List ℕ). FailsToMoveOn r to hold cause between after) at fails)

-- a path that isn't set ends a write
pub set_fails : {F T : Type 0} (root name : List ℕ) (hold : Hold F) (home : List ℕ) (result : Result T Error) (before after : Log) → home ≡ root
    → (IsOk result ↔ IsTrue (is_name name) × (length (path_of home name) < 4096)) → IfErr result (λ error. error_kind error ≡ InvalidInput)
    → IfErr result (λ error. WantsMemory (cause_of error) before after ⊎ FailsToWrite root name hold (cause_of error) before after)
set_fails root name hold home (Ok x) before after at ok cause = tt
set_fails {T} root name hold home (Err error) before after at ok cause =
    inr (write_refused root name hold (cause_of error) before after cause (subst (λ (r : List ℕ). IsRefused r name hold) at (unset_so home name hold {T = T} {E = Error} (Err error) ok error refl)))

-- what a look saw is no folder
pub way_sees : (cause : Cause) (folder : List ℕ) (seen : Seen) (before after : Log) → cause.kind ≡ NotADirectory → (seen.kind ≡ Folder → ⊥) → after ≡ and_call (Looked folder (Ok seen)) before → FailsOnWay cause before after
unfolding FailsOnWay
way_sees cause folder seen before after is not look = inr (is, (folder, seen, before, not, Still, look))
