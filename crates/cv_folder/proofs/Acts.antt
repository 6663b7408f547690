-- The calls of a vault over a folder, put together.
use Rattle.std.proofs.Common.{◌≡◌, ◌||◌, ◌+◌, ◌∷◌, [], Bool, true, false, List, ℕ, length, Option, Some, None, Result, Ok, Err, Vec, refl, sym, subst, inl, inr, string_bytes}
use Rattle.std.specs.Prelude.{IsTrue, IfErr, OnErr, OnOk}
use Rattle.std.specs.declared.io.Error.{Error}
use Rattle.cv_folder.specs.declared.folder_vault.FolderVault.{FolderVault}
use Rattle.cv_folder.specs.declared.hold.Hold.{Hold}
use Rattle.cv_folder.specs.declared.hold.Hold.TheVariants.{Absent, Held, Refused, Unasked}
use Rattle.cv_system.specs.declared.seen.Seen.{Seen}
use Rattle.cv_system.specs.Calls.{Cause, Log, Removed}
use Rattle.cv_folder.specs.FolderVault.{Acts, AsksAlone, IsUncalled}
use Rattle.cv_folder.specs.FolderVaultInner.{FindsNamed, MovesOn}
use Rattle.cv_folder.specs.Hold.{Asked, AskedAt, Asks, AsksInVain, IsHeld, IsRoot, is_unasked}
use Rattle.cv_base.specs.Path.{with_slash}
use Rattle.cv_system.specs.Names.{is_name, path_of}
use Rattle.cv_folder.specs.Listed.{ListsNamed}
use Rattle.cv_system.specs.Looks.{FailsToReadFile, Finds, ReadsFile}
use Rattle.cv_folder.specs.Reads.{HasFile, IsUnserved, LacksFile, LooksInVain, MeasuresNamed, ReadsNamed}
use Rattle.cv_system.specs.Steps.{Tries}
use Rattle.cv_folder.specs.Writes.{IsLeft, MovesNamed, RemovesNamed}

-- what holds holds where a call is made too
pub on_ok : {T E Q : Type 0} (result : Result T E) → Q → OnOk result Q
on_ok (Ok x) so = so
on_ok (Err error) so = tt

-- what an error shows
pub on_err : {T E Q : Type 0} {P : E → Type 0} (result : Result T E) → ((error : E) → P error → Q) → IfErr result P → OnErr result Q
on_err (Ok x) so h = tt
on_err (Err error) so h = so error h

-- a vault that has asked for its folder asks nothing
pub asks_nothing : {F : Type 0} (root : List ℕ) (hold : Hold F) (log : Log) → (hold ≡ Unasked → ⊥) → Asks root hold hold log log
unfolding Asks
asks_nothing root Unasked log not = absurd (not refl)
asks_nothing root (Held file) log not = (refl, refl)
asks_nothing root Absent log not = (refl, refl)
asks_nothing root Refused log not = (refl, refl)

module _ {F : Type 0} (root path : List ℕ) (before between after : Log) (at : path ≡ with_slash root) (same : between ≡ before) where
  -- the folder was asked for at its path
  pub asked_so : (hold : Hold F) → IsRoot root → AskedAt path hold between after → Asked root hold before after
  unfolding Asked
  asked_so hold is_root so = inl (is_root, subst (λ (log : Log). AskedAt (with_slash root) hold log after) same (subst (λ (p : List ℕ). AskedAt p hold between after) at so))

  -- it can't be told what is there
  pub unasked_so : (hold : Hold F) → hold ≡ Unasked → IsRoot root → (cause : Cause) → AsksInVain path cause between after → Asked root hold before after
  unfolding AskedAt
  unasked_so hold is is_root cause so =
      subst (λ (h : Hold F). Asked root h before after) (sym is) (asked_so Unasked is_root (cause, so))

-- a path that may be none of a vault's folder is refused
pub refused_so : (F : Type 0) (root : List ℕ) (before after : Log) → (IsRoot root → ⊥) → after ≡ before → Asked {F = F} root Refused before after
unfolding Asked
refused_so F root before after never same = inr (never, refl, same)

-- where it was asked for before, as much is unsettled as before
pub unsettled_still : {F : Type 0} (hold : Hold F) (is_unsettled : Bool) → (hold ≡ Unasked → ⊥) → is_unsettled ≡ (is_unsettled || is_unasked hold)
unsettled_still Unasked is_unsettled not = absurd (not refl)
unsettled_still (Held file) true not = refl
unsettled_still (Held file) false not = refl
unsettled_still Absent true not = refl
unsettled_still Absent false not = refl
unsettled_still Refused true not = refl
unsettled_still Refused false not = refl

-- it is asked for now
pub asks_now : {F : Type 0} (root : List ℕ) (was hold : Hold F) (before after : Log) → was ≡ Unasked → Asked root hold before after → Asks root was hold before after
unfolding Asks
asks_now root was hold before after is asked = subst (λ (h : Hold _). Asks root h hold before after) (sym is) asked

module _ {S F N : Type 0} (log : S → Log) (before between after : FolderVault S F N) where
  -- no call comes behind it
  pub asks_still : AsksAlone log before between → after.hold ≡ between.hold → IsUncalled log between after → AsksAlone log before after
  unfolding AsksAlone
  asks_still asks same uncalled =
      subst (λ (h : Hold F). Asks (string_bytes before.root) before.hold h (log before.system) (log after.system)) (sym same)
      (subst (λ (l : Log). Asks (string_bytes before.root) before.hold between.hold (log before.system) l) (sym uncalled) asks)

  -- the vault acts once it has asked
  pub acts_so : (Act : Log → Log → Type 0) → AsksAlone log before between → after.hold ≡ between.hold → Act (log between.system) (log after.system) → Acts log Act before after
  unfolding AsksAlone Acts
  acts_so Act asks same so =
      (log between.system, subst (λ (h : Hold F). Asks (string_bytes before.root) before.hold h (log before.system) (log between.system)) (sym same) asks, so)

  -- it acts on
  pub acts_on : (Act Other : Log → Log → Type 0) → Acts log Act before between → after.hold ≡ between.hold
      → ((asked : Log) → Act asked (log between.system) → Other asked (log after.system)) → Acts log Other before after
  unfolding Acts
  acts_on Act Other (asked, asks, act) same on =
      (asked, subst (λ (h : Hold F). Asks (string_bytes before.root) before.hold h (log before.system) asked) (sym same) asks, on asked act)

module _ {F : Type 0} (root name : List ℕ) (hold : Hold F) (before : Log) where
  finds_so : (result : Result (Option Seen) Error) (after : Log) → IsHeld hold → IsTrue (is_name name)
      → Finds (length root + 1) (path_of root name) result before after → FindsNamed root name hold result before after
  unfolding FindsNamed HasFile LacksFile LooksInVain
  finds_so (Ok (Some seen)) after held named h = (held, named, h)
  finds_so (Ok None) after held named h = inr (held, named, h)
  finds_so (Err error) after held named h = inr (held, named, h)

  -- a file is looked for at a name's path
  pub finds_named : (from : ℕ) (path : List ℕ) (result : Result (Option Seen) Error) (after : Log) → IsHeld hold → IsTrue (is_name name)
      → from ≡ length root + 1 → path ≡ path_of root name → Finds from path result before after → FindsNamed root name hold result before after
  finds_named from path result after held named at is so =
      finds_so result after held named
      (subst (λ (p : List ℕ). Finds (length root + 1) p result before after) is (subst (λ (n : ℕ). Finds n path result before after) at so))

  -- none is looked for where no folder is
  pub finds_none : (E : Type 0) (after : Log) → hold ≡ Absent → after ≡ before → FindsNamed {F = F} {E = E} root name hold (Ok None) before after
  unfolding FindsNamed LacksFile
  finds_none E after absent same = inl (absent, same)

  -- nor where a call ends before
  pub finds_no_more : (after : Log) {E : Type 0} (error : E) → IsUnserved root name hold → after ≡ before → FindsNamed root name hold (Err error) before after
  unfolding FindsNamed LooksInVain
  finds_no_more after error unserved same = inl (unserved, same)

  module _ (seen : Seen) (found : Log) (has : FindsNamed {F = F} {E = Error} root name hold (Ok (Some seen)) before found) where
    -- a file that was found is read
    pub reads_named : (after : Log) (bytes : List ℕ) → ReadsFile (path_of root name) seen bytes found after → ReadsNamed {F = F} {E = Error} root name hold (Ok (Some bytes)) before after
    unfolding FindsNamed ReadsNamed
    reads_named after bytes reads = (seen, found, has, reads)

    -- or it isn't
    pub reads_in_vain : (after : Log) (error : Error) (cause : Cause) → FailsToReadFile (path_of root name) seen cause found after → ReadsNamed root name hold (Err error) before after
    unfolding FindsNamed ReadsNamed
    reads_in_vain after error cause reads = inr (seen, found, has, cause, reads)

    -- it tells its length
    pub measures_named : MeasuresNamed {F = F} {E = Error} root name hold (Ok (Some seen.length)) before found
    unfolding FindsNamed MeasuresNamed
    measures_named = (seen, has, refl)

    -- it is removed
    pub removes_named : (noted : List ℕ → Bool) (is_unsettled : Bool) (after : Log) → IsLeft (path_of root name) noted is_unsettled → Tries (Removed (path_of root name) ∷ []) true found after → RemovesNamed {F = F} {E = Error} root name hold noted is_unsettled (Ok true) before after
    unfolding FindsNamed RemovesNamed
    removes_named noted is_unsettled after left tried = (seen, found, has, left, tried)

    pub removes_in_vain : (noted : List ℕ → Bool) (is_unsettled : Bool) (after : Log) (error : Error) → IsLeft (path_of root name) noted is_unsettled → Tries (Removed (path_of root name) ∷ []) false found after → RemovesNamed root name hold noted is_unsettled (Err error) before after
    unfolding FindsNamed RemovesNamed
    removes_in_vain noted is_unsettled after error left tried = inr (seen, found, has, left, tried)

    -- it is moved, once folders are made on the way to its other name
    module _ (to home path : List ℕ) (noted : List ℕ → Bool) (in_root : home ≡ root) (at : path ≡ path_of root name) where
      moved_on : (done : Bool) (after : Log) → MovesOn home path to seen noted done found after → MovesOn root (path_of root name) to seen noted done found after
      moved_on done after moves =
          subst (λ (h : List ℕ). MovesOn h (path_of root name) to seen noted done found after) in_root (subst (λ (p : List ℕ). MovesOn home p to seen noted done found after) at moves)

      named_so : (after : Log) → MovesOn root (path_of root name) to seen noted true found after → MovesNamed {F = F} {E = Error} root name to hold noted (Ok true) before after
      unfolding FindsNamed MovesNamed MovesOn
      named_so after (inl (never, same)) = absurd (cc)
      named_so after (inr (ready, prepared, inl (never, ends, same))) = absurd (cc)
      named_so after (inr (ready, prepared, inr (leads, left, moved))) = (seen, found, ready, has, prepared, leads, left, moved)

      pub moves_named : (after : Log) → MovesOn home path to seen noted true found after → MovesNamed {F = F} {E = Error} root name to hold noted (Ok true) before after
      moves_named after moves = named_so after (moved_on true after moves)

      in_vain_so : (after : Log) (error : Error) → MovesOn root (path_of root name) to seen noted false found after → MovesNamed root name to hold noted (Err error) before after
      unfolding FindsNamed MovesNamed MovesOn
      in_vain_so after error (inl (never, same)) = inr (seen, found, has, inl same)
      in_vain_so after error (inr (ready, prepared, inl (never, ends, same))) = inr (seen, found, has, inr (ready, prepared, inl (ends, same)))
      in_vain_so after error (inr (ready, prepared, inr moved)) = inr (seen, found, has, inr (ready, prepared, inr moved))

      pub moves_in_vain : (after : Log) (error : Error) → MovesOn home path to seen noted false found after → MovesNamed root name to hold noted (Err error) before after
      moves_in_vain after error moves = in_vain_so after error (moved_on false after moves)

  -- no file is there, or the look for it failed
  module _ (after : Log) where
    pub reads_none : FindsNamed {F = F} {E = Error} root name hold (Ok None) before after → ReadsNamed {F = F} {E = Error} root name hold (Ok None) before after
    unfolding FindsNamed ReadsNamed
    reads_none h = h

    pub reads_lost : (error other : Error) → FindsNamed root name hold (Err error) before after → ReadsNamed root name hold (Err other) before after
    unfolding FindsNamed ReadsNamed
    reads_lost error other h = inl h

    pub measures_none : FindsNamed {F = F} {E = Error} root name hold (Ok None) before after → MeasuresNamed {F = F} {E = Error} root name hold (Ok None) before after
    unfolding FindsNamed MeasuresNamed
    measures_none h = h

    pub measures_lost : (error other : Error) → FindsNamed root name hold (Err error) before after → MeasuresNamed root name hold (Err other) before after
    unfolding FindsNamed MeasuresNamed
    measures_lost error other h = h

    pub removes_none : (noted : List ℕ → Bool) (is_unsettled : Bool) → FindsNamed {F = F} {E = Error} root name hold (Ok None) before after → RemovesNamed {F = F} {E = Error} root name hold noted is_unsettled (Ok false) before after
    unfolding FindsNamed RemovesNamed
    removes_none noted is_unsettled h = h

    pub removes_lost : (noted : List ℕ → Bool) (is_unsettled : Bool) (error other : Error) → FindsNamed root name hold (Err error) before after → RemovesNamed root name hold noted is_unsettled (Err other) before after
    unfolding FindsNamed RemovesNamed
    removes_lost noted is_unsettled error other h = inl h

    pub moves_none : (to : List ℕ) (noted : List ℕ → Bool) → FindsNamed {F = F} {E = Error} root name hold (Ok None) before after → MovesNamed {F = F} {E = Error} root name to hold noted (Ok false) before after
    unfolding FindsNamed MovesNamed
    moves_none to noted h = h

    pub moves_lost : (to : List ℕ) (noted : List ℕ → Bool) (error other : Error) → FindsNamed root name hold (Err error) before after → MovesNamed root name to hold noted (Err other) before after
    unfolding FindsNamed MovesNamed
    moves_lost to noted error other h = inl h

-- the public calls answer by a fault of their own
module _ {S F N E D : Type 0} (log : S → Log) (before between after : FolderVault S F N) (same : after.hold ≡ between.hold) (uncalled : IsUncalled log between after) (error : E) (fault : D) where
  as_called : (Act : Hold F → Log → Log → Type 0) → Acts log (Act between.hold) before between → Acts log (Act after.hold) before after
  unfolding Acts
  as_called Act (asked, asks, act) = (
    asked,
    subst (λ (h : Hold F). Asks (string_bytes before.root) before.hold h (log before.system) asked) (sym same) asks,
    subst (λ (h : Hold F). Act h asked (log after.system)) (sym same) (subst (λ (l : Log). Act between.hold asked l) (sym uncalled) act),
  )

  module _ (root name : List ℕ) where
    pub reads_fault : Acts log (ReadsNamed root name between.hold (Err error)) before between → Acts log (ReadsNamed root name after.hold (Err fault)) before after
    unfolding ReadsNamed
    reads_fault acts = as_called (λ hold. ReadsNamed root name hold (Err fault)) acts

    pub measures_fault : Acts log (MeasuresNamed root name between.hold (Err error)) before between → Acts log (MeasuresNamed root name after.hold (Err fault)) before after
    unfolding MeasuresNamed
    measures_fault acts = as_called (λ hold. MeasuresNamed root name hold (Err fault)) acts

    -- more may be unsettled by then
    removed_by_then : (noted : List ℕ → Bool) (is_unsettled by_then : Bool) → (IsTrue is_unsettled → IsTrue by_then) → (asked so : Log)
        → RemovesNamed root name between.hold noted is_unsettled (Err error) asked so → RemovesNamed root name between.hold noted by_then (Err fault) asked so
    unfolding RemovesNamed
    removed_by_then noted is_unsettled by_then still asked so (inl vain) = inl vain
    removed_by_then noted is_unsettled by_then still asked so (inr (seen, found, has, inl above, tried)) = inr (seen, found, has, inl above, tried)
    removed_by_then noted is_unsettled by_then still asked so (inr (seen, found, has, inr all, tried)) = inr (seen, found, has, inr (still all), tried)

    pub removes_fault : (noted : List ℕ → Bool) (is_unsettled by_then : Bool) → (IsTrue is_unsettled → IsTrue by_then)
        → Acts log (RemovesNamed root name between.hold noted is_unsettled (Err error)) before between → Acts log (RemovesNamed root name after.hold noted by_then (Err fault)) before after
    removes_fault noted is_unsettled by_then still acts =
        as_called (λ hold. RemovesNamed root name hold noted by_then (Err fault)) (acts_on log before between between _ _ acts refl (λ asked. removed_by_then noted is_unsettled by_then still asked (log between.system)))

    pub moves_fault : (to : List ℕ) (noted : List ℕ → Bool) → Acts log (MovesNamed root name to between.hold noted (Err error)) before between → Acts log (MovesNamed root name to after.hold noted (Err fault)) before after
    unfolding MovesNamed
    moves_fault to noted acts = as_called (λ hold. MovesNamed root name to hold noted (Err fault)) acts

  pub lists_fault : (Z : Type 0) (root : List ℕ) → Acts log (ListsNamed {Z = Z} root between.hold (Err error)) before between → Acts log (ListsNamed {Z = Z} root after.hold (Err fault)) before after
  unfolding ListsNamed
  lists_fault Z root acts = as_called (λ hold. ListsNamed {Z = Z} root hold (Err fault)) acts

-- what is answered well is the same
module _ {S F N : Type 0} (E D : Type 0) (log : S → Log) (before after : FolderVault S F N) (hold : Hold F) (root name : List ℕ) where
  pub reads_done : (found : Option (List ℕ)) → Acts log (ReadsNamed {E = E} root name hold (Ok found)) before after → Acts log (ReadsNamed {E = D} root name hold (Ok found)) before after
  unfolding ReadsNamed
  reads_done (Some bytes) acts = acts
  reads_done None acts = acts

  pub measures_done : (found : Option ℕ) → Acts log (MeasuresNamed {E = E} root name hold (Ok found)) before after → Acts log (MeasuresNamed {E = D} root name hold (Ok found)) before after
  unfolding MeasuresNamed
  measures_done (Some size) acts = acts
  measures_done None acts = acts

  pub removes_done : (noted : List ℕ → Bool) (is_unsettled found : Bool) → Acts log (RemovesNamed {E = E} root name hold noted is_unsettled (Ok found)) before after → Acts log (RemovesNamed {E = D} root name hold noted is_unsettled (Ok found)) before after
  unfolding RemovesNamed
  removes_done noted is_unsettled true acts = acts
  removes_done noted is_unsettled false acts = acts

  pub moves_done : (to : List ℕ) (noted : List ℕ → Bool) (found : Bool) → Acts log (MovesNamed {E = E} root name to hold noted (Ok found)) before after → Acts log (MovesNamed {E = D} root name to hold noted (Ok found)) before after
  unfolding MovesNamed
  moves_done to noted true acts = acts
  moves_done to noted false acts = acts

-- names that were listed are so
pub lists_done : {S F N Z : Type 0} (E D : Type 0) (log : S → Log) (before after : FolderVault S F N) (hold : Hold F) (root : List ℕ) (names : Vec (List ℕ) Z)
    → Acts log (ListsNamed {E = E} root hold (Ok names)) before after → Acts log (ListsNamed {E = D} root hold (Ok names)) before after
unfolding ListsNamed
lists_done E D log before after hold root names acts = acts
