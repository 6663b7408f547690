-- A write and a sync of a vault over a folder, put together.
use Rattle.std.proofs.Common.{◌||◌, ◌≡◌, ◌+◌, ◌∷◌, [], Bool, true, false, List, ℕ, length, map, Result, Ok, Err, refl, sym, subst, inl, inr, string_bytes, arith}
use Rattle.std.specs.Prelude.{◌⊎◌, IsOk, IsTrue, OnOk, is_ok}
use Rattle.cv_folder.specs.declared.folder_vault.FolderVault.{FolderVault}
use Rattle.cv_folder.specs.declared.hold.Hold.{Hold}
use Rattle.cv_folder.specs.declared.hold.Hold.TheVariants.{Absent}
use Rattle.cv_system.specs.Calls.{Done, Ended, Log, and_call}
use Rattle.cv_system.specs.declared.seen.Seen.{Seen}
use Rattle.cv_folder.specs.FolderVault.{Acts, AsksAlone, HoldsFirst, IsUncalled}
use Rattle.cv_folder.specs.FolderVaultInner.{MovesOn}
use Rattle.cv_folder.specs.Hold.{Begins, IsHeld, MakesRoot, is_unasked}
use Rattle.cv_system.specs.Names.{folder_of, is_name, path_of}
use Rattle.cv_system.specs.Steps.{Tries}
use Rattle.cv_system.specs.Syncs.{syncs}
use Rattle.cv_system.specs.Walks.{SettlesAll}
use Rattle.cv_system.specs.Ways.{SyncsAllWays}
use Rattle.cv_folder.specs.Syncs.{SettlesFirst, SyncsAll, SyncsHeld}
use Rattle.cv_system.specs.Looks.{folders_past}
use Rattle.cv_folder.specs.Writes.{EndsOnWay, Leads, LeadsTo, MovesFile, Prepares, Puts, WritesFile, made_at}
use Rattle.cv_folder.proofs.Acts.{acts_so}
use Rattle.cv_folder.proofs.Preparing.{prepares_wider}

-- a write begins as the folder is asked for
pub begins_asked : {S F N : Type 0} (log : S → Log) (before after : FolderVault S F N) (noted : List ℕ → Bool) → AsksAlone log before after → HoldsFirst before after
    → Begins (string_bytes before.root) before.hold after.hold after.is_unsettled noted (log before.system) (log after.system)
unfolding AsksAlone Begins
begins_asked log before after noted asks first = (after.hold, log after.system, asks, first.1, inl (refl, refl))

-- where it is absent it is made
pub begins_made : {S F N : Type 0} (log : S → Log) (before between after : FolderVault S F N) (noted : List ℕ → Bool) → AsksAlone log before between → HoldsFirst before between → between.hold ≡ Absent
    → (IsTrue between.is_unsettled → IsTrue after.is_unsettled) → (root : List ℕ) → root ≡ string_bytes before.root → MakesRoot root after.hold (log between.system) (log after.system)
    → ((after.hold ≡ Absent) × (log after.system ≡ log between.system)) ⊎ IsTrue (noted (folder_of root))
    → Begins (string_bytes before.root) before.hold after.hold after.is_unsettled noted (log before.system) (log after.system)
unfolding AsksAlone Begins
begins_made log before between after noted asks first absent kept root same makes above = (
  between.hold,
  log between.system,
  asks,
  λ was held. kept (first.1 was held),
  inr (
    absent,
    subst (λ (r : List ℕ). MakesRoot r after.hold (log between.system) (log after.system)) same makes,
    subst (λ (r : List ℕ). ((after.hold ≡ Absent) × (log after.system ≡ log between.system)) ⊎ IsTrue (noted (folder_of r))) same above,
  ),
)

-- it has begun also where more is unsettled by then, and more is noted
pub begins_on : {F : Type 0} (root : List ℕ) (was hold : Hold F) (is_unsettled by_then : Bool) (noted more : List ℕ → Bool) (before after : Log)
    → (IsTrue is_unsettled → IsTrue by_then) → ((folder : List ℕ) → IsTrue (noted folder) → IsTrue (more folder))
    → Begins root was hold is_unsettled noted before after → Begins root was hold by_then more before after
unfolding Begins
begins_on root was hold is_unsettled by_then noted more before after still kept (found, asked, asks, first, inl no_more) = (found, asked, asks, λ is held. still (first is held), inl no_more)
begins_on root was hold is_unsettled by_then noted more before after still kept (found, asked, asks, first, inr (absent, makes, inl none)) =
    (found, asked, asks, λ is held. still (first is held), inr (absent, makes, inl none))
begins_on root was hold is_unsettled by_then noted more before after still kept (found, asked, asks, first, inr (absent, makes, inr above)) =
    (found, asked, asks, λ is held. still (first is held), inr (absent, makes, inr (kept (folder_of root) above)))

-- what is said of a way, by the place that it begins at, its path and the log before it, is said at the same ones
way_so : (So : ℕ → List ℕ → Log → Type 0) (from size : ℕ) (path at : List ℕ) (set before : Log) → from ≡ size → path ≡ at → set ≡ before → So from path set → So size at before
way_so So from size path at set before same_place same_path same_log so =
    subst (λ (log : Log). So size at log) same_log (subst (λ (p : List ℕ). So size p set) same_path (subst (λ (n : ℕ). So n path set) same_place so))

module _ {F : Type 0} (root name bytes : List ℕ) (was hold : Hold F) (is_unsettled : Bool) (noted : List ℕ → Bool) (before begun : Log) (begins : Begins root was hold is_unsettled noted before begun) where
  -- a write ends as it has begun
  pub writes_no_more : (after : Log) → after ≡ begun → WritesFile root name bytes was hold is_unsettled noted false before after
  unfolding WritesFile
  writes_no_more after same = (begun, begins, inl (refl, same))

  module _ (held : IsHeld hold) (named : IsTrue (is_name name)) (path : List ℕ) (from : ℕ) (at : path ≡ path_of root name) (size : from ≡ length root + 1)
      (set ready : Log) (same : set ≡ begun) (prepares : Prepares from path noted set ready) where
    prepared : Prepares (length root + 1) (path_of root name) noted begun ready
    prepared =
        subst (λ (log : Log). Prepares (length root + 1) (path_of root name) noted log ready) same
        (subst (λ (p : List ℕ). Prepares (length root + 1) p noted set ready) at (subst (λ (n : ℕ). Prepares n path noted set ready) size prepares))

    led : Leads (folders_past from path) set ready → Leads (folders_past (length root + 1) (path_of root name)) begun ready
    led leads =
        subst (λ (log : Log). Leads (folders_past (length root + 1) (path_of root name)) log ready) same
        (subst (λ (p : List ℕ). Leads (folders_past (length root + 1) p) set ready) at (subst (λ (n : ℕ). Leads (folders_past n path) set ready) size leads))

    -- a folder on the way couldn't be made
    pub writes_on_way : EndsOnWay from path set ready → WritesFile root name bytes was hold is_unsettled noted false before ready
    unfolding WritesFile
    writes_on_way ends = (begun, begins, inr (held, named, ready, prepared, inr (refl, way_so (λ n p log. EndsOnWay n p log ready) _ _ _ _ _ _ size at same ends, refl)))

    -- the file is put, or that fails
    pub writes_so : (done : Bool) (place : List ℕ) (after : Log) → place ≡ made_at root name → LeadsTo from path noted set ready → Puts name place path bytes done ready after
        → WritesFile root name bytes was hold is_unsettled noted done before after
    unfolding WritesFile
    writes_so done place after made (leads, above) puts = (
      begun,
      begins,
      inr (
        held,
        named,
        ready,
        prepared,
        inl (
          (led leads, subst (λ (p : List ℕ). IsTrue (noted (folder_of p))) at above),
          subst (λ (n : List ℕ). Puts name n (path_of root name) bytes done ready after) made (subst (λ (p : List ℕ). Puts name place p bytes done ready after) at puts),
        ),
      ),
    )

-- a write is what it was where more is unsettled by then, and more is noted
pub writes_by_then : {F : Type 0} (root name bytes : List ℕ) (was hold : Hold F) (is_unsettled by_then : Bool) (noted more : List ℕ → Bool) (done : Bool) (before after : Log)
    → (IsTrue is_unsettled → IsTrue by_then) → ((folder : List ℕ) → IsTrue (noted folder) → IsTrue (more folder))
    → WritesFile root name bytes was hold is_unsettled noted done before after → WritesFile root name bytes was hold by_then more done before after
unfolding WritesFile
writes_by_then root name bytes was hold is_unsettled by_then noted more done before after still kept (begun, begins, inl no_more) =
    (begun, begins_on root was hold is_unsettled by_then noted more before begun still kept begins, inl no_more)
writes_by_then root name bytes was hold is_unsettled by_then noted more done before after still kept (begun, begins, inr (held, named, ready, prepares, rest)) = (
  begun,
  begins_on root was hold is_unsettled by_then noted more before begun still kept begins,
  inr (
    held,
    named,
    ready,
    prepares_wider (path_of root name) (length root + 1) (length root + 1) noted more (omega arith) kept begun ready prepares,
    elim rest [
      | inl put ↦ inl ((put.0.0, kept (folder_of (path_of root name)) put.0.1), put.1)
      | inr stopped ↦ inr stopped
    ],
  ),
)

-- nothing is settled first
pub settles_nothing : (root : List ℕ) (is_unsettled : Bool) (before after : Log) → is_unsettled ≡ false → after ≡ before → SettlesFirst root is_unsettled before after
unfolding SettlesFirst
settles_nothing root true before after never same = absurd (cc)
settles_nothing root false before after never same = same

-- all is
pub settles_all : (root : List ℕ) (is_unsettled : Bool) (before ways above after : Log) → is_unsettled ≡ true → SyncsAllWays root (Ok tt) before ways
    → Tries (syncs (folder_of root ∷ [])) true ways above → SettlesAll root above after → SettlesFirst root is_unsettled before after
unfolding SettlesFirst
settles_all root true before ways above after is first tried settles = (ways, above, first, tried, settles)
settles_all root false before ways above after is first tried settles = absurd (cc)

-- the syncs that were begun are ended
pub ended_so : (before ended : Log) → Tries (Ended ∷ []) true before ended → ended ≡ and_call (Ended Done) before
ended_so before ended (inl (all, is)) = is
ended_so before ended (inr (cause, never, is)) = absurd (cc)

-- and then each folder that was noted
pub syncs_all : {E : Type 0} (root : List ℕ) (is_unsettled : Bool) (noted : List (List ℕ)) (before ended settled after : Log) (result : Result (Unit {0}) E)
    → Tries (Ended ∷ []) true before ended → SettlesFirst root is_unsettled ended settled → Tries (syncs noted) (is_ok result) settled after → OnOk result (SyncsAll root is_unsettled noted before after)
unfolding SyncsAll
syncs_all root is_unsettled noted before ended settled after (Ok x) ends first tried =
    (settled, subst (λ (log : Log). SettlesFirst root is_unsettled log settled) (ended_so before ended ends) first, tried)
syncs_all root is_unsettled noted before ended settled after (Err error) ends first tried = tt

module _ {F : Type 0} (root : List ℕ) (was hold : Hold F) (is_unsettled : Bool) (noted : List (List ℕ)) (before after : Log) where
  -- without a folder nothing is synced
  pub syncs_nothing : hold ≡ Absent → after ≡ before → SyncsHeld root was hold is_unsettled noted before after
  unfolding SyncsHeld
  syncs_nothing absent same = inl (absent, same)

  pub syncs_held : IsHeld hold → (all : Bool) → all ≡ (is_unsettled || is_unasked was) → SyncsAll root all noted before after → SyncsHeld root was hold is_unsettled noted before after
  unfolding SyncsHeld
  syncs_held held all is syncs = inr (held, subst (λ (b : Bool). SyncsAll root b noted before after) is syncs)

synced_so : {S F N : Type 0} (log : S → Log) (before between synced after : FolderVault S F N) → between.root ≡ before.root → between.folders ≡ before.folders → IsUncalled log synced after
    → SyncsAll (string_bytes between.root) between.is_unsettled (map string_bytes between.folders.items) (log between.system) (log synced.system)
    → SyncsAll (string_bytes before.root) between.is_unsettled (map string_bytes before.folders.items) (log between.system) (log after.system)
synced_so log before between synced after root folders uncalled syncs =
    subst (λ r. SyncsAll (string_bytes r) between.is_unsettled (map string_bytes before.folders.items) (log between.system) (log after.system)) root
    (subst (λ f. SyncsAll (string_bytes between.root) between.is_unsettled (map string_bytes f.items) (log between.system) (log after.system)) folders
    (subst (λ (l : Log). SyncsAll (string_bytes between.root) between.is_unsettled (map string_bytes between.folders.items) (log between.system) l) (sym uncalled) syncs))

-- a sync that is done has asked for the folder and made all durable
pub sync_done : {S F N T E D : Type 0} (log : S → Log) (before between synced after : FolderVault S F N) (done : Result (Unit {0}) D) (result : Result T E)
    → AsksAlone log before between → IsHeld between.hold → between.is_unsettled ≡ (before.is_unsettled || is_unasked before.hold)
    → between.root ≡ before.root → between.folders ≡ before.folders
    → OnOk done (SyncsAll (string_bytes between.root) between.is_unsettled (map string_bytes between.folders.items) (log between.system) (log synced.system))
    → after.hold ≡ between.hold → IsUncalled log synced after → (IsOk result → IsOk done)
    → OnOk result (Acts log (SyncsHeld (string_bytes before.root) before.hold after.hold before.is_unsettled (map string_bytes before.folders.items)) before after)
sync_done log before between synced after (Err fault) (Ok x) asks held all root folders syncs same uncalled ok = absurd (let never = ok refl in cc)
sync_done log before between synced after done (Err error) asks held all root folders syncs same uncalled ok = tt
sync_done log before between synced after (Ok y) (Ok x) asks held all root folders syncs same uncalled ok =
    acts_so log before between after _ asks same
    (syncs_held _ _ _ _ _ _ _ (subst IsHeld (sym same) held) between.is_unsettled all (synced_so log before between synced after root folders uncalled syncs))

-- a folder isn't both held and absent
pub not_both : {F : Type 0} (hold : Hold F) → IsHeld hold → hold ≡ Absent → ⊥
not_both hold held absent = subst IsHeld absent held

module _ (root to : List ℕ) (seen : Seen) (noted : List ℕ → Bool) (before : Log) where
  -- a move ends before it made a folder
  pub moves_no_more : (path : List ℕ) (after : Log) → after ≡ before → MovesOn root path to seen noted false before after
  unfolding MovesOn
  moves_no_more path after same = inl (refl, same)

  module _ (path target : List ℕ) (from : ℕ) (at : target ≡ path_of root to) (size : from ≡ length root + 1) (set ready : Log) (same : set ≡ before) (prepares : Prepares from target noted set ready) where
    on_way : Prepares (length root + 1) (path_of root to) noted before ready
    on_way =
        subst (λ (log : Log). Prepares (length root + 1) (path_of root to) noted log ready) same
        (subst (λ (p : List ℕ). Prepares (length root + 1) p noted set ready) at (subst (λ (n : ℕ). Prepares n target noted set ready) size prepares))

    -- a folder on the way couldn't be made
    pub moves_on_way : EndsOnWay from target set ready → MovesOn root path to seen noted false before ready
    unfolding MovesOn
    moves_on_way ends = inr (ready, on_way, inl (refl, way_so (λ n p log. EndsOnWay n p log ready) _ _ _ _ _ _ size at same ends, refl))

    led_on : Leads (folders_past from target) set ready → Leads (folders_past (length root + 1) (path_of root to)) before ready
    led_on leads =
        subst (λ (log : Log). Leads (folders_past (length root + 1) (path_of root to)) log ready) same
        (subst (λ (p : List ℕ). Leads (folders_past (length root + 1) p) set ready) at (subst (λ (n : ℕ). Leads (folders_past n target) set ready) size leads))

    -- the file is moved, or that fails
    pub moves_on : (source : List ℕ) (done : Bool) (after : Log) → source ≡ path → LeadsTo from target noted set ready → IsTrue (noted (folder_of path)) → MovesFile source target seen done ready after → MovesOn root path to seen noted done before after
    unfolding MovesOn
    moves_on source done after is (leads, above) left moves =
        inr (ready, on_way, inr ((led_on leads, subst (λ (t : List ℕ). IsTrue (noted (folder_of t))) at above), left, subst (λ (p : List ℕ). MovesFile p (path_of root to) seen done ready after) is (subst (λ (t : List ℕ). MovesFile source t seen done ready after) at moves)))
