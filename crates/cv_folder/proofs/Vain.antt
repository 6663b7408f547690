-- Syncs that fail.
use Rattle.std.proofs.Common.{◌≡◌, ◌∙◌, ◌||◌, Bool, true, false, List, ℕ, Result, Ok, Err, ap, map, refl, sym, subst, inl, inr, string_bytes}
use Rattle.std.specs.Prelude.{◌⊎◌, IfErr, IsOk, IsTrue, OnErr, is_ok, [], ◌∷◌}
use Rattle.cv_folder.specs.declared.folder_vault.FolderVault.{FolderVault}
use Rattle.cv_folder.specs.declared.hold.Hold.TheVariants.{Refused, Unasked}
use Rattle.cv_folder.specs.FolderVault.{Acts, AsksAlone, IsUncalled, Rests, Stays}
use Rattle.cv_folder.specs.FolderVaultInner.{broken_by}
use Rattle.cv_folder.specs.Hold.{Asks, IsHeld, is_unasked}
use Rattle.cv_folder.specs.Syncs.{SettlesFirst}
use Rattle.cv_folder.specs.Unsynced.{FailsFirst, FailsSync, SyncsInVain, SyncsNotAll, is_lost}
use Rattle.cv_folder.proofs.Acts.{acts_so}
use Rattle.cv_folder.proofs.Filing.{ended_so}
use Rattle.cv_system.specs.Calls.{Ended, Log}
use Rattle.cv_system.specs.Names.{folder_of}
use Rattle.cv_system.specs.Steps.{Tries}
use Rattle.cv_system.specs.Syncs.{EndsBy, FailsToSync, syncs}
use Rattle.cv_system.specs.Walks.{FailsAll}
use Rattle.cv_system.specs.Ways.{SyncsAllWays}
use Rattle.cv_system.specs.declared.syncing.Unsynced.{Unsynced}
use Rattle.cv_system.specs.declared.syncing.Unsynced.TheVariants.{Lost}

module _ (root : List ℕ) (unsynced : Unsynced) where
  -- a file on its way isn't made durable
  pub fails_ways : (is_unsettled : Bool) (before after : Log) → is_unsettled ≡ true → SyncsAllWays root (Err unsynced) before after → FailsFirst root is_unsettled unsynced before after
  unfolding FailsFirst
  fails_ways true before after is fails = inl fails
  fails_ways false before after is fails = absurd (cc)

  module _ (is_unsettled : Bool) (before ways after : Log) (is : is_unsettled ≡ true) (first : SyncsAllWays root (Ok tt) before ways) where
    -- nor is the folder above the root
    pub fails_above : FailsToSync (folder_of root) unsynced ways after → FailsFirst root is_unsettled unsynced before after
    unfolding FailsFirst
    fails_above fails = subst (λ (all : Bool). FailsFirst root all unsynced before after) (sym is) (inr (ways, first, inl fails))

    -- nor is one that the walk comes to
    pub fails_walk : (above : Log) → Tries (syncs (folder_of root ∷ [])) true ways above → FailsAll root unsynced above after → FailsFirst root is_unsettled unsynced before after
    unfolding FailsFirst
    fails_walk above tried fails = subst (λ (all : Bool). FailsFirst root all unsynced before after) (sym is) (inr (ways, first, inr (above, tried, fails)))

  module _ (is_unsettled : Bool) (noted : List (List ℕ)) (before after : Log) where
    -- the syncs that were begun end in vain
    pub not_ended : unsynced ≡ Lost → Tries (Ended ∷ []) false before after → SyncsNotAll root is_unsettled noted unsynced before after
    unfolding SyncsNotAll
    not_ended lost (inl (never, is)) = absurd (cc)
    not_ended lost (inr (cause, never, is)) = inl (lost, cause, is)

    -- all isn't made durable where that fails
    pub not_first : (ended : Log) → Tries (Ended ∷ []) true before ended → FailsFirst root is_unsettled unsynced ended after → SyncsNotAll root is_unsettled noted unsynced before after
    unfolding SyncsNotAll
    not_first ended ends fails = inr (inl (subst (λ (log : Log). FailsFirst root is_unsettled unsynced log after) (ended_so before ended ends) fails))

-- or where a folder that was noted isn't
pub not_noted : {T : Type 0} (root : List ℕ) (is_unsettled : Bool) (noted : List (List ℕ)) (before ended settled after : Log) (result : Result T Unsynced)
    → Tries (Ended ∷ []) true before ended → SettlesFirst root is_unsettled ended settled
    → Tries (syncs noted) (is_ok result) settled after → IfErr result (λ unsynced. EndsBy unsynced after) → IfErr result (λ unsynced. SyncsNotAll root is_unsettled noted unsynced before after)
unfolding SyncsNotAll
not_noted root is_unsettled noted before ended settled after (Ok x) ends first tried ends_by = tt
not_noted root is_unsettled noted before ended settled after (Err unsynced) ends first tried ends_by =
    inr (inr (settled, subst (λ (log : Log). SettlesFirst root is_unsettled log settled) (ended_so before ended ends) first, tried, ends_by))

module _ {S F N : Type 0} (log : S → Log) (before between after : FolderVault S F N) where
  -- a sync does nothing where something was lost before
  pub fails_broken : IsTrue before.broken → Rests log before after → FailsSync log before after
  unfolding FailsSync
  fails_broken broken rests = inl (broken, rests)

  -- it calls nothing where the folder isn't held
  pub fails_unheld : before.broken ≡ false → AsksAlone log before between → (between.hold ≡ Unasked) ⊎ (between.hold ≡ Refused) → between.broken ≡ false → FailsSync log before between
  unfolding FailsSync SyncsInVain
  fails_unheld whole asks never still = inr (whole, acts_so log before between between _ asks refl (inl (never, still, refl)))

  -- and where it is, it ends in vain
  pub fails_held : before.broken ≡ false → AsksAlone log before between → IsHeld between.hold → (all : Bool) → all ≡ (before.is_unsettled || is_unasked before.hold)
      → (unsynced : Unsynced) → after.broken ≡ is_lost unsynced → SyncsNotAll (string_bytes before.root) all (map string_bytes before.folders.items) unsynced (log between.system) (log after.system)
      → after.hold ≡ between.hold → FailsSync log before after
  unfolding FailsSync SyncsInVain
  fails_held whole asks held all settles unsynced is fails same = inr (
    whole,
    acts_so log before between after _ asks same (inr (
      subst IsHeld (sym same) held,
      unsynced,
      is,
      subst (λ (b : Bool). SyncsNotAll (string_bytes before.root) b (map string_bytes before.folders.items) unsynced (log between.system) (log after.system)) settles fails,
    )),
  )

-- a fault that is counted changes nothing of it
pub fails_counted : {S F N : Type 0} (log : S → Log) (before between after : FolderVault S F N) → Stays between after → after.hold ≡ between.hold → IsUncalled log between after
    → FailsSync log before between → FailsSync log before after
unfolding FailsSync Acts
fails_counted log before between after stays same uncalled (inl (broken, rests)) = inl (
  broken,
  (uncalled ∙ rests.0, same ∙ rests.1, (stays.0 ∙ rests.2.0, stays.1 ∙ rests.2.1, λ is. stays.2 (rests.2.2 is), stays.3 ∙ rests.2.3)),
)
fails_counted log before between after stays same uncalled (inr (whole, (asked, asks, act))) = inr (
  whole,
  (
    asked,
    subst (λ h. Asks (string_bytes before.root) before.hold h (log before.system) asked) (sym same) asks,
    subst (λ h. SyncsInVain (string_bytes before.root) before.hold h before.is_unsettled (map string_bytes before.folders.items) after.broken asked (log after.system)) (sym same)
        (subst (λ b. SyncsInVain (string_bytes before.root) before.hold between.hold before.is_unsettled (map string_bytes before.folders.items) b asked (log after.system)) (sym stays.3)
        (subst (λ (l : Log). SyncsInVain (string_bytes before.root) before.hold between.hold before.is_unsettled (map string_bytes before.folders.items) between.broken asked l) (sym uncalled) act)),
  ),
)

-- a sync in vain ends so
pub fails_ended : {S F N T X E : Type 0} (log : S → Log) (before between synced after : FolderVault S F N) (done : Result T Unsynced) (result : Result X E) → before.broken ≡ false
    → AsksAlone log before between → IsHeld between.hold → between.is_unsettled ≡ (before.is_unsettled || is_unasked before.hold)
    → between.root ≡ before.root → between.folders ≡ before.folders
    → IfErr done (λ unsynced. SyncsNotAll (string_bytes between.root) between.is_unsettled (map string_bytes between.folders.items) unsynced (log between.system) (log synced.system))
    → after.hold ≡ between.hold → IsUncalled log synced after → after.broken ≡ broken_by done synced.broken → synced.broken ≡ false → (IsOk done → IsOk result)
    → OnErr result (FailsSync log before after)
fails_ended log before between synced after (Ok x) (Ok y) whole asks held all root folders fails same uncalled is still ok = tt
fails_ended log before between synced after (Ok x) (Err error) whole asks held all root folders fails same uncalled is still ok = absurd (let never = ok refl in cc)
fails_ended log before between synced after (Err unsynced) (Ok y) whole asks held all root folders fails same uncalled is still ok = tt
fails_ended log before between synced after (Err unsynced) (Err error) whole asks held all root folders fails same uncalled is still ok =
    fails_held log before between after whole asks held between.is_unsettled all unsynced (is ∙ ap (λ (broken : Bool). broken || is_lost unsynced) still)
    (subst (λ r. SyncsNotAll (string_bytes r) between.is_unsettled (map string_bytes before.folders.items) unsynced (log between.system) (log after.system)) root
    (subst (λ f. SyncsNotAll (string_bytes between.root) between.is_unsettled (map string_bytes f.items) unsynced (log between.system) (log after.system)) folders
    (subst (λ (l : Log). SyncsNotAll (string_bytes between.root) between.is_unsettled (map string_bytes between.folders.items) unsynced (log between.system) l) (sym uncalled) fails)))
    same
