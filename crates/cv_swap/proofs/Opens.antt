-- Opening, call by call.
use Rattle.std.proofs.Common.{◌≡◌, ◌≢◌, ◌<◌, ◌+◌, ℕ, Bool, List, refl, ap, subst, ◌∙◌}
use Rattle.std.specs.Prelude.{IsErrAnd}
use Rattle.std.specs.declared.option.Option.{Option}
use Rattle.std.specs.declared.option.Option.TheVariants.{Some}
use Rattle.std.specs.declared.result.Result.{Result}
use Rattle.std.specs.declared.result.Result.TheVariants.{Ok, Err}
use Rattle.cv_base.specs.Told.{WhereTold}
use Rattle.cv_base.specs.Token.{last_number}
use Rattle.cv_vault.specs.declared.vault.VaultFault.{VaultFault}
use Rattle.cv_vault.specs.declared.vault.VaultFault.TheVariants as vault
use Rattle.cv_vault.specs.Names.{Name, on_way}
use Rattle.cv_vault.specs.Disk.{Disk, File, Files, ImageOf, Syncs, files_now, synced}
use Rattle.cv_vault.specs.Moments.{Calls, OnlyReads}
use Rattle.cv_vault.specs.Walks.{Gains, Within, Walks, Nothing, ComesTo, BringsNothing}
use Rattle.cv_vault.specs.Replace.{Replaced}
use Rattle.cv_vault.proofs.Laws.{bind, looser, leaves_then, leaves_more, gains_none, gains_then, gains_more, within_then, quiet_walks, ok, err, sync_ok, sync_err}
use Rattle.cv_swap.specs.Faults.{open_fault_of}
use Rattle.cv_swap.specs.Stands.{epoch_name, epoch_text}
use Rattle.cv_swap.specs.Opening.{Finds, IsFound, IsRaised, Refuses, Opens, Opened, OpeningLeaves, WhileOpening, before, after}
use Rattle.cv_swap.specs.declared.found.Found.{Found}
use Rattle.cv_swap.specs.declared.open_fault.OpenFault.{OpenFault}
use Rattle.cv_swap.specs.declared.open_fault.OpenFault.TheVariants.{NoRepository, BadManifest, OtherName, BadHistory, BadEpoch, EpochsSpent, Failed, NoMemory}
use Rattle.cv_swap.proofs.Raising.{as_raised}

pub same_fault : {T : Type 0} (r : Result T OpenFault) (e : OpenFault) → IsErrAnd r (λ x. x ≡ e) → r ≡ Err e
same_fault (Ok x) e h = absurd h
same_fault (Err x) e h = ap Err h

pub vault_fault : {T : Type 0} (r : Result T OpenFault) (x : VaultFault) → IsErrAnd r (λ e. e ≡ open_fault_of x) → r ≡ Err (open_fault_of x)
vault_fault (Ok t) x h = absurd h
vault_fault (Err e) x h = ap Err h

-- a fault of the vault is shown by no file
pub refuses_vault : (name : List ℕ) (is_seal : List ℕ → List ℕ → Bool) (f : Files) (x : VaultFault) → Refuses name is_seal f (open_fault_of x)
refuses_vault name is_seal f vault.Failed = tt
refuses_vault name is_seal f vault.NoMemory = tt

-- where nothing came while all was settled
leaves_before : (d : Disk) (e : OpenFault) (f : Files) → Within on_way Nothing d f → OpeningLeaves d (Err e) f
leaves_before d NoRepository f w = w
leaves_before d (BadManifest fault) f w = w
leaves_before d OtherName f w = w
leaves_before d (BadHistory fault) f w = w
leaves_before d BadEpoch f w = w
leaves_before d EpochsSpent f w = w
leaves_before d Failed f w = before w
leaves_before d NoMemory f w = w

opened_before : (d : Disk) (e : OpenFault) (d' : Disk) → Gains on_way Nothing d d' → d' ≡ synced d → Opened d (Err e) d'
opened_before d NoRepository d' g same = same
opened_before d (BadManifest fault) d' g same = same
opened_before d OtherName d' g same = same
opened_before d (BadHistory fault) d' g same = same
opened_before d BadEpoch d' g same = same
opened_before d EpochsSpent d' g same = same
opened_before d Failed d' g same = gains_more (λ n f b. absurd b) g
opened_before d NoMemory d' g same = gains_none same

-- whatever it answers, the epoch was raised or it wasn't
pub leaves_while : (d : Disk) (r : Result Found OpenFault) (f : Files) → OpeningLeaves d r f → WhileOpening d f
leaves_while d (Ok found) f w = w
leaves_while d (Err NoRepository) f w = before w
leaves_while d (Err (BadManifest fault)) f w = before w
leaves_while d (Err OtherName) f w = before w
leaves_while d (Err (BadHistory fault)) f w = before w
leaves_while d (Err BadEpoch) f w = before w
leaves_while d (Err EpochsSpent) f w = before w
leaves_while d (Err Failed) f w = w
leaves_while d (Err NoMemory) f w = before w

raises : {d : Disk} (epoch : ℕ) → (d epoch_name).now ≡ Some (epoch_text epoch) → epoch < last_number → (n : Name) (f : File) → ComesTo epoch_name (Some (epoch_text (epoch + 1))) n f → IsRaised d n f
raises epoch there room n f c = record { name = c.0; epoch = epoch; room = room; before = there; after = c.1 }

opened_raised : (d d2 : Disk) (epoch : ℕ) (x : VaultFault) (d' : Disk) → (d epoch_name).now ≡ Some (epoch_text epoch) → epoch < last_number → Gains on_way Nothing d d2 → d2 ≡ synced d
    → Gains on_way (ComesTo epoch_name (Some (epoch_text (epoch + 1)))) d2 d' → Replaced d2 epoch_name (epoch_text (epoch + 1)) {X = Unit {0}} (Err x) d' → Opened d (Err (open_fault_of x)) d'
opened_raised d d2 epoch vault.Failed d' there room quiet same g h = gains_then (gains_more (λ n f b. absurd b) quiet) (gains_more (raises epoch there room) g)
opened_raised d d2 epoch vault.NoMemory d' there room quiet same g h = subst (λ (x : Disk). Gains on_way Nothing x d') same h

module _ {V : Type 0} {disk : V → Option Disk} {count : V → ℕ} {left : V → ℕ → Files → Type 0} (name : List ℕ) (is_seal : List ℕ → List ℕ → Bool) {d : Disk} {v v1 : V} where
  -- the first sync failed
  pub opens_not : (x : VaultFault) (r : Result Found OpenFault) → err x ≢ err vault.NoMemory → r ≡ Err (open_fault_of x) → ((f : Files) → left v (count v) f → ImageOf (disk v) f) → disk v ≡ Some d → Calls disk count left (Syncs (err x)) v v1
      → Opens disk count left name is_seal d r v v1
  opens_not x r never is only e c =
      let w : Walks disk count left on_way Nothing (λ d'. d' ≡ d) d v v1 = sync_err x only e c in
      rw is (record { end = w.end; told = w.told; finds = refuses_vault name is_seal (files_now d) x; leaves = leaves_more w.leaves (λ f i. leaves_before d (open_fault_of x) f i); opened = unsettled x never w.end w.gains; unraised = λ none. looser w (λ n f b. b) (λ d' g h. tt) })
    where
      unsettled : (x : VaultFault) → err x ≢ err vault.NoMemory → (d' : Disk) → Gains on_way Nothing d d' → Opened d (Err (open_fault_of x)) d'
      unsettled vault.Failed never d' g = gains_more (λ n f b. absurd b) g
      unsettled vault.NoMemory never d' g = absurd (never refl)

  module _ {v2 : V} (only : (f : Files) → left v (count v) f → ImageOf (disk v) f) (only1 : (f : Files) → left v1 (count v1) f → ImageOf (disk v1) f) (e : disk v ≡ Some d) (c : Calls disk count left (Syncs ok) v v1) (q : OnlyReads disk count left v1 v2) where
    -- all that was read, after the first sync
    pub read : Walks disk count left on_way Nothing (λ d'. d' ≡ synced d) d v v2
    read = bind (sync_ok only e c) (λ n f b. b) (λ d1 told g is. looser (quiet_walks only1 told q) (λ n f b. b) (λ d2 g2 same. same ∙ is))

    found_first : (r : Result Found OpenFault) → WhereTold (disk v1) (λ d1. Finds name is_seal (files_now d1) r) → Finds name is_seal (files_now d) r
    found_first r h = let w : Walks disk count left on_way Nothing (λ d'. d' ≡ synced d) d v v1 = sync_ok only e c in
        subst (λ (x : Disk). Finds name is_seal (files_now x) r) w.is (h w.end w.told)

    -- nothing was found to open
    pub opens_none : (r : Result Found OpenFault) (x : OpenFault) → r ≡ Err x → WhereTold (disk v1) (λ d1. Finds name is_seal (files_now d1) (Err x)) → Opens disk count left name is_seal d r v v2
    opens_none r x is h = rw is (record { end = read.end; told = read.told; finds = found_first (Err x) h; leaves = leaves_more read.leaves (λ f i. leaves_before d x f i); opened = opened_before d x read.end read.gains read.is; unraised = λ none. looser read (λ n f b. b) (λ d' g h. tt) })

    module _ (found : Found) (h : WhereTold (disk v1) (λ d1. Finds name is_seal (files_now d1) (Ok found))) where
      is_found : IsFound name is_seal (files_now d) found
      is_found = found_first (Ok found) h

      module _ {v3 : V} where
        -- the epoch came for sure
        pub opens_now : {u : Unit {0}} → WhereTold (disk v2) (λ d2. Walks disk count left on_way (ComesTo epoch_name (Some (epoch_text (found.epoch + 1)))) (Replaced d2 epoch_name (epoch_text (found.epoch + 1)) {X = Unit {0}} (Ok u)) d2 v2 v3)
            → Opens disk count left name is_seal d (Ok found) v v3
        opens_now raise =
            let u = raise read.end read.told in
            record {
              end = u.end;
              told = u.told;
              finds = is_found;
              leaves = leaves_then read.leaves u.leaves (λ f i. before i) (λ f i. after (as_raised d read.end found.epoch f read.is is_found.epoch is_found.room i));
              opened = record { sure = u.is; gains = gains_then (gains_more (λ n f b. absurd b) read.gains) u.gains };
              unraised = λ none. absurd (none found is_found);
            }

        -- it may have come or not; where memory was wanted it didn't, and no crash leaves it
        pub opens_or_not : (x : VaultFault) (r : Result Found OpenFault) → r ≡ Err (open_fault_of x)
            → WhereTold (disk v2) (λ d2. Walks disk count left on_way (ComesTo epoch_name (Some (epoch_text (found.epoch + 1)))) (Replaced d2 epoch_name (epoch_text (found.epoch + 1)) {X = Unit {0}} (Err x)) d2 v2 v3)
            → (err x ≡ err vault.NoMemory → BringsNothing disk count left v2 v3) → Opens disk count left name is_seal d r v v3
        opens_or_not vault.Failed r is raise quiet =
            let u = raise read.end read.told in
            rw is (record {
              end = u.end;
              told = u.told;
              finds = tt;
              leaves = leaves_then read.leaves u.leaves (λ f i. before i) (λ f i. after (as_raised d read.end found.epoch f read.is is_found.epoch is_found.room i));
              opened = opened_raised d read.end found.epoch vault.Failed u.end is_found.epoch is_found.room read.gains read.is u.gains u.is;
              unraised = λ none. absurd (none found is_found);
            })
        opens_or_not vault.NoMemory r is raise quiet =
            let u = raise read.end read.told in
            let q = quiet refl read.end read.told in
            rw is (record {
              end = u.end;
              told = u.told;
              finds = tt;
              leaves = leaves_then read.leaves q.leaves (λ f i. i) (λ f i. within_then read.gains f i);
              opened = opened_raised d read.end found.epoch vault.NoMemory u.end is_found.epoch is_found.room read.gains read.is u.gains u.is;
              unraised = λ none. absurd (none found is_found);
            })
