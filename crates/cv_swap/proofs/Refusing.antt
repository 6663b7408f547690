-- Files that stand for what is kept are refused by the last epoch alone.
use Rattle.std.proofs.Common.{◌≡◌, ℕ, Bool, List, sym, ap, subst, ◌∙◌}
use Rattle.std.proofs.lemmas.Option.{same_Some}
use Rattle.std.specs.declared.option.Option.TheVariants.{None, Some}
use Rattle.cv_vault.specs.Disk.{File, Files}
use Rattle.cv_ports.specs.Shelf.{Shelf}
use Rattle.cv_history.specs.Chain.{Chain, StandsAt, Breaks}
use Rattle.cv_history.proofs.Lemmas.{no_break}
use Rattle.cv_manifest.specs.Manifest.{Says}
use Rattle.cv_manifest.specs.declared.head.Head.{Head}
use Rattle.cv_manifest.specs.declared.manifest.Manifest.{Manifest}
use Rattle.cv_manifest.proofs.Lemmas.{one_reading, no_fault}
use Rattle.cv_objects.specs.Names.{objects_of}
use Rattle.cv_swap.specs.Kept.{Kept, records_of}
use Rattle.cv_swap.specs.Stands.{Stands, Publishes, head_name, head_of, history_id}
use Rattle.cv_swap.specs.Opening.{Refuses, IsNoManifest, IsOthers, MayRefuse}
use Rattle.cv_swap.specs.declared.open_fault.OpenFault.{OpenFault}
use Rattle.cv_swap.specs.declared.open_fault.OpenFault.TheVariants.{NoRepository, BadManifest, OtherName, BadHistory, BadEpoch, EpochsSpent, Failed, NoMemory}
use Rattle.cv_swap.proofs.Chains.{line_chain, record_id}
use Rattle.cv_swap.proofs.Reopened.{one_head}

no_file : {file : File} {text : List ℕ} → file ≡ Some text → file ≡ None → ⊥
no_file e n = cc

-- the bytes that are there
module _ (name : List ℕ) (is_seal : List ℕ → List ℕ → Bool) (file : File) (head : Head) (p : Publishes name is_seal file head) where
  says_at : (text : List ℕ) → file ≡ Some text → Says is_seal text p.manifest
  says_at text e = subst (λ t. Says is_seal t p.manifest) (same_Some _ _ (sym p.present ∙ e)) p.says

  pub is_manifest : (fault : _) → IsNoManifest is_seal file fault → ⊥
  is_manifest fault h = h.said (no_fault is_seal h.text p.manifest (says_at h.text h.present) fault h.shows)

  pub is_own : IsOthers name is_seal file → ⊥
  is_own h = h.other (ap (λ (m : Manifest). m.name) (one_reading is_seal h.text h.manifest p.manifest h.says (says_at h.text h.present)) ∙ p.named)

pub stands_refuses : (name : List ℕ) (is_seal : List ℕ → List ℕ → Bool) (f : Files) (k : Kept) (fault : OpenFault) → Stands name is_seal f k → Refuses name is_seal f fault → MayRefuse fault
stands_refuses name is_seal f k NoRepository s h = no_file s.head.present h
stands_refuses name is_seal f k (BadManifest fault) s h = is_manifest name is_seal (f head_name) (head_of s.newest_) s.head fault h
stands_refuses name is_seal f k OtherName s h = is_own name is_seal (f head_name) (head_of s.newest_) s.head h
stands_refuses name is_seal f k (BadHistory fault) s h =
    let heads : h.head ≡ head_of s.newest_ = one_head name is_seal (f head_name) h.head (head_of s.newest_) h.published s.head in
    let shelves : k.shelf ≡ objects_of f = (λ i id. s.shelf id i) in
    let own = subst (λ (x : Shelf). Chain (StandsAt x) s.newest_.record_.revision (record_id s.newest_.record_) (records_of k.history)) shelves (line_chain k.shelf k.history s.newest_ s.kept.sound.line s.is_newest) in
    no_break (objects_of f) (head_of s.newest_).revision (history_id (head_of s.newest_)) (records_of k.history) fault own
    (subst (λ (x : Head). Breaks (objects_of f) x.revision (history_id x) fault) heads h.breaks)
stands_refuses name is_seal f k BadEpoch s h = h.none k.epoch s.kept.epoch s.epoch
stands_refuses name is_seal f k EpochsSpent s h = tt
stands_refuses name is_seal f k Failed s h = tt
stands_refuses name is_seal f k NoMemory s h = tt
