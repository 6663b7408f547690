-- What files that stand for what is kept are opened with.
use Rattle.std.proofs.Common.{◌≡◌, ℕ, Bool, List, sym, ap, subst, ◌∙◌, arith}
use Rattle.std.proofs.lemmas.Option.{same_Some}
use Rattle.cv_vault.specs.Disk.{Files}
use Rattle.cv_ports.specs.Shelf.{Shelf}
use Rattle.cv_history.specs.Chain.{Chain, StandsAt}
use Rattle.cv_history.proofs.Lemmas.{one_chain}
use Rattle.cv_manifest.specs.Manifest.{Says}
use Rattle.cv_manifest.specs.declared.head.Head.{Head}
use Rattle.cv_manifest.specs.declared.manifest.Manifest.{Manifest}
use Rattle.cv_manifest.proofs.Lemmas.{one_reading}
use Rattle.cv_objects.specs.Names.{objects_of}
use Rattle.cv_swap.specs.Kept.{Kept, records_of}
use Rattle.cv_swap.specs.Stands.{Stands, Publishes, head_name, head_of, history_id}
use Rattle.cv_swap.specs.Opening.{IsFound, IsOf}
use Rattle.cv_swap.specs.declared.found.Found.{Found}
use Rattle.cv_swap.proofs.Names.{same_epoch}
use Rattle.cv_swap.proofs.Chains.{line_chain, record_id}

-- a file publishes one head
pub one_head : (name : List ℕ) (is_seal : List ℕ → List ℕ → Bool) (file : _) (a b : Head) → Publishes name is_seal file a → Publishes name is_seal file b → a ≡ b
one_head name is_seal file a b x y =
    let text : x.text ≡ y.text = same_Some _ _ (sym x.present ∙ y.present) in
    let same : x.manifest ≡ y.manifest = one_reading is_seal y.text x.manifest y.manifest (subst (λ t. Says is_seal t x.manifest) text x.says) y.says in
    sym x.is ∙ ap (λ (m : Manifest). m.head) same ∙ y.is

pub found_of : (name : List ℕ) (is_seal : List ℕ → List ℕ → Bool) (f : Files) (k : Kept) (found : Found) → Stands name is_seal f k → IsFound name is_seal f found → IsOf k found
found_of name is_seal f k found s is = record {
  newest_ = s.newest_;
  is_newest = s.is_newest;
  head = heads;
  records = one_chain (objects_of f) (head_of s.newest_).revision (history_id (head_of s.newest_)) found.records (records_of k.history) given own;
  epoch = same_epoch found.epoch k.epoch (let r = is.room in omega arith) s.kept.epoch (same_Some _ _ (sym is.epoch ∙ s.epoch));
}
  where
    heads : found.head ≡ head_of s.newest_
    heads = one_head name is_seal (f head_name) found.head (head_of s.newest_) is.history.published s.head

    shelves : k.shelf ≡ objects_of f
    shelves = λ i id. s.shelf id i

    given : Chain (StandsAt (objects_of f)) (head_of s.newest_).revision (history_id (head_of s.newest_)) found.records
    given = subst (λ (h : Head). Chain (StandsAt (objects_of f)) h.revision (history_id h) found.records) heads is.history.chain

    own : Chain (StandsAt (objects_of f)) (head_of s.newest_).revision (history_id (head_of s.newest_)) (records_of k.history)
    own = subst (λ (x : Shelf). Chain (StandsAt x) s.newest_.record_.revision (record_id s.newest_.record_) (records_of k.history)) shelves (line_chain k.shelf k.history s.newest_ s.kept.sound.line s.is_newest)
