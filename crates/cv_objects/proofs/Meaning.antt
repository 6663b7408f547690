-- What a store means for the objects that stand on a disk.
use Rattle.std.proofs.Common.{◌≡◌, ◌⊎◌, Bool, true, false, List, refl, sym, ap, ◌∙◌, inl, inr}
use Rattle.std.specs.Prelude.{if◌then◌else◌}
use Rattle.std.proofs.lemmas.Option.{same_Some}
use Rattle.std.specs.declared.option.Option.TheVariants.{None}
use Rattle.sha1.specs.Sha1.{sha1}
use Rattle.cv_base.specs.ObjectId.{file_name}
use Rattle.cv_base.specs.declared.id.ObjectId.{ObjectId}
use Rattle.cv_base.specs.declared.object.Object.{Object}
use Rattle.cv_vault.specs.Names.{on_way}
use Rattle.cv_vault.specs.Disk.{Disk, Files}
use Rattle.cv_vault.specs.Walks.{Change, Stays, Comes, Gains, Within}
use Rattle.cv_objects.specs.Names.{is_digest, standing_on}
use Rattle.cv_base.specs.Objects.{AreNamed}
use Rattle.cv_objects.specs.Batches.{AreHashed, HaveHashes, Brings, IsGained}
use Rattle.cv_base.proofs.Laws.{one_file_name}
use Rattle.cv_objects.proofs.Naming.{digest_back}
use Rattle.cv_objects.proofs.Batching.{is_digest_of}

pub keep_hashes : (d : Disk) (batch : List Object) (f : Files) → AreNamed batch → AreHashed d → Within on_way (Brings d batch) d f → HaveHashes f
keep_hashes d batch f named hashed w = record {
  each = λ id digest bytes e. elim (w.each (file_name id) refl) [
    | inl m ↦ hashed.each id digest (f (file_name id)) m bytes e
    | inr b ↦
        let is : id ≡ b.object.id = one_file_name id b.object.id digest (is_digest_of batch b.object named b.among) b.one.name in
        ap sha1 (same_Some _ _ (sym e ∙ b.one.file)) ∙ sym (named.each b.object b.among) ∙ ap (λ (x : ObjectId). x.hash) (sym is)
  ];
}

pub adds_batch : (d d' : Disk) (batch : List Object) (id : ObjectId) → AreNamed batch → Gains on_way (Brings d batch) d d' → (standing_on d' id ≡ standing_on d id) ⊎ IsGained batch (standing_on d) id (standing_on d' id)
adds_batch d d' batch id named g = by (is_digest id.hash) refl
  where
    at : (x : Disk) (b : Bool) → is_digest id.hash ≡ b → standing_on x id ≡ (if b then (x (file_name id)).now else None)
    at x b e = ap (λ b. if b then (x (file_name id)).now else None) e

    changed : is_digest id.hash ≡ true → Change (Brings d batch (file_name id)) (d (file_name id)) (d' (file_name id)) → (standing_on d' id ≡ standing_on d id) ⊎ IsGained batch (standing_on d) id (standing_on d' id)
    changed e (Stays s l) = inl (at d' true e ∙ s ∙ sym (at d true e))
    changed e (Comes b l) = inr (record {
      object = b.object;
      among = b.among;
      is = one_file_name id b.object.id (digest_back id.hash e) (is_digest_of batch b.object named b.among) b.one.name;
      file = at d' true e ∙ b.one.file;
      absent = at d true e ∙ b.one.absent;
    })

    by : (b : Bool) → is_digest id.hash ≡ b → (standing_on d' id ≡ standing_on d id) ⊎ IsGained batch (standing_on d) id (standing_on d' id)
    by true e = changed e (g.each (file_name id) refl)
    by false e = inl (at d' false e ∙ sym (at d false e))
