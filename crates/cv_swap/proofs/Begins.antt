-- What the files stand for while a first revision comes.
use Rattle.std.proofs.Common.{◌≡◌, ◌≢◌, ◌⊎◌, ℕ, Bool, false, List, refl, sym, subst, ◌∙◌, inl, inr, arith}
use Rattle.std.specs.declared.option.Option.TheVariants.{None, Some}
use Rattle.cv_base.specs.ObjectId.{file_name}
use Rattle.cv_base.specs.declared.id.ObjectId.{ObjectId}
use Rattle.cv_base.specs.declared.object.Object.{Object}
use Rattle.cv_vault.specs.Names.{Name, on_way}
use Rattle.cv_vault.specs.Disk.{Disk, File, Files, Image, IsCalm, files_now}
use Rattle.cv_vault.specs.Walks.{Change, Stays, Comes, Gains, Within, ComesTo}
use Rattle.cv_vault.specs.Replace.{IsSure}
use Rattle.cv_vault.proofs.Laws.{may_settled, calm_image}
use Rattle.cv_swap.specs.Kept.{Revision}
use Rattle.cv_swap.specs.Stands.{Stands, CanBegin, first_kept, Publishes, head_name, epoch_name, epoch_text, head_of}
use Rattle.cv_swap.specs.Publishing.{BringsFirst, an_object, the_epoch}
use Rattle.cv_swap.proofs.Names.{head_not_data, epoch_not_head, same_object}

pub not_first : (d : Disk) (batch : List Object) (f : File) → BringsFirst d batch head_name f → ⊥
not_first d batch f (an_object b) = head_not_data b.object.id b.one.name
not_first d batch f (the_epoch c) = epoch_not_head (sym c.0)

-- a crash before the head comes leaves no manifest
pub first_before : (d : Disk) (batch : List Object) (f : Files) → IsCalm d → (d head_name).now ≡ None → Within on_way (BringsFirst d batch) d f → f head_name ≡ None
first_before d batch f calm none w = elim (w.each head_name refl) [ inl m ↦ may_settled d head_name (f head_name) (calm head_name) m ∙ none | inr b ↦ absurd (not_first d batch (f head_name) b) ]

-- and there is none until it comes
pub first_between : (d d1 : Disk) (batch : List Object) → (d head_name).now ≡ None → Gains on_way (BringsFirst d batch) d d1 → (d1 head_name).now ≡ None
first_between d d1 batch none g = by (g.each head_name refl)
  where
    by : Change (BringsFirst d batch head_name) (d head_name) (d1 head_name) → (d1 head_name).now ≡ None
    by (Stays s l) = s ∙ none
    by (Comes b l) = absurd (not_first d batch _ b)

-- a crash while the head comes leaves the other files as they are
pub within_beside : (d : Disk) (file : File) (f : Files) → IsCalm d → Within on_way (ComesTo head_name file) d f → (n : Name) → on_way n ≡ false → head_name ≢ n → f n ≡ (d n).now
within_beside d file f calm w n o apart = elim (w.each n o) [ inl m ↦ may_settled d n (f n) (calm n) m | inr b ↦ absurd (apart (sym b.0)) ]

-- and they are so after it came
pub gains_beside : (d d' : Disk) (file : File) → Gains on_way (ComesTo head_name file) d d' → (n : Name) → on_way n ≡ false → head_name ≢ n → (d' n).now ≡ (d n).now
gains_beside d d' file g n o apart = by (g.each n o)
  where
    by : Change (ComesTo head_name file n) (d n) (d' n) → (d' n).now ≡ (d n).now
    by (Stays s l) = s
    by (Comes b l) = absurd (apart (sym b.0))

begins : (name : List ℕ) (is_seal : List ℕ → List ℕ → Bool) (d : Disk) (first : Revision) (manifest : List ℕ) (f : Files) → CanBegin name is_seal d first manifest
    → f head_name ≡ Some manifest → ((id : ObjectId) → f (file_name id) ≡ files_now d (file_name id)) → f epoch_name ≡ Some (epoch_text 0) → Stands name is_seal f (first_kept d first)
begins name is_seal d first manifest f can head data_same epoch = record {
  newest_ = first;
  is_newest = refl;
  head = subst (λ (x : File). Publishes name is_seal x (head_of first)) (sym head) can.says;
  shelf = λ id. sym (same_object f (files_now d) id (data_same id));
  epoch = epoch;
  kept = record { sound = can.sound; epoch = omega arith };
}

-- a crash while the head comes leaves no manifest, or the whole of the first revision
pub first_leaves : (name : List ℕ) (is_seal : List ℕ → List ℕ → Bool) (d : Disk) (first : Revision) (manifest : List ℕ) → IsSure epoch_name (epoch_text 0) d → (d head_name).now ≡ None → CanBegin name is_seal d first manifest
    → (f : Files) → Within on_way (ComesTo head_name (Some manifest)) d f → (f head_name ≡ None) ⊎ Stands name is_seal f (first_kept d first)
first_leaves name is_seal d first manifest sure none can f w = elim (w.each head_name refl) [
  | inl old ↦ inl (may_settled d head_name (f head_name) (sure.calm head_name) old ∙ none)
  | inr come ↦ inr (begins name is_seal d first manifest f can come.1 (λ id. other (file_name id) refl (head_not_data id)) (other epoch_name refl (λ e. epoch_not_head (sym e)) ∙ sure.there))
]
  where
    other : (n : Name) → on_way n ≡ false → head_name ≢ n → f n ≡ (d n).now
    other = within_beside d (Some manifest) f sure.calm w

-- and after it came each image stands for it
pub first_makes : (name : List ℕ) (is_seal : List ℕ → List ℕ → Bool) (d d' : Disk) (first : Revision) (manifest : List ℕ) → IsSure epoch_name (epoch_text 0) d → CanBegin name is_seal d first manifest
    → Gains on_way (ComesTo head_name (Some manifest)) d d' → IsSure head_name manifest d' → (f : Files) → Image d' f → Stands name is_seal f (first_kept d first)
first_makes name is_seal d d' first manifest built can g sure f i =
    begins name is_seal d first manifest f can (calm_image d' sure.calm f i head_name ∙ sure.there) (λ id. other (file_name id) refl (head_not_data id)) (other epoch_name refl (λ e. epoch_not_head (sym e)) ∙ built.there)
  where
    other : (n : Name) → on_way n ≡ false → head_name ≢ n → f n ≡ (d n).now
    other n o apart = calm_image d' sure.calm f i n ∙ gains_beside d d' (Some manifest) g n o apart
