-- What the files stand for while a head is swapped in.
use Rattle.std.proofs.Common.{◌≡◌, ◌≢◌, ◌⊎◌, ℕ, Bool, false, List, refl, sym, subst, ◌∙◌, inl, inr}
use Rattle.std.specs.declared.option.Option.TheVariants.{None, Some}
use Rattle.cv_base.specs.ObjectId.{file_name}
use Rattle.cv_base.specs.declared.id.ObjectId.{ObjectId}
use Rattle.cv_base.proofs.Laws.{last_push}
use Rattle.cv_vault.specs.Names.{Name, on_way}
use Rattle.cv_vault.specs.Disk.{Disk, File, Files, Image, IsCalm, files_now}
use Rattle.cv_vault.specs.Walks.{Change, Stays, Comes, Gains, Within, ComesTo}
use Rattle.cv_vault.specs.Replace.{IsSure}
use Rattle.cv_vault.proofs.Laws.{may_settled, calm_image}
use Rattle.cv_swap.specs.Kept.{Kept, Revision, with_new}
use Rattle.cv_swap.specs.Stands.{Stands, CanCome, Publishes, head_name, epoch_name, head_of}
use Rattle.cv_swap.proofs.Names.{head_not_data, epoch_not_head, same_object}

-- files that are as those that stand for what is kept, with a head
pub stands_on : (name : List ℕ) (is_seal : List ℕ → List ℕ → Bool) (f g : Files) (k : Kept) → Stands name is_seal f k
    → g head_name ≡ f head_name → ((id : ObjectId) → g (file_name id) ≡ f (file_name id)) → g epoch_name ≡ f epoch_name → Stands name is_seal g k
stands_on name is_seal f g k s head data_same epoch = record {
  newest_ = s.newest_;
  is_newest = s.is_newest;
  head = subst (λ (x : File). Publishes name is_seal x (head_of s.newest_)) (sym head) s.head;
  shelf = λ id. s.shelf id ∙ sym (same_object g f id (data_same id));
  epoch = epoch ∙ s.epoch;
  kept = s.kept;
}

pub stands_new : (name : List ℕ) (is_seal : List ℕ → List ℕ → Bool) (f g : Files) (k : Kept) (new : Revision) (manifest : List ℕ) → Stands name is_seal f k → CanCome name is_seal k new manifest
    → g head_name ≡ Some manifest → ((id : ObjectId) → g (file_name id) ≡ f (file_name id)) → g epoch_name ≡ f epoch_name → Stands name is_seal g (with_new k new)
stands_new name is_seal f g k new manifest s can head data_same epoch = record {
  newest_ = new;
  is_newest = last_push None k.history new;
  head = subst (λ (x : File). Publishes name is_seal x (head_of new)) (sym head) can.says;
  shelf = λ id. s.shelf id ∙ sym (same_object g f id (data_same id));
  epoch = epoch ∙ s.epoch;
  kept = record { sound = can.sound; epoch = s.kept.epoch };
}

-- a crash while the head is swapped leaves the old manifest or the new one, each with all that it reaches
pub swap_leaves : (name : List ℕ) (is_seal : List ℕ → List ℕ → Bool) (d : Disk) (k : Kept) (new : Revision) (manifest : List ℕ) → IsCalm d → Stands name is_seal (files_now d) k → CanCome name is_seal k new manifest
    → (f : Files) → Within on_way (ComesTo head_name (Some manifest)) d f → Stands name is_seal f k ⊎ Stands name is_seal f (with_new k new)
swap_leaves name is_seal d k new manifest calm s can f w = elim (w.each head_name refl) [
  | inl old ↦ inl (stands_on name is_seal (files_now d) f k s (may_settled d head_name (f head_name) (calm head_name) old) (λ id. other (file_name id) refl (head_not_data id)) (other epoch_name refl (λ e. epoch_not_head (sym e))))
  | inr come ↦ inr (stands_new name is_seal (files_now d) f k new manifest s can come.1 (λ id. other (file_name id) refl (head_not_data id)) (other epoch_name refl (λ e. epoch_not_head (sym e))))
]
  where
    other : (n : Name) → on_way n ≡ false → head_name ≢ n → f n ≡ (d n).now
    other n o apart = elim (w.each n o) [ inl m ↦ may_settled d n (f n) (calm n) m | inr b ↦ absurd (apart (sym b.0)) ]

-- and after the swap each image stands for the revision more
pub swap_makes : (name : List ℕ) (is_seal : List ℕ → List ℕ → Bool) (d d' : Disk) (k : Kept) (new : Revision) (manifest : List ℕ) → IsCalm d → Stands name is_seal (files_now d) k → CanCome name is_seal k new manifest
    → Gains on_way (ComesTo head_name (Some manifest)) d d' → IsSure head_name manifest d' → (f : Files) → Image d' f → Stands name is_seal f (with_new k new)
swap_makes name is_seal d d' k new manifest calm s can g sure f i =
    stands_new name is_seal (files_now d) f k new manifest s can (calm_image d' sure.calm f i head_name ∙ sure.there) (λ id. other (file_name id) refl (head_not_data id)) (other epoch_name refl (λ e. epoch_not_head (sym e)))
  where
    by : (n : Name) → head_name ≢ n → Change (ComesTo head_name (Some manifest) n) (d n) (d' n) → (d' n).now ≡ (d n).now
    by n apart (Stays s l) = s
    by n apart (Comes b l) = absurd (apart (sym b.0))

    other : (n : Name) → on_way n ≡ false → head_name ≢ n → f n ≡ (d n).now
    other n o apart = calm_image d' sure.calm f i n ∙ by n apart (g.each n o)
