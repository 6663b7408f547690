-- A head that is swapped in on a disk that may not be settled.
use Rattle.std.proofs.Common.{◌≡◌, ◌≢◌, ◌⊎◌, ℕ, Bool, true, false, List, [], ◌∷◌, ◌++◌, refl, sym, ◌∙◌, inl, inr}
use Rattle.std.specs.declared.option.Option.TheVariants.{Some}
use Rattle.cv_base.specs.ObjectId.{file_name}
use Rattle.cv_vault.specs.Names.{Name, on_way}
use Rattle.cv_vault.specs.Disk.{Disk, File, Files, Image, May}
use Rattle.cv_vault.specs.Walks.{Gains, Within, ComesTo}
use Rattle.cv_vault.specs.Replace.{IsSure}
use Rattle.cv_vault.proofs.Laws.{calm_image, within_image}
use Rattle.cv_objects.specs.Names.{objects_of}
use Rattle.cv_swap.specs.Kept.{Kept, Revision, with_new}
use Rattle.cv_swap.specs.Stands.{HasRevisions, CanCome, head_name, epoch_name}
use Rattle.cv_swap.proofs.Names.{head_not_data, epoch_not_head}
use Rattle.cv_swap.proofs.Prepared.{may_now, on_its_shelf}
use Rattle.cv_swap.proofs.Swapped.{stands_on, stands_new}

-- the file that a crash might have left before: this one, or the one that stood there where the manifest came
record Before (d : Disk) (manifest : List ℕ) (n : Name) (f : File) : Type 0 where
  left : File
  may : May (d n) left
  is : on_way n ≡ false → (f ≡ left) ⊎ ComesTo head_name (Some manifest) n f

left_before : (d : Disk) (manifest : List ℕ) (f : Files) → Within on_way (ComesTo head_name (Some manifest)) d f → (n : Name) (b : Bool) → on_way n ≡ b → Before d manifest n (f n)
left_before d manifest f w n true on = record { left = (d n).now; may = may_now (d n).mark (d n).now; is = λ off. absurd (let k : true ≡ false = sym on ∙ off in cc) }
left_before d manifest f w n false off = elim (w.each n off) [
  | inl m ↦ record { left = f n; may = m; is = λ o. inl refl }
  | inr b ↦ record { left = (d n).now; may = may_now (d n).mark (d n).now; is = λ o. inr b }
]

module _ (name : List ℕ) (is_seal : List ℕ → List ℕ → Bool) (d : Disk) (history : List Revision) (epoch : ℕ) (new : Revision) (manifest : List ℕ)
    (each : (g : Files) → Image d g → HasRevisions name is_seal history epoch g) (can : (g : Files) → Image d g → CanCome name is_seal (record { history = history; shelf = objects_of g; epoch = epoch }) new manifest) where
  module _ (f : Files) (w : Within on_way (ComesTo head_name (Some manifest)) d f) where
    abbrev before : (n : Name) → Before d manifest n (f n)
    before n = left_before d manifest f w n (on_way n) refl

    abbrev g : Files
    g n = (before n).left

    image : Image d g
    image n = (before n).may

    abbrev k : Kept
    k = record { history = history; shelf = objects_of g; epoch = epoch }

    other : (n : Name) → on_way n ≡ false → head_name ≢ n → f n ≡ g n
    other n off apart = elim ((before n).is off) [ inl same ↦ same | inr came ↦ absurd (apart (sym came.0)) ]

    new_stands : f head_name ≡ Some manifest → HasRevisions name is_seal (history ++ new ∷ []) epoch f
    new_stands there = on_its_shelf name is_seal f (with_new k new)
        (stands_new name is_seal g f k new manifest (each g image) (can g image) there (λ id. other (file_name id) refl (head_not_data id)) (other epoch_name refl (λ e. epoch_not_head (sym e))))

    pub each_leaves : HasRevisions name is_seal history epoch f ⊎ HasRevisions name is_seal (history ++ new ∷ []) epoch f
    each_leaves = elim ((before head_name).is refl) [
      | inl same ↦ inl (on_its_shelf name is_seal f k (stands_on name is_seal g f k (each g image) same (λ id. other (file_name id) refl (head_not_data id)) (other epoch_name refl (λ e. epoch_not_head (sym e)))))
      | inr came ↦ inr (new_stands came.1)
    ]

  pub each_makes : (d' : Disk) → Gains on_way (ComesTo head_name (Some manifest)) d d' → IsSure head_name manifest d' → (f : Files) → Image d' f → HasRevisions name is_seal (history ++ new ∷ []) epoch f
  each_makes d' gains sure f i = new_stands f (within_image gains f i) (calm_image d' sure.calm f i head_name ∙ sure.there)
