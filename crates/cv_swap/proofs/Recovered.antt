-- A swap that failed, and what is found of it.
use Rattle.std.proofs.Common.{◌≡◌, ◌⊎◌, ℕ, Bool, false, List, refl, subst, ◌∙◌}
use Rattle.std.specs.declared.option.Option.TheVariants.{Some}
use Rattle.cv_base.specs.ObjectId.{file_name}
use Rattle.cv_vault.specs.Names.{Name, on_way}
use Rattle.cv_vault.specs.Disk.{Disk, Files, Image, IsCalm, files_now}
use Rattle.cv_vault.specs.Walks.{Change, Stays, Comes, Gains, Within, Nothing, ComesTo}
use Rattle.cv_vault.specs.Replace.{IsSure, IsOther}
use Rattle.cv_vault.proofs.Laws.{calm_image, gains_then, gains_more, within_then, within_more}
use Rattle.cv_swap.specs.Kept.{Kept, Revision, with_new}
use Rattle.cv_swap.specs.Stands.{Stands, CanCome, head_name, epoch_name}
use Rattle.cv_swap.proofs.Swapped.{stands_on, swap_leaves, swap_makes}

both : {manifest : List ℕ} {d d1 d2 : Disk} → Gains on_way (ComesTo head_name (Some manifest)) d d1 → Gains on_way Nothing d1 d2 → Gains on_way (ComesTo head_name (Some manifest)) d d2
both g h = gains_then g (gains_more (λ n f b. absurd b) h)

pub recover_leaves : (name : List ℕ) (is_seal : List ℕ → List ℕ → Bool) (d d1 : Disk) (k : Kept) (new : Revision) (manifest : List ℕ) → IsCalm d → Stands name is_seal (files_now d) k → CanCome name is_seal k new manifest
    → Gains on_way (ComesTo head_name (Some manifest)) d d1 → (f : Files) → Within on_way Nothing d1 f → Stands name is_seal f k ⊎ Stands name is_seal f (with_new k new)
recover_leaves name is_seal d d1 k new manifest calm s can g f w = swap_leaves name is_seal d k new manifest calm s can f (within_then g f (within_more (λ n f b. absurd b) f w))

pub recover_makes : (name : List ℕ) (is_seal : List ℕ → List ℕ → Bool) (d d1 d2 : Disk) (k : Kept) (new : Revision) (manifest : List ℕ) → IsCalm d → Stands name is_seal (files_now d) k → CanCome name is_seal k new manifest
    → Gains on_way (ComesTo head_name (Some manifest)) d d1 → Gains on_way Nothing d1 d2 → IsSure head_name manifest d2 → (f : Files) → Image d2 f → Stands name is_seal f (with_new k new)
recover_makes name is_seal d d1 d2 k new manifest calm s can g h sure f i = swap_makes name is_seal d d2 k new manifest calm s can (both g h) sure f i

pub recover_drops : (name : List ℕ) (is_seal : List ℕ → List ℕ → Bool) (d d1 d2 : Disk) (k : Kept) (manifest : List ℕ) → IsCalm d → Stands name is_seal (files_now d) k
    → Gains on_way (ComesTo head_name (Some manifest)) d d1 → Gains on_way Nothing d1 d2 → IsOther head_name manifest d2 → (f : Files) → Image d2 f → Stands name is_seal f k
recover_drops name is_seal d d1 d2 k manifest calm s g h other f i = stands_on name is_seal (files_now d) f k s (same head_name refl) (λ id. same (file_name id) refl) (same epoch_name refl)
  where
    by : (n : Name) → Change (ComesTo head_name (Some manifest) n) (d n) (d2 n) → (d2 n).now ≡ (d n).now
    by n (Stays e l) = e
    by n (Comes c l) = absurd (other.other (subst (λ (x : Name). (d2 x).now ≡ Some manifest) c.0 c.1))

    same : (n : Name) → on_way n ≡ false → f n ≡ (d n).now
    same n w = calm_image d2 other.calm f i n ∙ by n ((both g h).each n w)
