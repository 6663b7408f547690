-- What the files stand for after an opening that failed.
use Rattle.std.proofs.Common.{◌≡◌, ◌⊎◌, ℕ, Bool, false, List, refl, inl, inr}
use Rattle.cv_base.specs.ObjectId.{file_name}
use Rattle.cv_vault.specs.Names.{Name, on_way}
use Rattle.cv_vault.specs.Disk.{Disk, Files, Image, files_now, synced}
use Rattle.cv_vault.specs.Walks.{Change, Stays, Comes, Gains, Nothing}
use Rattle.cv_vault.proofs.Laws.{within_image, may_settled}
use Rattle.cv_swap.specs.Kept.{Kept, raised}
use Rattle.cv_swap.specs.Stands.{Stands, head_name, epoch_name}
use Rattle.cv_swap.specs.Opening.{IsRaised}
use Rattle.cv_swap.proofs.Raising.{stands_while}
use Rattle.cv_swap.proofs.Swapped.{stands_on}

-- all is settled as it stood, but for what is on its way
pub unraised_stands : (name : List ℕ) (is_seal : List ℕ → List ℕ → Bool) (d d' : Disk) (k : Kept) → Stands name is_seal (files_now d) k → Gains on_way Nothing (synced d) d' → (f : Files) → Image d' f → Stands name is_seal f k
unraised_stands name is_seal d d' k s g f i = stands_on name is_seal (files_now d) f k s (same head_name refl) (λ id. same (file_name id) refl) (same epoch_name refl)
  where
    same : (n : Name) → on_way n ≡ false → f n ≡ (d n).now
    same n w = elim ((within_image g f i).each n w) [ inl m ↦ may_settled (synced d) n (f n) refl m | inr b ↦ absurd b ]

-- as they stand, the epoch was raised or it wasn't
pub failed_stands : (name : List ℕ) (is_seal : List ℕ → List ℕ → Bool) (d d' : Disk) (k : Kept) → Stands name is_seal (files_now d) k → Gains on_way (IsRaised d) d d' → Stands name is_seal (files_now d') k ⊎ Stands name is_seal (files_now d') (raised k)
failed_stands name is_seal d d' k s g = stands_while name is_seal d (files_now d') k s (record { each = λ n w. by n (g.each n w) })
  where
    by : (n : Name) → Change (IsRaised d n) (d n) (d' n) → ((d' n).now ≡ (d n).now) ⊎ IsRaised d n (d' n).now
    by n (Stays e l) = inl e
    by n (Comes b l) = inr b
