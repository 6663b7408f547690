-- A manifest that waits on its way.
use Rattle.std.proofs.Common.{◌≡◌, ℕ, List, refl, sym, ap, subst, ◌∙◌, inl, inr}
use Rattle.std.specs.declared.option.Option.{Option}
use Rattle.std.specs.declared.option.Option.TheVariants.{None, Some}
use Rattle.std.specs.declared.result.Result.TheVariants.{Ok}
use Rattle.cv_base.specs.Told.{WhereTold}
use Rattle.cv_base.specs.declared.object.Object.{Object}
use Rattle.cv_vault.specs.Names.{Name, on_way}
use Rattle.cv_vault.specs.Disk.{Disk, Slot, File, Files, Settled, slot}
use Rattle.cv_vault.specs.Walks.{Walks, Spares, SparesIn}
use Rattle.cv_vault.specs.Replace.{IsWaiting}
use Rattle.cv_vault.proofs.Laws.{sure_waits}
use Rattle.cv_base.specs.Objects.{AreNamed}
use Rattle.cv_objects.specs.Batches.{Brings, IsApart}
use Rattle.cv_swap.specs.Stands.{head_name, head_way}
use Rattle.cv_swap.specs.Publishing.{ArePrepared, Prepared}
use Rattle.cv_swap.proofs.Names.{head_apart, head_place_apart}

none_told : {d : Disk} → None ≡ Some d → ⊥
none_told e = cc

some_told : {d d' : Disk} → Some d ≡ Some d' → d ≡ d'
some_told e = cc

-- the manifest waits while a batch is stored
spared_waits : (batch : List Object) (manifest : List ℕ) (d d' : Disk) → AreNamed batch → Spares (IsApart batch) d d' → IsWaiting head_way head_name manifest d → IsWaiting head_way head_name manifest d'
spared_waits batch manifest d d' named spares waits = record {
  on_its_way = elim (spares.each head_way (head_apart batch named)) [
    | inl same ↦ same ∙ waits.on_its_way
    | inr settled ↦ settled ∙ ap (λ (s : Slot). slot s.now Settled) waits.on_its_way
  ];
  at_name = elim (spares.each head_name (head_place_apart batch)) [
    | inl same ↦ ap (λ (s : Slot). s.mark) same ∙ waits.at_name
    | inr settled ↦ ap (λ (s : Slot). s.mark) settled
  ];
}

pub stored_waits : {V : Type 0} {disk : V → Option Disk} (batch : List Object) (manifest : List ℕ) {a b : V} → AreNamed batch → SparesIn disk (IsApart batch) a b
    → WhereTold (disk a) (IsWaiting head_way head_name manifest) → WhereTold (disk b) (IsWaiting head_way head_name manifest)
stored_waits {V} {disk} batch manifest {a} {b} named spares waits = by (disk a) refl
  where
    by : (o : Option Disk) → disk a ≡ o → WhereTold (disk b) (IsWaiting head_way head_name manifest)
    by None e d' told = absurd (none_told (sym (spares.silent e) ∙ told))
    by (Some d) e d' told = let s = spares.tells d e in subst (IsWaiting head_way head_name manifest) (some_told (sym s.1 ∙ told)) (spared_waits batch manifest d s.0 named s.2 (waits d e))

-- what a walk ends in is so where its end is told, if a vault that tells nothing goes on to tell nothing
pub told_end : {V : Type 0} {disk : V → Option Disk} {count : V → ℕ} {left : V → ℕ → Files → Type 0} {B : Disk → Name → File → Type 0} {E : Disk → Type 0} {a b : V} → (disk a ≡ None → disk b ≡ None)
    → WhereTold (disk a) (λ d. Walks disk count left on_way (B d) E d a b) → WhereTold (disk b) E
told_end {V} {disk} {count} {left} {B} {E} {a} {b} silent walks = by (disk a) refl
  where
    by : (o : Option Disk) → disk a ≡ o → WhereTold (disk b) E
    by None e d' told = absurd (none_told (sym (silent e) ∙ told))
    by (Some d) e d' told = let w = walks d e in subst E (some_told (sym w.told ∙ told)) w.is

-- and where it was prepared
pub prepared_waits : {V : Type 0} {disk : V → Option Disk} {count : V → ℕ} {left : V → ℕ → Files → Type 0} (batch : List Object) (manifest : List ℕ) {a b : V} {u : Unit {0}} → (disk a ≡ None → disk b ≡ None)
    → WhereTold (disk a) (λ d. Walks disk count left on_way (Brings d batch) (Prepared d batch manifest {X = Unit {0}} (Ok u)) d a b) → WhereTold (disk b) (IsWaiting head_way head_name manifest)
prepared_waits batch manifest silent walks = λ d' told. sure_waits head_way head_name manifest d' (told_end {B = λ d. Brings d batch} {E = ArePrepared batch manifest} silent walks d' told).sure
