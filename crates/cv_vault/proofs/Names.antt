-- Names that are the same or differ, and disks with another slot at a name.
use Rattle.std.proofs.Common.{◌≡◌, ◌≢◌, ◌⊎◌, inl, inr, ap, subst, sym, ◌∙◌, Bool, true, false, refl}
use Rattle.std.specs.declared.cmp.Ordering.TheVariants.{Less}
use Rattle.std.specs.Ordering.{is_eq}
use Rattle.std.specs.Cmp.{tied_itself}
use Rattle.std.specs.Str.{bytes_eq}
use Rattle.std.proofs.lemmas.Slice.Eq.{bytes_eq-Decides}
use Rattle.std.specs.Cmp.Lexicographic.{nat_list_cmp_total}
use Rattle.cv_base.specs.BytesOrder.{bytes_cmp}
use Rattle.cv_base.proofs.Laws.{is_equal, name_exact}
use Rattle.cv_vault.specs.Names.{Name, same_name}
use Rattle.cv_vault.specs.Disk.{Disk, Slot, with_slot}

pub same_name_is : (a b : Name) → same_name a b ≡ true → a ≡ b
same_name_is a b h = name_exact a b (is_equal _ h)

pub same_name_itself : (a : Name) → same_name a a ≡ true
same_name_itself a = ap is_eq (tied_itself nat_list_cmp_total a)

-- names that differ aren't the same
pub other_name : (a b : Name) → a ≢ b → same_name a b ≡ false
other_name a b apart = by (same_name a b) refl
  where
    by : (r : Bool) → same_name a b ≡ r → same_name a b ≡ false
    by true e = absurd (apart (same_name_is a b e))
    by false e = e

pub same_or_not : (a b : Name) → (a ≡ b) ⊎ (a ≢ b)
same_or_not a b = by (same_name a b) refl
  where
    by : (r : Bool) → same_name a b ≡ r → (a ≡ b) ⊎ (a ≢ b)
    by true e = inl (same_name_is a b e)
    by false e = inr (λ s. let t : same_name b b ≡ false = subst (λ x. same_name x b ≡ false) s e in let u = same_name_itself b in cc)

pub below_differs : (a b : Name) → bytes_cmp a b ≡ Less → a ≢ b
below_differs a b h e = let t : bytes_cmp b b ≡ Less = subst (λ x. bytes_cmp x b ≡ Less) e h in let u = tied_itself nat_list_cmp_total b in cc

-- a test on bytes tells whether names are the same
pub bytes_eq_same : (a b : Name) → a ≡ b → bytes_eq a b ≡ true
bytes_eq_same a b e = (bytes_eq-Decides a b).1 e

pub bytes_eq_other : (a b : Name) → a ≢ b → bytes_eq a b ≡ false
bytes_eq_other a b apart = by (bytes_eq a b) refl
  where
    by : (r : Bool) → bytes_eq a b ≡ r → bytes_eq a b ≡ false
    by true e = absurd (apart ((bytes_eq-Decides a b).0 e))
    by false e = e

-- the slot that was put
pub here : (d : Disk) (n : Name) (s : Slot) → with_slot d n s n ≡ s
here d n s = rw (same_name_itself n) refl

-- every other slot
pub elsewhere : (d : Disk) (n : Name) (s : Slot) (q : Name) → q ≢ n → with_slot d n s q ≡ d q
elsewhere d n s q apart = rw (other_name q n apart) refl

-- a slot that stands there already
pub unchanged : (d : Disk) (n : Name) (s : Slot) → s ≡ d n → with_slot d n s ≡ d
unchanged d n s e = λ i q. at q i
  where
    at : (q : Name) → with_slot d n s q ≡ d q
    at q = elim (same_or_not q n) [
      | inl k ↦ subst (λ (m : Name). with_slot d n s m ≡ d m) (sym k) (here d n s ∙ e)
      | inr ne ↦ elsewhere d n s q ne
    ]
