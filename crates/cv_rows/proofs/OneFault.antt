-- Bytes have one first fault.
use Rattle.std.proofs.Common.{◌≡◌, ◌≢◌, ℕ, ◌+◌, ◌-◌, ◌<◌, ◌⊎◌, List, length, get_or, Result, Ok, Err, sym, ap, subst, ◌∙◌, arith, inl, inr}
use Rattle.std.specs.declared.cmp.Ordering.{Ordering}
use Rattle.std.specs.declared.cmp.Ordering.TheVariants.{Less}
use Rattle.std.proofs.lemmas.Bool.{cases_lt}
use Rattle.cv_base.specs.Path.{Path}
use Rattle.cv_rows.specs.Faults.{IsFirst, IsFirstDisorder, IsFirstOrphan, IsFirstUnlisted, IsRuleFault, IsFaultOf}
use Rattle.cv_rows.specs.Reading.{Entries}
use Rattle.cv_rows.specs.declared.row.Row.{Row}
use Rattle.cv_rows.specs.declared.nested.Nested.{Nested}
use Rattle.cv_rows.specs.declared.row_fault.RowFault.{RowFault}
use Rattle.cv_rows.specs.declared.row_fault.RowFault.TheVariants.{Order, BadKey, Orphan, Marker, NestedList, NoMemory}
use Rattle.cv_rows.proofs.RuleLaws.{some_element, no_disorder, order_none, orphan_none, misplaced_none, marked_none, named_none}

-- ---- one index

one_index : (P : ℕ → Type 0) → ((i j : ℕ) → P i → P j → i < j → ⊥) → (i j : ℕ) → P i → P j → i ≡ j
one_index P before i j a b = elim (cases_lt i j) [ inl less ↦ absurd (before i j a b less) | inr ge ↦ elim (cases_lt j i) [ inl less ↦ absurd (before j i b a less) | inr le ↦ omega arith ] ]

one_first : {X : Type 0} (Bad : X → Type 0) (xs : List X) (i j : ℕ) → IsFirst Bad xs i → IsFirst Bad xs j → i ≡ j
one_first Bad xs = one_index (IsFirst Bad xs) (λ i j a b less. let d = some_element xs i a.within in b.before i d (omega arith) less (a.here d))

one_disorder : {X : Type 0} (cmp : X → X → Ordering) (xs : List X) (i j : ℕ) → IsFirstDisorder cmp xs i → IsFirstDisorder cmp xs j → i ≡ j
one_disorder cmp xs = one_index (IsFirstDisorder cmp xs) (λ i j a b less.
    let d = some_element xs i a.within in
    let later = a.later in
    let next : i - 1 + 1 ≡ i = omega arith in
    a.here d (subst (λ (k : ℕ). cmp (get_or xs (i - 1) d) (get_or xs k d) ≡ Less) next (b.before (i - 1) d (omega arith))))

-- ---- one fault of each rule

module _ (at : Path) (rows : List Row) (nested : List Nested) where
  one_order : (i j : ℕ) → IsRuleFault at rows nested (Order i) → IsRuleFault at rows nested (Order j) → i ≡ j
  one_order i j (inl a) (inl b) = one_disorder _ rows i j a b
  one_order i j (inl a) (inr b) = absurd (no_disorder _ rows i b.0 a)
  one_order i j (inr a) (inl b) = absurd (no_disorder _ rows j a.0 b)
  one_order i j (inr a) (inr b) = a.1.1 ∙ ap (λ k. length rows + k) (one_disorder _ nested a.1.0 b.1.0 a.1.2 b.1.2) ∙ sym b.1.1

  one_orphan : (i j : ℕ) → IsFirstOrphan at rows i → IsFirstOrphan at rows j → i ≡ j
  one_orphan i j (inl a) (inl b) = a.1 ∙ sym b.1
  one_orphan i j (inl a) (inr b) = absurd (a.0 b.0.0 b.0.1 b.0.2)
  one_orphan i j (inr a) (inl b) = absurd (b.0 a.0.0 a.0.1 a.0.2)
  one_orphan i j (inr a) (inr b) = one_first _ rows i j a.1 b.1

  one_unlisted : (i j : ℕ) → IsFirstUnlisted at rows nested i → IsFirstUnlisted at rows nested j → i ≡ j
  one_unlisted i j (inl a) (inl b) = one_first _ nested i j a b
  one_unlisted i j (inl a) (inr b) = absurd (named_none at rows nested i b.0 a)
  one_unlisted i j (inr a) (inl b) = absurd (named_none at rows nested j a.0 b)
  one_unlisted i j (inr a) (inr b) = a.1 ∙ sym b.1

  -- a rule that is kept before another is broken isn't broken
  one_rule : (f g : RowFault) → IsRuleFault at rows nested f → IsRuleFault at rows nested g → f ≡ g
  one_rule (Order i) (Order j) a b = ap Order (one_order i j a b)
  one_rule (Order i) (Orphan j) a b = absurd (order_none rows nested i b.0 at a)
  one_rule (Order i) (BadKey j) a b = absurd (order_none rows nested i b.0 at a)
  one_rule (Order i) (Marker j) a b = absurd (order_none rows nested i b.0 at a)
  one_rule (Order i) (NestedList j) a b = absurd (order_none rows nested i b.0 at a)
  one_rule (Order i) g a b = absurd b
  one_rule (Orphan i) (Order j) a b = absurd (order_none rows nested j a.0 at b)
  one_rule (Orphan i) (Orphan j) a b = ap Orphan (one_orphan i j a.1 b.1)
  one_rule (Orphan i) (BadKey j) a b = absurd (orphan_none at rows i b.1 a.1)
  one_rule (Orphan i) (Marker j) a b = absurd (orphan_none at rows i b.1 a.1)
  one_rule (Orphan i) (NestedList j) a b = absurd (orphan_none at rows i b.1 a.1)
  one_rule (Orphan i) g a b = absurd b
  one_rule (BadKey i) (Order j) a b = absurd (order_none rows nested j a.0 at b)
  one_rule (BadKey i) (Orphan j) a b = absurd (orphan_none at rows j a.1 b.1)
  one_rule (BadKey i) (BadKey j) a b = ap BadKey (one_first _ rows i j a.2 b.2)
  one_rule (BadKey i) (Marker j) a b = absurd (misplaced_none at rows i b.0.0 b.2 a.2)
  one_rule (BadKey i) (NestedList j) a b = absurd (misplaced_none at rows i b.0.0 b.2 a.2)
  one_rule (BadKey i) g a b = absurd b
  one_rule (Marker i) (Order j) a b = absurd (order_none rows nested j a.0 at b)
  one_rule (Marker i) (Orphan j) a b = absurd (orphan_none at rows j a.1 b.1)
  one_rule (Marker i) (BadKey j) a b = absurd (misplaced_none at rows j a.0.0 a.2 b.2)
  one_rule (Marker i) (Marker j) a b = ap Marker (one_first _ rows i j a.3 b.3)
  one_rule (Marker i) (NestedList j) a b = absurd (marked_none at rows i b.3 a.3)
  one_rule (Marker i) g a b = absurd b
  one_rule (NestedList i) (Order j) a b = absurd (order_none rows nested j a.0 at b)
  one_rule (NestedList i) (Orphan j) a b = absurd (orphan_none at rows j a.1 b.1)
  one_rule (NestedList i) (BadKey j) a b = absurd (misplaced_none at rows j a.0.0 a.2 b.2)
  one_rule (NestedList i) (Marker j) a b = absurd (marked_none at rows j a.3 b.3)
  one_rule (NestedList i) (NestedList j) a b = ap NestedList (one_unlisted i j a.4 b.4)
  one_rule (NestedList i) g a b = absurd b
  one_rule f g a b = absurd a

-- ---- one fault

pub one_of : (at : Path) (read : Result Entries RowFault) (f g : RowFault) → IsFaultOf at read f → IsFaultOf at read g → f ≡ g
one_of at (Err first) f g a b = a ∙ sym b
one_of at (Ok entries) f g a b = one_rule at entries.0 entries.1 f g a b

-- what is said of a fault but want of memory is so
pub said : (fault : RowFault) (is : Type 0) → fault ≢ NoMemory → (fault ≡ NoMemory) ⊎ is → is
said fault is apart (inl lack) = absurd (apart lack)
said fault is apart (inr h) = h
