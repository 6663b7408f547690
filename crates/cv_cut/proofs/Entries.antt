-- The entries of a finite map.
use Rattle.std.proofs.Common.{◌≡◌, true, false, cond, List, [], ◌∷◌, refl, sym, ap, subst, ◌∙◌, inl, inr}
use Rattle.std.specs.Prelude.{Contains}
use Rattle.std.specs.declared.cmp.Ordering.{Ordering}
use Rattle.std.specs.declared.cmp.Ordering.TheVariants.{Less}
use Rattle.std.specs.declared.option.Option.TheVariants.{Some}
use Rattle.std.specs.Ordering.{is_eq, is_lt, eq_by_cmp}
use Rattle.std.specs.Cmp.{IsTotalOrder, tied_itself, eq_by_cmp_equiv}
use Rattle.std.specs.FinMap.{FinMap, IsAntisymmetric, find, get, entries, is_sorted, entries_sorted, get-entries}
use Rattle.std.specs.FinMap.Entries.{below_all}
use Rattle.cv_base.proofs.Laws.{first_true, second_true, is_less, is_equal}
use Rattle.cv_cut.proofs.Members.{none_there, first_there, later_there, first_or_later}
use Rattle.cv_cut.proofs.Bools.{so}

pub below_each : {K X : Type 0} (R : K → K → Ordering) (k : K) (es : List (K × X)) (q : K) (v : X) → below_all R k es ≡ true → Contains es (q, v) → R k q ≡ Less
below_each {K} {X} R k [] q v h has = absurd (none_there (q, v) has)
below_each {K} {X} R k (e ∷ es) q v h has =
    elim (first_or_later e es (q, v) has) [
      | inl same ↦ is_less (R k q) (subst (λ (x : K × X). is_lt (R k x.0) ≡ true) same (first_true (is_lt (R k e.0)) (below_all R k es) h))
      | inr later ↦ below_each R k es q v (second_true (is_lt (R k e.0)) (below_all R k es) h) later
    ]

module _ {K X : Type 0} {R : K → K → Ordering} where
  -- what is found is an entry
  pub found_there : IsAntisymmetric R → (es : List (K × X)) (q : K) (v : X) → find R q es ≡ Some v → Contains es (q, v)
  found_there exact [] q v h = cc
  found_there exact (e ∷ es) q v h =
      elim (eq_by_cmp R q e.0) as (λ b. eq_by_cmp R q e.0 ≡ b → cond b (Some e.1) (find R q es) ≡ Some v → Contains (e ∷ es) (q, v)) [
        | true ↦ λ same is.
            let key : q ≡ e.0 = exact q e.0 (is_equal _ same) in
            let value : e.1 ≡ v = cc in
            let pair : ◌≡◌ {A = K × X} e (q, v) = λ i. (sym key i, value i) in
            subst (λ (x : K × X). Contains (e ∷ es) x) pair (first_there e es)
        | false ↦ λ other is. later_there e es (q, v) (found_there exact es q v is)
      ] refl h

  -- an entry is found, where the keys rise
  pub there_found : IsTotalOrder R → (es : List (K × X)) (q : K) (v : X) → is_sorted R es ≡ true → Contains es (q, v) → find R q es ≡ Some v
  there_found o [] q v rises has = absurd (none_there (q, v) has)
  there_found o (e ∷ es) q v rises has =
      elim (first_or_later e es (q, v) has) [
        | inl same ↦ rw (ap (λ (x : K × X). eq_by_cmp R q x.0) same ∙ ap is_eq (tied_itself o q)) (ap (λ (x : K × X). Some x.1) same)
        | inr later ↦
            let below = below_each R e.0 es q v (first_true (below_all R e.0 es) (is_sorted R es) rises) later in
            let other : eq_by_cmp R q e.0 ≡ false = (eq_by_cmp_equiv o).symm q e.0 ∙ ap is_eq below in
            rw other (there_found o es q v (second_true (below_all R e.0 es) (is_sorted R es) rises) later)
      ]

  rising : (m : FinMap R X) → is_sorted R (entries m) ≡ true
  rising m = so (is_sorted R (entries m)) (entries_sorted m)

  -- the entries of a map are what it has at its keys
  pub entry_has : IsTotalOrder R → (m : FinMap R X) (q : K) (v : X) → Contains (entries m) (q, v) → get m q ≡ Some v
  entry_has o m q v has = get-entries m q ∙ there_found o (entries m) q v (rising m) has

  pub has_entry : IsAntisymmetric R → (m : FinMap R X) (q : K) (v : X) → get m q ≡ Some v → Contains (entries m) (q, v)
  has_entry exact m q v h = found_there exact (entries m) q v (sym (get-entries m q) ∙ h)
