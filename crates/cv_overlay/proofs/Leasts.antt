-- The least of the bad whiteouts.
use Rattle.std.proofs.Common.{◌≡◌, ◌≢◌, Bool, true, false, cond, ◌&&◌, List, ℕ, [], ◌∷◌, is_some, refl, sym, ap, subst, ◌∙◌}
use Rattle.std.specs.Prelude.{IfSome}
use Rattle.std.specs.declared.cmp.Ordering.{Ordering}
use Rattle.std.specs.declared.cmp.Ordering.TheVariants.{Less, Equal, Greater}
use Rattle.std.specs.declared.option.Option.{Option}
use Rattle.std.specs.declared.option.Option.TheVariants.{None, Some}
use Rattle.std.specs.Ordering.{ordering_reverse, is_lt, eq_by_cmp}
use Rattle.std.specs.Cmp.{IsTotalOrder}
use Rattle.std.specs.Cmp.Lexicographic.{nat_list_cmp_total}
use Rattle.std.specs.List.{AllByRecursion}
use Rattle.std.specs.FinMap.{find, get, entries, get-entries}
use Rattle.cv_base.specs.Path.{Path, path_cmp, text_of, parent, last_name_of}
use Rattle.cv_base.proofs.Laws.{same_path_is}
use Rattle.cv_base.specs.BytesOrder.{bytes_cmp}
use Rattle.cv_tree.specs.declared.node.Node.{Node}
use Rattle.cv_tree.specs.Tree.{Nodes}
use Rattle.cv_overlay.specs.Whiteout.{is_bad_at, is_bad}
use Rattle.cv_overlay.specs.LeastInner.{lesser, least_from, IsLeast}

abbrev Le : List ℕ → List ℕ → Type 0
Le a b = bytes_cmp a b ≢ Greater

le_trans : (a b c : List ℕ) → Le a b → Le b c → Le a c
le_trans a b c ab bc =
    let o : IsTotalOrder bytes_cmp = nat_list_cmp_total in
    elim (bytes_cmp a b) as (λ r. bytes_cmp a b ≡ r → r ≢ Greater → Le a c) [
      | Greater ↦ λ _ no. absurd (no refl)
      | Equal ↦ λ e _ g. bc (sym (o.congr a b c e) ∙ g)
      | Less ↦ λ e _. elim (bytes_cmp b c) as (λ r. bytes_cmp b c ≡ r → r ≢ Greater → Le a c) [
        | Greater ↦ λ _ no. absurd (no refl)
        | Less ↦ λ f _ g. let h : Less ≡ Greater = sym (o.trans a b c e f) ∙ g in cc
        | Equal ↦ λ f _ g.
            let back : bytes_cmp c b ≡ Equal = o.antisymm c b ∙ ap ordering_reverse f in
            let h : Less ≡ Greater = sym e ∙ o.antisymm a b ∙ ap ordering_reverse (sym (o.congr c b a back)) ∙ sym (o.antisymm a c) ∙ g in cc
      ] refl bc
    ] refl ab

not_less : (r : Ordering) → is_lt r ≡ false → ordering_reverse r ≢ Greater
not_less Less h g = cc
not_less Equal h g = cc
not_less Greater h g = cc

less_le : (r : Ordering) → is_lt r ≡ true → r ≢ Greater
less_le Less h g = cc
less_le Equal h g = cc
less_le Greater h g = cc

le_self : (a : List ℕ) → Le a a
le_self a g = let o : IsTotalOrder bytes_cmp = nat_list_cmp_total in let h : Greater ≡ Less = sym g ∙ o.antisymm a a ∙ ap ordering_reverse g in cc

bad_lesser : (c : Nodes) (best : Option Path) (q : Path) → IfSome best (λ p. is_bad_at c p ≡ true) → is_bad_at c q ≡ true → IfSome (lesser best q) (λ p. is_bad_at c p ≡ true)
bad_lesser c None q h bad = bad
bad_lesser c (Some p) q h bad = elim (is_lt (bytes_cmp (text_of q) (text_of p))) as (λ b. IfSome (cond b (Some q) (Some p)) (λ r. is_bad_at c r ≡ true)) [ true ↦ bad | false ↦ h ]

bad_from : (c : Nodes) (best : Option Path) (es : List (Path × Node)) → IfSome best (λ p. is_bad_at c p ≡ true) → IfSome (least_from c best es) (λ p. is_bad_at c p ≡ true)
bad_from c best [] h = h
bad_from c best (e ∷ es) h = bad_from c (cond (is_bad_at c e.0) (lesser best e.0) best) es
    (elim (is_bad_at c e.0) as (λ b. is_bad_at c e.0 ≡ b → IfSome (cond b (lesser best e.0) best) (λ p. is_bad_at c p ≡ true)) [
      | true ↦ λ bad. bad_lesser c best e.0 h bad
      | false ↦ λ _. h
    ] refl)

-- below what was the best, and below q
lesser_le : (best : Option Path) (p q : Path) → IfSome (lesser best q) (λ r. Le (text_of p) (text_of r)) → IfSome best (λ r. Le (text_of p) (text_of r)) × Le (text_of p) (text_of q)
lesser_le None p q h = (tt, h)
lesser_le (Some r) p q h =
    let o : IsTotalOrder bytes_cmp = nat_list_cmp_total in
    elim (is_lt (bytes_cmp (text_of q) (text_of r))) as (λ b. is_lt (bytes_cmp (text_of q) (text_of r)) ≡ b → IfSome (cond b (Some q) (Some r)) (λ x. Le (text_of p) (text_of x)) → Le (text_of p) (text_of r) × Le (text_of p) (text_of q)) [
      | true ↦ λ e k. (le_trans (text_of p) (text_of q) (text_of r) k (less_le (bytes_cmp (text_of q) (text_of r)) e), k)
      | false ↦ λ e k. (k, le_trans (text_of p) (text_of r) (text_of q) k (λ g. not_less (bytes_cmp (text_of q) (text_of r)) e (sym (o.antisymm (text_of r) (text_of q)) ∙ g)))
    ] refl h

below_from : (c : Nodes) (best : Option Path) (es : List (Path × Node)) (p : Path) → least_from c best es ≡ Some p
    → IfSome best (λ r. Le (text_of p) (text_of r)) × AllByRecursion (λ e. is_bad_at c e.0 ≡ true → Le (text_of p) (text_of e.0)) es
below_from c None [] p h = (tt, tt)
below_from c (Some r) [] p h = let same : r ≡ p = cc in (rw same (le_self (text_of p)), tt)
below_from c best (e ∷ es) p h =
    let rest = below_from c (cond (is_bad_at c e.0) (lesser best e.0) best) es p h in
    elim (is_bad_at c e.0) as (λ b. is_bad_at c e.0 ≡ b → IfSome (cond b (lesser best e.0) best) (λ r. Le (text_of p) (text_of r))
    → IfSome best (λ r. Le (text_of p) (text_of r)) × ((is_bad_at c e.0 ≡ true → Le (text_of p) (text_of e.0)) × AllByRecursion (λ x. is_bad_at c x.0 ≡ true → Le (text_of p) (text_of x.0)) es)) [
      | true ↦ λ bad k. let both = lesser_le best p e.0 k in (both.0, ((λ _. both.1), rest.1))
      | false ↦ λ good k. (k, ((λ bad. absurd (let no : true ≡ false = sym bad ∙ good in cc)), rest.1))
    ] refl rest.0

some_lesser : (best : Option Path) (q : Path) → lesser best q ≢ None
some_lesser None q h = cc
some_lesser (Some p) q h = elim (is_lt (bytes_cmp (text_of q) (text_of p))) as (λ b. cond b (Some q) (Some p) ≡ None → ⊥) [ true ↦ λ e. cc | false ↦ λ e. cc ] h

none_from : (c : Nodes) (best : Option Path) (es : List (Path × Node)) → least_from c best es ≡ None → (best ≡ None) × AllByRecursion (λ e. is_bad_at c e.0 ≡ false) es
none_from c best [] h = (h, tt)
none_from c best (e ∷ es) h =
    let rest = none_from c (cond (is_bad_at c e.0) (lesser best e.0) best) es h in
    elim (is_bad_at c e.0) as (λ b. is_bad_at c e.0 ≡ b → cond b (lesser best e.0) best ≡ None → (best ≡ None) × ((is_bad_at c e.0 ≡ false) × AllByRecursion (λ x. is_bad_at c x.0 ≡ false) es)) [
      | true ↦ λ bad k. absurd (some_lesser best e.0 k)
      | false ↦ λ good k. (k, (good, rest.1))
    ] refl rest.0

key_all : (P : Path → Type 0) (es : List (Path × Node)) (q : Path) → AllByRecursion (λ e. P e.0) es → is_some (find path_cmp q es) ≡ true → P q
key_all P [] q all there = cc
key_all P (e ∷ es) q all there =
    elim (eq_by_cmp path_cmp q e.0) as (λ b. eq_by_cmp path_cmp q e.0 ≡ b → is_some (cond b (Some e.1) (find path_cmp q es)) ≡ true → P q) [
      | true ↦ λ same _. let k : e.0 ≡ q = sym (same_path_is q e.0 same) in subst P k (all.0)
      | false ↦ λ _ k. key_all P es q (all.1) k
    ] refl there

bad_there : (c : Nodes) (q : Path) → is_bad_at c q ≡ true → is_some (find path_cmp q (entries c)) ≡ true
bad_there c q bad = ap is_some (sym (get-entries c q)) ∙ elim (is_some (get c q)) as (λ (b : Bool). (b && is_bad c (parent q) (last_name_of q) (get c q)) ≡ true → b ≡ true) [ true ↦ λ _. refl | false ↦ λ e. e ] bad

pub least_is : (c : Nodes) (found : Option Path) → least_from c None (entries c) ≡ found → IsLeast c found
least_is c None h = λ q. elim (is_bad_at c q) as (λ b. is_bad_at c q ≡ b → b ≡ false) [
  | true ↦ λ bad. absurd (let no : true ≡ false = sym bad ∙ key_all (λ p. is_bad_at c p ≡ false) (entries c) q ((none_from c None (entries c) h).1) (bad_there c q bad) in cc)
  | false ↦ λ _. refl
] refl
least_is c (Some q) h = record {
  bad = subst (λ (o : Option Path). IfSome o (λ p. is_bad_at c p ≡ true)) h (bad_from c None (entries c) tt);
  least = λ r bad. key_all (λ p. is_bad_at c p ≡ true → Le (text_of q) (text_of p)) (entries c) r ((below_from c None (entries c) q h).1) (bad_there c r bad) bad;
}
