-- In the order of paths what a path covers is one run, which begins where the path stands.
use Rattle.std.proofs.Common.{◌≡◌, ℕ, Bool, true, false, cond, not, ◌&&◌, None, Some, List, [], ◌∷◌, refl, sym, ap, subst, ◌∙◌, is_some}
use Rattle.std.specs.declared.cmp.Ordering.{Ordering}
use Rattle.std.specs.declared.cmp.Ordering.TheVariants.{Less, Equal, Greater}
use Rattle.std.specs.declared.ops.Bound.TheVariants.{Included, Unbounded}
use Rattle.std.specs.Ordering.{is_lt, is_le, ordering_then, ordering_reverse}
use Rattle.std.specs.BTreeMap.Range.{entries_between, range_contains}
use Rattle.std.specs.Cmp.{tied_itself}
use Rattle.std.specs.Cmp.Lexicographic.{nat_list_cmp_total}
use Rattle.std.specs.List.{AllByRecursion, filter}
use Rattle.std.specs.Map.{keys_of}
use Rattle.std.proofs.lemmas.Bool.{not-true}
use Rattle.cv_base.specs.Path.{Path, path_cmp, same_name, behind, covers}
use Rattle.cv_base.proofs.Laws.{path_total, name_exact, same_name_is, same_name_itself}
use Rattle.cv_base.specs.BytesOrder.{bytes_cmp}
use Rattle.cv_tree.specs.Tree.{entries_behind, cons_behind}

-- ---- two paths

-- a path doesn't stand before one that covers it
pub covers_before : (d p : Path) → covers d p ≡ true → is_lt (path_cmp p d) ≡ false
covers_before [] [] h = refl
covers_before [] (b ∷ p) h = refl
covers_before (a ∷ d) [] h = cc
covers_before (a ∷ d) (b ∷ p) h =
    elim (same_name a b) as (λ s. same_name a b ≡ s → is_some (cond s (behind d p) None) ≡ true → is_lt (ordering_then (bytes_cmp b a) (path_cmp p d)) ≡ false) [
      | true ↦ λ e more.
          subst (λ (x : List ℕ). is_lt (ordering_then (bytes_cmp x a) (path_cmp p d)) ≡ false) (same_name_is a b e)
          (ap (λ o. is_lt (ordering_then o (path_cmp p d))) (tied_itself nat_list_cmp_total a) ∙ covers_before d p more)
      | false ↦ λ e more. cc
    ] refl h

-- between a path and one that it covers stand only paths that it covers
pub covers_between : (p q r : Path) → is_lt (path_cmp q p) ≡ false → path_cmp q r ≡ Less → covers p r ≡ true → covers p q ≡ true
covers_between [] q r from before h = refl
covers_between (a ∷ p) q [] from before h = cc
covers_between (a ∷ p) [] (c ∷ r) from before h = cc
covers_between (a ∷ p) (b ∷ q) (c ∷ r) from before h =
    elim (same_name a c) as (λ s. same_name a c ≡ s → is_some (cond s (behind p r) None) ≡ true → is_some (cond (same_name a b) (behind p q) None) ≡ true) [
      | true ↦ λ e more.
          let here : ordering_then (bytes_cmp b a) (path_cmp q r) ≡ Less = ap (λ (x : List ℕ). ordering_then (bytes_cmp b x) (path_cmp q r)) (same_name_is a c e) ∙ before in
          elim (bytes_cmp b a) as (λ o. bytes_cmp b a ≡ o → is_lt (ordering_then o (path_cmp q p)) ≡ false → ordering_then o (path_cmp q r) ≡ Less → is_some (cond (same_name a b) (behind p q) None) ≡ true) [
            | Less ↦ λ f g k. cc
            | Equal ↦ λ f g k. subst (λ (x : List ℕ). is_some (cond (same_name a x) (behind p q) None) ≡ true) (sym (name_exact b a f)) (rw (same_name_itself a) (covers_between p q r g k more))
            | Greater ↦ λ f g k. cc
          ] refl from here
      | false ↦ λ e more. cc
    ] refl h

-- ---- what stands from a path on

-- q doesn't stand before p
abbrev pub stands_from : Path → Path → Bool
stands_from p q = range_contains path_cmp (Included p) Unbounded q

reversed : (o : Ordering) → (is_le (ordering_reverse o) && true) ≡ not (is_lt o)
reversed Less = refl
reversed Equal = refl
reversed Greater = refl

stands_from-lt : (p q : Path) → stands_from p q ≡ not (is_lt (path_cmp q p))
stands_from-lt p q = ap (λ o. is_le o && true) (path_total.antisymm p q) ∙ reversed (path_cmp q p)

-- nothing that stands before a path is covered by it
before_it : (p q : Path) → stands_from p q ≡ false → behind p q ≡ None
before_it p q before =
    elim (behind p q) as (λ o. behind p q ≡ o → o ≡ None) [
      | None ↦ λ e. refl
      | Some r ↦ λ e. let from = stands_from-lt p q ∙ ap not (covers_before p q (ap is_some e)) in cc
    ] refl

-- nothing is covered behind a path that isn't
past_it : (p q r : Path) → stands_from p q ≡ true → behind p q ≡ None → path_cmp q r ≡ Less → behind p r ≡ None
past_it p q r from outside later =
    elim (behind p r) as (λ o. behind p r ≡ o → o ≡ None) [
      | None ↦ λ e. refl
      | Some s ↦ λ e.
          let not_before : not (is_lt (path_cmp q p)) ≡ true = sym (stands_from-lt p q) ∙ from in
          let inside = covers_between p q r (not-true (is_lt (path_cmp q p)) not_before) later (ap is_some e) in
          let none : covers p q ≡ false = ap is_some outside in
          cc
    ] refl

module _ {X : Type 0} where
  -- what a path covers is all there from the path on
  pub entries_behind-from : (p : Path) (es : List (Path × X)) → entries_behind p (entries_between path_cmp (Included p) Unbounded es) ≡ entries_behind p es
  entries_behind-from p [] = refl
  entries_behind-from p (e ∷ es) =
      let rest = entries_between path_cmp (Included p) Unbounded es in
      elim (stands_from p e.0) as (λ b. stands_from p e.0 ≡ b → entries_behind p (cond b (e ∷ rest) rest) ≡ cons_behind (behind p e.0) e.1 (entries_behind p es)) [
        | true ↦ λ from. ap (cons_behind (behind p e.0) e.1) (entries_behind-from p es)
        | false ↦ λ before. entries_behind-from p es ∙ ap (λ o. cons_behind o e.1 (entries_behind p es)) (sym (before_it p e.0 before))
      ] refl

  -- and ends at the first path that isn't covered
  pub entries_behind-past : (p k : Path) (es : List (Path × X)) → stands_from p k ≡ true → behind p k ≡ None → AllByRecursion (λ q. path_cmp k q ≡ Less) (keys_of es) → entries_behind p es ≡ []
  entries_behind-past p k [] from outside later = refl
  entries_behind-past p k (e ∷ es) from outside later = rw (past_it p k e.0 from outside later.0) (entries_behind-past p k es from outside later.1)

  pub keys_of-from : (p : Path) (es : List (Path × X)) → keys_of (entries_between path_cmp (Included p) Unbounded es) ≡ filter (stands_from p) (keys_of es)
  keys_of-from p [] = refl
  keys_of-from p (e ∷ es) =
      let rest = entries_between path_cmp (Included p) Unbounded es in
      elim (stands_from p e.0) as (λ b. keys_of (cond b (e ∷ rest) rest) ≡ cond b (e.0 ∷ filter (stands_from p) (keys_of es)) (filter (stands_from p) (keys_of es))) [
        | true ↦ ap (λ ks. e.0 ∷ ks) (keys_of-from p es)
        | false ↦ keys_of-from p es
      ]
