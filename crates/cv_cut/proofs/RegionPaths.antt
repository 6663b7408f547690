-- The region of a cut, by the entries of the tree.
use Rattle.std.proofs.Common.{◌≡◌, Bool, true, false, cond, Option, None, Some, List, [], ◌∷◌, ◌++◌, map, refl, sym, ap, ◌∙◌}
use Rattle.std.proofs.lemmas.Bool.{and_from}
use Rattle.std.specs.declared.cmp.Ordering.TheVariants.{Less}
use Rattle.std.specs.Ordering.{is_lt}
use Rattle.std.specs.List.{filter, AllByRecursion}
use Rattle.std.specs.List.Sorted.{IsStrictlySortedBy}
use Rattle.std.specs.Map.{keys_of}
use Rattle.std.specs.FinMap.{entries, is_sorted, entries_sorted}
use Rattle.std.specs.FinMap.Entries.{below_all}
use Rattle.cv_base.specs.Path.{Path, path_cmp, behind}
use Rattle.cv_base.proofs.Laws.{behind-Some, first_true, second_true, is_less, cmp-behind, path_total}
use Rattle.cv_tree.specs.Tree.{Nodes, at, cons_behind, entries_behind}
use Rattle.cv_tree.specs.declared.node.Node.{Node}
use Rattle.cv_tree.proofs.Laws.{entries-from_entries}
use Rattle.cv_cut.specs.Cuts.{is_near}
use Rattle.cv_cut.specs.Cut.{region_at}
use Rattle.cv_cut.proofs.Bools.{so}

-- whether a path is in the region of the cut at c
abbrev pub near_rest : Nodes → Option Path → Bool
near_rest u None = false
near_rest u (Some q) = is_near u q

abbrev pub is_in_region : Nodes → Path → Path → Bool
is_in_region t c p = near_rest (at t c) (behind c p)

module _ {X : Type 0} where
  below_behind : (c q : Path) (es : List (Path × X)) → below_all path_cmp (c ++ q) es ≡ true → below_all path_cmp q (entries_behind c es) ≡ true
  below_behind c q [] below = refl
  below_behind c q (e ∷ es) below =
      elim (behind c e.0) as (λ o. behind c e.0 ≡ o → below_all path_cmp q (cons_behind o e.1 (entries_behind c es)) ≡ true) [
        | None ↦ λ is. below_behind c q es (second_true (is_lt (path_cmp (c ++ q) e.0)) (below_all path_cmp (c ++ q) es) below)
        | Some r ↦ λ is. and_from (is_lt (path_cmp q r)) (below_all path_cmp q (entries_behind c es))
            (ap is_lt (sym (ap (path_cmp (c ++ q)) (behind-Some c e.0 r is) ∙ cmp-behind c q r)) ∙ first_true (is_lt (path_cmp (c ++ q) e.0)) (below_all path_cmp (c ++ q) es) below)
            (below_behind c q es (second_true (is_lt (path_cmp (c ++ q) e.0)) (below_all path_cmp (c ++ q) es) below))
      ] refl

  rises_behind : (c : Path) (es : List (Path × X)) → is_sorted path_cmp es ≡ true → is_sorted path_cmp (entries_behind c es) ≡ true
  rises_behind c [] rises = refl
  rises_behind c (e ∷ es) rises =
      elim (behind c e.0) as (λ o. behind c e.0 ≡ o → is_sorted path_cmp (cons_behind o e.1 (entries_behind c es)) ≡ true) [
        | None ↦ λ is. rises_behind c es (second_true (below_all path_cmp e.0 es) (is_sorted path_cmp es) rises)
        | Some r ↦ λ is. and_from (below_all path_cmp r (entries_behind c es)) (is_sorted path_cmp (entries_behind c es))
            (below_behind c r es (ap (λ (k : Path). below_all path_cmp k es) (sym (behind-Some c e.0 r is)) ∙ first_true (below_all path_cmp e.0 es) (is_sorted path_cmp es) rises))
            (rises_behind c es (second_true (below_all path_cmp e.0 es) (is_sorted path_cmp es) rises))
      ] refl

  keys_above : (k : Path) (es : List (Path × X)) → below_all path_cmp k es ≡ true → AllByRecursion (λ q. path_cmp k q ≡ Less) (keys_of es)
  keys_above k [] below = tt
  keys_above k (e ∷ es) below = (is_less (path_cmp k e.0) (first_true (is_lt (path_cmp k e.0)) (below_all path_cmp k es) below), keys_above k es (second_true (is_lt (path_cmp k e.0)) (below_all path_cmp k es) below))

  pub keys_rise : (es : List (Path × X)) → is_sorted path_cmp es ≡ true → IsStrictlySortedBy path_cmp (keys_of es)
  unfolding IsStrictlySortedBy
  keys_rise [] rises = tt
  keys_rise (e ∷ es) rises = (keys_above e.0 es (first_true (below_all path_cmp e.0 es) (is_sorted path_cmp es) rises), keys_rise es (second_true (below_all path_cmp e.0 es) (is_sorted path_cmp es) rises))

-- the entries of what stands at a path
entries-at : (t : Nodes) (c : Path) → entries (at t c) ≡ entries_behind c (entries t)
unfolding at
entries-at t c = entries-from_entries path_total (entries_behind c (entries t)) (keys_rise (entries_behind c (entries t)) (rises_behind c (entries t) (so (is_sorted path_cmp (entries t)) (entries_sorted t))))

region_behind : (u : Nodes) (c : Path) (es : List (Path × Node)) → filter (λ e. near_rest u (behind c e.0)) es ≡ map {B = Path × Node} (λ e. (c ++ e.0, e.1)) (filter (λ e. is_near u e.0) (entries_behind c es))
region_behind u c [] = refl
region_behind u c (e ∷ es) =
    elim (behind c e.0) as (λ o. behind c e.0 ≡ o → cond (near_rest u o) (e ∷ filter (λ e. near_rest u (behind c e.0)) es) (filter (λ e. near_rest u (behind c e.0)) es)
    ≡ map {B = Path × Node} (λ e. (c ++ e.0, e.1)) (filter (λ e. is_near u e.0) (cons_behind o e.1 (entries_behind c es)))) [
      | None ↦ λ is. region_behind u c es
      | Some q ↦ λ is.
          elim (is_near u q) as (λ b. cond b (e ∷ filter (λ e. near_rest u (behind c e.0)) es) (filter (λ e. near_rest u (behind c e.0)) es)
          ≡ map {B = Path × Node} (λ e. (c ++ e.0, e.1)) (cond b ((q, e.1) ∷ filter (λ e. is_near u e.0) (entries_behind c es)) (filter (λ e. is_near u e.0) (entries_behind c es)))) [
            | true ↦ let place = behind-Some c e.0 q is in let rest = region_behind u c es in λ i. (place i, e.1) ∷ rest i
            | false ↦ region_behind u c es
          ]
    ] refl

-- the entries whose paths are in the region
pub region_is : (t : Nodes) (c : Path) → filter (λ e. is_in_region t c e.0) (entries t) ≡ region_at t c
region_is t c = region_behind (at t c) c (entries t) ∙ ap (λ es. map {B = Path × Node} (λ e. (c ++ e.0, e.1)) (filter (λ e. is_near (at t c) e.0) es)) (sym (entries-at t c))
