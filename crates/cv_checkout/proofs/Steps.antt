-- What single steps of a gift come to.
use Rattle.std.proofs.Common.{◌≡◌, ℕ, ◌+◌, ◌<◌, ◌≤◌, Bool, true, false, cond, not, List, [], ◌∷◌, ◌++◌, length, take, get_or, refl, sym, ap, subst, ◌∙◌, append-nil, ◌⊎◌, inl, inr, None, Some, IsSome, is_some, arith}
use Rattle.std.specs.Prelude.{Contains, filter}
use Rattle.std.specs.List.{AllZip}
use Rattle.std.specs.declared.option.Option.{Option}
use Rattle.std.specs.Option.{option_copied}
use Rattle.std.specs.Borrow.{Bor}
use Rattle.std.specs.FinMap.{get, insert, get-insert}
use Rattle.std.specs.Ordering.{is_eq, eq_by_cmp}
use Rattle.std.specs.Cmp.{tied_itself}
use Rattle.std.specs.List.Sorted.{IsPermutation}
use Rattle.std.proofs.lemmas.List.Elements.{Contains-append_left, Contains-push, Contains-push_cases, filter_more}
use Rattle.std.proofs.lemmas.List.Sorted.{IsPermutation-sym, Contains-permutation}
use Rattle.cv_base.specs.Path.{Path, path_cmp, overlap}
use Rattle.cv_base.proofs.Laws.{some_there, path_total, same_path_is}
use Rattle.cv_tree.specs.Node.{IsNode}
use Rattle.cv_tree.specs.Tree.{Nodes}
use Rattle.cv_tree.specs.declared.node.Node.{Node}
use Rattle.cv_rows.specs.Catalogue.{Contents, IsCatalogue}
use Rattle.cv_rows.specs.Places.{StandsAt}
use Rattle.cv_rows.specs.declared.row.Row.{Row}
use Rattle.cv_cut.specs.Told.{node_of}
use Rattle.cv_rows.proofs.Lemmas.{one_place, stands_contained}
use Rattle.cv_load.specs.Growth.{IsRootOf, IsRowNode}
use Rattle.cv_load.proofs.Lemmas.{each_all, each_more}
use Rattle.cv_checkout.specs.GrowingInner.{AreNodes, AreThere, IsGrown, KeepLimits}
use Rattle.cv_checkout.specs.Progress.{ComesTo, StartsFrom}
use Rattle.cv_checkout.proofs.Zips.{zip_push}

-- ---- the elements that pass, as far as a loop has come

module _ {X Y : Type 0} (R : X → Y → Type 0) (p : X → Bool) (xs : List X) (ys : List Y) (i : ℕ) (x : X) (lt : i < length xs) (is : x ≡ get_or xs i x) where
  one_more : (b : Bool) → p x ≡ b → filter p (take (i + 1) xs) ≡ filter p (take i xs) ++ cond b (x ∷ []) []
  one_more b pass =
      filter_more p xs i x lt
      ∙ ap (λ (z : X). filter p (take i xs) ++ cond (p z) (z ∷ []) []) (sym is)
      ∙ ap (λ (c : Bool). filter p (take i xs) ++ cond c (x ∷ []) []) pass

  pub zip_taken : (y : Y) → p x ≡ true → AllZip R (filter p (take i xs)) ys → R x y → AllZip R (filter p (take (i + 1) xs)) (ys ++ y ∷ [])
  zip_taken y pass zip r = subst (λ (l : List X). AllZip R l (ys ++ y ∷ [])) (sym (one_more true pass)) (zip_push R (filter p (take i xs)) ys x y zip r)

  pub zip_passed : p x ≡ false → AllZip R (filter p (take i xs)) ys → AllZip R (filter p (take (i + 1) xs)) ys
  zip_passed pass zip = subst (λ (l : List X). AllZip R l ys) (sym (one_more false pass ∙ append-nil (filter p (take i xs)))) zip

-- ---- nodes of rows

abbrev HasNodes : Path → Contents → List (Path × Node) → Row → Type 0
HasNodes p c nodes r = (q : Path) → StandsAt c.at c.rows r q → overlap p q ≡ true → Contains nodes (q, node_of r)

-- those of the first rows
pub record AreNodesOf (p : Path) (c : Contents) (i : ℕ) (nodes : List (Path × Node)) : Type 0 where
  pub each : (e : Path × Node) → Contains nodes e → IsRowNode c.at c.rows e.0 e.1
  pub all : (k : ℕ) (d : Row) → k < i → HasNodes p c nodes (get_or c.rows k d)
  pub limits : KeepLimits nodes

module _ (p : Path) (c : Contents) (i : ℕ) (nodes : List (Path × Node)) (r : Row) (q : Path) (is : IsCatalogue c) (lt : i < length c.rows) (item : r ≡ get_or c.rows i r) (stands : StandsAt c.at c.rows r q) (before : AreNodesOf p c i nodes) where
  pub node_pushed : (n : Node) → n ≡ node_of r → IsNode n → AreNodesOf p c (i + 1) (nodes ++ (q, n) ∷ [])
  node_pushed n node good =
      let more = nodes ++ (q, n) ∷ [] in
      record {
        each = λ e has. elim (Contains-push_cases nodes (q, n) e has) [
          | inl old ↦ before.each e old
          | inr new ↦ subst (λ (x : Path × Node). IsRowNode c.at c.rows x.0 x.1) new (record { row = r; stands = stands; is = node })
        ];
        all = each_more (HasNodes p c more) c.rows i r (λ k d less u st near. Contains-append_left nodes ((q, n) ∷ []) _ (before.all k d less u st near)) lt item
            (λ u st near. let at_u : (q, n) ≡ (u, node_of r) = λ j. (one_place is.ordered stands st j, node j) in subst (Contains more) at_u (Contains-push nodes (q, n)));
        limits = λ e has. elim (Contains-push_cases nodes (q, n) e has) [ inl old ↦ before.limits e old | inr new ↦ subst (λ (x : Path × Node). IsNode x.1) new good ];
      }

  pub node_passed : overlap p q ≡ false → AreNodesOf p c (i + 1) nodes
  node_passed away = record {
    each = before.each;
    all = each_more (HasNodes p c nodes) c.rows i r before.all lt item
        (λ u st near. absurd (let wrong : true ≡ false = sym near ∙ ap (overlap p) (sym (one_place is.ordered stands st)) ∙ away in cc));
    limits = before.limits;
  }

pub all_nodes : (p : Path) (c : Contents) (i : ℕ) (nodes : List (Path × Node)) → length c.rows ≤ i → AreNodesOf p c i nodes → AreNodes p c nodes
all_nodes p c i nodes le are = record {
  each = are.each;
  all = λ r q st near. each_all (HasNodes p c nodes) c.rows (λ k d lt. are.all k d (omega (arith, lt, le))) r (stands_contained st) q st near;
}

-- ---- nodes that come to a tree

abbrev IsThere : Nodes → Path × Node → Type 0
IsThere t e = IsSome (get t e.0)

pub record Adds (nodes : List (Path × Node)) (old new : Nodes) (i : ℕ) : Type 0 where
  pub grown : IsGrown nodes old new
  pub there : (k : ℕ) (d : Path × Node) → k < i → IsThere new (get_or nodes k d)

pub absent : (found : Option (Bor Node)) (o : Option Node) (b : Bool) → option_copied found ≡ o → is_some found ≡ not b → b ≡ true → o ≡ None
absent None o b copied test h = sym copied
absent (Some n) o b copied test h = absurd (let wrong : true ≡ false = test ∙ ap not h in cc)

pub present : (found : Option (Bor Node)) (o : Option Node) (b : Bool) → option_copied found ≡ o → is_some found ≡ not b → b ≡ false → IsSome o
present None o b copied test h = absurd (let wrong : false ≡ true = test ∙ ap not h in cc)
present (Some n) o b copied test h = ap is_some (sym copied)

module _ (nodes : List (Path × Node)) (old t : Nodes) (i : ℕ) (e : Path × Node) (lt : i < length nodes) (item : e ≡ get_or nodes i e) (before : Adds nodes old t i) where
  pub adds_there : IsSome (get t e.0) → Adds nodes old t (i + 1)
  adds_there some = record { grown = before.grown; there = each_more (IsThere t) nodes i e before.there lt item some }

  pub adds_one : (new : Nodes) → get t e.0 ≡ None → new ≡ insert t e.0 e.1 → Adds nodes old new (i + 1)
  adds_one new none is =
      let at_q : (q : Path) → get new q ≡ cond (eq_by_cmp path_cmp q e.0) (Some e.1) (get t q) = λ q. ap (λ (u : Nodes). get u q) is ∙ get-insert path_total t e.0 e.1 q in
      let kept : (q : Path) (n : Node) → get t q ≡ Some n → get new q ≡ Some n = λ q n was. at_q q ∙ elim (eq_by_cmp path_cmp q e.0) as (λ b. eq_by_cmp path_cmp q e.0 ≡ b → cond b (Some e.1) (get t q) ≡ Some n) [
        | true ↦ λ same. absurd (let wrong : None ≡ Some n = sym none ∙ ap (get t) (sym (same_path_is q e.0 same)) ∙ was in cc)
        | false ↦ λ other. was
      ] refl in
      record {
        grown = record {
          grows = λ q n was. kept q n (before.grown.grows q n was);
          comes = λ q n there. elim (eq_by_cmp path_cmp q e.0) as (λ b. eq_by_cmp path_cmp q e.0 ≡ b → cond b (Some e.1) (get t q) ≡ Some n → (get old q ≡ Some n) ⊎ Contains nodes (q, n)) [
            | true ↦ λ same f. inr (let node : e.1 ≡ n = cc in let one : e ≡ (q, n) = λ j. (sym (same_path_is q e.0 same) j, node j) in subst (Contains nodes) one (i, lt, sym item))
            | false ↦ λ other f. before.grown.comes q n f
          ] refl (sym (at_q q) ∙ there);
        };
        there = each_more (IsThere new) nodes i e
            (λ k d less. (let m = some_there (get t (get_or nodes k d).0) (before.there k d less) in ap is_some (kept (get_or nodes k d).0 m.0 m.1)))
            lt item (ap is_some (at_q e.0) ∙ ap (λ (b : Bool). is_some (cond b (Some e.1) (get t e.0))) (ap is_eq (tied_itself path_total e.0)));
      }

-- ---- where they come to

pub starts_some : (c : Contents) (old : Option Nodes) (u v : Nodes) → old ≡ Some u → v ≡ u → StartsFrom c old v
starts_some c old u v some is = subst (λ (o : Option Nodes). StartsFrom c o v) (sym some) is

pub starts_none : (c : Contents) (old : Option Nodes) (u v : Nodes) → old ≡ None → IsRootOf c u → v ≡ u → StartsFrom c old v
starts_none c old u v none root is = subst (λ (o : Option Nodes). StartsFrom c o v) (sym none) (subst (IsRootOf c) (sym is) root)

-- the nodes of a catalogue came, in whatever order
pub comes_by : (p : Path) (c : Contents) (old : Option Nodes) (u new : Nodes) (nodes sorted : List (Path × Node)) → StartsFrom c old u → AreNodes p c nodes → IsPermutation nodes sorted → IsGrown sorted u new → AreThere sorted new → ComesTo p c old (Some new)
comes_by p c old u new nodes sorted starts are moved grown there = record {
  before = u;
  starts = starts;
  after = new;
  is = refl;
  grows = record {
    grows = grown.grows;
    comes = λ q n e. elim (grown.comes q n e) [ inl was ↦ inl was | inr came ↦ inr (are.each (q, n) (Contains-permutation sorted nodes (q, n) (IsPermutation-sym nodes sorted moved) came)) ];
  };
  there = λ r q st near. there (q, node_of r) (Contains-permutation nodes sorted (q, node_of r) moved (are.all r q st near));
}

pub still_good : (nodes sorted : List (Path × Node)) → IsPermutation nodes sorted → KeepLimits nodes → KeepLimits sorted
still_good nodes sorted moved good e has = good e (Contains-permutation sorted nodes e (IsPermutation-sym nodes sorted moved) has)
