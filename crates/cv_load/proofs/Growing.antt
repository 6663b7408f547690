-- How a tree grows by rows.
use Rattle.std.proofs.Common.{◌≡◌, ◌≢◌, ℕ, ◌+◌, ◌<◌, Bool, true, false, cond, List, [], ◌∷◌, ◌++◌, length, get_or, IfSome, None, Some, IsSome, is_some, refl, sym, ap, subst, ◌∙◌, arith, length-append, ◌⊎◌, inl, inr}
use Rattle.std.specs.Prelude.{Contains}
use Rattle.std.specs.declared.option.Option.{Option}
use Rattle.std.specs.Ordering.{is_eq, eq_by_cmp}
use Rattle.std.specs.Cmp.{tied_itself}
use Rattle.std.specs.FinMap.{get, insert, get-insert}
use Rattle.std.proofs.lemmas.Bool.{cases_lt}
use Rattle.std.proofs.lemmas.List.{get_or_default}
use Rattle.cv_base.specs.Path.{Path, path_cmp, parent}
use Rattle.cv_base.proofs.Laws.{parent-append, some_there, path_total, same_path_is}
use Rattle.cv_tree.specs.Tree.{Nodes}
use Rattle.cv_tree.specs.declared.node.Node.{Node}
use Rattle.cv_rows.specs.Catalogue.{Contents, IsCatalogue}
use Rattle.cv_rows.specs.Places.{IsChild, StandsAt, root, below}
use Rattle.cv_rows.specs.declared.row.Row.{Row}
use Rattle.cv_rows.proofs.Lemmas.{stands_contained, same_by_key, one_place, stands_long}
use Rattle.cv_load.specs.Growth.{Grows, GrowsBy}
use Rattle.cv_load.specs.GrowthInner.{IsAdded}
use Rattle.cv_cut.specs.Told.{node_of}

-- ---- growth

-- what was there is still there
pub still_there : (old new : Nodes) (q : Path) → Grows old new → IsSome (get old q) → IsSome (get new q)
still_there old new q grows some = let n = some_there (get old q) some in ap is_some (grows q n.0 n.1)

pub added_alone : (path : Path) (r : Row) (old new : Nodes) → IfSome (get old path) (λ there. there ≡ node_of r) → new ≡ insert old path (node_of r) → IsAdded path r old new
added_alone path r old new alone is =
    let there : (q : Path) → get new q ≡ cond (eq_by_cmp path_cmp q path) (Some (node_of r)) (get old q) = λ q. ap (λ (t : Nodes). get t q) is ∙ get-insert path_total old path (node_of r) q in
    record {
      grows = λ q n e. there q ∙ elim (eq_by_cmp path_cmp q path) as (λ b. eq_by_cmp path_cmp q path ≡ b → cond b (Some (node_of r)) (get old q) ≡ Some n) [
        | true ↦ λ same. ap Some (sym (subst (λ (o : Option Node). IfSome o (λ m. m ≡ node_of r)) (sym (ap (get old) (same_path_is q path same)) ∙ e) alone))
        | false ↦ λ other. e
      ] refl;
      comes = λ q n e. elim (eq_by_cmp path_cmp q path) as (λ b. eq_by_cmp path_cmp q path ≡ b → cond b (Some (node_of r)) (get old q) ≡ Some n → (get old q ≡ Some n) ⊎ ((q ≡ path) × (n ≡ node_of r))) [
        | true ↦ λ same f. inr (same_path_is q path same, sym cc)
        | false ↦ λ other f. inl f
      ] refl (sym (there q) ∙ e);
    }

pub added_by_insert : (path : Path) (r : Row) (old new : Nodes) → get old path ≡ None → new ≡ insert old path (node_of r) → IsAdded path r old new
added_by_insert path r old new absent is = added_alone path r old new (subst (λ (o : Option Node). IfSome o (λ there. there ≡ node_of r)) (sym absent) tt) is

pub inserted_there : (path : Path) (n : Node) (old new : Nodes) → new ≡ insert old path n → IsSome (get new path)
inserted_there path n old new is =
    ap (λ (t : Nodes). is_some (get t path)) is ∙ ap is_some (get-insert path_total old path n path) ∙ ap (λ (b : Bool). is_some (cond b (Some n) (get old path))) (ap is_eq (tied_itself path_total path))

-- ---- growth by the rows of a catalogue

pub grows_none : (at : Path) (rows : List Row) (t : Nodes) → GrowsBy at rows t t
grows_none at rows t = record { grows = λ q n e. e; comes = λ q n e. inl e }

pub grows_more : (at : Path) (rows : List Row) (a b c : Nodes) → GrowsBy at rows a b → GrowsBy at rows b c → GrowsBy at rows a c
grows_more at rows a b c first then = record {
  grows = λ q n e. then.grows q n (first.grows q n e);
  comes = λ q n e. elim (then.comes q n e) [ inl before ↦ first.comes q n before | inr new ↦ inr new ];
}

pub grows_added : (at : Path) (rows : List Row) (r : Row) (path : Path) (a b : Nodes) → StandsAt at rows r path → IsAdded path r a b → GrowsBy at rows a b
grows_added at rows r path a b stands added = record {
  grows = added.grows;
  comes = λ q n e. elim (added.comes q n e) [
    | inl before ↦ inl before
    | inr new ↦ inr (record { row = r; stands = subst (StandsAt at rows r) (sym new.0) stands; is = new.1 })
  ];
}

-- ---- the parent of a row

-- where a row stands
pub place_of : (c : Contents) (r : Row) → IsCatalogue c → Contains c.rows r → (q : Path) × StandsAt c.at c.rows r q
place_of c r is has =
    let p = is.region.placed has.0 r has.1 in
    (p.0, subst (λ (x : Row). StandsAt c.at c.rows x p.0) has.2 p.1)

-- a row stands at a path, and its parent directly above
pub record StandsBelow (c : Contents) (r p : Row) (path front : Path) : Type 0 where
  pub there : Contains c.rows p
  pub child : IsChild r p
  pub stands : StandsAt c.at c.rows p front
  pub way : path ≡ front ++ r.name ∷ []

-- so does each row that stands deeper than the catalogue's place
pub parent_of : (c : Contents) (r : Row) (path : Path) → StandsAt c.at c.rows r path → length path ≢ length c.at → (p : Row) × (front : Path) × StandsBelow c r p path front
parent_of c r path (root has is) deeper = absurd (deeper refl)
parent_of c r path (below {p = p} {q = q} has other s child) deeper =
    (p, q, record { there = stands_contained s; child = child; stands = s; way = refl })

-- the row with the parent's key is the parent, and stands at the path above
pub parent_by_key : (c : Contents) (r p : Row) (path front : Path) → IsCatalogue c → StandsAt c.at c.rows r path → length path ≢ length c.at → Contains c.rows p → p.key.0 ≡ r.parent.0 → front ≡ parent path → StandsBelow c r p path front
parent_by_key c r p path front is stands deeper has key up =
    let o = parent_of c r path stands deeper in
    let row : o.0 ≡ p = same_by_key c.rows o.0 p is.ordered o.2.there has (sym o.2.child.parent ∙ sym key) in
    let place : o.1 ≡ front = sym (parent-append o.1 r.name) ∙ ap parent (sym o.2.way) ∙ sym up in
    subst (λ (q : Path). StandsBelow c r p path q) place (subst (λ (x : Row). StandsBelow c r x path o.1) row o.2)

-- and the others stand at the place itself
pub stands_at_place : (c : Contents) (r : Row) (path : Path) → StandsAt c.at c.rows r path → length path ≡ length c.at → path ≡ c.at
stands_at_place c r path (root has is) same = refl
stands_at_place c r path (below {q = q} has other s child) same = absurd (let long = stands_long s in omega (arith, long, same, length-append q (r.name ∷ [])))

-- ---- all rows

-- a row's path is there, where it was found
pub row_there : (c : Contents) (r : Row) (path q : Path) (t : Nodes) → IsCatalogue c → StandsAt c.at c.rows r path → IsSome (get t path) → StandsAt c.at c.rows r q → IsSome (get t q)
row_there c r path q t is found some s = subst (λ (p : Path). IsSome (get t p)) (one_place is.ordered found s) some

-- ---- loops over a list

-- one more element
pub each_more : {X : Type 0} (P : X → Type 0) (xs : List X) (i : ℕ) (x : X) → ((k : ℕ) (d : X) → k < i → P (get_or xs k d)) → i < length xs → x ≡ get_or xs i x → P x → (k : ℕ) (d : X) → k < i + 1 → P (get_or xs k d)
each_more P xs i x before lt is here k d le =
    elim (cases_lt k i) [
      | inl below_i ↦ before k d below_i
      | inr above_i ↦
          let same : k ≡ i = omega (arith, le, above_i) in
          subst P (is ∙ ap (λ (j : ℕ). get_or xs j x) (sym same) ∙ get_or_default xs k x d (omega (arith, lt, same))) here
    ]

-- all of them
pub each_all : {X : Type 0} (P : X → Type 0) (xs : List X) → ((k : ℕ) (d : X) → k < length xs → P (get_or xs k d)) → (x : X) → Contains xs x → P x
each_all P xs each x has = subst P has.2 (each has.0 x has.1)

-- the element of a loop, in the list that the loop goes over
pub item_of : {X : Type 0} (xs ys : List X) (i : ℕ) (x : X) → ys ≡ xs → i < length ys → x ≡ get_or ys i x → (i < length xs) × (x ≡ get_or xs i x)
item_of {X} xs ys i x same lt is = (subst (λ (zs : List X). i < length zs) same lt, is ∙ ap (λ (zs : List X). get_or zs i x) same)
