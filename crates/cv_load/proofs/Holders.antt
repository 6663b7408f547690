-- Rows below which no rows may stand have their places in a tree that has the others.
use Rattle.std.proofs.Common.{◌≡◌, ◌≢◌, ℕ, ◌+◌, ◌<◌, ◌≤◌, true, false, List, [], ◌∷◌, ◌++◌, length, length-append, get_or, IfSome, IsSome, None, Some, Ok, Err, refl, sym, ap, subst, ◌∙◌, arith, inl, inr}
use Rattle.std.specs.Prelude.{Result, OnOk, OnErr}
use Rattle.std.specs.FinMap.{get, insert}
use Rattle.std.proofs.lemmas.Bool.{cases_lt}
use Rattle.std.proofs.lemmas.List.{get_or_append_left, get_or_default, get_or_push}
use Rattle.cv_base.specs.Path.{Path}
use Rattle.cv_base.specs.declared.memory.NoMemory.{NoMemory}
use Rattle.cv_tree.specs.Changes.{has_place}
use Rattle.cv_tree.specs.Tree.{Nodes}
use Rattle.cv_tree.specs.declared.node.Node.{Node}
use Rattle.cv_rows.specs.Row.{holds_rows}
use Rattle.cv_rows.specs.Catalogue.{Contents, IsCatalogue}
use Rattle.cv_rows.specs.Places.{IsRoot, StandsAt, StandEach}
use Rattle.cv_rows.specs.declared.row.Row.{Row}
use Rattle.cv_rows.proofs.Lemmas.{each_long, each_stands, stands_contained}
use Rattle.cv_cut.specs.Told.{node_of}
use Rattle.cv_cut.proofs.Lemmas.{root_holds}
use Rattle.cv_load.specs.Growth.{Grows, GrowsBy}
use Rattle.cv_load.specs.GrowthInner.{IsReady, HasHolders, HasRows}
use Rattle.cv_load.proofs.Below.{covers_long, stands_covered}
use Rattle.cv_load.proofs.Clearing.{place_below}
use Rattle.cv_load.proofs.Filling.{one_row}
use Rattle.cv_load.proofs.Growing.{added_alone, grows_added, grows_none, inserted_there, row_there, still_there}
use Rattle.cv_load.proofs.Standing.{so_root, so_below, stands_so}

-- what rows may stand below is still there in a tree that has grown
pub holders_grown : (c : Contents) (t u : Nodes) → Grows t u → HasHolders c t → HasHolders c u
holders_grown c t u grows there r q holds stands = still_there t u q grows (there r q holds stands)

no_root : (at : Path) (r : Row) → holds_rows r.kind ≡ false → IsRoot at r → ⊥
no_root at r held top = (let wrong : true ≡ false = sym (ap holds_rows top.kind ∙ root_holds at) ∙ held in cc)

-- any other row stands below the catalogue's place
held_apart : (c : Contents) (r : Row) (path : Path) → StandsAt c.at c.rows r path → holds_rows r.kind ≡ false → path ≢ c.at
held_apart c r path stands held same = elim (stands_so stands) [
  | so_root has top is ↦ no_root c.at r held top
  | so_below p front has other up child way ↦
      let long = covers_long c.at front (stands_covered up) in
      omega (arith, long, ap (λ (x : Path). length x) (sym same ∙ way), length-append front (r.name ∷ []))
]

-- its parent is a directory of the tree
pub held_place : (c : Contents) (r : Row) (path : Path) (t : Nodes) → IsCatalogue c → IsReady c.at c.rows t → HasHolders c t → StandsAt c.at c.rows r path → holds_rows r.kind ≡ false → has_place t path ≡ true
held_place c r path t is ready there stands held = elim (stands_so stands) [
  | so_root has top at_r ↦ absurd (no_root c.at r held top)
  | so_below p front has other up child way ↦
      place_below c r p path front t is ready (record { there = stands_contained up; child = child; stands = up; way = way }) (there p front child.holds up)
]

-- and no other node stands at its path
pub held_alone : (c : Contents) (r : Row) (path : Path) (t : Nodes) → IsCatalogue c → IsReady c.at c.rows t → StandsAt c.at c.rows r path → holds_rows r.kind ≡ false → IfSome (get t path) (λ there. there ≡ node_of r)
held_alone c r path t is ready stands held = elim (get t path) as (λ o. get t path ≡ o → IfSome o (λ there. there ≡ node_of r)) [
  | None ↦ λ _. tt
  | Some n ↦ λ e.
      let own = ready.below path n e (stands_covered stands) (held_apart c r path stands held) in
      own.is ∙ ap node_of (one_row c own.row r path is own.stands stands)
] refl

-- ---- by the answer of the call that sets its node

pub set_there : (r : Result (Unit {0}) NoMemory) (path : Path) (n : Node) (old new : Nodes) → OnOk r (new ≡ insert old path n) → OnOk r (IsSome (get new path))
set_there (Ok x) path n old new ok = inserted_there path n old new ok
set_there (Err lack) path n old new ok = tt

pub set_grows : (r : Result (Unit {0}) NoMemory) (c : Contents) (row : Row) (path : Path) (n : Node) (old new : Nodes) → StandsAt c.at c.rows row path → IfSome (get old path) (λ there. there ≡ node_of row) → n ≡ node_of row
    → OnOk r (new ≡ insert old path n) → OnErr r (new ≡ old) → GrowsBy c.at c.rows old new
set_grows (Ok x) c row path n old new stands alone is ok err = grows_added c.at c.rows row path old new stands (added_alone path row old new alone (ok ∙ ap (insert old path) is))
set_grows (Err lack) c row path n old new stands alone is ok err = subst (GrowsBy c.at c.rows old) (sym err) (grows_none c.at c.rows old)

-- ---- all rows, from the last on

-- each row has come but for the first of them, whose paths are left
pub record IsPlacedFrom (c : Contents) (left : List Path) (t : Nodes) : Type 0 where
  pub long : length left ≤ length c.rows
  pub stands : (k : ℕ) (d : Row) (e : Path) → k < length left → StandsAt c.at c.rows (get_or c.rows k d) (get_or left k e)
  pub there : (k : ℕ) (d : Row) (q : Path) → length left ≤ k → k < length c.rows → StandsAt c.at c.rows (get_or c.rows k d) q → IsSome (get t q)

pub placed_none : (c : Contents) (qs : List Path) (t : Nodes) → StandEach c.at c.rows c.rows qs → IsPlacedFrom c qs t
placed_none c qs t each =
    let same = each_long c.at c.rows c.rows qs each in
    record {
      long = omega (arith, same);
      stands = λ k d e lt. each_stands c.at c.rows c.rows qs k d e each (omega (arith, lt, same));
      there = λ k d q le lt s. absurd (omega (arith, same, le, lt));
    }

-- the row of the path that comes next
pub next_stands : (c : Contents) (left rest : List Path) (path : Path) (r : Row) (t : Nodes) → left ≡ rest ++ path ∷ [] → r ≡ get_or c.rows (length rest) r → IsPlacedFrom c left t → StandsAt c.at c.rows r path
next_stands c left rest path r t last row h =
    let lt : length rest < length left = omega (arith, ap length last, length-append rest (path ∷ [])) in
    let is : get_or left (length rest) path ≡ path = ap (λ (qs : List Path). get_or qs (length rest) path) last ∙ get_or_push rest path path (length rest) refl in
    subst (λ (x : Row). StandsAt c.at c.rows x path) (sym row) (subst (StandsAt c.at c.rows (get_or c.rows (length rest) r)) is (h.stands (length rest) r path lt))

pub placed_more : (c : Contents) (left rest : List Path) (path : Path) (t u : Nodes) → IsCatalogue c → left ≡ rest ++ path ∷ [] → IsPlacedFrom c left t → Grows t u → IsSome (get u path) → IsPlacedFrom c rest u
placed_more c left rest path t u is last h grows some =
    let long : length left ≡ length rest + 1 = ap length last ∙ length-append rest (path ∷ []) in
    record {
      long = omega (arith, long, h.long);
      stands = λ k d e lt.
          let same : get_or left k e ≡ get_or rest k e = ap (λ (qs : List Path). get_or qs k e) last ∙ get_or_append_left rest (path ∷ []) e k lt in
          subst (StandsAt c.at c.rows (get_or c.rows k d)) same (h.stands k d e (omega (arith, lt, long)));
      there = λ k d q le lt s. elim (cases_lt (length rest) k) [
        | inl less ↦ still_there t u q grows (h.there k d q (omega (arith, less, long)) lt s)
        | inr ge ↦
            let same : k ≡ length rest = omega (arith, ge, le) in
            let here : StandsAt c.at c.rows (get_or c.rows k d) path =
            next_stands c left rest path (get_or c.rows k d) t last (ap (λ (j : ℕ). get_or c.rows j d) same ∙ get_or_default c.rows (length rest) d (get_or c.rows k d) (omega (arith, same, lt))) h in
            row_there c (get_or c.rows k d) path q u is here some s
      ];
    }

pub placed_all : (c : Contents) (left : List Path) (t : Nodes) → length left ≡ 0 → IsPlacedFrom c left t → HasRows c t
placed_all c left t none h = λ r q s.
    let has = stands_contained s in
    h.there has.0 r q (omega (arith, none)) has.1 (subst (λ (x : Row). StandsAt c.at c.rows x q) (sym has.2) s)
