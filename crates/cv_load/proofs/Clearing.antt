-- What a catalogue's rows find in the tree, and leave to the catalogues below.
use Rattle.std.proofs.Common.{◌≡◌, ◌≢◌, ℕ, ◌+◌, ◌<◌, ◌≤◌, Bool, true, false, cond, not, List, [], ◌∷◌, length, get_or, Option, None, Some, IsSome, is_some, refl, sym, ap, subst, ◌∙◌, arith, length-append, inl, inr}
use Rattle.std.specs.Prelude.{Contains, Result, Ok, Err}
use Rattle.std.proofs.lemmas.Bool.{false_from_ne_true}
use Rattle.std.specs.FinMap.{get, empty, get-insert}
use Rattle.cv_base.specs.Path.{Path, covers}
use Rattle.cv_base.specs.Unless.{IsUnless}
use Rattle.cv_base.proofs.Laws.{some_there, covers_itself, path_total}
use Rattle.cv_tree.specs.Changes.{has_place, insertion}
use Rattle.cv_tree.specs.Tree.{Nodes, single, is_directory}
use Rattle.cv_tree.specs.declared.node.Node.{Node}
use Rattle.cv_tree.specs.declared.node.Node.TheVariants.{Dir}
use Rattle.cv_tree.specs.declared.tree_fault.TreeFault.{TreeFault}
use Rattle.cv_tree.specs.declared.tree_fault.TreeFault.TheVariants as tree_fault
use Rattle.cv_tree.proofs.Laws.{has_place-append}
use Rattle.cv_rows.specs.Row.{holds_rows}
use Rattle.cv_rows.specs.Catalogue.{Contents, IsCatalogue}
use Rattle.cv_rows.specs.Places.{StandsAt}
use Rattle.cv_rows.specs.declared.row.Row.{Row}
use Rattle.cv_rows.specs.declared.nested.Nested.{Nested}
use Rattle.cv_load.specs.Growth.{GrowsBy, IsRootOf}
use Rattle.cv_load.specs.GrowthInner.{IsClear, IsReady, ChangesBelow, HasRows}
use Rattle.cv_cut.specs.Told.{node_of}
use Rattle.cv_load.proofs.Growing.{StandsBelow}
use Rattle.cv_load.proofs.Filling.{one_row}
use Rattle.cv_load.proofs.Standing.{dir_of, so_root, so_below, stands_so}
use Rattle.cv_load.proofs.LoadedTree.{single_entry}
use Rattle.cv_load.proofs.Below.{covers_long, stands_covered, nothing_below, entries_apart, entry_below}
use Rattle.cv_cut.proofs.Lemmas.{transition_of, directory_node, holder_directory}

-- ---- what an insertion tells

abbrev pub Told : Nodes → Path → Result (Unit {0}) TreeFault → Type 0
Told t p answer = IsUnless tree_fault.NoMemory answer (insertion t p)

-- the answer, by what is asked of the tree
abbrev answer_of : Bool → Bool → Result (Unit {0}) TreeFault
answer_of place some = cond (not place) (Err tree_fault.NoParent) (cond some (Err tree_fault.Exists) (Ok tt))

-- a node came
pub told_new : (t : Nodes) (p : Path) (u : Unit {0}) → Told t p (Ok u) → (has_place t p ≡ true) × (get t p ≡ None)
told_new t p u told = by_answer (has_place t p) (get t p) told
  where
    by_answer : (place : Bool) (o : Option Node) → ◌≡◌ {A = Result (Unit {0}) TreeFault} (Ok u) (answer_of place (is_some o)) → (place ≡ true) × (o ≡ None)
    by_answer true None h = (refl, refl)
    by_answer true (Some n) h = absurd cc
    by_answer false o h = absurd cc

-- one was there
pub told_there : (t : Nodes) (p : Path) → Told t p (Err tree_fault.Exists) → (has_place t p ≡ true) × IsSome (get t p)
told_there t p (inl lack) = absurd cc
told_there t p (inr told) = by_answer (has_place t p) (get t p) told
  where
    by_answer : (place : Bool) (o : Option Node) → ◌≡◌ {A = Result (Unit {0}) TreeFault} (Err tree_fault.Exists) (answer_of place (is_some o)) → (place ≡ true) × IsSome o
    by_answer true None h = absurd cc
    by_answer true (Some n) h = (refl, refl)
    by_answer false o h = absurd cc

-- there was no place
pub told_no_place : (t : Nodes) (p : Path) → Told t p (Err tree_fault.NoParent) → has_place t p ≡ false
told_no_place t p (inl lack) = absurd cc
told_no_place t p (inr told) = by_answer (has_place t p) (get t p) told
  where
    by_answer : (place : Bool) (o : Option Node) → ◌≡◌ {A = Result (Unit {0}) TreeFault} (Err tree_fault.NoParent) (answer_of place (is_some o)) → place ≡ false
    by_answer true None h = absurd cc
    by_answer true (Some n) h = absurd cc
    by_answer false o h = refl

-- ---- the rows of a catalogue

pub ready_clear : (at : Path) (rows : List Row) (t : Nodes) → IsClear at t → IsReady at rows t
ready_clear at rows t clear = record {
  directory = clear.directory;
  below = λ q n e under other. absurd (other (clear.alone q (ap is_some e) under));
}

pub ready_grown : (at : Path) (rows : List Row) (t u : Nodes) → IsReady at rows t → GrowsBy at rows t u → IsReady at rows u
ready_grown at rows t u ready grown = record {
  directory = (let d = directory_node (get t at) ready.directory in ap is_directory (grown.grows at d.0 d.1) ∙ d.2);
  below = λ q n e under other. elim (grown.comes q n e) [ inl was ↦ ready.below q n was under other | inr new ↦ new ];
}

-- what stands at the path of a row below which rows may stand is a directory
holder_there : (c : Contents) (p : Row) (q : Path) (t : Nodes) → IsCatalogue c → IsReady c.at c.rows t → StandsAt c.at c.rows p q → holds_rows p.kind ≡ true → IsSome (get t q) → is_directory (get t q) ≡ true
holder_there c p q t is ready stands holds some = elim (stands_so stands) [
  | so_root has top at_p ↦ ap (λ (x : Path). is_directory (get t x)) at_p ∙ ready.directory
  | so_below o front has other up child way ↦
      let n = some_there (get t q) some in
      let apart : q ≢ c.at = λ same. (let long = covers_long c.at front (stands_covered up) in omega (arith, long, ap (λ (x : Path). length x) (sym same ∙ way), length-append front (p.name ∷ []))) in
      let own = ready.below q n.0 n.1 (stands_covered stands) apart in
      let one : own.row ≡ p = one_row c own.row p q is own.stands stands in
      ap is_directory (n.1 ∙ ap Some own.is) ∙ holder_directory own.row.kind own.row (subst (λ (x : Row). holds_rows x.kind ≡ true) (sym one) holds)
]

-- there is a place for the path of a row below it
pub place_below : (c : Contents) (r p : Row) (path front : Path) (t : Nodes) → IsCatalogue c → IsReady c.at c.rows t → StandsBelow c r p path front → IsSome (get t front) → has_place t path ≡ true
place_below c r p path front t is ready below some = ap (has_place t) below.way ∙ has_place-append t front r.name ∙ holder_there c p front t is ready below.stands below.child.holds some

-- ---- what the rows leave to nested catalogues

-- rows change nothing but at the catalogue's place and below it
pub grows_within : (at : Path) (rows : List Row) (t u : Nodes) → GrowsBy at rows t u → ChangesBelow at t u
grows_within at rows t u grown q outside =
    elim (get t q) as (λ o. get t q ≡ o → get u q ≡ get t q) [
      | Some n ↦ λ e. grown.grows q n e ∙ sym e
      | None ↦ λ e. elim (get u q) as (λ o. get u q ≡ o → o ≡ get t q) [
        | None ↦ λ f. sym e
        | Some n ↦ λ f. absurd (elim (grown.comes q n f) [
          | inl was ↦ (let wrong : None ≡ Some n = sym e ∙ was in cc)
          | inr new ↦ (let wrong : true ≡ false = sym (stands_covered new.stands) ∙ outside in cc)
        ])
      ] refl
    ] refl

-- where nothing was below the catalogue's place, its rows leave a directory at each nested entry, and nothing below it
pub entry_clear : (c : Contents) (n : Nested) (t u : Nodes) → IsCatalogue c → Contains c.nested n → IsClear c.at t → GrowsBy c.at c.rows t u → HasRows c u → IsClear n.path u
entry_clear c n t u is has clear grown there =
    let tr = transition_of c n is has in
    let ready = ready_grown c.at c.rows t u (ready_clear c.at c.rows t clear) grown in
    let own = λ (q : Path) (under : covers n.path q ≡ true) (m : Node) (e : get u q ≡ Some m). (let at_q = entry_below c n q is has under in ready.below q m e at_q.0 at_q.1) in
    let m = some_there (get u n.path) (there tr.0 n.path tr.1.stands) in
    let row = own n.path (covers_itself n.path) m.0 m.1 in
    let one : row.row ≡ tr.0 = one_row c row.row tr.0 n.path is row.stands tr.1.stands in
    record {
      directory = ap is_directory (m.1 ∙ ap Some (row.is ∙ ap node_of one ∙ dir_of tr.0 tr.1.kind));
      alone = λ q some under.
          let k = some_there (get u q) some in
          sym (nothing_below is tr.1.stands tr.1.kind (own q under k.0 k.1).stands under);
    }

-- ---- what nested catalogues leave to each other

-- what is clear stays so where nothing changes but elsewhere
clear_kept : (p r : Path) (t u : Nodes) → ((q : Path) → covers p q ≡ true → covers r q ≡ true → ⊥) → ChangesBelow p t u → IsClear r t → IsClear r u
clear_kept p r t u apart changes clear =
    let same : (q : Path) → covers r q ≡ true → get u q ≡ get t q = λ q under. changes q (false_from_ne_true (covers p q) (λ over. apart q over under)) in
    record {
      directory = ap is_directory (same r (covers_itself r)) ∙ clear.directory;
      alone = λ q some under. clear.alone q (subst IsSome (same q under) some) under;
    }

-- those of the later entries of a catalogue
abbrev pub AreClear : Contents → ℕ → Nodes → Type 0
AreClear c i t = (k : ℕ) (n : Nested) → i ≤ k → k < length c.nested → get_or c.nested k n ≡ n → IsClear n.path t

pub clear_first : (c : Contents) (t u : Nodes) → IsCatalogue c → IsClear c.at t → GrowsBy c.at c.rows t u → HasRows c u → AreClear c 0 u
clear_first c t u is clear grown there k n le lt at = entry_clear c n t u is (k, lt, at) clear grown there

pub clear_more : (c : Contents) (n : Nested) (i : ℕ) (t u : Nodes) → IsCatalogue c → i < length c.nested → n ≡ get_or c.nested i n → ChangesBelow n.path t u → AreClear c i t → AreClear c (i + 1) u
clear_more c n i t u is lt item changes clear k m le inside at =
    clear_kept n.path m.path t u (λ q first second. entries_apart c i k n m q is (omega (arith, le)) lt inside (sym item) at first second) changes (clear k m (omega (arith, le)) inside at)

-- nothing has changed but at the catalogue's place and below it
pub changes_more : (c : Contents) (n : Nested) (t u v : Nodes) → IsCatalogue c → Contains c.nested n → ChangesBelow c.at t u → ChangesBelow n.path u v → ChangesBelow c.at t v
changes_more c n t u v is has first later q outside =
    later q (false_from_ne_true (covers n.path q) (λ under. let over = (entry_below c n q is has under).0 in let wrong : true ≡ false = sym over ∙ outside in cc)) ∙ first q outside

-- ---- the root

pub root_clear : (c : Contents) (t : Nodes) → c.at ≡ [] → IsRootOf c t → IsClear c.at t
root_clear c t place is =
    let here : get (single (Dir is.0.attr)) [] ≡ Some (Dir is.0.attr) = get-insert path_total empty [] (Dir is.0.attr) [] in
    let same : get t c.at ≡ Some (Dir is.0.attr) = ap (λ (u : Nodes). get u c.at) is.3 ∙ ap (λ (p : Path). get (single (Dir is.0.attr)) p) place ∙ here in
    record {
      directory = ap is_directory same;
      alone = λ q some under. (let n = some_there (get t q) some in (single_entry (Dir is.0.attr) q n.0 (ap (λ (u : Nodes). get u q) (sym is.3) ∙ n.1)).0 ∙ sym place);
    }
