-- The kind of the row of a path, by the path behind its cut.
use Rattle.std.proofs.Common.{◌≡◌, ◌≢◌, ℕ, true, cond, Option, None, Some, List, [], ◌∷◌, ◌++◌, ◌+◌, map, length, get_or, length-append, refl, sym, ap, subst, ◌∙◌, append-nil, arith, is_some, Result, Ok, Err}
use Rattle.std.specs.Prelude.{IfOk, unwrap_or}
use Rattle.std.specs.List.{All}
use Rattle.std.proofs.lemmas.List.Elements.{All-map}
use Rattle.cv_base.specs.Path.{Path, behind, covers}
use Rattle.cv_base.proofs.Laws.{behind-Some, behind-append}
use Rattle.cv_base.specs.declared.attr.Attr.{Attr}
use Rattle.cv_tree.specs.Tree.{Nodes, at}
use Rattle.cv_tree.specs.declared.node.FileRef.{FileRef}
use Rattle.cv_tree.specs.declared.node.Node.{Node}
use Rattle.cv_tree.specs.declared.node.Node.TheVariants as node
use Rattle.cv_rows.specs.Places.{root_kind}
use Rattle.cv_rows.specs.declared.row.Row.{Row}
use Rattle.cv_rows.specs.declared.row_kind.RowKind.{RowKind}
use Rattle.cv_rows.specs.declared.row_kind.RowKind.TheVariants.{Directory, Transition, File, Link}
use Rattle.cv_cut.specs.Cuts.{is_marked, region}
use Rattle.cv_cut.specs.Catalogues.{kind_of, row_of}
use Rattle.cv_cut.specs.Cut.{rest_of, row_in, region_at}
use Rattle.cv_cut.proofs.Between.{marked-at}
use Rattle.cv_cut.proofs.RegionLists.{row_list}
use Rattle.cv_cut.specs.Region.{row_at}

-- what is behind a cut that covers the path
pub rest_is : (c p : Path) → covers c p ≡ true → p ≡ c ++ rest_of c p
rest_is c p h = by_rest (behind c p) refl h
  where
    by_rest : (o : Option Path) → behind c p ≡ o → is_some o ≡ true → p ≡ c ++ unwrap_or o []
    by_rest None e h = cc
    by_rest (Some q) e h = behind-Some c p q e

-- the path of the cut itself
pub kind_here : (t : Nodes) (c p : Path) (n : Node) (cs ps : Path) → covers c p ≡ true → ps ≡ p → cs ≡ c → length ps ≡ length cs → root_kind c ≡ kind_of c (at t c) (rest_of c p) n
kind_here t c p n cs ps h ps-is cs-is same =
    ap (λ (q : Path). kind_of c (at t c) q n) (sym (empty (rest_of c p) (ap length (rest_is c p h) ∙ length-append c (rest_of c p)) (ap length (sym ps-is) ∙ same ∙ ap length cs-is)))
  where
    empty : (q : Path) → length p ≡ length c + length q → length p ≡ length c → q ≡ []
    empty [] long short = refl
    empty (a ∷ q) long short = absurd (omega arith)

-- the kinds of paths below it
pub record HasKinds (t : Nodes) (c p q : Path) : Type 0 where
  pub directory : (attr : Attr) → kind_of c (at t c) q (node.Dir attr) ≡ cond (is_marked t p) Transition Directory
  pub file : (attr : Attr) (file : FileRef) → kind_of c (at t c) q (node.File attr file) ≡ File
  pub link : (attr : Attr) (target : List ℕ) → kind_of c (at t c) q (node.Link attr target) ≡ Link

has_kinds : (t : Nodes) (c p q : Path) → p ≡ c ++ q → q ≢ [] → HasKinds t c p q
has_kinds t c p [] is some = absurd (some refl)
has_kinds t c p (a ∷ q) is some = record {
  directory = λ attr. ap (λ b. cond b Transition Directory) (sym (marked-at t c (a ∷ q)) ∙ ap (is_marked t) (sym is));
  file = λ attr file. refl;
  link = λ attr target. refl;
}

pub kind_below : (t : Nodes) (c p cs ps : Path) → covers c p ≡ true → ps ≡ p → cs ≡ c → length ps ≢ length cs → HasKinds t c p (rest_of c p)
kind_below t c p cs ps h ps-is cs-is other =
    has_kinds t c p (rest_of c p) (rest_is c p h) (λ none. other (ap length (ps-is ∙ rest_is c p h ∙ ap (λ (q : Path). c ++ q) none ∙ append-nil c ∙ sym cs-is)))

pub directory_below : {E : Type 0} (t : Nodes) (c p : Path) (n : Node) (attr : Attr) (r : Result RowKind E) → HasKinds t c p (rest_of c p) → n ≡ node.Dir attr
    → IfOk r (λ kind. kind ≡ cond (is_marked t p) Transition Directory) → IfOk r (λ kind. kind ≡ kind_of c (at t c) (rest_of c p) n)
directory_below t c p n attr (Ok kind) has is h = h ∙ sym (has.directory attr) ∙ ap (kind_of c (at t c) (rest_of c p)) (sym is)
directory_below t c p n attr (Err e) has is h = tt

-- ---- the rows of the region

-- each path of the region is covered
pub all_covered : (t : Nodes) (c : Path) (es : List (Path × Node)) → es ≡ region_at t c → All (λ e. covers c e.0 ≡ true) es
all_covered t c es is = subst (All (λ e. covers c e.0 ≡ true)) (sym is) (each_covered (region (at t c)))
  where
    each_covered : (es : List (Path × Node)) → All (λ e. covers c e.0 ≡ true) (map {B = Path × Node} (λ e. (c ++ e.0, e.1)) es)
    each_covered es = All-map (λ e. covers c e.0 ≡ true) (λ e. (c ++ e.0, e.1)) es (λ k d lt. ap is_some (behind-append c (get_or es k d).0))

rows_behind : (t : Nodes) (c : Path) (es : List (Path × Node)) → map (row_in t c) (map {B = Path × Node} (λ e. (c ++ e.0, e.1)) es) ≡ map (λ e. row_at c (at t c) e.0 e.1) es
rows_behind t c [] = refl
rows_behind t c (e ∷ es) =
    let first = ap (λ o. row_of (kind_of c (at t c) (unwrap_or o []) e.1) (c ++ e.0) e.1) (behind-append c e.0) in
    let rest = rows_behind t c es in λ i. first i ∷ rest i

-- those of the code are those of the region
pub rows_are : (t : Nodes) (c : Path) (es : List (Path × Node)) (rows : List Row) → es ≡ region_at t c → rows ≡ map (row_in t c) es → rows ≡ row_list c (at t c)
rows_are t c es rows es-is is = is ∙ ap (map (row_in t c)) es-is ∙ rows_behind t c (region (at t c))
