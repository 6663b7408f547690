-- The rows and nested entries that the catalogue above a part gets keep their limits, and nothing stands twice among them.
use Rattle.std.proofs.Common.{◌≡◌, ℕ, ◌≤◌, true, List, [], ◌∷◌, ◌++◌, filter, map, refl, sym, ap, subst, ◌∙◌, arith}
use Rattle.std.specs.Prelude.{Contains}
use Rattle.std.specs.List.{All, AllByRecursion}
use Rattle.std.proofs.lemmas.List.Elements.{All-contains, Contains-get_or, recursion_from_All}
use Rattle.cv_base.specs.Path.{Path, covers, text_of, IsPath}
use Rattle.cv_base.specs.Digest.{IsDigest}
use Rattle.cv_base.proofs.Laws.{digest_sha1}
use Rattle.cv_base.proofs.Laws.{text_of-injective}
use Rattle.cv_tree.specs.Tree.{Nodes, IsTree, at}
use Rattle.cv_tree.specs.declared.node.Node.{Node}
use Rattle.cv_rows.specs.Row.{IsRow}
use Rattle.cv_rows.specs.Nested.{IsNested}
use Rattle.cv_rows.specs.Made.{AreApart, keys_of, texts_of}
use Rattle.cv_rows.specs.declared.nested.Nested.{Nested}
use Rattle.cv_cut.specs.Catalogues.{cat}
use Rattle.cv_cut.specs.Cut.{is_other, keys_at, nested_in, row_in}
use Rattle.cv_cut.specs.Piece.{region_within}
use Rattle.cv_cut.proofs.Members.{comes_from, passes}
use Rattle.cv_cut.proofs.PieceLaws.{within_rises}
use Rattle.cv_cut.proofs.Placing.{inside_each}
use Rattle.cv_cut.proofs.RegionLists.{apart, keys_once, row_list_are}
use Rattle.cv_cut.proofs.RegionRules.{StandsAtCut, stands_at_cut, keeps, path_there}
use Rattle.cv_cut.proofs.RowFacts.{row_key}
use Rattle.cv_cut.proofs.Sides.{sorted_filter}
use Rattle.cv_cut.proofs.Twice.{once_image}

module _ (m : Nodes) (p : Path) (tree : IsTree m) where
  root : StandsAtCut [] (at m [])
  root = stands_at_cut m [] tree refl

  path_of : (e : Path × Node) → Contains (region_within m p) e → IsPath e.0
  path_of e has = let w = inside_each m p e has in subst IsPath (sym w.is) (path_there [] (at m []) root (p ++ w.rest) e.1 w.near)

  pub rows_spelled : AllByRecursion IsRow (map (row_in m []) (region_within m p))
  rows_spelled = recursion_from_All IsRow (map (row_in m []) (region_within m p)) (λ k d lt.
      let r = comes_from (row_in m []) (region_within m p) _ (Contains-get_or (map (row_in m []) (region_within m p)) k d lt) in
      let w = inside_each m p r.0 r.1 in
      let are = row_list_are [] (at m []) in
      subst IsRow (ap (λ (x : Path). row_in m [] (x, r.0.1)) (sym w.is) ∙ r.2) (keeps [] (at m []) _ root are _ (are.all (p ++ w.rest) r.0.1 w.near)))

  pub keys_are : keys_of (map (row_in m []) (region_within m p)) ≡ keys_at (region_within m p)
  keys_are = each (region_within m p)
    where
      each : (es : List (Path × Node)) → keys_of (map (row_in m []) es) ≡ keys_at es
      each [] = refl
      each (e ∷ es) = let one = row_key _ e.0 e.1 in let more = each es in λ i. one i ∷ more i

  abbrev pub entries : List Nested
  entries = map (λ e. nested_in m e.0) (filter (λ e. is_other m [] e.0) (region_within m p))

  pub entry_there : (n : Nested) → Contains (map (λ e. nested_in m e.0) (filter (λ e. is_other m [] e.0) (region_within m p))) n → IsPath n.path × (covers p n.path ≡ true) × (n ≡ nested_in m n.path)
  entry_there n has =
      let e = comes_from (λ (y : Path × Node). nested_in m y.0) (filter (λ y. is_other m [] y.0) (region_within m p)) n has in
      let was = passes (λ y. is_other m [] y.0) (region_within m p) e.0 e.1 in
      let inside = passes (λ x. covers p x.0) _ e.0 was.0 in
      let path : n.path ≡ e.0.0 = ap (λ (x : Nested). x.path) (sym e.2) in
      (subst IsPath (sym path) (path_of e.0 was.0), ap (covers p) path ∙ inside.1, sym e.2 ∙ ap (nested_in m) (sym path))

  pub entries_spelled : All (λ n. n.size ≤ 16777216) (map (λ e. nested_in m e.0) (filter (λ e. is_other m [] e.0) (region_within m p))) → AllByRecursion IsNested (map (λ e. nested_in m e.0) (filter (λ e. is_other m [] e.0) (region_within m p)))
  entries_spelled small = recursion_from_All IsNested entries (λ k d lt.
      let has = Contains-get_or entries k d lt in
      let w = entry_there _ has in
      let le = All-contains (λ (n : Nested). n.size ≤ 16777216) entries _ small has in
      record { path = w.0; hash = subst IsDigest (ap (λ (n : Nested). n.hash) (sym w.2)) (digest_sha1 (cat m _)); size = omega (arith, le) })

  pub texts_apart_within : AreApart (texts_of (map (λ e. nested_in m e.0) (filter (λ e. is_other m [] e.0) (region_within m p))))
  texts_apart_within =
      let es = filter (λ (e : Path × Node). is_other m [] e.0) (region_within m p) in
      let once = keys_once es (sorted_filter (is_other m []) (region_within m p) (within_rises m p)) in
      subst AreApart (same es) (apart (map text_of (map (λ e. e.0) es)) (once_image text_of (map (λ e. e.0) es) once (λ a b has had is.
      let x = comes_from (λ (e : Path × Node). e.0) es a has in
      let y = comes_from (λ (e : Path × Node). e.0) es b had in
      let one = subst IsPath x.2 (path_of x.0 (passes (λ (e : Path × Node). is_other m [] e.0) (region_within m p) x.0 x.1).0) in
      let other = subst IsPath y.2 (path_of y.0 (passes (λ (e : Path × Node). is_other m [] e.0) (region_within m p) y.0 y.1).0) in
      text_of-injective a b one other is)))
    where
      same : (es : List (Path × Node)) → map text_of (map (λ e. e.0) es) ≡ texts_of (map (λ e. nested_in m e.0) es)
      same [] = refl
      same (e ∷ es) = ap (λ (w : List (List ℕ)). text_of e.0 ∷ w) (same es)
