-- What a question finds where its walk ends.
use Rattle.std.proofs.Common.{◌≡◌, List, ℕ, refl, sym, ap, subst, ◌∙◌}
use Rattle.std.specs.Prelude.{Contains}
use Rattle.std.specs.declared.option.Option.TheVariants.{None, Some}
use Rattle.std.specs.declared.result.Result.{Result}
use Rattle.std.specs.declared.result.Result.TheVariants.{Ok}
use Rattle.std.specs.FinMap.{get}
use Rattle.std.proofs.lemmas.List.Elements.{All-contains, All-from_recursion}
use Rattle.cv_base.specs.Path.{Path}
use Rattle.cv_tree.specs.Tree.{Nodes, IsTree, at}
use Rattle.cv_tree.specs.declared.node.FileRef.{FileRef}
use Rattle.cv_tree.proofs.Laws.{get-at}
use Rattle.cv_rows.specs.Catalogue.{Contents, IsCatalogue}
use Rattle.cv_rows.specs.Places.{StandsAt}
use Rattle.cv_rows.specs.Row.{IsRow, HasContent}
use Rattle.cv_rows.specs.declared.row.Row.{Row}
use Rattle.cv_rows.specs.declared.row_kind.RowKind.{RowKind}
use Rattle.cv_rows.specs.declared.row_kind.RowKind.TheVariants as kind
use Rattle.cv_rows.proofs.Lemmas.{stands_contained}
use Rattle.cv_cut.specs.Catalogues.{contents_of, rows_of, Fits}
use Rattle.cv_cut.specs.Region.{IsNear, row_at}
use Rattle.cv_cut.specs.Told.{hash_of, node_as, node_of}
use Rattle.cv_cut.proofs.Lemmas.{region_apart, rows_are, stands, stands_at_cut}
use Rattle.cv_resolver.specs.EntryInner.{entry_kind}
use Rattle.cv_resolver.specs.Naming.{NamesFile}
use Rattle.cv_resolver.specs.Spot.{IsSpot, IsOwn}
use Rattle.cv_resolver.specs.Look.{Finding, Names, Content, content_at, names_at, names_in}
use Rattle.cv_resolver.specs.Listing.{AreNames}
use Rattle.cv_resolver.specs.declared.spot.Spot.{Spot}
use Rattle.cv_resolver.specs.declared.found.ClientFault.{ClientFault}
use Rattle.cv_resolver.proofs.Entering.{nearest_of}
use Rattle.cv_resolver.proofs.Names.{names_are, some_node}

-- ---- by a row

pub has_content : (c : Contents) (r : Row) (q : Path) → IsCatalogue c → StandsAt c.at c.rows r q → HasContent r.kind r.size r.hash r.target
has_content c r q is st = (All-contains IsRow c.rows r (All-from_recursion IsRow c.rows is.region.spelled) (stands_contained st)).content

-- a row that has a hash is a file's
is_file : (r : Row) (hash : List ℕ) → HasContent r.kind r.size r.hash r.target → r.hash ≡ Some hash → r.kind ≡ kind.File
is_file r hash has is = by r.kind has
  where
    by : (k : RowKind) → HasContent k r.size r.hash r.target → k ≡ kind.File
    by kind.File h = refl
    by kind.Directory h = absurd (let e : Some hash ≡ None = sym is ∙ h.1 in cc)
    by kind.Transition h = absurd (let e : Some hash ≡ None = sym is ∙ h.1 in cc)
    by kind.NestedRoot h = absurd (let e : Some hash ≡ None = sym is ∙ h.1 in cc)
    by kind.Link h = absurd (let e : Some hash ≡ None = sym is ∙ h.1 in cc)

pub file_found : (r : Row) (hash : List ℕ) → HasContent r.kind r.size r.hash r.target → r.hash ≡ Some hash → (f : FileRef) × (content_at (Some (node_of r)) ≡ Ok (Content f)) × (f.hash ≡ hash)
file_found r hash has is =
    (record { hash = hash_of r.hash; size = r.size }, ap (λ (k : RowKind). content_at (Some (node_as k r))) (is_file r hash has is), ap hash_of is)

pub file_wanted : (r : Row) (hash : List ℕ) (c : Contents) → HasContent r.kind r.size r.hash r.target → r.hash ≡ Some hash → Contains c.rows r → NamesFile c hash
file_wanted r hash c has is there = record { row = r; there = there; kind = is_file r hash has is; digest = is }

-- ---- in a tree

abbrev pub ok : Finding → Result Finding ClientFault
ok finding = Ok finding

module _ (t : Nodes) (s : Spot) (c : Contents) (tree : IsTree t) (fits : Fits t) (is : IsSpot t s) (own : IsOwn t s c) where
  -- the catalogue of the nearest cut has a row there
  pub some_row : ((r : Row) → StandsAt c.at c.rows r s.at → ⊥) → ⊥
  some_row none =
      let n = nearest_of t s is in
      let place = s.level.path in
      let apart = region_apart t place n.1.cut fits.apart in
      let found = some_node (get t s.at) is.there in
      let region : IsNear (at t place) n.0.rest found.0 = record { there = get-at t place n.0.rest ∙ ap (get t) (sym n.0.is) ∙ found.1; near = n.0.near } in
      let st = stands place (at t place) (rows_of place (at t place)) (stands_at_cut t place tree n.1.cut).part apart (rows_are place (at t place) apart) n.0.rest found.0 region in
      let r = row_at place (at t place) n.0.rest found.0 in
      let here : StandsAt place (contents_of t place).rows r s.at = subst (λ (w : Path). StandsAt place (rows_of place (at t place)) r w) (sym n.0.is) st in
      none r (subst (λ (x : Contents). StandsAt x.at x.rows r s.at) (sym own) here)

  own_names : (names : List (List ℕ)) → IsCatalogue c → AreNames c s.at names → names ≡ names_in t s.at
  own_names names good are =
      let n = nearest_of t s is in
      names_are t tree s.level.path n.1.cut (region_apart t s.level.path n.1.cut fits.apart) (subst IsCatalogue own good) s.at n.0 names (subst (λ (x : Contents). AreNames x s.at names) own are)

  pub names_found : (r : Row) (names : List (List ℕ)) → IsCatalogue c → kind.Directory ≡ entry_kind r.kind → AreNames c s.at names → names_at (names_in t s.at) (Some (node_of r)) ≡ Ok (Names names)
  names_found r names good directory are = by r.kind directory
    where
      same : ok (Names (names_in t s.at)) ≡ ok (Names names)
      same = ap (λ (n : List (List ℕ)). ok (Names n)) (sym (own_names names good are))

      by : (k : RowKind) → kind.Directory ≡ entry_kind k → names_at (names_in t s.at) (Some (node_as k r)) ≡ Ok (Names names)
      by kind.Directory h = same
      by kind.Transition h = same
      by kind.NestedRoot h = same
      by kind.File h = cc
      by kind.Link h = cc
