-- The rows of a reached catalogue are those of its region.
use Rattle.std.proofs.Common.{◌≡◌, ◌≢◌, ℕ, Bool, true, false, cond, List, [], ◌∷◌, ◌++◌, length, None, Some, refl, sym, ap, subst, ◌∙◌, arith, append-nil, length-append}
use Rattle.std.specs.Prelude.{Contains}
use Rattle.std.specs.declared.option.Option.{Option}
use Rattle.std.specs.FinMap.{get}
use Rattle.std.specs.List.Sorted.{IsStrictlySortedBy}
use Rattle.std.proofs.lemmas.List.{append_cancel_left}
use Rattle.std.proofs.lemmas.List.Elements.{All-contains}
use Rattle.cv_base.specs.Path.{Path, key_of, parent_key_of, last_name_of}
use Rattle.cv_ports.specs.Shelf.{Shelf}
use Rattle.cv_tree.specs.Tree.{Nodes, at}
use Rattle.cv_tree.proofs.Laws.{get-at}
use Rattle.cv_rows.specs.Catalogue.{Contents, IsCatalogue}
use Rattle.cv_rows.specs.Places.{StandsAt, root}
use Rattle.cv_rows.specs.declared.row.Row.{Row}
use Rattle.cv_rows.specs.declared.row_kind.RowKind.{RowKind}
use Rattle.cv_rows.specs.declared.row_kind.RowKind.TheVariants.{Directory, Transition, NestedRoot, File, Link}
use Rattle.cv_rows.proofs.Lemmas.{stands_contained, same_by_key, one_place, fits_there, row_total}
use Rattle.cv_cut.specs.Reached.{Place}
use Rattle.cv_cut.specs.Cuts.{is_marked}
use Rattle.cv_cut.specs.Told.{node_of, node_as}
use Rattle.cv_load.proofs.Filling.{one_row}
use Rattle.cv_load.proofs.Growing.{place_of}
use Rattle.cv_tree.specs.Tree.{IsPart}
use Rattle.cv_load.proofs.Assembly.{IsWhole, node_there, directory_unmarked}
use Rattle.cv_load.proofs.Standing.{IsOpen, Standing, so_root, so_below, stands_so, rules_of}
use Rattle.std.specs.Prelude.{IsSomeAnd}
use Rattle.std.proofs.lemmas.List.Elements.{All-from_recursion}
use Rattle.cv_base.specs.Digest.{IsDigest}
use Rattle.cv_rows.specs.Row.{IsRow, HasContent}
use Rattle.cv_rows.specs.Catalogue.{row_cmp}
use Rattle.cv_cut.specs.Catalogues.{kind_of, row_of, rows_of}
use Rattle.cv_cut.proofs.Lemmas.{parent_key-append, last_name-append, row_list, keys_apart, rows_of-by_key, order_rises, rows_are, same_list, marked-at}
use Rattle.cv_cut.specs.Told.{hash_of}
use Rattle.cv_load.proofs.WholeRegions.{near_by, transition_marked, row_near}
use Rattle.cv_cut.specs.Region.{IsNear, row_at, KeysApart, AreRowsOf}

-- ---- the row of a node

pub some_hash : (o : Option (List ℕ)) → IsSomeAnd o IsDigest → o ≡ Some (hash_of o)
some_hash None h = absurd h
some_hash (Some hash) h = refl

row_back : (k : RowKind) (p : Path) (r : Row) → k ≡ r.kind → r.key.0 ≡ key_of p → r.parent.0 ≡ parent_key_of p → r.name ≡ last_name_of p → HasContent r.kind r.size r.hash r.target → r ≡ row_of k p (node_of r)
row_back k p r same key parent name content = go r.kind (sym same) content
  where
    go : (kd : RowKind) → kd ≡ k → HasContent kd r.size r.hash r.target → r ≡ row_of k p (node_as kd r)
    go Directory is h = λ i. record { key = record { 0 = key i }; parent = record { 0 = parent i }; kind = sym same i; attr = r.attr; size = h.0 i; hash = h.1 i; name = name i; target = h.2 i }
    go Transition is h = λ i. record { key = record { 0 = key i }; parent = record { 0 = parent i }; kind = sym same i; attr = r.attr; size = h.0 i; hash = h.1 i; name = name i; target = h.2 i }
    go NestedRoot is h = λ i. record { key = record { 0 = key i }; parent = record { 0 = parent i }; kind = sym same i; attr = r.attr; size = h.0 i; hash = h.1 i; name = name i; target = h.2 i }
    go File is h = let some = some_hash r.hash h.1 in λ i. record { key = record { 0 = key i }; parent = record { 0 = parent i }; kind = sym same i; attr = r.attr; size = r.size; hash = some i; name = name i; target = h.2 i }
    go Link is h = λ i. record { key = record { 0 = key i }; parent = record { 0 = parent i }; kind = sym same i; attr = r.attr; size = h.0 i; hash = h.1 i; name = name i; target = r.target }

record HasFields (r : Row) (q : Path) : Type 0 where
  key : r.key.0 ≡ key_of q
  parent : r.parent.0 ≡ parent_key_of q
  name : r.name ≡ last_name_of q

fields_at : (c : Contents) (r : Row) (q : Path) → IsCatalogue c → StandsAt c.at c.rows r q → HasFields r q
fields_at c r q is s =
    let fits = fits_there c.at c.rows r q is.ordered is.region.placed s in
    elim (stands_so s) [
      | so_root has is_r at_r ↦ record { key = fits.key; parent = is_r.parent ∙ ap parent_key_of (sym at_r); name = fits.name is_r ∙ ap last_name_of (sym at_r) }
      | so_below p front has other up child way ↦ record {
        key = fits.key;
        parent = child.parent ∙ (fits_there c.at c.rows p front is.ordered is.region.placed up).key ∙ sym (ap parent_key_of way ∙ parent_key-append front r.name);
        name = sym (ap last_name_of way ∙ last_name-append front r.name);
      }
    ]

pub row_content : (c : Contents) (r : Row) → IsCatalogue c → Contains c.rows r → HasContent r.kind r.size r.hash r.target
row_content c r is has = (All-contains IsRow c.rows r (All-from_recursion IsRow c.rows is.region.spelled) has).content

nothing_behind : (p : Path) (a : List ℕ) (s : Path) → p ++ a ∷ s ≢ p
nothing_behind p a s h = omega (arith, ap (λ (x : Path). length x) h, length-append p (a ∷ s))

kind_below : (c : Path) (u : Nodes) (a : List ℕ) (s : Path) (r : Row) → (r.kind ≡ Directory → is_marked u (a ∷ s) ≡ false) → (r.kind ≡ Transition → is_marked u (a ∷ s) ≡ true) → r.kind ≢ NestedRoot
    → kind_of c u (a ∷ s) (node_of r) ≡ r.kind
kind_below c u a s r plain marked other = go r.kind plain marked other
  where
    go : (k : RowKind) → (k ≡ Directory → is_marked u (a ∷ s) ≡ false) → (k ≡ Transition → is_marked u (a ∷ s) ≡ true) → k ≢ NestedRoot → kind_of c u (a ∷ s) (node_as k r) ≡ k
    go Directory plain marked other = ap (λ (b : Bool). cond b Transition Directory) (plain refl)
    go Transition plain marked other = ap (λ (b : Bool). cond b Transition Directory) (marked refl)
    go NestedRoot plain marked other = absurd (other refl)
    go File plain marked other = refl
    go Link plain marked other = refl

module _ {shelf : Shelf} {top : List ℕ} {t : Nodes} (whole : IsWhole shelf top t) where
  pub kind_is : {hash : List ℕ} {place : Place} {c : Contents} → IsOpen shelf top hash place c → (s : Path) (r : Row) → StandsAt c.at c.rows r (c.at ++ s) → kind_of c.at (at t c.at) s (node_of r) ≡ r.kind
  kind_is {c = c} o [] r stands =
      let is = rules_of o in
      let own = is.region.root in
      let same = one_row c own.0 r c.at is (root own.1 own.2) (subst (StandsAt c.at c.rows r) (append-nil c.at) stands) in
      sym (ap (λ (x : Row). x.kind) (sym same) ∙ own.2.kind)
  kind_is {hash} {place} {c} o (a ∷ s) r stands = elim (stands_so stands) [
    | so_root has is_r at_r ↦ absurd (nothing_behind c.at a s at_r)
    | so_below p front has other up child way ↦
        let here : Standing shelf top (c.at ++ a ∷ s) = record { hash = hash; place = place; contents = c; open_ = o; row = r; stands = stands } in
        kind_below c.at (at t c.at) a s r (λ kind. sym (marked-at t c.at (a ∷ s)) ∙ directory_unmarked whole (c.at ++ a ∷ s) here kind other)
        (λ kind. sym (marked-at t c.at (a ∷ s)) ∙ transition_marked whole (c.at ++ a ∷ s) here kind) child.kind
  ]

  pub row_is : {hash : List ℕ} {place : Place} {c : Contents} → IsOpen shelf top hash place c → (s : Path) (r : Row) → StandsAt c.at c.rows r (c.at ++ s) → r ≡ row_at c.at (at t c.at) s (node_of r)
  row_is {c = c} o s r stands =
      let f = fields_at c r (c.at ++ s) (rules_of o) stands in
      row_back (kind_of c.at (at t c.at) s (node_of r)) (c.at ++ s) r (kind_is o s r stands) f.key f.parent f.name (row_content c r (rules_of o) (stands_contained stands))

  pub near_of : {hash : List ℕ} {place : Place} {c : Contents} → IsOpen shelf top hash place c → (r : Row) (q : Path) → StandsAt c.at c.rows r q → (s : Path) × (q ≡ c.at ++ s) × IsNear (at t c.at) s (node_of r)
  near_of {hash} {place} {c} o r q stands =
      let b = near_by whole o stands in
      let there = node_there whole q (record { hash = hash; place = place; contents = c; open_ = o; row = r; stands = stands }) in
      (b.rest, b.is, record { there = get-at t c.at b.rest ∙ ap (get t) (sym b.is) ∙ there; near = b.near })

  pub own_rows : {hash : List ℕ} {place : Place} {c : Contents} → IsOpen shelf top hash place c → IsPart (at t c.at) → AreRowsOf c.at (at t c.at) c.rows
  own_rows {c = c} o part = record {
    each = λ r has.
        let p = place_of c r (rules_of o) has in
        let n = near_of o r p.0 p.1 in
        (n.0, node_of r, n.2, row_is o n.0 r (subst (StandsAt c.at c.rows r) n.1 p.1));
    all = λ s n near.
        let h = row_near whole o part s n near in
        subst (Contains c.rows) (row_is o s h.row h.stands ∙ ap (row_at c.at (at t c.at) s) (sym h.is)) (stands_contained h.stands);
  }

  pub own_keys : {hash : List ℕ} {place : Place} {c : Contents} → IsOpen shelf top hash place c → IsPart (at t c.at) → KeysApart c.at (at t c.at)
  own_keys {c = c} o part = record {
    each = λ q r m n has had keys.
        let is = rules_of o in
        let one = row_near whole o part q m has in
        let other = row_near whole o part r n had in
        let first = fits_there c.at c.rows one.row (c.at ++ q) is.ordered is.region.placed one.stands in
        let second = fits_there c.at c.rows other.row (c.at ++ r) is.ordered is.region.placed other.stands in
        let same = same_by_key c.rows one.row other.row is.ordered (stands_contained one.stands) (stands_contained other.stands) (first.key ∙ keys ∙ sym second.key) in
        append_cancel_left c.at q r (one_place is.ordered (subst (λ (x : Row). StandsAt c.at c.rows x (c.at ++ q)) same one.stands) other.stands);
  }

  pub same_rows : {hash : List ℕ} {place : Place} {c : Contents} → IsOpen shelf top hash place c → IsPart (at t c.at) → rows_of c.at (at t c.at) ≡ c.rows
  same_rows {c = c} o part =
      let u = at t c.at in
      let apart = own_keys o part in
      let made = rows_are c.at u apart in
      let own = own_rows o part in
      let sorted = subst (IsStrictlySortedBy row_cmp) (sym (rows_of-by_key c.at u)) (order_rises (λ (r : Row). r.key.0) (row_list c.at u) (keys_apart c.at u apart)) in
      same_list row_total (rows_of c.at u) c.rows sorted (rules_of o).ordered
      (λ r has. let e = made.each r has in subst (Contains c.rows) (sym e.3) (own.all e.0 e.1 e.2))
      (λ r has. let e = own.each r has in subst (Contains (rows_of c.at u)) (sym e.3) (made.all e.0 e.1 e.2))
