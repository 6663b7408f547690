-- Where a hash means a tree, a catalogue that is reached is that of a cut.
use Rattle.std.proofs.Common.{◌≡◌, ℕ, true, List, [], ◌++◌, length, None, Some, refl, sym, ap, subst, ◌∙◌, append-nil}
use Rattle.std.specs.Prelude.{Contains, IsSomeAnd, IfSome}
use Rattle.std.specs.declared.option.Option.{Option}
use Rattle.std.specs.FinMap.{get}
use Rattle.sha1.specs.Sha1.{sha1}
use Rattle.cv_base.specs.Path.{Path}
use Rattle.cv_base.specs.ObjectId.{object_id}
use Rattle.cv_base.specs.declared.attr.Attr.{Attr}
use Rattle.cv_base.specs.declared.id.Kind.TheVariants as id_kind
use Rattle.cv_ports.specs.Shelf.{Shelf}
use Rattle.cv_tree.specs.Tree.{Nodes, at}
use Rattle.cv_tree.specs.declared.node.FileRef.{FileRef}
use Rattle.cv_tree.specs.declared.node.Node.{Node}
use Rattle.cv_tree.specs.declared.node.Node.TheVariants as node
use Rattle.cv_tree.proofs.Laws.{get-at}
use Rattle.cv_rows.specs.Catalogue.{Contents}
use Rattle.cv_rows.specs.Places.{IsRoot, StandsAt, root_kind}
use Rattle.cv_rows.specs.declared.row.Row.{Row}
use Rattle.cv_rows.specs.declared.nested.Nested.{Nested}
use Rattle.cv_rows.specs.declared.row_kind.RowKind.{RowKind}
use Rattle.cv_cut.specs.Cuts.{is_cut}
use Rattle.cv_cut.specs.Catalogues.{kind_of, row_of, cat}
use Rattle.cv_cut.specs.Means.{Means}
use Rattle.cv_cut.specs.Reached.{Reaches, Place, Decodes, HasCatalogue, ReachesCatalogue, itself}
use Rattle.cv_cut.proofs.Lemmas.{cat_is, IsRowThere, root_node, stands_only, stands_at_cut, root_row, canonical, other_cut, region_apart, one_decoding, same_fields}
use Rattle.cv_cut.specs.Catalogues.{contents_of}
use Rattle.cv_load.proofs.CutRows.{IsKept}
use Rattle.cv_load.proofs.Kept.{kept}
use Rattle.cv_load.proofs.OneTree.{cut_there}
use Rattle.cv_cut.specs.Region.{row_at}

file_parts : (k : RowKind) (p : Path) (n : Node) (hash : List ℕ) → (row_of k p n).hash ≡ Some hash → (attr : Attr) × (file : FileRef) × (n ≡ node.File attr file) × (hash ≡ file.hash) × ((row_of k p n).size ≡ file.size)
file_parts k p (node.Dir attr) hash e = absurd cc
file_parts k p (node.File attr file) hash e = (attr, file, refl, sym cc, refl)
file_parts k p (node.Link attr target) hash e = absurd cc

size_alone : (o : Option (List ℕ)) (hash : List ℕ) (size : ℕ) → IsSomeAnd o (λ bytes. (sha1 bytes ≡ hash) × (length bytes ≡ size)) → IsSomeAnd o (λ bytes. length bytes ≡ size)
size_alone None hash size h = absurd h
size_alone (Some bytes) hash size h = h.1

module _ {shelf : Shelf} {top : List ℕ} {t : Nodes} (is : Means shelf top t) where
  pub canon : (p : Path) → is_cut t p ≡ true → IsKept p (at t p) (λ d. cat t (p ++ d))
  canon p cut = kept t is.tree is.fits p cut

  -- a reached catalogue is that of a cut
  pub record IsCanonical (hash : List ℕ) (place : Place) : Type 0 where
    pub cut : is_cut t place.path ≡ true
    pub named : hash ≡ sha1 (cat t place.path)
    pub decodes : Decodes place (cat t place.path) (contents_of t place.path)

  pub there_is : {hash : List ℕ} {place : Place} → IsCanonical hash place → shelf (object_id hash id_kind.Catalogue) ≡ Some (cat t place.path)
  there_is {place = place} c = ap (λ (h : List ℕ). shelf (object_id h id_kind.Catalogue)) c.named ∙ is.catalogues place.path c.cut

  same_bytes : {hash : List ℕ} {place : Place} → IsCanonical hash place → (bytes : List ℕ) → shelf (object_id hash id_kind.Catalogue) ≡ Some bytes → bytes ≡ cat t place.path
  same_bytes {place = place} c bytes there = let e : Some bytes ≡ Some (cat t place.path) = sym there ∙ there_is c in cc

  same_catalogue : {hash : List ℕ} {place : Place} → IsCanonical hash place → (c : Contents) → HasCatalogue shelf hash place c → c ≡ contents_of t place.path
  same_catalogue {hash} {place} known c has = one_decoding place (cat t place.path) c (contents_of t place.path) (subst (λ (b : List ℕ). Decodes place b c) (same_bytes known has.bytes has.there) has.decodes) known.decodes

  pub decodes_at : (p : Path) (row : Option Row) → is_cut t p ≡ true → IfSome row (λ r. (top_row : Row) × Contains (contents_of t p).rows top_row × IsRoot p top_row × (top_row ≡ record r { kind = top_row.kind }))
      → Decodes (record { path = p; row = row }) (cat t p) (contents_of t p)
  decodes_at p row cut fits = record { at = refl; is = canonical t p is.tree cut is.fits; spelled = cat_is t p is.tree (cut_there t p is.tree cut); row = fits }

  -- a nested entry of the catalogue of a cut is that of another cut
  pub record IsOwnEntry (n : Nested) : Type 0 where
    pub cut : is_cut t n.path ≡ true
    pub hash : n.hash ≡ sha1 (cat t n.path)
    pub size : n.size ≡ length (cat t n.path)

  pub own_entry : (p : Path) (n : Nested) → is_cut t p ≡ true → Contains (contents_of t p).nested n → IsOwnEntry n
  own_entry p n cut has =
      let e = (canon p cut).entries.each n has in
      subst IsOwnEntry (sym e.2) (record { cut = other_cut t p e.0 e.1; hash = refl; size = refl })

  one_node : (p q rest : Path) (m n : Node) → get (at t q) [] ≡ Some m → get (at t p) rest ≡ Some n → q ≡ p ++ rest → m ≡ n
  one_node p q rest m n there has place =
      let one : Some m ≡ Some n = sym there ∙ get-at t q [] ∙ ap (get t) (append-nil q ∙ place) ∙ sym (get-at t p rest) ∙ has in
      cc

  -- the row of another cut has the fields of the root row there
  root_fits : (p q : Path) (r : Row) → is_cut t q ≡ true → IsRowThere p (at t p) r q → (top_row : Row) × Contains (contents_of t q).rows top_row × IsRoot q top_row × (top_row ≡ record r { kind = top_row.kind })
  root_fits p q r cut s =
      let m = root_node (at t q) (stands_at_cut t q is.tree cut).part in
      let nodes = one_node p q s.rest m.0 s.node_ m.1.there s.there.there s.place in
      (row_at q (at t q) [] m.0, (canon q cut).rows.all [] m.0 m.1, root_row q (at t q) m.0, same_fields (root_kind q) (kind_of p (at t p) s.rest s.node_) (q ++ []) (p ++ s.rest) m.0 s.node_ r (append-nil q ∙ s.place) nodes s.row)

  pub canonical_entry : (p : Path) (n : Nested) (r : Row) → is_cut t p ≡ true → Contains (contents_of t p).nested n → StandsAt p (contents_of t p).rows r n.path → IsCanonical n.hash (record { path = n.path; row = Some r })
  canonical_entry p n r cut has s =
      let e = own_entry p n cut has in
      let there = stands_only p (at t p) (contents_of t p).rows (stands_at_cut t p is.tree cut).part (region_apart t p cut is.fits.apart) (canon p cut).rows s in
      record { cut = e.cut; named = e.hash; decodes = decodes_at n.path (Some r) e.cut (root_fits p n.path r e.cut there) }

  pub canonical_reached : {hash : List ℕ} {place : Place} → ReachesCatalogue shelf top hash place → IsCanonical hash place
  canonical_reached itself = record { cut = refl; named = is.root; decodes = decodes_at [] None refl tt }
  canonical_reached (Reaches.nested {place = over} {c = c} {n = n} {r = r} reached has there kind s) =
      let known = canonical_reached reached in
      let same = same_catalogue known c has in
      canonical_entry over.path n r known.cut (subst (λ (x : Contents). Contains x.nested n) same there) (subst (λ (x : Contents). StandsAt x.at x.rows r n.path) same s)

  -- the content of a file row is there, of its size
  pub content_there : {hash : List ℕ} {place : Place} → IsCanonical hash place → (c : Contents) → Decodes place (cat t place.path) c → (r : Row) → Contains c.rows r → (content : List ℕ) → r.hash ≡ Some content
      → IsSomeAnd (shelf (object_id content id_kind.Plain)) (λ bytes. length bytes ≡ r.size)
  content_there {place = place} known c decodes r has content e =
      let same = one_decoding place (cat t place.path) c (contents_of t place.path) decodes known.decodes in
      let k = canon place.path known.cut in
      let f = k.rows.each r (subst (λ (x : Contents). Contains x.rows r) same has) in
      let parts = file_parts (kind_of place.path (at t place.path) f.0 f.1) (place.path ++ f.0) f.1 content (ap (λ (x : Row). x.hash) (sym f.3) ∙ e) in
      let there = size_alone (shelf (object_id parts.1.hash id_kind.Plain)) parts.1.hash parts.1.size
      (is.files (place.path ++ f.0) parts.0 parts.1 (sym (get-at t place.path f.0) ∙ f.2.there ∙ ap Some parts.2)) in
      let size : r.size ≡ parts.1.size = ap (λ (x : Row). x.size) f.3 ∙ parts.4 in
      subst (λ (h : List ℕ). IsSomeAnd (shelf (object_id h id_kind.Plain)) (λ bytes. length bytes ≡ r.size)) (sym parts.3)
      (subst (λ (n : ℕ). IsSomeAnd (shelf (object_id parts.1.hash id_kind.Plain)) (λ bytes. length bytes ≡ n)) (sym size) there)
