-- A tree of all rows that are reached from a root is the one that the root means.
use Rattle.std.proofs.Common.{◌≡◌, ◌≢◌, ℕ, Bool, true, false, ◌&&◌, List, [], ◌∷◌, ◌++◌, length, None, Some, refl, sym, ap, subst, ◌∙◌, arith, inl, inr}
use Rattle.std.specs.Prelude.{Contains}
use Rattle.std.specs.declared.option.Option.{Option}
use Rattle.std.specs.FinMap.{get}
use Rattle.sha1.specs.Sha1.{sha1}
use Rattle.cv_base.specs.Marker.{marker}
use Rattle.cv_base.specs.Path.{Path, key_of}
use Rattle.cv_ports.specs.Shelf.{Shelf, IsShelf}
use Rattle.cv_tree.specs.Tree.{Nodes, at, is_directory, is_file}
use Rattle.cv_tree.specs.declared.node.Node.{Node}
use Rattle.cv_tree.specs.declared.node.Node.TheVariants as node
use Rattle.cv_rows.specs.Catalogue.{Contents, catalogue_bytes}
use Rattle.cv_rows.specs.declared.row.Row.{Row}
use Rattle.cv_rows.specs.declared.row_kind.RowKind.{RowKind}
use Rattle.cv_rows.specs.declared.row_kind.RowKind.TheVariants.{Directory, Transition, NestedRoot, File, Link}
use Rattle.cv_rows.proofs.Lemmas.{stands_contained}
use Rattle.cv_cut.specs.Reached.{Place, ReachesCatalogue, itself, root_place}
use Rattle.cv_base.specs.ObjectId.{object_id}
use Rattle.cv_base.specs.declared.id.Kind.TheVariants as id_kind
use Rattle.cv_cut.specs.Told.{node_of, node_as}
use Rattle.cv_load.proofs.Assembly.{IsWhole, IsFull, full_of, standing_of, directory_unmarked}
use Rattle.cv_load.proofs.Standing.{IsOpen, Standing, so_root, so_below, stands_so, rules_of, same_contents}
use Rattle.std.specs.Prelude.{IsSomeAnd}
use Rattle.cv_rows.specs.Row.{HasContent}
use Rattle.cv_cut.specs.Catalogues.{rows_of}
use Rattle.cv_cut.proofs.Lemmas.{row_list, keys_apart, rows_of-by_key, order_count}
use Rattle.cv_cut.specs.Told.{hash_of}
use Rattle.cv_cut.specs.Cuts.{is_cut}
use Rattle.cv_cut.specs.Catalogues.{cat}
use Rattle.cv_load.proofs.WholeRegions.{names_open}
use Rattle.cv_load.proofs.OwnRows.{same_rows}
use Rattle.std.proofs.Common.{◌⊎◌}
use Rattle.std.proofs.lemmas.List.{length-map}
use Rattle.cv_base.specs.declared.attr.Attr.{Attr}
use Rattle.cv_base.proofs.Laws.{first_true, some_there}
use Rattle.cv_tree.specs.declared.node.FileRef.{FileRef}
use Rattle.cv_cut.specs.Cuts.{region}
use Rattle.cv_cut.specs.Catalogues.{SharesKey, IsFull as PassesLimit}
use Rattle.cv_cut.specs.Means.{Means}
use Rattle.cv_cut.specs.Good.{HasSize}
use Rattle.cv_load.specs.Answers.{IsMeasured}
use Rattle.cv_load.proofs.Assembly.{file_row}
use Rattle.cv_load.proofs.OwnRows.{own_keys, some_hash, row_content}
use Rattle.cv_load.proofs.OwnCatalogues.{part_open, spelled}
use Rattle.cv_cut.specs.Region.{row_at, KeysApart}

hashed_too : (o : Option (List ℕ)) (hash : List ℕ) (size : ℕ) → ((bytes : List ℕ) → o ≡ Some bytes → sha1 bytes ≡ hash) → IsSomeAnd o (λ bytes. length bytes ≡ size)
    → IsSomeAnd o (λ bytes. (sha1 bytes ≡ hash) × (length bytes ≡ size))
hashed_too None hash size hashes h = absurd h
hashed_too (Some bytes) hash size hashes h = (hashes bytes refl, h)

some_directory : (o : Option Node) (b : Bool) → (is_directory o && b) ≡ true → (n : Node) × (o ≡ Some n) × (is_directory (Some n) ≡ true)
some_directory None b h = absurd cc
some_directory (Some n) b h = (n, refl, first_true (is_directory (Some n)) b h)

-- the row of a directory
directory_row : (r : Row) → is_directory (Some (node_of r)) ≡ true → r.kind ≢ NestedRoot → (r.kind ≡ Directory) ⊎ (r.kind ≡ Transition)
directory_row r = go r.kind
  where
    go : (k : RowKind) → is_directory (Some (node_as k r)) ≡ true → k ≢ NestedRoot → (k ≡ Directory) ⊎ (k ≡ Transition)
    go Directory h other = inl refl
    go Transition h other = inr refl
    go NestedRoot h other = absurd (other refl)
    go File h other = absurd cc
    go Link h other = absurd cc

-- the catalogue that is reached at a cut
pub record IsOpenAt (shelf : Shelf) (top : List ℕ) (t : Nodes) (p : Path) : Type 0 where
  pub hash : List ℕ
  pub place : Place
  pub reached : ReachesCatalogue shelf top hash place
  pub full_ : IsFull shelf t hash place
  pub at_ : full_.contents.at ≡ p

-- the file of a row
file_of_row : (r : Row) (attr : Attr) (file : FileRef) → node.File attr file ≡ node_of r → r.kind ≡ File → (file.hash ≡ hash_of r.hash) × (file.size ≡ r.size)
file_of_row r attr file e kind =
    let f : node.File attr file ≡ node.File r.attr (record { hash = hash_of r.hash; size = r.size }) = e ∙ ap (λ (k : RowKind). node_as k r) kind in
    let ref : file ≡ record { hash = hash_of r.hash; size = r.size } = cc in
    (ap (λ (x : FileRef). x.hash) ref, ap (λ (x : FileRef). x.size) ref)

content_hash : (r : Row) → r.kind ≡ File → HasContent r.kind r.size r.hash r.target → r.hash ≡ Some (hash_of r.hash)
content_hash r kind h = let c : HasContent File r.size r.hash r.target = subst (λ (k : RowKind). HasContent k r.size r.hash r.target) kind h in some_hash r.hash c.1

module _ {shelf : Shelf} {top : List ℕ} {t : Nodes} (whole : IsWhole shelf top t) where
  opened : (p : Path) (s : Standing shelf top p) → p ≡ s.contents.at → IsOpenAt shelf top t p
  opened p s at_p =
      let f = full_of whole s.open_.reached in
      let same = same_contents shelf s.hash s.hash s.place s.place s.contents f.contents refl refl s.open_.has f.has in
      record { hash = s.hash; place = s.place; reached = s.open_.reached; full_ = f; at_ = ap (λ (c : Contents). c.at) (sym same) ∙ sym at_p }

  named : (p : Path) (s : Standing shelf top p) → s.row.kind ≡ Transition → IsOpenAt shelf top t p
  named p s kind =
      let n = names_open whole p s kind in
      let f = full_of whole n.reached in
      record { hash = n.entry.hash; place = record { path = n.entry.path; row = Some s.row }; reached = n.reached; full_ = f; at_ = f.has.decodes.at ∙ n.path }

  abbrev top_opened : IsOpenAt shelf top t []
  top_opened =
      let f = full_of whole itself in
      record { hash = top; place = root_place; reached = itself; full_ = f; at_ = f.has.decodes.at }

  pub cut_opened : (p : Path) → is_cut t p ≡ true → IsOpenAt shelf top t p
  cut_opened [] cut = top_opened
  cut_opened (a ∷ p) cut =
      let n = some_directory (get t (a ∷ p)) (is_file (get t ((a ∷ p) ++ marker ∷ []))) cut in
      let o = standing_of whole (a ∷ p) n.0 n.1 in
      let s = o.0 in
      elim (stands_so s.stands) [
        | so_root has is at_p ↦ opened (a ∷ p) s at_p
        | so_below q front has other up child way ↦ elim (directory_row s.row (ap (λ (x : Node). is_directory (Some x)) (sym o.1) ∙ n.2) child.kind) [
          | inl kind ↦ absurd (let wrong : true ≡ false = sym cut ∙ directory_unmarked whole (a ∷ p) s kind other in cc)
          | inr kind ↦ named (a ∷ p) s kind
        ]
      ]

  open_of : {p : Path} (o : IsOpenAt shelf top t p) → IsOpen shelf top o.hash o.place o.full_.contents
  open_of o = record { reached = o.reached; has = o.full_.has }

  spelled_at : {p : Path} (o : IsOpenAt shelf top t p) → cat t p ≡ catalogue_bytes o.full_.contents
  spelled_at {p} o = subst (λ (q : Path). cat t q ≡ catalogue_bytes o.full_.contents) o.at_ (spelled whole (open_of o))

  hash_at : {p : Path} (o : IsOpenAt shelf top t p) → o.hash ≡ sha1 (cat t p)
  hash_at o = sym o.full_.has.digest ∙ ap sha1 (o.full_.has.decodes.spelled ∙ sym (spelled_at o))

  bytes_at : {p : Path} (o : IsOpenAt shelf top t p) → shelf (object_id (sha1 (cat t p)) id_kind.Catalogue) ≡ Some (cat t p)
  bytes_at o = ap (λ (h : List ℕ). shelf (object_id h id_kind.Catalogue)) (sym (hash_at o)) ∙ o.full_.has.there ∙ ap Some (o.full_.has.decodes.spelled ∙ sym (spelled_at o))

  rows_at : {p : Path} (o : IsOpenAt shelf top t p) → rows_of p (at t p) ≡ o.full_.contents.rows
  rows_at o = subst (λ (q : Path). rows_of q (at t q) ≡ o.full_.contents.rows) o.at_ (same_rows whole (open_of o) (part_open whole (open_of o)))

  keys_at : {p : Path} (o : IsOpenAt shelf top t p) → KeysApart p (at t p)
  keys_at o = subst (λ (q : Path). KeysApart q (at t q)) o.at_ (own_keys whole (open_of o) (part_open whole (open_of o)))

  apart : (p q : Path) → SharesKey t p q → ⊥
  apart p q shared =
      let keys = keys_at (cut_opened shared.cut shared.is_cut_) in
      let one = shared.first in
      let other = shared.second in
      let m = some_there (get (at t shared.cut) one.0) one.2 in
      let n = some_there (get (at t shared.cut) other.0) other.2 in
      let same = keys.each one.0 other.0 m.0 n.0 (record { there = m.1; near = one.3 }) (record { there = n.1; near = other.3 }) (ap key_of (sym one.1) ∙ shared.keys ∙ ap key_of other.1) in
      shared.differ (one.1 ∙ ap (λ (x : Path). shared.cut ++ x) same ∙ sym other.1)

  limits : (p : Path) → PassesLimit t p → ⊥
  limits p full =
      let o = cut_opened p full.is_cut_ in
      let rules = o.full_.has.decodes.is in
      elim full.passes [
        | inl many ↦
            let rows = ap (λ (rs : List Row). length rs) (sym (rows_of-by_key p (at t p)) ∙ rows_at o) in
            let count = order_count (row_list p (at t p)) (keys_apart p (at t p) (keys_at o)) in
            let size = length-map (region (at t p)) (λ (e : Path × Node). row_at p (at t p) e.0 e.1) in
            let limit = rules.count in
            omega (arith, many, rows, count, size, limit)
        | inr long ↦
            let size = ap (λ (b : List ℕ). length b) (spelled_at o) in
            let limit = rules.size in
            omega (arith, long, size, limit)
      ]

  files : (q : Path) (attr : Attr) (file : FileRef) → get t q ≡ Some (node.File attr file) → HasSize shelf (object_id file.hash id_kind.Plain) file.size
  files q attr file e =
      let o = standing_of whole q (node.File attr file) e in
      let s = o.0 in
      let kind = file_row s.row (ap (λ (x : Node). is_file (Some x)) (sym o.1)) in
      let parts = file_of_row s.row attr file o.1 kind in
      let f = full_of whole s.open_.reached in
      let same = same_contents shelf s.hash s.hash s.place s.place s.contents f.contents refl refl s.open_.has f.has in
      let has = subst (λ (c : Contents). Contains c.rows s.row) same (stands_contained s.stands) in
      let sized = f.files s.row has (hash_of s.row.hash) kind (content_hash s.row kind (row_content s.contents s.row (rules_of s.open_) (stands_contained s.stands))) in
      subst (λ (h : List ℕ). HasSize shelf (object_id h id_kind.Plain) file.size) (sym parts.0)
      (subst (λ (n : ℕ). HasSize shelf (object_id (hash_of s.row.hash) id_kind.Plain) n) (sym parts.1) sized)

  pub measured : IsMeasured shelf top t
  measured = record {
    tree = whole.tree;
    fits = record { apart = apart; limits = limits };
    root = hash_at top_opened;
    catalogues = λ p cut. bytes_at (cut_opened p cut);
    files = files;
  }

-- where bytes have the hashes of their ids, contents of the right sizes are the contents
pub measured_means : (shelf : Shelf) (hash : List ℕ) (t : Nodes) → IsShelf shelf → IsMeasured shelf hash t → Means shelf hash t
measured_means shelf hash t hashes is = record {
  tree = is.tree;
  fits = is.fits;
  root = is.root;
  catalogues = is.catalogues;
  files = λ q attr file e.
      let id = object_id file.hash id_kind.Plain in
      hashed_too (shelf id) file.hash file.size (λ bytes there. sym (hashes.hash id bytes there)) (is.files q attr file e);
}
