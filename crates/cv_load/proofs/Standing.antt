-- Where rows of reached catalogues stand: what stands at a path is one node.
use Rattle.std.proofs.Common.{◌≡◌, ◌≢◌, ℕ, zero, suc, ◌<◌, ◌≤◌, true, false, List, [], ◌∷◌, ◌++◌, length, get_or, Some, refl, sym, ap, subst, ◌∙◌, arith, length-append, inl, inr}
use Rattle.std.specs.Prelude.{Contains, IfSome}
use Rattle.cv_base.specs.Path.{Path, text_of}
use Rattle.cv_base.specs.ObjectId.{object_id}
use Rattle.cv_base.specs.declared.id.Kind.TheVariants as id_kind
use Rattle.cv_ports.specs.Shelf.{Shelf}
use Rattle.cv_tree.specs.declared.node.Node.TheVariants.{Dir}
use Rattle.cv_rows.specs.Row.{holds_rows}
use Rattle.std.proofs.lemmas.Bool.{cases_lt}
use Rattle.std.proofs.lemmas.List.{get_or_default}
use Rattle.std.proofs.lemmas.Map.Keys.{Less-from_sorted}
use Rattle.cv_base.proofs.Laws.{not_less, last_same}
use Rattle.cv_rows.specs.Catalogue.{Contents, IsCatalogue, nested_cmp}
use Rattle.cv_rows.specs.Places.{IsRoot, IsChild, StandsAt, root, below, root_kind}
use Rattle.cv_rows.specs.declared.row.Row.{Row}
use Rattle.cv_rows.specs.declared.nested.Nested.{Nested}
use Rattle.cv_rows.specs.declared.row_kind.RowKind.{RowKind}
use Rattle.cv_rows.specs.declared.row_kind.RowKind.TheVariants.{Transition}
use Rattle.cv_rows.proofs.Lemmas.{stands_contained, same_by_key}
use Rattle.cv_cut.specs.Reached.{Place, Decodes, HasCatalogue, ReachesCatalogue, itself, nested, root_place}
use Rattle.cv_cut.specs.Told.{node_of, node_as}
use Rattle.cv_load.proofs.Filling.{one_row}
use Rattle.cv_cut.specs.Open.{FitsRow}
use Rattle.cv_cut.proofs.Lemmas.{one_decoding, transition_long, root_not}

-- ---- by equations

pub data StandsSo (at : Path) (rows : List Row) (r : Row) (q : Path) : Type 0 where
  so_root : Contains rows r → IsRoot at r → q ≡ at → StandsSo at rows r q
  so_below : (p : Row) (front : Path) → Contains rows r → (IsRoot at r → ⊥) → StandsAt at rows p front → IsChild r p → q ≡ front ++ r.name ∷ [] → StandsSo at rows r q

pub stands_so : {at : Path} {rows : List Row} {r : Row} {q : Path} → StandsAt at rows r q → StandsSo at rows r q
stands_so (root has is) = so_root has is refl
stands_so (below {p = p} {q = q} has other s child) = so_below p q has other s child refl

pub data ReachedSo (shelf : Shelf) (top hash : List ℕ) (place : Place) : Type 0 where
  so_top : hash ≡ top → place ≡ root_place → ReachedSo shelf top hash place
  so_nested : (above : List ℕ) (over : Place) (c : Contents) (n : Nested) (r : Row) → ReachesCatalogue shelf top above over → HasCatalogue shelf above over c → Contains c.nested n → r.kind ≡ Transition
      → StandsAt c.at c.rows r n.path → hash ≡ n.hash → place ≡ record { path = n.path; row = Some r } → ReachedSo shelf top hash place

pub reached_so : {shelf : Shelf} {top hash : List ℕ} {place : Place} → ReachesCatalogue shelf top hash place → ReachedSo shelf top hash place
reached_so itself = so_top refl refl
reached_so (nested {hash = above} {place = over} {c = c} {n = n} {r = r} reached has there kind stands) = so_nested above over c n r reached has there kind stands refl refl

-- ---- catalogues

-- a catalogue that is reached
pub record IsOpen (shelf : Shelf) (top hash : List ℕ) (place : Place) (c : Contents) : Type 0 where
  pub reached : ReachesCatalogue shelf top hash place
  pub has : HasCatalogue shelf hash place c

pub rules_of : {shelf : Shelf} {top hash : List ℕ} {place : Place} {c : Contents} → IsOpen shelf top hash place c → IsCatalogue c
rules_of o = o.has.decodes.is

pub place_is : {shelf : Shelf} {top hash : List ℕ} {place : Place} {c : Contents} → IsOpen shelf top hash place c → c.at ≡ place.path
place_is o = o.has.decodes.at

-- under one hash and at one place stands one catalogue
pub same_contents : (shelf : Shelf) (hash other : List ℕ) (place there : Place) (c d : Contents) → hash ≡ other → place ≡ there → HasCatalogue shelf hash place c → HasCatalogue shelf other there d → c ≡ d
same_contents shelf hash other place there c d same at has had =
    let bytes : Some has.bytes ≡ Some had.bytes = sym has.there ∙ ap (λ (h : List ℕ). shelf (object_id h id_kind.Catalogue)) same ∙ had.there in
    let one : has.bytes ≡ had.bytes = cc in
    one_decoding there had.bytes c d (subst (λ (b : List ℕ). Decodes there b c) one (subst (λ (p : Place). Decodes p has.bytes c) at has.decodes)) had.decodes

-- a row of a reached catalogue stands at a path
pub record Standing (shelf : Shelf) (top : List ℕ) (q : Path) : Type 0 where
  pub hash : List ℕ
  pub place : Place
  pub contents : Contents
  pub open_ : IsOpen shelf top hash place contents
  pub row : Row
  pub stands : StandsAt contents.at contents.rows row q

-- rows may stand below it
abbrev pub Holds : {shelf : Shelf} {top : List ℕ} {q : Path} → Standing shelf top q → Type 0
Holds s = holds_rows s.row.kind ≡ true

-- two rows are of one catalogue
pub record AreTogether {shelf : Shelf} {top : List ℕ} {p q : Path} (a : Standing shelf top p) (b : Standing shelf top q) : Type 0 where
  pub hash : a.hash ≡ b.hash
  pub place : a.place ≡ b.place

pub contents_same : {shelf : Shelf} {top : List ℕ} {p q : Path} (a : Standing shelf top p) (b : Standing shelf top q) → AreTogether a b → a.contents ≡ b.contents
contents_same {shelf = shelf} a b t = same_contents shelf a.hash b.hash a.place b.place a.contents b.contents t.hash t.place a.open_.has b.open_.has

-- then they are one row, where they stand at one path
pub row_same : {shelf : Shelf} {top : List ℕ} {q : Path} (a b : Standing shelf top q) → AreTogether a b → a.row ≡ b.row
row_same {q = q} a b t =
    let same = contents_same a b t in
    one_row b.contents a.row b.row q (rules_of b.open_) (subst (λ (c : Contents). StandsAt c.at c.rows a.row q) same a.stands) b.stands

-- the row above a row, and the one that names a catalogue
abbrev pub parent_standing : {shelf : Shelf} {top hash : List ℕ} {place : Place} {c : Contents} (o : IsOpen shelf top hash place c) (p : Row) (front : Path) → StandsAt c.at c.rows p front → Standing shelf top front
parent_standing {hash = hash} {place = place} {c = c} o p front s = record { hash = hash; place = place; contents = c; open_ = o; row = p; stands = s }

-- ---- paths

pub not_empty : (q : Path) (a : List ℕ) → q ++ a ∷ [] ≢ []
not_empty q a h = omega (arith, ap (λ (x : Path). length x) h, length-append q (a ∷ []))

-- an entry that stands before another has another path
pub entry_before : (c : Contents) (i j : ℕ) (m n : Nested) → IsCatalogue c → i < j → i < length c.nested → j < length c.nested → get_or c.nested i m ≡ m → get_or c.nested j n ≡ n → m.path ≡ n.path → ⊥
entry_before c i j m n is lt li lj at had same =
    let less = Less-from_sorted nested_cmp c.nested i j m is.nested_ordered lt lj in
    let second : get_or c.nested j m ≡ n = get_or_default c.nested j m n lj ∙ had in
    not_less (text_of (get_or c.nested i m).path) (text_of (get_or c.nested j m).path) less (ap text_of (ap (λ (x : Nested). x.path) at ∙ same ∙ sym (ap (λ (x : Nested). x.path) second)))

-- nested entries of one path are one
pub one_entry : (c : Contents) (m n : Nested) → IsCatalogue c → Contains c.nested m → Contains c.nested n → m.path ≡ n.path → m ≡ n
one_entry c m n is has had same =
    let i = has.0 in
    let j = had.0 in
    elim (cases_lt i j) [
      | inl before ↦ absurd (entry_before c i j m n is before has.1 had.1 has.2 had.2 same)
      | inr rest ↦ elim (cases_lt j i) [
        | inl after ↦ absurd (entry_before c j i n m is after had.1 has.1 had.2 has.2 (sym same))
        | inr both ↦
            let one : i ≡ j = omega (arith, rest, both) in
            sym has.2 ∙ ap (λ (k : ℕ). get_or c.nested k m) one ∙ get_or_default c.nested j m n had.1 ∙ had.2
      ]
    ]

pub holds_not : (k : RowKind) → k ≡ Transition → holds_rows k ≡ true → ⊥
holds_not k is h = let f : false ≡ true = ap holds_rows (sym is) ∙ h in cc

-- ---- the row that names a catalogue

-- a Transition row that names the catalogue of a row stands below another
pub record IsNamedBy {shelf : Shelf} {top : List ℕ} {q : Path} (s : Standing shelf top q) : Type 0 where
  pub entry : Nested
  pub row : Standing shelf top q
  pub above : Path
  pub parent : Standing shelf top above
  pub together : AreTogether row parent
  pub has : Contains row.contents.nested entry
  pub kind : row.row.kind ≡ Transition
  pub holds : Holds parent
  pub path : q ≡ above ++ row.row.name ∷ []
  pub entry_path : entry.path ≡ q
  pub hash : s.hash ≡ entry.hash
  pub place : s.place ≡ record { path = entry.path; row = Some row.row }

pub named_by : {shelf : Shelf} {top : List ℕ} {q : Path} (s : Standing shelf top q) → q ≡ s.contents.at → q ≢ [] → IsNamedBy s
named_by {shelf} {top} {q} s at some = elim (reached_so s.open_.reached) [
  | so_top hash place ↦ absurd (some (at ∙ place_is s.open_ ∙ ap (λ (p : Place). p.path) place))
  | so_nested above over c n r reached has there kind stands hash place ↦
      let path : n.path ≡ q = sym (ap (λ (p : Place). p.path) place) ∙ sym (place_is s.open_) ∙ sym at in
      let o : IsOpen shelf top above over c = record { reached = reached; has = has } in
      elim (stands_so stands) [
        | so_root has_r is_r q-is ↦ absurd (root_not c.at (sym is_r.kind ∙ kind))
        | so_below p front has_r other up child q-is ↦ record {
          entry = n;
          row = parent_standing o r q (subst (StandsAt c.at c.rows r) path stands);
          above = front;
          parent = parent_standing o p front up;
          together = record { hash = refl; place = refl };
          has = there;
          kind = kind;
          holds = child.holds;
          path = sym path ∙ q-is;
          entry_path = path;
          hash = hash;
          place = place;
        }
      ]
]

-- ---- rows below which rows may stand are of one catalogue, where they stand at one path

abbrev OneUpTo : Shelf → List ℕ → ℕ → Type 0
OneUpTo shelf top n = (q : Path) → length q ≤ n → (a b : Standing shelf top q) → Holds a → Holds b → AreTogether a b

abbrev pub moved : {shelf : Shelf} {top : List ℕ} (p q : Path) → p ≡ q → (a : Standing shelf top p) → Standing shelf top q
moved p q same a = record { hash = a.hash; place = a.place; contents = a.contents; open_ = a.open_; row = a.row; stands = subst (StandsAt a.contents.at a.contents.rows a.row) same a.stands }

-- a root row against a row that stands below another: the second is the Transition row that names the catalogue
crossing : (shelf : Shelf) (top : List ℕ) (n : ℕ) → OneUpTo shelf top n → (q : Path) → length q ≤ suc n → (a b : Standing shelf top q) → q ≡ a.contents.at
    → (p : Row) (front : Path) → StandsAt b.contents.at b.contents.rows p front → IsChild b.row p → q ≡ front ++ b.row.name ∷ [] → (named : IsNamedBy a) × (named.row.row ≡ b.row)
crossing shelf top n one q short a b at p front up child path =
    let named = named_by a at (λ none. not_empty front b.row.name (sym path ∙ none)) in
    let above : front ≡ named.above = (last_same front named.above b.row.name named.row.row.name (sym path ∙ named.path)).0 in
    let parent = parent_standing b.open_ p front up in
    let size = ap (λ (x : Path). length x) path in
    let t = one named.above (omega (arith, short, size, length-append front (b.row.name ∷ []), ap (λ (x : Path). length x) above)) named.parent (moved front named.above above parent) named.holds child.holds in
    (named, row_same named.row b (record { hash = named.together.hash ∙ t.hash; place = named.together.place ∙ t.place }))

-- the catalogue at the root of the repository is the one from which all is reached
at_top : {shelf : Shelf} {top : List ℕ} (s : Standing shelf top []) → [] ≡ s.contents.at → (s.hash ≡ top) × (s.place ≡ root_place)
at_top s at = elim (reached_so s.open_.reached) [
  | so_top hash place ↦ (hash, place)
  | so_nested above over c n r reached has there kind stands hash place ↦
      let path : n.path ≡ [] = sym (ap (λ (p : Place). p.path) place) ∙ sym (place_is s.open_) ∙ sym at in
      let long = transition_long stands kind in
      absurd (omega (arith, long, ap (λ (p : Path). length p) path))
]

both_roots : (shelf : Shelf) (top : List ℕ) (n : ℕ) → OneUpTo shelf top n → (q : Path) → length q ≤ suc n → (a b : Standing shelf top q) → q ≡ a.contents.at → q ≡ b.contents.at → AreTogether a b
both_roots shelf top n one [] short a b at other =
    let first = at_top a at in
    let second = at_top b other in
    record { hash = first.0 ∙ sym second.0; place = first.1 ∙ sym second.1 }
both_roots shelf top n one (x ∷ q) short a b at other =
    let m = named_by a at (λ e. cc) in
    let o = named_by b other (λ e. cc) in
    let same = (last_same m.above o.above m.row.row.name o.row.row.name (sym m.path ∙ o.path)).0 in
    let size = ap (λ (p : Path). length p) m.path in
    let t = one o.above (omega (arith, short, size, length-append m.above (m.row.row.name ∷ []), ap (λ (p : Path). length p) same)) (moved m.above o.above same m.parent) o.parent m.holds o.holds in
    let rows : AreTogether m.row o.row = record { hash = m.together.hash ∙ t.hash ∙ sym o.together.hash; place = m.together.place ∙ t.place ∙ sym o.together.place } in
    let row = row_same m.row o.row rows in
    let contents = contents_same m.row o.row rows in
    let has : Contains o.row.contents.nested m.entry = subst (λ (c : Contents). Contains c.nested m.entry) contents m.has in
    let entry = one_entry o.row.contents m.entry o.entry (rules_of o.row.open_) has o.has (m.entry_path ∙ sym o.entry_path) in
    record {
      hash = m.hash ∙ ap (λ (n : Nested). n.hash) entry ∙ sym o.hash;
      place = m.place ∙ (λ i. record { path = (entry i).path; row = Some (row i) }) ∙ sym o.place;
    }

one_next : (shelf : Shelf) (top : List ℕ) (n : ℕ) → OneUpTo shelf top n → OneUpTo shelf top (suc n)
one_next shelf top n one q short a b holds held = elim (stands_so a.stands) [
  | so_root has_a is_a at_a ↦ elim (stands_so b.stands) [
    | so_root has_b is_b at_b ↦ both_roots shelf top n one q short a b at_a at_b
    | so_below p front has_b other up child path ↦
        let x = crossing shelf top n one q short a b at_a p front up child path in
        absurd (holds_not b.row.kind (ap (λ (r : Row). r.kind) (sym x.1) ∙ x.0.kind) held)
  ]
  | so_below p front has_a other_a up child path ↦ elim (stands_so b.stands) [
    | so_root has_b is_b at_b ↦
        let x = crossing shelf top n one q short b a at_b p front up child path in
        absurd (holds_not a.row.kind (ap (λ (r : Row). r.kind) (sym x.1) ∙ x.0.kind) holds)
    | so_below o back has_b other_b rise kid way ↦
        let same = (last_same front back a.row.name b.row.name (sym path ∙ way)).0 in
        let size = ap (λ (x : Path). length x) path in
        let t = one back (omega (arith, short, size, length-append front (a.row.name ∷ []), ap (λ (x : Path). length x) same)) (moved front back same (parent_standing a.open_ p front up)) (parent_standing b.open_ o back rise) child.holds kid.holds in
        record { hash = t.hash; place = t.place }
  ]
]

both_at_top : {shelf : Shelf} {top : List ℕ} (q : Path) → length q ≤ 0 → (a b : Standing shelf top q) → q ≡ a.contents.at → q ≡ b.contents.at → AreTogether a b
both_at_top [] short a b at other =
    let first = at_top a at in
    let second = at_top b other in
    record { hash = first.0 ∙ sym second.0; place = first.1 ∙ sym second.1 }
both_at_top (x ∷ q) short a b at other = absurd (omega arith)

one_none : (shelf : Shelf) (top : List ℕ) → OneUpTo shelf top 0
one_none shelf top q short a b holds held = elim (stands_so a.stands) [
  | so_root has_a is_a at_a ↦ elim (stands_so b.stands) [
    | so_root has_b is_b at_b ↦ both_at_top q short a b at_a at_b
    | so_below p front has_b other up child path ↦ absurd (let size = ap (λ (x : Path). length x) path in omega (arith, short, size, length-append front (b.row.name ∷ [])))
  ]
  | so_below p front has_a other up child path ↦ absurd (let size = ap (λ (x : Path). length x) path in omega (arith, short, size, length-append front (a.row.name ∷ [])))
]

one_up_to : (shelf : Shelf) (top : List ℕ) (n : ℕ) → OneUpTo shelf top n
one_up_to shelf top zero = one_none shelf top
one_up_to shelf top (suc n) = one_next shelf top n (one_up_to shelf top n)

pub one_holder : {shelf : Shelf} {top : List ℕ} {q : Path} (a b : Standing shelf top q) → Holds a → Holds b → AreTogether a b
one_holder {shelf} {top} {q} a b = one_up_to shelf top (length q) q (omega arith) a b

-- ---- what stands at a path is one node

pub dir_of : (r : Row) → r.kind ≡ Transition → node_of r ≡ Dir r.attr
dir_of r kind = ap (λ (k : RowKind). node_as k r) kind

pub root_dir : (c : Path) (r : Row) → r.kind ≡ root_kind c → node_of r ≡ Dir r.attr
root_dir [] r kind = ap (λ (k : RowKind). node_as k r) kind
root_dir (a ∷ c) r kind = ap (λ (k : RowKind). node_as k r) kind

-- the root row of a catalogue and the Transition row that names it have one node
pub named_node : {shelf : Shelf} {top : List ℕ} {q : Path} (s : Standing shelf top q) → IsRoot s.contents.at s.row → (m : IsNamedBy s) → node_of s.row ≡ node_of m.row.row
named_node s is m =
    let fits : IfSome (Some m.row.row) (FitsRow s.contents) = subst (λ (p : Place). IfSome p.row (FitsRow s.contents)) m.place s.open_.has.decodes.row in
    let rules = rules_of s.open_ in
    let same : fits.0 ≡ s.row = same_by_key s.contents.rows fits.0 s.row rules.ordered fits.1 (stands_contained s.stands) (fits.2.key ∙ sym is.key) in
    let attr : s.row.attr ≡ m.row.row.attr = ap (λ (r : Row). r.attr) (sym same ∙ fits.3) in
    root_dir s.contents.at s.row is.kind ∙ ap Dir attr ∙ sym (dir_of m.row.row m.kind)

cross_node : {shelf : Shelf} {top : List ℕ} {q : Path} (a b : Standing shelf top q) → q ≡ a.contents.at → IsRoot a.contents.at a.row → (p : Row) (front : Path) → StandsAt b.contents.at b.contents.rows p front → IsChild b.row p
    → q ≡ front ++ b.row.name ∷ [] → node_of a.row ≡ node_of b.row
cross_node {shelf} {top} {q} a b at is p front up child path =
    let x = crossing shelf top (length q) (one_up_to shelf top (length q)) q (omega arith) a b at p front up child path in
    named_node a is x.0 ∙ ap node_of x.1

pub one_node : {shelf : Shelf} {top : List ℕ} {q : Path} (a b : Standing shelf top q) → node_of a.row ≡ node_of b.row
one_node {shelf} {top} {q} a b = elim (stands_so a.stands) [
  | so_root has_a is_a at_a ↦ elim (stands_so b.stands) [
    | so_root has_b is_b at_b ↦ ap node_of (row_same a b (both_roots shelf top (length q) (one_up_to shelf top (length q)) q (omega arith) a b at_a at_b))
    | so_below p front has_b other up child path ↦ cross_node a b at_a is_a p front up child path
  ]
  | so_below p front has_a other_a up child path ↦ elim (stands_so b.stands) [
    | so_root has_b is_b at_b ↦ sym (cross_node b a at_b is_b p front up child path)
    | so_below o back has_b other_b rise kid way ↦
        let same = (last_same front back a.row.name b.row.name (sym path ∙ way)).0 in
        let t = one_holder (moved front back same (parent_standing a.open_ p front up)) (parent_standing b.open_ o back rise) child.holds kid.holds in
        ap node_of (row_same a b (record { hash = t.hash; place = t.place }))
  ]
]
