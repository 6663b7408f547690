-- How what is reached from a catalogue is checked.
use Rattle.std.proofs.Common.{◌≡◌, ℕ, ◌+◌, ◌<◌, ◌≤◌, true, List, [], ◌∷◌, ◌++◌, length, get_or, Ok, Err, Result, Some, sym, subst, ◌∙◌, arith}
use Rattle.std.specs.Prelude.{Contains, IsErrAnd, MatchResult}
use Rattle.std.proofs.lemmas.List.Elements.{All-nil, All-cons, All-append}
use Rattle.cv_base.specs.Path.{Path}
use Rattle.cv_base.specs.ObjectId.{object_id}
use Rattle.cv_base.specs.declared.id.Kind.TheVariants as id_kind
use Rattle.cv_base.specs.declared.id.ObjectId.{ObjectId}
use Rattle.cv_ports.specs.Shelf.{Shelf}
use Rattle.cv_rows.specs.Catalogue.{Contents, IsCatalogue}
use Rattle.cv_rows.specs.Places.{StandsAt}
use Rattle.cv_rows.specs.declared.row.Row.{Row}
use Rattle.cv_rows.specs.declared.nested.Nested.{Nested}
use Rattle.cv_rows.specs.declared.row_kind.RowKind.TheVariants.{Transition}
use Rattle.cv_cut.specs.Reached.{Reaches, root_place, itself, HasCatalogue}
use Rattle.cv_cut.proofs.Lemmas.{nested_unopened}
use Rattle.cv_cut.specs.declared.load_fault.LoadFault.{LoadFault}
use Rattle.cv_load.specs.declared.known_set.KnownSet.{KnownSet}
use Rattle.cv_load.specs.GrowthInner.{HasFiles}
use Rattle.cv_load.specs.Known.{is_known, AreKnown, IsWholePair, AreWhole}
use Rattle.cv_load.specs.KnownInner.{ChecksFrom}
use Rattle.cv_load.proofs.Growing.{each_more, each_all}
use Rattle.cv_load.proofs.Filling.{one_row}
use Rattle.cv_load.proofs.GoodLaws.{good_whole, whole_good}
use Rattle.cv_load.proofs.LoadedTree.{place_at, at_root_place}
use Rattle.cv_cut.specs.Opening.{OpensNested, MayFail, IsNestedCatalogue}
use Rattle.cv_cut.specs.Good.{HasSize, IsGood, good, IsWholeAt}

-- the catalogue of a nested entry has the size that is stated and is good
pub record IsNestedGood (shelf : Shelf) (c : Contents) (n : Nested) : Type 0 where
  pub size : HasSize shelf (object_id n.hash id_kind.Catalogue) n.size
  pub good_ : (r : Row) → r.kind ≡ Transition → StandsAt c.at c.rows r n.path → IsGood shelf n.hash (record { path = n.path; row = Some r })

-- so are the first of them, and what was added is whole
pub record ChecksSome (shelf : Shelf) (c : Contents) (new : List (ObjectId × Path)) (i : ℕ) : Type 0 where
  pub whole : AreWhole shelf new
  pub nested : (k : ℕ) (d : Nested) → k < i → IsNestedGood shelf c (get_or c.nested k d)

abbrev pub ChecksSomeFrom : Shelf → Contents → List (ObjectId × Path) → List (ObjectId × Path) → ℕ → Type 0
ChecksSomeFrom shelf c old new i = AreWhole shelf old → ChecksSome shelf c new i

pub checks_none : (shelf : Shelf) (c : Contents) (old : List (ObjectId × Path)) → ChecksSomeFrom shelf c old old 0
checks_none shelf c old = λ before. record { whole = before; nested = λ k d lt. absurd (omega arith) }

nested_good : (shelf : Shelf) (c below : Contents) (n : Nested) → IsCatalogue c → (opened : IsNestedCatalogue shelf c n below) → IsGood shelf n.hash (record { path = n.path; row = Some opened.row }) → IsNestedGood shelf c n
nested_good shelf c below n is opened h = record {
  size = opened.size;
  good_ = λ r kind at. subst (λ (y : Row). IsGood shelf n.hash (record { path = n.path; row = Some y })) (one_row c opened.row r n.path is opened.stands at) h;
}

-- one more, which is known
pub checks_known : (shelf : Shelf) (known : KnownSet) (c below : Contents) (n : Nested) (old t : List (ObjectId × Path)) (i : ℕ) → IsCatalogue c → i < length c.nested → n ≡ get_or c.nested i n → AreKnown shelf known → is_known known n.hash n.path ≡ true
    → ChecksSomeFrom shelf c old t i → IsNestedCatalogue shelf c n below → ChecksSomeFrom shelf c old t (i + 1)
checks_known shelf known c below n old t i is inside item all in_set some opened = λ before.
    let s = some before in
    let h = good_whole (record { path = n.path; row = Some opened.row }) below (all n.hash n.path in_set) opened.opened in
    record { whole = s.whole; nested = each_more (IsNestedGood shelf c) c.nested i n s.nested inside item (nested_good shelf c below n is opened h) }

-- one more, which was checked
pub checks_more : (shelf : Shelf) (c below : Contents) (n : Nested) (old t new : List (ObjectId × Path)) (i : ℕ) {X : Type 0} (x : X) → IsCatalogue c → i < length c.nested → n ≡ get_or c.nested i n
    → ChecksSomeFrom shelf c old t i → IsNestedCatalogue shelf c n below → ChecksFrom shelf (object_id n.hash id_kind.Catalogue) below t new (Ok x) → ChecksSomeFrom shelf c old new (i + 1)
checks_more shelf c below n old t new i x is inside item some opened h = λ before.
    let s = some before in
    let g = h (record { path = n.path; row = Some opened.row }) opened.opened s.whole in
    record { whole = g.1; nested = each_more (IsNestedGood shelf c) c.nested i n s.nested inside item (nested_good shelf c below n is opened g.0) }

-- all of them, with the pair of the catalogue itself
pub checks_all : (shelf : Shelf) (id : ObjectId) (c : Contents) (old t new : List (ObjectId × Path)) (i : ℕ) (p : Path) {X Y : Type 0} (x : X) (y : Y) → id.kind ≡ id_kind.Catalogue → c.at ≡ p → length c.nested ≤ i → HasFiles shelf id c (Ok y)
    → ChecksSomeFrom shelf c old t i → new ≡ t ++ (id, p) ∷ [] → ChecksFrom shelf id c old new (Ok x)
checks_all shelf id c old t new i p x y kind at enough files some is = λ place stands before.
    let s = some before in
    let nested = each_all (IsNestedGood shelf c) c.nested (λ k d lt. s.nested k d (omega (arith, lt, enough))) in
    let g : IsGood shelf id.hash place = good {c = c} stands files (λ n has. (nested n has).size) (λ n r has is_transition s. (nested n has).good_ r is_transition s) in
    let path : place.path ≡ p = sym stands.decodes.at ∙ at in
    let own : IsWholePair shelf (id, p) = record { kind = kind; whole = subst (IsWholeAt shelf id.hash) path (whole_good place g) } in
    (g, subst (AreWhole shelf) (sym is) (All-append (IsWholePair shelf) t ((id, p) ∷ []) s.whole (All-cons (IsWholePair shelf) (id, p) [] own (All-nil (IsWholePair shelf)))))

-- ---- faults

pub checks_unopened : (shelf : Shelf) (id : ObjectId) (c : Contents) (n : Nested) (old new : List (ObjectId × Path)) (X : Type 0) (f : LoadFault) → id.kind ≡ id_kind.Catalogue → Contains c.nested n
    → OpensNested shelf id c n (Err f) → ChecksFrom shelf id c old new {X = X} (Err f)
checks_unopened shelf id c n old new X f kind there h = λ place stands before root reached. nested_unopened shelf root root_place id place c n kind reached stands there f h

pub checks_broken : (shelf : Shelf) (id : ObjectId) (c below : Contents) (n : Nested) (old t new : List (ObjectId × Path)) (i : ℕ) (X : Type 0) (f : LoadFault) → i < length c.nested → n ≡ get_or c.nested i n
    → ChecksSomeFrom shelf c old t i → IsNestedCatalogue shelf c n below → ChecksFrom shelf (object_id n.hash id_kind.Catalogue) below t new {X = X} (Err f) → ChecksFrom shelf id c old new {X = X} (Err f)
checks_broken shelf id c below n old t new i X f inside item some opened h = λ place stands before root reached.
    let s = some before in
    let has : Contains c.nested n = (i, inside, sym item) in
    h (record { path = n.path; row = Some opened.row }) opened.opened s.whole root (Reaches.nested reached stands has opened.kind_ opened.stands)

-- ---- from the root on

pub left_match : {X E : Type 0} (P : X → Type 0) (Q : E → Type 0) (answer : Result X E) (f : E) → IsErrAnd answer (λ e. e ≡ f) → Q f → MatchResult answer P Q
left_match P Q (Ok x) f is h = absurd is
left_match P Q (Err e) f is h = subst Q (sym is) h

none_whole : (shelf : Shelf) (pairs : List (ObjectId × Path)) → pairs ≡ [] → AreWhole shelf pairs
none_whole shelf pairs e = subst (AreWhole shelf) (sym e) (All-nil (IsWholePair shelf))

pub wholes_broken : (shelf : Shelf) (id : ObjectId) (p : Path) (c : Contents) (old new : List (ObjectId × Path)) (f : LoadFault) → p ≡ [] → HasCatalogue shelf id.hash (place_at p) c → old ≡ [] → ChecksFrom shelf id c old new {X = Unit {0}} (Err f) → MayFail shelf id.hash f
wholes_broken shelf id p c old new f e stands none h = h root_place (at_root_place shelf id p c e stands) (none_whole shelf old none) id.hash itself

pub wholes_all : (shelf : Shelf) (id : ObjectId) (p : Path) (c : Contents) (old new : List (ObjectId × Path)) → p ≡ [] → HasCatalogue shelf id.hash (place_at p) c → old ≡ [] → ChecksFrom shelf id c old new {X = Unit {0}} (Ok (tt {0})) → IsGood shelf id.hash root_place × AreWhole shelf new
wholes_all shelf id p c old new e stands none h = h root_place (at_root_place shelf id p c e stands) (none_whole shelf old none)
