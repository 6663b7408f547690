-- The pairs of what is reached through catalogues that aren't known.
use Rattle.std.proofs.Common.{◌≡◌, ℕ, ◌+◌, ◌<◌, ◌≤◌, true, false, List, [], ◌∷◌, ◌++◌, length, get_or, Some, refl, sym, ap, subst, ◌∙◌, arith}
use Rattle.std.specs.Prelude.{Contains}
use Rattle.std.proofs.lemmas.List.Elements.{Contains-append_left, Contains-append_right}
use Rattle.cv_base.specs.Path.{Path}
use Rattle.cv_base.specs.ObjectId.{object_id}
use Rattle.cv_base.specs.declared.id.Kind.TheVariants as id_kind
use Rattle.cv_base.specs.declared.id.ObjectId.{ObjectId}
use Rattle.cv_ports.specs.Shelf.{Shelf}
use Rattle.cv_rows.specs.Catalogue.{Contents, IsCatalogue}
use Rattle.cv_rows.specs.Places.{StandsAt}
use Rattle.cv_rows.specs.declared.row.Row.{Row}
use Rattle.cv_rows.specs.declared.nested.Nested.{Nested}
use Rattle.cv_rows.specs.declared.row_kind.RowKind.TheVariants.{Transition}
use Rattle.cv_cut.specs.Reached.{Place, HasCatalogue, root_place}
use Rattle.cv_load.specs.declared.known_set.KnownSet.{KnownSet}
use Rattle.cv_load.specs.Known.{is_known}
use Rattle.cv_load.specs.NewFetches.{ReachesNew, new_root, new_nested, HasNew}
use Rattle.cv_load.specs.NewFetchesInner.{IsListed, HasAll, ListsFrom, ended, listed}
use Rattle.cv_load.proofs.Growing.{each_more, each_all}
use Rattle.cv_load.proofs.Filling.{one_row}
use Rattle.cv_load.proofs.Standing.{same_contents}
use Rattle.cv_load.proofs.LoadedTree.{place_at, at_root_place}
use Rattle.cv_cut.specs.Opening.{IsNestedCatalogue}

pub listed_more : {shelf : Shelf} {known : KnownSet} {old : List (ObjectId × Path)} {hash : List ℕ} {place : Place} (new : List (ObjectId × Path)) → HasAll old new → IsListed shelf known old hash place → IsListed shelf known new hash place
listed_more new more (ended in_set) = ended in_set
listed_more new more (listed {hash = hash} {place = place} {c = c} has own deeper) = listed {c = c} has (more (object_id hash id_kind.Catalogue, place.path) own) (λ n r there kind s. listed_more new more (deeper n r there kind s))

-- what a catalogue has that is listed and isn't known
record IsOwn (shelf : Shelf) (known : KnownSet) (pairs : List (ObjectId × Path)) (hash : List ℕ) (place : Place) (c : Contents) : Type 0 where
  own : Contains pairs (object_id hash id_kind.Catalogue, place.path)
  deeper : (n : Nested) (r : Row) → Contains c.nested n → r.kind ≡ Transition → StandsAt c.at c.rows r n.path → IsListed shelf known pairs n.hash (record { path = n.path; row = Some r })

own_of : {shelf : Shelf} {known : KnownSet} {pairs : List (ObjectId × Path)} {hash : List ℕ} {place : Place} → IsListed shelf known pairs hash place → is_known known hash place.path ≡ false → (c : Contents) × HasCatalogue shelf hash place c × IsOwn shelf known pairs hash place c
own_of (ended in_set) fresh = absurd (let wrong : true ≡ false = sym in_set ∙ fresh in cc)
own_of (listed {c = c} has own deeper) fresh = (c, has, record { own = own; deeper = deeper })

listed_below : {shelf : Shelf} {known : KnownSet} {pairs : List (ObjectId × Path)} {root : List ℕ} {hash : List ℕ} {place : Place} → IsListed shelf known pairs root root_place → ReachesNew shelf known root hash place → IsListed shelf known pairs hash place
listed_below is new_root = is
listed_below {shelf} is (new_nested {hash = hash} {place = place} {c = c} {n = n} {r = r} reached fresh has there kind s) =
    let o = own_of (listed_below is reached) fresh in
    let same = same_contents shelf hash hash place place c o.0 refl refl has o.1 in
    o.2.deeper n r (subst (λ (x : Contents). Contains x.nested n) same there) kind (subst (λ (x : Contents). StandsAt x.at x.rows r n.path) same s)

pub new_listed : (shelf : Shelf) (known : KnownSet) (root : List ℕ) (pairs : List (ObjectId × Path)) → IsListed shelf known pairs root root_place → HasNew shelf known root pairs
new_listed shelf known root pairs is = λ hash place reached fresh. (own_of (listed_below is reached) fresh).2.own

-- ---- the loop

abbrev pub IsNestedListed : Shelf → KnownSet → Contents → List (ObjectId × Path) → Nested → Type 0
IsNestedListed shelf known c pairs n = (r : Row) → r.kind ≡ Transition → StandsAt c.at c.rows r n.path → IsListed shelf known pairs n.hash (record { path = n.path; row = Some r })

abbrev pub ListsSome : Shelf → KnownSet → Contents → List (ObjectId × Path) → ℕ → Type 0
ListsSome shelf known c pairs i = (k : ℕ) (d : Nested) → k < i → IsNestedListed shelf known c pairs (get_or c.nested k d)

pub lists_none : (shelf : Shelf) (known : KnownSet) (c : Contents) (pairs : List (ObjectId × Path)) → ListsSome shelf known c pairs 0
lists_none shelf known c pairs k d lt = absurd (omega arith)

pub lists_known : (shelf : Shelf) (known : KnownSet) (c : Contents) (n : Nested) (pairs : List (ObjectId × Path)) (i : ℕ) → i < length c.nested → n ≡ get_or c.nested i n → is_known known n.hash n.path ≡ true
    → ListsSome shelf known c pairs i → ListsSome shelf known c pairs (i + 1)
lists_known shelf known c n pairs i lt item in_set some = each_more (IsNestedListed shelf known c pairs) c.nested i n some lt item (λ r kind s. ended in_set)

pub lists_more : (shelf : Shelf) (known : KnownSet) (c below : Contents) (n : Nested) (old new : List (ObjectId × Path)) (i : ℕ) → IsCatalogue c → i < length c.nested → n ≡ get_or c.nested i n → HasAll old new
    → ListsSome shelf known c old i → IsNestedCatalogue shelf c n below → ListsFrom shelf known (object_id n.hash id_kind.Catalogue) below new → ListsSome shelf known c new (i + 1)
lists_more shelf known c below n old new i is lt item more some opened h =
    each_more (IsNestedListed shelf known c new) c.nested i n (λ k d less r kind s. listed_more new more (some k d less r kind s)) lt item
    (λ r kind s. subst (λ (y : Row). IsListed shelf known new n.hash (record { path = n.path; row = Some y })) (one_row c opened.row r n.path is opened.stands s) (h (record { path = n.path; row = Some opened.row }) opened.opened))

pub lists_all : (shelf : Shelf) (known : KnownSet) (id : ObjectId) (c : Contents) (t new : List (ObjectId × Path)) (i : ℕ) (p : Path) → id.kind ≡ id_kind.Catalogue → c.at ≡ p → length c.nested ≤ i
    → ListsSome shelf known c t i → new ≡ t ++ (id, p) ∷ [] → ListsFrom shelf known id c new
lists_all shelf known id c t new i p kind at enough some is = λ place stands.
    let more : HasAll t new = λ q has. subst (λ (xs : List (ObjectId × Path)). Contains xs q) (sym is) (Contains-append_left t ((id, p) ∷ []) q has) in
    let nested = each_all (IsNestedListed shelf known c new) c.nested (λ k d lt r kind s. listed_more new more (some k d (omega (arith, lt, enough)) r kind s)) in
    let path : p ≡ place.path = sym at ∙ stands.decodes.at in
    let pair : (id, p) ≡ (object_id id.hash id_kind.Catalogue, place.path) = λ i. (record { hash = id.hash; kind = kind i }, path i) in
    let own : Contains new (id, p) = subst (λ (xs : List (ObjectId × Path)). Contains xs (id, p)) (sym is) (Contains-append_right t ((id, p) ∷ []) (id, p) (0, omega arith, refl)) in
    listed {c = c} stands (subst (Contains new) pair own) (λ n r has is_transition s. nested n has r is_transition s)

pub has_added : (t new : List (ObjectId × Path)) (x : ObjectId × Path) → new ≡ t ++ x ∷ [] → HasAll t new
has_added t new x is = λ q has. subst (λ (xs : List (ObjectId × Path)). Contains xs q) (sym is) (Contains-append_left t (x ∷ []) q has)

-- ---- from the root on

pub root_known : (shelf : Shelf) (known : KnownSet) (root : List ℕ) (p : Path) (pairs : List (ObjectId × Path)) → p ≡ [] → is_known known root p ≡ true → HasNew shelf known root pairs
root_known shelf known root p pairs e in_set = new_listed shelf known root pairs (ended (ap (is_known known root) (sym e) ∙ in_set))

pub root_listed : (shelf : Shelf) (known : KnownSet) (id : ObjectId) (p : Path) (c : Contents) (pairs : List (ObjectId × Path)) → p ≡ [] → HasCatalogue shelf id.hash (place_at p) c → ListsFrom shelf known id c pairs → HasNew shelf known id.hash pairs
root_listed shelf known id p c pairs e stands h = new_listed shelf known id.hash pairs (h root_place (at_root_place shelf id p c e stands))
