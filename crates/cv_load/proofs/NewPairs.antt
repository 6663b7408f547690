-- Which pairs are added on the way down from a catalogue, where known pairs are the ends.
use Rattle.std.proofs.Common.{◌≡◌, ◌≢◌, ℕ, ◌+◌, ◌<◌, true, false, List, [], ◌∷◌, ◌++◌, length, get_or, Some, sym, ap, subst, ◌∙◌, arith, append-nil, append_assoc}
use Rattle.std.specs.Prelude.{All, Contains}
use Rattle.std.proofs.lemmas.List.Elements.{All-nil, All-cons, All-append, All-weaker}
use Rattle.cv_base.specs.Path.{Path, covers}
use Rattle.cv_base.specs.ObjectId.{object_id}
use Rattle.cv_base.specs.declared.id.Kind.TheVariants as id_kind
use Rattle.cv_base.specs.declared.id.ObjectId.{ObjectId}
use Rattle.cv_base.proofs.Laws.{covers_itself}
use Rattle.cv_ports.specs.Shelf.{Shelf}
use Rattle.cv_rows.specs.Catalogue.{Contents, IsCatalogue}
use Rattle.cv_rows.specs.declared.nested.Nested.{Nested}
use Rattle.cv_cut.specs.Opening.{IsNestedCatalogue}
use Rattle.cv_cut.specs.Reached.{Place, root_place, HasCatalogue}
use Rattle.cv_load.specs.declared.known_set.KnownSet.{KnownSet}
use Rattle.cv_load.specs.Known.{is_known}
use Rattle.cv_load.specs.NewFetches.{ReachesNew, new_root, new_nested, IsNewPair, IsNewList}
use Rattle.cv_load.specs.NewFetchesInner.{AddsBelow}
use Rattle.cv_load.proofs.LoadedTree.{place_at, at_root_place}
use Rattle.cv_load.proofs.Below.{entries_apart}
use Rattle.cv_load.proofs.Fetching.{pairs_append, inside_below, IsInsideFirst}

module _ {shelf : Shelf} {known : KnownSet} {top : List ℕ} where
  no_pairs : IsNewList shelf known top []
  no_pairs = record { each = All-nil (IsNewPair shelf known top); apart = λ i j d lt within. absurd (omega arith) }

  one_pair : (p : ObjectId × Path) → IsNewPair shelf known top p → IsNewList shelf known top (p ∷ [])
  one_pair p is = record { each = All-cons (IsNewPair shelf known top) p [] is (All-nil (IsNewPair shelf known top)); apart = λ i j d lt within. absurd (omega arith) }

  more_pairs : (ps qs : List (ObjectId × Path)) → All (λ p. All (λ q. p.1 ≢ q.1) qs) ps → IsNewList shelf known top ps → IsNewList shelf known top qs → IsNewList shelf known top (ps ++ qs)
  more_pairs ps qs across first then = record {
    each = All-append (IsNewPair shelf known top) ps qs first.each then.each;
    apart = pairs_append (λ (p q : ObjectId × Path). p.1 ≢ q.1) ps qs first.apart then.apart across;
  }

-- ---- the entries of a catalogue, one after another

pub record FirstAdded (shelf : Shelf) (known : KnownSet) (top : List ℕ) (c : Contents) (i : ℕ) (old new : List (ObjectId × Path)) : Type 0 where
  pub added : List (ObjectId × Path)
  pub is : new ≡ old ++ added
  pub list : IsNewList shelf known top added
  pub inside : All (λ p. IsInsideFirst c i p.1) added

abbrev pub FirstAddedOf : Shelf → KnownSet → ObjectId → Contents → ℕ → List (ObjectId × Path) → List (ObjectId × Path) → Type 0
FirstAddedOf shelf known id c i old new = (top : List ℕ) (place : Place) → ReachesNew shelf known top id.hash place → is_known known id.hash place.path ≡ false → HasCatalogue shelf id.hash place c → FirstAdded shelf known top c i old new

pub added_none : (shelf : Shelf) (known : KnownSet) (id : ObjectId) (c : Contents) (old : List (ObjectId × Path)) → FirstAddedOf shelf known id c 0 old old
added_none shelf known id c old = λ top place reached fresh stands. record { added = []; is = sym (append-nil old); list = no_pairs; inside = All-nil (λ (p : ObjectId × Path). IsInsideFirst c 0 p.1) }

still_first : (c : Contents) (i : ℕ) (ps : List (ObjectId × Path)) → All (λ p. IsInsideFirst c i p.1) ps → All (λ p. IsInsideFirst c (i + 1) p.1) ps
still_first c i ps inside = All-weaker (λ (p : ObjectId × Path). IsInsideFirst c i p.1) (λ (p : ObjectId × Path). IsInsideFirst c (i + 1) p.1)
    (λ p h. record { index = h.index; entry = h.entry; early = omega (arith, h.early); within = h.within; is = h.is; under = h.under }) ps inside

-- one more, which is known
pub added_known : (shelf : Shelf) (known : KnownSet) (id : ObjectId) (c : Contents) (i : ℕ) (old t : List (ObjectId × Path)) → FirstAddedOf shelf known id c i old t → FirstAddedOf shelf known id c (i + 1) old t
added_known shelf known id c i old t some = λ top place reached fresh stands.
    let first = some top place reached fresh stands in
    record { added = first.added; is = first.is; list = first.list; inside = still_first c i first.added first.inside }

-- one more, which was checked
pub added_more : (shelf : Shelf) (known : KnownSet) (id : ObjectId) (c below : Contents) (n : Nested) (i : ℕ) (old t new : List (ObjectId × Path)) → IsCatalogue c → i < length c.nested → n ≡ get_or c.nested i n → is_known known n.hash n.path ≡ false
    → FirstAddedOf shelf known id c i old t → IsNestedCatalogue shelf c n below → AddsBelow shelf known (object_id n.hash id_kind.Catalogue) below t new → FirstAddedOf shelf known id c (i + 1) old new
added_more shelf known id c below n i old t new is lt item unknown some opened h = λ top place reached fresh stands.
    let has : Contains c.nested n = (i, lt, sym item) in
    let first = some top place reached fresh stands in
    let then = h top (record { path = n.path; row = Some opened.row }) (new_nested reached fresh stands has opened.kind_ opened.stands) unknown opened.opened in
    let apart : (p q : ObjectId × Path) → IsInsideFirst c i p.1 → covers n.path q.1 ≡ true → p.1 ≢ q.1 = λ p q inside under same.
    entries_apart c inside.index i inside.entry n q.1 is inside.early inside.within lt inside.is (sym item) (subst (λ (x : Path). covers inside.entry.path x ≡ true) same inside.under) under in
    record {
      added = first.added ++ then.added;
      is = then.is ∙ ap (λ (ps : List (ObjectId × Path)). ps ++ then.added) first.is ∙ append_assoc old first.added then.added;
      list = more_pairs first.added then.added
          (All-weaker (λ (p : ObjectId × Path). IsInsideFirst c i p.1) (λ (p : ObjectId × Path). All (λ (q : ObjectId × Path). p.1 ≢ q.1) then.added)
          (λ p inside. All-weaker (λ (q : ObjectId × Path). covers n.path q.1 ≡ true) (λ (q : ObjectId × Path). p.1 ≢ q.1) (λ q under. apart p q inside under) then.added then.under) first.added first.inside)
          first.list then.list;
      inside = All-append (λ (p : ObjectId × Path). IsInsideFirst c (i + 1) p.1) first.added then.added (still_first c i first.added first.inside)
          (All-weaker (λ (p : ObjectId × Path). covers n.path p.1 ≡ true) (λ (p : ObjectId × Path). IsInsideFirst c (i + 1) p.1)
          (λ p under. record { index = i; entry = n; early = omega arith; within = lt; is = sym item; under = under }) then.added then.under);
    }

-- all of them, and the pair of the catalogue itself
pub added_all : (shelf : Shelf) (known : KnownSet) (id : ObjectId) (c : Contents) (i : ℕ) (old t new : List (ObjectId × Path)) (p : Path) → id.kind ≡ id_kind.Catalogue → c.at ≡ p
    → FirstAddedOf shelf known id c i old t → new ≡ t ++ (id, p) ∷ [] → AddsBelow shelf known id c old new
added_all shelf known id c i old t new p kind at some is = λ top place reached fresh stands.
    let first = some top place reached fresh stands in
    let path : place.path ≡ p = sym stands.decodes.at ∙ at in
    let own : IsNewPair shelf known top (id, p) = record { kind = kind; place = place; reached = reached; path = path; fresh = ap (is_known known id.hash) (sym path) ∙ fresh } in
    let inside = All-weaker (λ (q : ObjectId × Path). IsInsideFirst c i q.1) (λ (q : ObjectId × Path). (covers place.path q.1 ≡ true) × (place.path ≢ q.1))
    (λ q h. inside_below c place.path q.1 stands.decodes.is stands.decodes.at (h.entry, (h.index, h.within, h.is), h.under)) first.added first.inside in
    record {
      added = first.added ++ (id, p) ∷ [];
      is = is ∙ ap (λ (ps : List (ObjectId × Path)). ps ++ (id, p) ∷ []) first.is ∙ append_assoc old first.added ((id, p) ∷ []);
      list = more_pairs first.added ((id, p) ∷ [])
          (All-weaker (λ (q : ObjectId × Path). (covers place.path q.1 ≡ true) × (place.path ≢ q.1)) (λ (q : ObjectId × Path). All (λ (r : ObjectId × Path). q.1 ≢ r.1) ((id, p) ∷ []))
          (λ q h. All-cons (λ (r : ObjectId × Path). q.1 ≢ r.1) (id, p) [] (λ same. h.1 (path ∙ sym same)) (All-nil (λ (r : ObjectId × Path). q.1 ≢ r.1))) first.added inside)
          first.list (one_pair (id, p) own);
      under = All-append (λ (q : ObjectId × Path). covers place.path q.1 ≡ true) first.added ((id, p) ∷ [])
          (All-weaker (λ (q : ObjectId × Path). (covers place.path q.1 ≡ true) × (place.path ≢ q.1)) (λ (q : ObjectId × Path). covers place.path q.1 ≡ true) (λ q h. h.0) first.added inside)
          (All-cons (λ (q : ObjectId × Path). covers place.path q.1 ≡ true) (id, p) [] (subst (λ (x : Path). covers place.path x ≡ true) path (covers_itself place.path)) (All-nil (λ (q : ObjectId × Path). covers place.path q.1 ≡ true)));
    }

-- ---- from the root on

pub root_alone : (shelf : Shelf) (known : KnownSet) (root : List ℕ) (pairs : List (ObjectId × Path)) → pairs ≡ [] → IsNewList shelf known root pairs
root_alone shelf known root pairs none = subst (IsNewList shelf known root) (sym none) no_pairs

pub root_added : (shelf : Shelf) (known : KnownSet) (id : ObjectId) (p : Path) (c : Contents) (old new : List (ObjectId × Path)) → p ≡ [] → is_known known id.hash [] ≡ false → HasCatalogue shelf id.hash (place_at p) c → old ≡ []
    → AddsBelow shelf known id c old new → IsNewList shelf known id.hash new
root_added shelf known id p c old new e fresh stands none h =
    let a = h id.hash root_place new_root fresh (at_root_place shelf id p c e stands) in
    subst (IsNewList shelf known id.hash) (sym (a.is ∙ ap (λ (ps : List (ObjectId × Path)). ps ++ a.added) none)) a.list
