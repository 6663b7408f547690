-- Which catalogues are fetched on the way down from one, where known pairs are the ends.
use Rattle.std.proofs.Common.{◌≡◌, ◌≢◌, ◌⊎◌, ℕ, ◌+◌, ◌<◌, true, false, List, [], ◌∷◌, ◌++◌, length, get_or, Some, refl, sym, ap, subst, ◌∙◌, arith, length-append, inl, inr}
use Rattle.std.specs.Prelude.{All, Contains}
use Rattle.std.proofs.lemmas.List.Elements.{All-nil, All-cons, All-append, All-weaker}
use Rattle.cv_base.specs.Path.{Path, covers}
use Rattle.cv_base.specs.ObjectId.{object_id}
use Rattle.cv_base.specs.declared.id.Kind.TheVariants as id_kind
use Rattle.cv_base.specs.declared.id.ObjectId.{ObjectId}
use Rattle.cv_base.specs.Counts.{raised}
use Rattle.cv_base.proofs.Laws.{covers_itself}
use Rattle.cv_ports.specs.Calls.{raised_by}
use Rattle.cv_ports.specs.Shelf.{Shelf}
use Rattle.cv_rows.specs.Catalogue.{Contents, IsCatalogue}
use Rattle.cv_rows.specs.declared.nested.Nested.{Nested}
use Rattle.cv_cut.specs.Reached.{Place, root_place, HasCatalogue}
use Rattle.cv_load.specs.declared.known_set.KnownSet.{KnownSet}
use Rattle.cv_load.specs.Fetches.{Visit}
use Rattle.cv_load.specs.FetchesInner.{IsInside}
use Rattle.cv_load.specs.Known.{is_known}
use Rattle.cv_load.specs.NewFetches.{ReachesNew, new_root, new_nested, VisitedNew, FetchesNew}
use Rattle.cv_load.specs.NewFetchesInner.{ChecksBelow}
use Rattle.cv_load.proofs.LoadedTree.{place_at, at_root_place}
use Rattle.cv_load.proofs.Below.{entries_apart}
use Rattle.cv_load.proofs.Fetching.{pairs_append, raised_more, inside_below, IsInsideFirst}
use Rattle.cv_cut.specs.Opening.{IsNestedCatalogue}
use Rattle.cv_cut.proofs.Lemmas.{transition_of}

abbrev pub IsNew : Shelf → KnownSet → List ℕ → Visit → Type 0
IsNew shelf known top v = ReachesNew shelf known top v.hash v.place

module _ {shelf : Shelf} {known : KnownSet} {top : List ℕ} where
  pub no_new : (before after : ℕ) → after ≡ before → VisitedNew shelf known top [] before after
  no_new before after same = record { reached = All-nil (IsNew shelf known top); apart = λ i j d lt within. absurd (omega arith); taken = same }

  pub one_new : (v : Visit) (before after : ℕ) → IsNew shelf known top v → after ≡ raised before → VisitedNew shelf known top (v ∷ []) before after
  one_new v before after reached taken = record { reached = All-cons (IsNew shelf known top) v [] reached (All-nil (IsNew shelf known top)); apart = λ i j d lt within. absurd (omega arith); taken = taken }

  pub more_new : (vs ws : List Visit) (a b c : ℕ) → All (λ v. All (λ w. v.place.path ≢ w.place.path) ws) vs → VisitedNew shelf known top vs a b → VisitedNew shelf known top ws b c → VisitedNew shelf known top (vs ++ ws) a c
  more_new vs ws a b c across first then = record {
    reached = All-append (IsNew shelf known top) vs ws first.reached then.reached;
    apart = pairs_append (λ (v w : Visit). v.place.path ≢ w.place.path) vs ws first.apart then.apart across;
    taken = then.taken ∙ ap (raised_by (length ws)) first.taken ∙ raised_more (length ws) (length vs) a ∙ ap (λ (n : ℕ). raised_by n a) (sym (length-append vs ws));
  }

-- ---- one catalogue, with those below it

-- what was fetched is at or below a path
pub record UnderNew (shelf : Shelf) (known : KnownSet) (top : List ℕ) (p : Path) (before after : ℕ) : Type 0 where
  pub visits : List Visit
  pub visited : VisitedNew shelf known top visits before after
  pub under : All (λ v. covers p v.place.path ≡ true) visits

pub under_alone : (shelf : Shelf) (known : KnownSet) (top hash : List ℕ) (place : Place) (before after : ℕ) → ReachesNew shelf known top hash place → (after ≡ before) ⊎ (after ≡ raised before) → UnderNew shelf known top place.path before after
under_alone shelf known top hash place before after reached (inl same) = record { visits = []; visited = no_new before after same; under = All-nil (λ (v : Visit). covers place.path v.place.path ≡ true) }
under_alone shelf known top hash place before after reached (inr taken) =
    let v : Visit = record { hash = hash; place = place } in
    record {
      visits = v ∷ [];
      visited = one_new v before after reached taken;
      under = All-cons (λ (w : Visit). covers place.path w.place.path ≡ true) v [] (covers_itself place.path) (All-nil (λ (w : Visit). covers place.path w.place.path ≡ true));
    }

pub under_with : (shelf : Shelf) (known : KnownSet) (top : List ℕ) (id : ObjectId) (place : Place) (c : Contents) (before middle after : ℕ) → ReachesNew shelf known top id.hash place → is_known known id.hash place.path ≡ false → HasCatalogue shelf id.hash place c
    → middle ≡ raised before → ChecksBelow shelf known id c middle after → UnderNew shelf known top place.path before after
under_with shelf known top id place c before middle after reached not_known stands taken deeper =
    let v : Visit = record { hash = id.hash; place = place } in
    let d = deeper top place reached not_known stands in
    let below = λ (w : Visit) (inside : IsInside c w.place.path). inside_below c place.path w.place.path stands.decodes.is stands.decodes.at inside in
    let across : All (λ (u : Visit). All (λ (w : Visit). u.place.path ≢ w.place.path) d.visits) (v ∷ []) =
    All-cons (λ (u : Visit). All (λ (w : Visit). u.place.path ≢ w.place.path) d.visits) v []
    (All-weaker (λ (w : Visit). IsInside c w.place.path) (λ (w : Visit). place.path ≢ w.place.path) (λ w inside. (below w inside).1) d.visits d.inside)
    (All-nil (λ (u : Visit). All (λ (w : Visit). u.place.path ≢ w.place.path) d.visits)) in
    record {
      visits = v ∷ d.visits;
      visited = more_new (v ∷ []) d.visits before middle after across (one_new v before middle reached taken) d.visited;
      under = All-cons (λ (w : Visit). covers place.path w.place.path ≡ true) v d.visits (covers_itself place.path)
          (All-weaker (λ (w : Visit). IsInside c w.place.path) (λ (w : Visit). covers place.path w.place.path ≡ true) (λ w inside. (below w inside).0) d.visits d.inside);
    }

-- ---- the entries of a catalogue, one after another

pub record FirstNew (shelf : Shelf) (known : KnownSet) (top : List ℕ) (c : Contents) (i before after : ℕ) : Type 0 where
  pub visits : List Visit
  pub visited : VisitedNew shelf known top visits before after
  pub inside : All (λ v. IsInsideFirst c i v.place.path) visits

abbrev pub FirstNewOf : Shelf → KnownSet → ObjectId → Contents → ℕ → ℕ → ℕ → Type 0
FirstNewOf shelf known id c i before after = (top : List ℕ) (place : Place) → ReachesNew shelf known top id.hash place → is_known known id.hash place.path ≡ false → HasCatalogue shelf id.hash place c → FirstNew shelf known top c i before after

pub new_none : (shelf : Shelf) (known : KnownSet) (id : ObjectId) (c : Contents) (before after : ℕ) → after ≡ before → FirstNewOf shelf known id c 0 before after
new_none shelf known id c before after same = λ top place reached not_known stands. record { visits = []; visited = no_new before after same; inside = All-nil (λ (v : Visit). IsInsideFirst c 0 v.place.path) }

new_more : (shelf : Shelf) (known : KnownSet) (top : List ℕ) (c : Contents) (n : Nested) (i before middle after : ℕ) → IsCatalogue c → i < length c.nested → n ≡ get_or c.nested i n
    → FirstNew shelf known top c i before middle → UnderNew shelf known top n.path middle after → FirstNew shelf known top c (i + 1) before after
new_more shelf known top c n i before middle after is lt item first then =
    let apart : (v w : Visit) → IsInsideFirst c i v.place.path → covers n.path w.place.path ≡ true → v.place.path ≢ w.place.path = λ v w inside under same.
    entries_apart c inside.index i inside.entry n w.place.path is inside.early inside.within lt inside.is (sym item) (subst (λ (q : Path). covers inside.entry.path q ≡ true) same inside.under) under in
    record {
      visits = first.visits ++ then.visits;
      visited = more_new first.visits then.visits before middle after
          (All-weaker (λ (v : Visit). IsInsideFirst c i v.place.path) (λ (v : Visit). All (λ (w : Visit). v.place.path ≢ w.place.path) then.visits)
          (λ v inside. All-weaker (λ (w : Visit). covers n.path w.place.path ≡ true) (λ (w : Visit). v.place.path ≢ w.place.path) (λ w under. apart v w inside under) then.visits then.under) first.visits first.inside)
          first.visited then.visited;
      inside = All-append (λ (v : Visit). IsInsideFirst c (i + 1) v.place.path) first.visits then.visits
          (All-weaker (λ (v : Visit). IsInsideFirst c i v.place.path) (λ (v : Visit). IsInsideFirst c (i + 1) v.place.path)
          (λ v h. record { index = h.index; entry = h.entry; early = omega (arith, h.early); within = h.within; is = h.is; under = h.under }) first.visits first.inside)
          (All-weaker (λ (v : Visit). covers n.path v.place.path ≡ true) (λ (v : Visit). IsInsideFirst c (i + 1) v.place.path)
          (λ v h. record { index = i; entry = n; early = omega arith; within = lt; is = sym item; under = h }) then.visits then.under);
    }

-- one more, whose catalogue isn't opened, or is known
pub new_ended : (shelf : Shelf) (known : KnownSet) (id : ObjectId) (c : Contents) (n : Nested) (i before middle after : ℕ) → IsCatalogue c → i < length c.nested → n ≡ get_or c.nested i n
    → FirstNewOf shelf known id c i before middle → (after ≡ middle) ⊎ (after ≡ raised middle) → FirstNewOf shelf known id c (i + 1) before after
new_ended shelf known id c n i before middle after is lt item first taken = λ top place reached not_known stands.
    let has : Contains c.nested n = (i, lt, sym item) in
    let t = transition_of c n is has in
    let deeper = new_nested reached not_known stands has t.1.kind t.1.stands in
    new_more shelf known top c n i before middle after is lt item (first top place reached not_known stands) (under_alone shelf known top n.hash (record { path = n.path; row = Some t.0 }) middle after deeper taken)

-- one more, whose catalogue is opened and isn't known, with those below it
pub new_opened : (shelf : Shelf) (known : KnownSet) (id : ObjectId) (c below : Contents) (n : Nested) (i before middle opened after : ℕ) → IsCatalogue c → i < length c.nested → n ≡ get_or c.nested i n → is_known known n.hash n.path ≡ false
    → FirstNewOf shelf known id c i before middle → IsNestedCatalogue shelf c n below → opened ≡ raised middle → ChecksBelow shelf known (object_id n.hash id_kind.Catalogue) below opened after → FirstNewOf shelf known id c (i + 1) before after
new_opened shelf known id c below n i before middle opened after is lt item fresh first open_ taken then = λ top place reached not_known stands.
    let has : Contains c.nested n = (i, lt, sym item) in
    let deeper = new_nested reached not_known stands has open_.kind_ open_.stands in
    new_more shelf known top c n i before middle after is lt item (first top place reached not_known stands)
    (under_with shelf known top (object_id n.hash id_kind.Catalogue) (record { path = n.path; row = Some open_.row }) below middle opened after deeper fresh open_.opened taken then)

-- so many as were gone over
pub new_all : (shelf : Shelf) (known : KnownSet) (id : ObjectId) (c : Contents) (i before after : ℕ) → FirstNewOf shelf known id c i before after → ChecksBelow shelf known id c before after
new_all shelf known id c i before after first = λ top place reached not_known stands.
    let f = first top place reached not_known stands in
    record {
      visits = f.visits;
      visited = f.visited;
      inside = All-weaker (λ (v : Visit). IsInsideFirst c i v.place.path) (λ (v : Visit). IsInside c v.place.path) (λ v h. (h.entry, (h.index, h.within, h.is), h.under)) f.visits f.inside;
    }

-- ---- from the root on

pub once_known : (shelf : Shelf) (known : KnownSet) (root : List ℕ) (count : ℕ) → FetchesNew shelf known root count count
once_known shelf known root count = ([], no_new count count refl, λ yes. refl)

pub once_new : (shelf : Shelf) (known : KnownSet) (root : List ℕ) (before after : ℕ) → is_known known root [] ≡ false → UnderNew shelf known root [] before after → FetchesNew shelf known root before after
once_new shelf known root before after fresh u = (u.visits, u.visited, λ yes. absurd (let wrong : true ≡ false = sym yes ∙ fresh in cc))

pub once_alone : (shelf : Shelf) (known : KnownSet) (id : ObjectId) (before after : ℕ) → is_known known id.hash [] ≡ false → after ≡ raised before → FetchesNew shelf known id.hash before after
once_alone shelf known id before after fresh taken = once_new shelf known id.hash before after fresh (under_alone shelf known id.hash id.hash root_place before after new_root (inr taken))

pub once_with : (shelf : Shelf) (known : KnownSet) (id : ObjectId) (p : Path) (c : Contents) (before middle after : ℕ) → p ≡ [] → is_known known id.hash [] ≡ false → HasCatalogue shelf id.hash (place_at p) c → middle ≡ raised before
    → ChecksBelow shelf known id c middle after → FetchesNew shelf known id.hash before after
once_with shelf known id p c before middle after e fresh stands taken deeper =
    once_new shelf known id.hash before after fresh (under_with shelf known id.hash id root_place c before middle after new_root fresh (at_root_place shelf id p c e stands) taken deeper)

-- ---- what is new is new where none is known

reached_new : {shelf : Shelf} {known none : KnownSet} {root hash : List ℕ} {place : Place} → ((h : List ℕ) (p : Path) → is_known none h p ≡ false) → ReachesNew shelf known root hash place → ReachesNew shelf none root hash place
reached_new nothing new_root = new_root
reached_new nothing (new_nested {hash = hash} {place = place} reached fresh has there kind stands) = new_nested (reached_new nothing reached) (nothing hash place.path) has there kind stands

pub fetched_new : (shelf : Shelf) (known none : KnownSet) (root : List ℕ) (before after : ℕ) → ((h : List ℕ) (p : Path) → is_known none h p ≡ false) → FetchesNew shelf known root before after → FetchesNew shelf none root before after
fetched_new shelf known none root before after nothing f = (
  f.0,
  record {
    reached = All-weaker (IsNew shelf known root) (IsNew shelf none root) (λ v reached. reached_new nothing reached) f.0 f.1.reached;
    apart = f.1.apart;
    taken = f.1.taken;
  },
  λ yes. absurd (let wrong : true ≡ false = sym yes ∙ nothing root [] in cc),
)
