-- Which catalogues are fetched on the way down from one.
use Rattle.std.proofs.Common.{◌≡◌, ◌≢◌, ◌⊎◌, ℕ, zero, suc, ◌+◌, ◌<◌, ◌≤◌, true, List, [], ◌∷◌, ◌++◌, length, get_or, Ok, Err, Result, Some, refl, sym, ap, subst, ◌∙◌, arith, length-append, inl, inr}
use Rattle.std.specs.Prelude.{All, AllPairs, Contains, IfOk}
use Rattle.std.proofs.lemmas.List.Elements.{All-nil, All-cons, All-head, All-tail, All-append, All-weaker, Contains-append_left, Contains-append_right, Contains-append_cases}
use Rattle.std.proofs.lemmas.List.Kept.{AllPairs-cons}
use Rattle.std.proofs.lemmas.Result.{IfOk-weaker}
use Rattle.cv_base.specs.Path.{Path, covers}
use Rattle.cv_base.specs.ObjectId.{object_id}
use Rattle.cv_base.specs.declared.id.Kind.TheVariants as id_kind
use Rattle.cv_base.specs.declared.id.ObjectId.{ObjectId}
use Rattle.cv_base.specs.Counts.{raised}
use Rattle.cv_base.proofs.Laws.{covers_itself}
use Rattle.cv_ports.specs.Calls.{raised_by}
use Rattle.cv_ports.specs.Shelf.{Shelf}
use Rattle.cv_rows.specs.Catalogue.{Contents, IsCatalogue}
use Rattle.cv_rows.specs.Places.{StandsAt}
use Rattle.cv_rows.specs.declared.row.Row.{Row}
use Rattle.cv_rows.specs.declared.nested.Nested.{Nested}
use Rattle.cv_cut.specs.Reached.{Reaches, Place, HasCatalogue, ReachesCatalogue, itself, root_place}
use Rattle.cv_cut.specs.declared.load_fault.LoadFault.{LoadFault}
use Rattle.cv_cut.specs.declared.load_fault.LoadFault.TheVariants as fault
use Rattle.cv_load.specs.Fetches.{Visit, Visited, FetchesOnce}
use Rattle.cv_load.specs.FetchesInner.{IsInside, HasEntry, HasEntries, IsClosed, AreBelow, FetchesBelow}
use Rattle.cv_load.proofs.Growing.{each_more, each_all}
use Rattle.cv_load.proofs.Filling.{one_row}
use Rattle.cv_load.proofs.Standing.{same_contents}
use Rattle.cv_load.proofs.LoadedTree.{place_at, at_root_place}
use Rattle.cv_load.proofs.Below.{entries_apart, entry_below}
use Rattle.cv_cut.specs.Opening.{IsNestedCatalogue}
use Rattle.cv_cut.proofs.Lemmas.{transition_of}

-- ---- lists

pub pairs_append : {X : Type 0} (R : X → X → Type 0) (xs ys : List X) → AllPairs R xs → AllPairs R ys → All (λ x. All (R x) ys) xs → AllPairs R (xs ++ ys)
pairs_append R [] ys first then across = then
pairs_append R (x ∷ xs) ys first then across =
    let head : All (R x) xs = λ j d lt. first 0 (suc j) d (omega arith) (omega (arith, lt)) in
    let tail : AllPairs R xs = λ i j d lt within. first (suc i) (suc j) d (omega arith) (omega arith) in
    AllPairs-cons R x (xs ++ ys) (All-append (R x) xs ys head (All-head (λ y. All (R y) ys) x xs across)) (pairs_append R xs ys tail then (All-tail (λ y. All (R y) ys) x xs across))

pub raised_more : (m n count : ℕ) → raised_by m (raised_by n count) ≡ raised_by (n + m) count
raised_more zero n count = ap (λ (k : ℕ). raised_by k count) (let e : n ≡ n + 0 = omega arith in e)
raised_more (suc m) n count = ap raised (raised_more m n count) ∙ ap (λ (k : ℕ). raised_by k count) (let e : suc (n + m) ≡ n + suc m = omega arith in e)

-- ---- visits

module _ {shelf : Shelf} {top : List ℕ} where
  no_visits : (before after : ℕ) → after ≡ before → Visited shelf top [] before after
  no_visits before after same = record {
    reached = All-nil (λ (v : Visit). ReachesCatalogue shelf top v.hash v.place);
    apart = λ i j d lt within. absurd (omega arith);
    taken = same;
  }

  one_visit : (v : Visit) (before after : ℕ) → ReachesCatalogue shelf top v.hash v.place → after ≡ raised before → Visited shelf top (v ∷ []) before after
  one_visit v before after reached taken = record {
    reached = All-cons (λ (w : Visit). ReachesCatalogue shelf top w.hash w.place) v [] reached (All-nil (λ (w : Visit). ReachesCatalogue shelf top w.hash w.place));
    apart = λ i j d lt within. absurd (omega arith);
    taken = taken;
  }

  more_visits : (vs ws : List Visit) (a b c : ℕ) → All (λ v. All (λ w. v.place.path ≢ w.place.path) ws) vs → Visited shelf top vs a b → Visited shelf top ws b c → Visited shelf top (vs ++ ws) a c
  more_visits vs ws a b c across first then = record {
    reached = All-append (λ (v : Visit). ReachesCatalogue shelf top v.hash v.place) vs ws first.reached then.reached;
    apart = pairs_append (λ (v w : Visit). v.place.path ≢ w.place.path) vs ws first.apart then.apart across;
    taken = then.taken ∙ ap (raised_by (length ws)) first.taken ∙ raised_more (length ws) (length vs) a ∙ ap (λ (n : ℕ). raised_by n a) (sym (length-append vs ws));
  }

-- a list with more visits has as many entries
entries_more : (vs ws : List Visit) (c : Contents) → ((v : Visit) → Contains vs v → Contains ws v) → HasEntries vs c → HasEntries ws c
entries_more vs ws c more has = λ n there r kind stands. more (record { hash = n.hash; place = record { path = n.path; row = Some r } }) (has n there r kind stands)

closed_both : (shelf : Shelf) (vs ws : List Visit) → IsClosed shelf vs → IsClosed shelf ws → IsClosed shelf (vs ++ ws)
closed_both shelf vs ws first then = λ v c has stands. elim (Contains-append_cases vs ws v has) [
  | inl one ↦ entries_more vs (vs ++ ws) c (Contains-append_left vs ws) (first v c one stands)
  | inr other ↦ entries_more ws (vs ++ ws) c (Contains-append_right vs ws) (then v c other stands)
]

-- ---- one catalogue, with those below it

-- this one and all that is reached below it
pub record AreUnder (shelf : Shelf) (hash : List ℕ) (place : Place) (visits : List Visit) : Type 0 where
  pub own : Contains visits (record { hash = hash; place = place })
  pub deeper : IsClosed shelf visits

-- what was fetched is at or below the catalogue's place, and after Ok all that is reached there
pub record FetchesUnder (shelf : Shelf) (top hash : List ℕ) (place : Place) (before after : ℕ) {X : Type 0} (result : Result X LoadFault) : Type 0 where
  pub visits : List Visit
  pub visited : Visited shelf top visits before after
  pub under : All (λ v. covers place.path v.place.path ≡ true) visits
  pub all : IfOk result (λ given. AreUnder shelf hash place visits)

-- a catalogue was asked for, and not given
pub fetches_alone : {X : Type 0} (shelf : Shelf) (top hash : List ℕ) (place : Place) (before after : ℕ) (f : LoadFault) → ReachesCatalogue shelf top hash place → (after ≡ before) ⊎ (after ≡ raised before)
    → FetchesUnder shelf top hash place before after {X = X} (Err f)
fetches_alone shelf top hash place before after f reached (inl same) = record {
  visits = [];
  visited = no_visits before after same;
  under = All-nil (λ (v : Visit). covers place.path v.place.path ≡ true);
  all = tt;
}
fetches_alone shelf top hash place before after f reached (inr taken) =
    let v : Visit = record { hash = hash; place = place } in
    record {
      visits = v ∷ [];
      visited = one_visit v before after reached taken;
      under = All-cons (λ (w : Visit). covers place.path w.place.path ≡ true) v [] (covers_itself place.path) (All-nil (λ (w : Visit). covers place.path w.place.path ≡ true));
      all = tt;
    }

-- what is inside a catalogue is properly below its place
pub inside_below : (c : Contents) (p q : Path) → IsCatalogue c → c.at ≡ p → IsInside c q → (covers p q ≡ true) × (p ≢ q)
inside_below c p q is place inside =
    let e = entry_below c inside.0 q is inside.1 inside.2 in
    (subst (λ (x : Path). covers x q ≡ true) place e.0, λ same. e.1 (sym (place ∙ same)))

-- a visit to a catalogue and those to all below it
closed_with : {shelf : Shelf} (v : Visit) (c : Contents) (vs : List Visit) → HasCatalogue shelf v.hash v.place c → AreBelow shelf c vs → IsClosed shelf (v ∷ vs)
closed_with {shelf} v c vs has below = λ w d there stands.
    let more : (u : Visit) → Contains vs u → Contains (v ∷ vs) u = Contains-append_right (v ∷ []) vs in
    elim (Contains-append_cases (v ∷ []) vs w there) [
      | inl one ↦
          let same : v ≡ w = first_one v w one in
          let own : c ≡ d = same_contents shelf v.hash w.hash v.place w.place c d (ap (λ (x : Visit). x.hash) same) (ap (λ (x : Visit). x.place) same) has stands in
          entries_more vs (v ∷ vs) d more (subst (HasEntries vs) own below.own)
      | inr other ↦ entries_more vs (v ∷ vs) d more (below.deeper w d other stands)
    ]
  where
    first_one : (a b : Visit) → Contains (a ∷ []) b → a ≡ b
    first_one a b (zero, lt, is) = is
    first_one a b (suc k, lt, is) = absurd (omega arith)

-- a catalogue was given, and then those below it
pub fetches_with : {X : Type 0} (shelf : Shelf) (top : List ℕ) (id : ObjectId) (place : Place) (c : Contents) (before middle after : ℕ) (result : Result X LoadFault) → ReachesCatalogue shelf top id.hash place → HasCatalogue shelf id.hash place c → middle ≡ raised before
    → FetchesBelow shelf id c middle after result → FetchesUnder shelf top id.hash place before after result
fetches_with shelf top id place c before middle after result reached stands taken deeper =
    let v : Visit = record { hash = id.hash; place = place } in
    let d = deeper top place reached stands in
    let below = λ (w : Visit) (inside : IsInside c w.place.path). inside_below c place.path w.place.path stands.decodes.is stands.decodes.at inside in
    let across : All (λ (u : Visit). All (λ (w : Visit). u.place.path ≢ w.place.path) d.visits) (v ∷ []) =
    All-cons (λ (u : Visit). All (λ (w : Visit). u.place.path ≢ w.place.path) d.visits) v []
    (All-weaker (λ (w : Visit). IsInside c w.place.path) (λ (w : Visit). place.path ≢ w.place.path) (λ w inside. (below w inside).1) d.visits d.inside)
    (All-nil (λ (u : Visit). All (λ (w : Visit). u.place.path ≢ w.place.path) d.visits)) in
    record {
      visits = v ∷ d.visits;
      visited = more_visits (v ∷ []) d.visits before middle after across (one_visit v before middle reached taken) d.visited;
      under = All-cons (λ (w : Visit). covers place.path w.place.path ≡ true) v d.visits (covers_itself place.path)
          (All-weaker (λ (w : Visit). IsInside c w.place.path) (λ (w : Visit). covers place.path w.place.path ≡ true) (λ w inside. (below w inside).0) d.visits d.inside);
      all = IfOk-weaker result (λ given. AreBelow shelf c d.visits) (λ given. AreUnder shelf id.hash place (v ∷ d.visits))
          (λ given all. record { own = (0, omega arith, refl); deeper = closed_with v c d.visits stands all }) d.all;
    }

-- ---- the entries of a catalogue, one after another

-- the path is at or below that of one of the first i entries
pub record IsInsideFirst (c : Contents) (i : ℕ) (q : Path) : Type 0 where
  pub index : ℕ
  pub entry : Nested
  pub early : index < i
  pub within : index < length c.nested
  pub is : get_or c.nested index entry ≡ entry
  pub under : covers entry.path q ≡ true

-- all that is reached below the first i of them
pub record AreFirst (shelf : Shelf) (c : Contents) (i : ℕ) (visits : List Visit) : Type 0 where
  pub own : (k : ℕ) (n : Nested) → k < i → HasEntry visits c (get_or c.nested k n)
  pub deeper : IsClosed shelf visits

-- what was fetched below them
pub record FetchesFirst (shelf : Shelf) (top : List ℕ) (c : Contents) (i before after : ℕ) {X : Type 0} (result : Result X LoadFault) : Type 0 where
  pub visits : List Visit
  pub visited : Visited shelf top visits before after
  pub inside : All (λ v. IsInsideFirst c i v.place.path) visits
  pub all : IfOk result (λ given. AreFirst shelf c i visits)

-- at each place at which the catalogue under the id is reached
abbrev pub FetchesFirstOf : Shelf → ObjectId → Contents → ℕ → ℕ → ℕ → {X : Type 0} → Result X LoadFault → Type 0
FetchesFirstOf shelf id c i before after result = (top : List ℕ) (place : Place) → ReachesCatalogue shelf top id.hash place → HasCatalogue shelf id.hash place c → FetchesFirst shelf top c i before after result

pub first_none : {X : Type 0} (shelf : Shelf) (id : ObjectId) (c : Contents) (before after : ℕ) (result : Result X LoadFault) → after ≡ before → FetchesFirstOf shelf id c 0 before after result
first_none {X = X} shelf id c before after result same = λ top place reached stands. record {
  visits = [];
  visited = no_visits before after same;
  inside = All-nil (λ (v : Visit). IsInsideFirst c 0 v.place.path);
  all = none result;
}
  where
    below : AreFirst shelf c 0 []
    below = record { own = λ k n lt. absurd (omega arith); deeper = λ v d has. absurd (let lt = has.1 in omega arith) }

    none : (r : Result X LoadFault) → IfOk r (λ given. AreFirst shelf c 0 [])
    none (Ok x) = below
    none (Err f) = tt

first_more : {X : Type 0} (shelf : Shelf) (top : List ℕ) (c : Contents) (n : Nested) (r : Row) (i before middle after : ℕ) (result : Result X LoadFault) → IsCatalogue c → i < length c.nested → n ≡ get_or c.nested i n → StandsAt c.at c.rows r n.path
    → FetchesFirst shelf top c i before middle {X = Unit {0}} (Ok (tt {0})) → FetchesUnder shelf top n.hash (record { path = n.path; row = Some r }) middle after result → FetchesFirst shelf top c (i + 1) before after result
first_more shelf top c n r i before middle after result is lt item stands first then =
    let apart : (v w : Visit) → IsInsideFirst c i v.place.path → covers n.path w.place.path ≡ true → v.place.path ≢ w.place.path = λ v w inside under same.
    entries_apart c inside.index i inside.entry n w.place.path is inside.early inside.within lt inside.is (sym item) (subst (λ (q : Path). covers inside.entry.path q ≡ true) same inside.under) under in
    record {
      visits = first.visits ++ then.visits;
      visited = more_visits first.visits then.visits before middle after
          (All-weaker (λ (v : Visit). IsInsideFirst c i v.place.path) (λ (v : Visit). All (λ (w : Visit). v.place.path ≢ w.place.path) then.visits)
          (λ v inside. All-weaker (λ (w : Visit). covers n.path w.place.path ≡ true) (λ (w : Visit). v.place.path ≢ w.place.path) (λ w under. apart v w inside under) then.visits then.under) first.visits first.inside)
          first.visited then.visited;
      inside = All-append (λ (v : Visit). IsInsideFirst c (i + 1) v.place.path) first.visits then.visits
          (All-weaker (λ (v : Visit). IsInsideFirst c i v.place.path) (λ (v : Visit). IsInsideFirst c (i + 1) v.place.path)
          (λ v h. record { index = h.index; entry = h.entry; early = omega (arith, h.early); within = h.within; is = h.is; under = h.under }) first.visits first.inside)
          (All-weaker (λ (v : Visit). covers n.path v.place.path ≡ true) (λ (v : Visit). IsInsideFirst c (i + 1) v.place.path)
          (λ v h. record { index = i; entry = n; early = omega arith; within = lt; is = sym item; under = h }) then.visits then.under);
      all = IfOk-weaker result (λ given. AreUnder shelf n.hash (record { path = n.path; row = Some r }) then.visits) (λ given. AreFirst shelf c (i + 1) (first.visits ++ then.visits)) (λ given all. record {
        own = each_more (HasEntry (first.visits ++ then.visits) c) c.nested i n
            (λ k d less s kind at. Contains-append_left first.visits then.visits _ (first.all.own k d less s kind at))
            lt item (λ s kind at. Contains-append_right first.visits then.visits _ (subst (λ (x : Row). Contains then.visits (record { hash = n.hash; place = record { path = n.path; row = Some x } })) (one_row c r s n.path is stands at) all.own));
        deeper = closed_both shelf first.visits then.visits first.all.deeper all.deeper;
      }) then.all;
    }

-- one more, whose catalogue isn't opened
pub first_unopened : {X : Type 0} (shelf : Shelf) (id : ObjectId) (c : Contents) (n : Nested) (i before middle after : ℕ) (f : LoadFault) → IsCatalogue c → i < length c.nested → n ≡ get_or c.nested i n
    → FetchesFirstOf shelf id c i before middle {X = Unit {0}} (Ok (tt {0})) → (after ≡ middle) ⊎ (after ≡ raised middle) → FetchesFirstOf shelf id c (i + 1) before after {X = X} (Err f)
first_unopened shelf id c n i before middle after f is lt item first taken = λ top place reached stands.
    let has : Contains c.nested n = (i, lt, sym item) in
    let t = transition_of c n is has in
    let deeper = Reaches.nested reached stands has t.1.kind t.1.stands in
    first_more shelf top c n t.0 i before middle after (Err f) is lt item t.1.stands (first top place reached stands) (fetches_alone shelf top n.hash (record { path = n.path; row = Some t.0 }) middle after f deeper taken)

-- one more, whose catalogue is opened, with those below it
pub first_opened : {X : Type 0} (shelf : Shelf) (id : ObjectId) (c below : Contents) (n : Nested) (i before middle opened after : ℕ) (result : Result X LoadFault) → IsCatalogue c → i < length c.nested → n ≡ get_or c.nested i n
    → FetchesFirstOf shelf id c i before middle {X = Unit {0}} (Ok (tt {0})) → IsNestedCatalogue shelf c n below → opened ≡ raised middle → FetchesBelow shelf (object_id n.hash id_kind.Catalogue) below opened after result → FetchesFirstOf shelf id c (i + 1) before after result
first_opened shelf id c below n i before middle opened after result is lt item first open_ taken then = λ top place reached stands.
    let has : Contains c.nested n = (i, lt, sym item) in
    let deeper = Reaches.nested reached stands has open_.kind_ open_.stands in
    first_more shelf top c n open_.row i before middle after result is lt item open_.stands (first top place reached stands)
    (fetches_with shelf top (object_id n.hash id_kind.Catalogue) (record { path = n.path; row = Some open_.row }) below middle opened after result deeper open_.opened taken then)

-- so many as were gone over: all of them, after Ok
pub first_all : {X : Type 0} (shelf : Shelf) (id : ObjectId) (c : Contents) (i before after : ℕ) (result : Result X LoadFault) → IfOk result (λ given. length c.nested ≤ i) → FetchesFirstOf shelf id c i before after result → FetchesBelow shelf id c before after result
first_all {X = X} shelf id c i before after result enough first = λ top place reached stands.
    let f = first top place reached stands in
    record {
      visits = f.visits;
      visited = f.visited;
      inside = All-weaker (λ (v : Visit). IsInsideFirst c i v.place.path) (λ (v : Visit). IsInside c v.place.path) (λ v h. (h.entry, (h.index, h.within, h.is), h.under)) f.visits f.inside;
      all = whole f.visits result enough f.all;
    }
  where
    whole : (vs : List Visit) (r : Result X LoadFault) → IfOk r (λ given. length c.nested ≤ i) → IfOk r (λ given. AreFirst shelf c i vs) → IfOk r (λ given. AreBelow shelf c vs)
    whole vs (Ok x) le all = record {
      own = each_all (HasEntry vs c) c.nested (λ k d lt. all.own k d (omega (arith, lt, le)));
      deeper = all.deeper;
    }
    whole vs (Err f) le all = tt

-- ---- from the root on

pub once_unopened : (shelf : Shelf) (id : ObjectId) (before after : ℕ) → after ≡ raised before → FetchesOnce shelf id.hash before after
once_unopened shelf id before after taken = let f = fetches_alone {X = Unit {0}} shelf id.hash id.hash root_place before after fault.Failed itself (inr taken) in (f.visits, f.visited)

abbrev pub FetchesAll : Shelf → ObjectId → ℕ → ℕ → {X : Type 0} → Result X LoadFault → Type 0
FetchesAll shelf id before after result = FetchesUnder shelf id.hash id.hash root_place before after result

pub root_opened : {X : Type 0} (shelf : Shelf) (id : ObjectId) (p : Path) (c : Contents) (before middle after : ℕ) (result : Result X LoadFault) → p ≡ [] → HasCatalogue shelf id.hash (place_at p) c → middle ≡ raised before → FetchesBelow shelf id c middle after result
    → FetchesAll shelf id before after result
root_opened shelf id p c before middle after result e stands taken deeper = fetches_with shelf id.hash id root_place c before middle after result itself (at_root_place shelf id p c e stands) taken deeper

pub once_opened : {X : Type 0} (shelf : Shelf) (id : ObjectId) (before after : ℕ) (result : Result X LoadFault) → FetchesAll shelf id before after result → FetchesOnce shelf id.hash before after
once_opened shelf id before after result f = (f.visits, f.visited)
