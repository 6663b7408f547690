-- A load that is Ok fetches one catalogue for each cut of the tree.
use Rattle.std.proofs.Common.{◌≡◌, ◌≢◌, ℕ, suc, true, List, [], ◌∷◌, length, map, get_or, Ok, Some, IsSome, sym, ap, subst, ◌∙◌, arith}
use Rattle.std.specs.Prelude.{All, AllPairs, Contains}
use Rattle.std.specs.Bool.{Decides}
use Rattle.std.specs.Ordering.{is_eq, eq_by_cmp}
use Rattle.std.specs.Cmp.{tied_itself, eq_by_cmp_equiv}
use Rattle.std.specs.FinMap.{get, keys, entries, is_sorted, entries_sorted, contains_key-keys}
use Rattle.std.proofs.lemmas.List.{length-map}
use Rattle.std.proofs.lemmas.List.Elements.{All-map, All-contains}
use Rattle.std.proofs.lemmas.List.Kept.{AllPairs-cons, AllPairs-filter}
use Rattle.std.proofs.lemmas.Map.Made.{is_member-Decides, length-from_same_keys, IsDistinct-from_AllPairs}
use Rattle.std.proofs.lemmas.Option.{slice_get-get_or}
use Rattle.cv_base.specs.Path.{Path, path_cmp}
use Rattle.cv_base.proofs.Laws.{path_total, same_path_is}
use Rattle.cv_base.specs.declared.id.ObjectId.{ObjectId}
use Rattle.cv_ports.specs.Shelf.{Shelf}
use Rattle.cv_tree.specs.Tree.{Nodes}
use Rattle.cv_rows.proofs.Lemmas.{same_test}
use Rattle.cv_cut.specs.Cuts.{is_cut, cuts_of}
use Rattle.cv_cut.specs.Reached.{Place, ReachesCatalogue, itself, nested, root_place}
use Rattle.cv_cut.proofs.Lemmas.{so, passes, passing, comes_from, goes_to, keys_once}
use Rattle.cv_load.specs.Fetches.{Visit}
use Rattle.cv_load.proofs.Standing.{IsOpen}
use Rattle.cv_load.proofs.Assembly.{IsWhole, full_of}
use Rattle.cv_load.proofs.OwnCatalogues.{is_cut_open, some_open}
use Rattle.cv_load.proofs.Means.{cut_opened}
use Rattle.cv_load.proofs.Fetching.{AreUnder, FetchesAll}
use Rattle.cv_ports.specs.Calls.{raised_by}

pairs_map : {X Y : Type 0} (f : X → Y) (xs : List X) → AllPairs (λ a b. f a ≢ f b) xs → AllPairs (λ (y z : Y). y ≢ z) (map f xs)
pairs_map f [] apart = λ i j d lt within. absurd (omega arith)
pairs_map {Y = Y} f (x ∷ xs) apart =
    AllPairs-cons (λ (y z : Y). y ≢ z) (f x) (map f xs)
    (All-map (λ (z : Y). f x ≢ z) f xs (λ j d lt. apart 0 (suc j) d (omega arith) (omega (arith, lt))))
    (pairs_map f xs (λ i j d lt within. apart (suc i) (suc j) d (omega arith) (omega arith)))

same_place : (p q : Path) → Decides (eq_by_cmp path_cmp p q) (p ≡ q)
same_place p q = (same_path_is p q, λ e. subst (λ (x : Path). eq_by_cmp path_cmp p x ≡ true) e (ap is_eq (tied_itself path_total p)))

module _ {shelf : Shelf} {top : List ℕ} {t : Nodes} (whole : IsWhole shelf top t) (visits : List Visit) (all : AreUnder shelf top root_place visits) (reached_ : All (λ v. ReachesCatalogue shelf top v.hash v.place) visits) (apart : AllPairs (λ v w. v.place.path ≢ w.place.path) visits) where
  -- each catalogue that is reached was visited
  all_visited : {hash : List ℕ} {place : Place} → ReachesCatalogue shelf top hash place → Contains visits (record { hash = hash; place = place })
  all_visited itself = all.own
  all_visited (nested {hash = hash} {place = place} {c = c} {n = n} {r = r} reached has there kind stands) =
      all.deeper (record { hash = hash; place = place }) c (all_visited reached) has n there r kind stands

  abbrev paths : List Path
  paths = map (λ (v : Visit). v.place.path) visits

  -- where one was visited is a cut
  visited_cut : (q : Path) → Contains paths q → Contains (cuts_of t) q
  visited_cut q has =
      let v = comes_from (λ (v : Visit). v.place.path) visits q has in
      let reached = All-contains (λ (w : Visit). ReachesCatalogue shelf top w.hash w.place) visits v.0 reached_ v.1 in
      let f = full_of whole reached in
      let o : IsOpen shelf top v.0.hash v.0.place f.contents = record { reached = reached; has = f.has } in
      let at_q : f.contents.at ≡ q = f.has.decodes.at ∙ v.2 in
      let here = is_member-Decides same_place (keys t) q in
      let key = here.0 (sym (contains_key-keys t q) ∙ subst (λ (p : Path). IsSome (get t p)) at_q (some_open whole o)) in
      passing (is_cut t) (keys t) q key (subst (λ (p : Path). is_cut t p ≡ true) at_q (is_cut_open whole o))

  -- at each cut one was
  cut_visited : (q : Path) → Contains (cuts_of t) q → Contains paths q
  cut_visited q has =
      let o = cut_opened whole q (passes (is_cut t) (keys t) q has).1 in
      subst (Contains paths) (sym o.full_.has.decodes.at ∙ o.at_) (goes_to (λ (v : Visit). v.place.path) visits (record { hash = o.hash; place = o.place }) (all_visited o.reached))

  pub as_many : length visits ≡ length (cuts_of t)
  as_many =
      let Other : Path → Path → Type 0 = λ (p q : Path). p ≢ q in
      let once = keys_once (entries t) (so (is_sorted path_cmp (entries t)) (entries_sorted t)) in
      let keys_apart : AllPairs Other (keys t) = λ i j d less lt same. once.each i j (get_or (keys t) j d) less (slice_get-get_or (keys t) i d (omega arith) ∙ ap Some same) (slice_get-get_or (keys t) j d lt) in
      sym (length-map visits (λ (v : Visit). v.place.path))
      ∙ length-from_same_keys (eq_by_cmp_equiv path_total) paths (cuts_of t)
      (IsDistinct-from_AllPairs same_place paths (pairs_map (λ (v : Visit). v.place.path) visits apart))
      (IsDistinct-from_AllPairs same_place (cuts_of t) (AllPairs-filter Other (is_cut t) (keys t) keys_apart))
      (λ q. same_test _ _
      (λ h. (is_member-Decides same_place (cuts_of t) q).1 (visited_cut q ((is_member-Decides same_place paths q).0 h)))
      (λ h. (is_member-Decides same_place paths q).1 (cut_visited q ((is_member-Decides same_place (cuts_of t) q).0 h))))

pub cuts_fetched : (shelf : Shelf) (id : ObjectId) (t : Nodes) (before after : ℕ) → IsWhole shelf id.hash t → FetchesAll shelf id before after {X = Unit {0}} (Ok (tt {0})) → after ≡ raised_by (length (cuts_of t)) before
cuts_fetched shelf id t before after whole f = f.visited.taken ∙ ap (λ (n : ℕ). raised_by n before) (as_many whole f.visits f.all f.visited.reached f.visited.apart)
