-- The names in a directory.
use Rattle.std.proofs.Common.{◌≡◌, ◌≢◌, ℕ, ◌+◌, ◌<◌, true, false, List, [], ◌∷◌, ◌++◌, length, map, filter, get_or, Option, refl, sym, ap, subst, ◌∙◌, arith, append_assoc, length-append, is_some}
use Rattle.std.specs.Prelude.{Contains, IfOk}
use Rattle.std.specs.declared.cmp.Ordering.TheVariants.{Less, Equal}
use Rattle.std.specs.declared.option.Option.TheVariants.{None, Some}
use Rattle.std.specs.declared.result.Result.{Result}
use Rattle.std.specs.declared.result.Result.TheVariants.{Ok, Err}
use Rattle.std.specs.Cmp.{tied_itself}
use Rattle.std.specs.Cmp.Lexicographic.{nat_list_cmp_total}
use Rattle.std.specs.FinMap.{FinMap, get, keys, entries, entries_sorted, is_sorted, contains_key-keys}
use Rattle.std.specs.FinMap.Entries.{below_all}
use Rattle.std.specs.List.{AllByRecursion, IsDistinct}
use Rattle.std.specs.List.Sorted.{IsPermutation, IsSortedByKey, IsStrictlySortedBy}
use Rattle.std.specs.Ordering.{is_lt, is_eq}
use Rattle.std.proofs.lemmas.Bool.{and_parts}
use Rattle.std.proofs.lemmas.List.{get_or-map, length-map}
use Rattle.std.proofs.lemmas.List.Elements.{All-contains, Contains-get_or}
use Rattle.std.proofs.lemmas.List.Folds.{Any-from_list_any, list_any_at}
use Rattle.std.proofs.lemmas.List.Kept.{IsStrictlySortedBy-filter}
use Rattle.std.proofs.lemmas.List.Sorted.{Contains-permutation, IsPermutation-map, IsPermutation-sym}
use Rattle.std.proofs.lemmas.Map.Keys as by_keys
use Rattle.std.proofs.lemmas.Map.Keys.{IsDistinct-from_apart, IsDistinct-IsPermutation, Less-from_sorted, sorted_from_all_adjacent}
use Rattle.cv_base.specs.BytesOrder.{bytes_cmp}
use Rattle.cv_base.specs.Path.{Path, key_of, last_name_of, path_cmp, same_name, same_path}
use Rattle.cv_base.proofs.Laws.{same_name-symm, is_less, then_equal, rising, path_total, same_name_is, same_path_is}
use Rattle.cv_tree.specs.Tree.{Nodes, IsTree, at}
use Rattle.cv_tree.specs.declared.node.Node.{Node}
use Rattle.cv_tree.proofs.Laws.{get-at}
use Rattle.cv_rows.specs.Catalogue.{Contents, IsCatalogue, row_cmp, FitsAt}
use Rattle.cv_rows.specs.Listing.{IsListing}
use Rattle.cv_rows.specs.Places.{IsRoot, StandsAt, root, below}
use Rattle.cv_rows.specs.declared.row.Row.{Row}
use Rattle.cv_rows.proofs.Lemmas.{fits_there, one_place, stands_contained}
use Rattle.cv_cut.specs.Cuts.{is_cut}
use Rattle.cv_cut.specs.Catalogues.{contents_of, rows_of}
use Rattle.cv_cut.specs.Over.{IsNearest}
use Rattle.cv_cut.specs.Region.{IsNear, KeysApart, row_at}
use Rattle.cv_cut.specs.Told.{node_of}
use Rattle.cv_cut.proofs.Lemmas.{comes_from, goes_to, near_below, passes, passing, row_tells, rows_are, same_ends, same_list, so, stands, stands_at_cut}
use Rattle.cv_resolver.specs.Look.{is_single, names_in}
use Rattle.cv_resolver.specs.Listing.{IsNameAt, AreNames}

-- ---- by the rows of a catalogue

abbrev name : Row → List ℕ
name r = r.name

-- another row than the root stands at a path that ends in its name
ends_in_name : {at : Path} {rows : List Row} {r : Row} {q : Path} → StandsAt at rows r q → (IsRoot at r → ⊥) → (front : Path) × (q ≡ front ++ r.name ∷ [])
ends_in_name (root has is) other = absurd (other is)
ends_in_name (below {q = front} has apart up child) other = (front, refl)

module _ (c : Contents) (is : IsCatalogue c) (p : Path) (rows : List Row) (list : IsListing c p rows) where
  here : (r : Row) → Contains rows r → StandsAt c.at c.rows r (p ++ r.name ∷ []) × (IsRoot c.at r → ⊥)
  here r has =
      let kept = passes list.lists c.rows r (subst (λ (x : List Row). Contains x r) list.rows_are has) in
      let placed = All-contains (λ (x : Row). (q : Path) × StandsAt c.at c.rows x q × FitsAt c.at x q) c.rows r is.region.placed kept.0 in
      let listed = (list.lists_is r placed.0 placed.1).0 kept.1 in
      let last = ends_in_name placed.1 listed.0 in
      let same : listed.1 ≡ r.name = (same_ends p last.0 listed.1 r.name (sym listed.2 ∙ last.1)).1 in
      (subst (λ (q : Path). StandsAt c.at c.rows r q) (listed.2 ∙ ap (λ (x : List ℕ). p ++ x ∷ []) same) placed.1, listed.0)

  key_of_name : (r : Row) → Contains rows r → r.key.0 ≡ key_of (p ++ r.name ∷ [])
  key_of_name r has = (fits_there c.at c.rows r (p ++ r.name ∷ []) is.ordered is.region.placed (here r has).0).key

  ordered : IsStrictlySortedBy row_cmp rows
  ordered = subst (IsStrictlySortedBy row_cmp) (sym list.rows_are) (IsStrictlySortedBy-filter row_cmp list.lists c.rows is.ordered)

  apart : IsDistinct same_name (map name rows)
  apart = IsDistinct-from_apart same_name (map name rows) (λ i j d less lt.
      let here_j : j < length rows = omega (arith, length-map rows name) in
      let here_i : i < length rows = omega arith in
      elim (same_name (get_or (map name rows) i d) (get_or (map name rows) j d)) as (λ b. same_name (get_or (map name rows) i d) (get_or (map name rows) j d) ≡ b → b ≡ false) [
        | false ↦ λ e. refl
        | true ↦ λ e. absurd (not_twice i j d less here_i here_j (same_name_is _ _ e))
      ] refl)
    where
      not_twice : (i j : ℕ) (d : List ℕ) → i < j → i < length rows → j < length rows → get_or (map name rows) i d ≡ get_or (map name rows) j d → ⊥
      not_twice i j d less here_i here_j same = by_rows (first_row rows here_j)
        where
          first_row : (xs : List Row) → j < length xs → Row
          first_row [] lt = absurd (omega arith)
          first_row (x ∷ xs) lt = x

          by_rows : Row → ⊥
          by_rows r =
              let a = get_or rows i r in
              let b = get_or rows j r in
              let names : a.name ≡ b.name = sym (get_or-map name rows i r d here_i) ∙ same ∙ get_or-map name rows j r d here_j in
              let keys_are : a.key.0 ≡ b.key.0 = key_of_name a (Contains-get_or rows i r here_i) ∙ ap (λ (x : List ℕ). key_of (p ++ x ∷ [])) names ∙ sym (key_of_name b (Contains-get_or rows j r here_j)) in
              let is_less : bytes_cmp a.key.0 b.key.0 ≡ Less = Less-from_sorted row_cmp rows i j r ordered less here_j in
              let tied : bytes_cmp a.key.0 b.key.0 ≡ Equal = ap (λ (k : List ℕ). bytes_cmp a.key.0 k) (sym keys_are) ∙ tied_itself nat_list_cmp_total a.key.0 in
              let wrong : Less ≡ Equal = sym is_less ∙ tied in
              cc

  -- the names of rows in the order of their names
  pub are_names : (ys : List Row) (names : List (List ℕ)) → IsPermutation rows ys → IsSortedByKey name bytes_cmp ys → names ≡ map name ys → AreNames c p names
  are_names ys names moved up is_names = subst (AreNames c p) (sym is_names) (record {
    sorted = sorted_from_all_adjacent nat_list_cmp_total (map name ys) [] (λ k lt.
        let next : k + 1 < length ys = omega (arith, length-map ys name) in
        rising (get_or (map name ys) k []) (get_or (map name ys) (k + 1) []) (rise k next (name_at ys k (omega arith)))
        (by_keys.apart_from_distinct same_name (map name ys) k (k + 1) [] distinct (omega arith) lt));
    each = λ n has.
        let e = comes_from name ys n has in
        let h = here e.0 (Contains-permutation ys rows e.0 (IsPermutation-sym rows ys moved) e.1) in
        record { row = e.0; stands = subst (λ (x : List ℕ). StandsAt c.at c.rows e.0 (p ++ x ∷ [])) e.2 h.0; other = h.1 };
    all = λ n at_n.
        let kept = passing list.lists c.rows at_n.row (stands_contained at_n.stands) ((list.lists_is at_n.row (p ++ n ∷ []) at_n.stands).1 (at_n.other, n, refl)) in
        let there = Contains-permutation rows ys at_n.row moved (subst (λ (x : List Row). Contains x at_n.row) (sym list.rows_are) kept) in
        let last = ends_in_name at_n.stands at_n.other in
        subst (Contains (map name ys)) (sym (same_ends p last.0 n at_n.row.name last.1).1) (goes_to name ys at_n.row there);
  })
    where
      distinct : IsDistinct same_name (map name ys)
      distinct = IsDistinct-IsPermutation same_name same_name-symm (map name rows) (map name ys) (IsPermutation-map name rows ys moved) apart

      name_at : (xs : List Row) (k : ℕ) → k < length xs → Row
      name_at [] k lt = absurd (omega arith)
      name_at (x ∷ xs) k lt = x

      rise : (k : ℕ) → k + 1 < length ys → Row → is_lt (bytes_cmp (get_or (map name ys) (k + 1) []) (get_or (map name ys) k [])) ≡ false
      rise k next r =
          (λ i. is_lt (bytes_cmp (get_or-map name ys (k + 1) r [] next i) (get_or-map name ys k r [] (omega arith) i))) ∙ up k r (omega arith) next

  pub are_names_if : {X E : Type 0} (items : X → List (List ℕ)) (r : Result X E) (ys view : List Row) → IsPermutation rows ys → IsSortedByKey name bytes_cmp ys → view ≡ ys → IfOk r (λ v. items v ≡ map name view) → IfOk r (λ v. AreNames c p (items v))
  are_names_if items (Err e) ys view moved up same h = tt
  are_names_if items (Ok v) ys view moved up same h = are_names ys (items v) moved up (h ∙ ap (map name) same)

-- ---- by the tree

module _ {X : Type 0} where
  abbrev singles : List (Path × X) → List (List ℕ)
  singles es = map last_name_of (filter is_single (map (λ e. e.0) es))

  lower : (a : List ℕ) (es : List (Path × X)) → below_all path_cmp (a ∷ []) es ≡ true → AllByRecursion (λ y. bytes_cmp a y ≡ Less) (singles es)
  lower a [] h = tt
  lower a (([], x) ∷ es) h = lower a es ((and_parts (is_lt (path_cmp (a ∷ []) [])) (below_all path_cmp (a ∷ []) es) h).1)
  lower a ((b ∷ [], x) ∷ es) h = (
    is_less (bytes_cmp a b) (ap is_lt (sym (then_equal (bytes_cmp a b))) ∙ (and_parts (is_lt (path_cmp (a ∷ []) (b ∷ []))) (below_all path_cmp (a ∷ []) es) h).0),
    lower a es ((and_parts (is_lt (path_cmp (a ∷ []) (b ∷ []))) (below_all path_cmp (a ∷ []) es) h).1),
  )
  lower a ((b ∷ d ∷ q, x) ∷ es) h = lower a es ((and_parts (is_lt (path_cmp (a ∷ []) (b ∷ d ∷ q))) (below_all path_cmp (a ∷ []) es) h).1)

  rises : (es : List (Path × X)) → is_sorted path_cmp es ≡ true → IsStrictlySortedBy bytes_cmp (singles es)
  unfolding IsStrictlySortedBy
  rises [] h = tt
  rises (([], x) ∷ es) h = rises es ((and_parts (below_all path_cmp [] es) (is_sorted path_cmp es) h).1)
  rises ((a ∷ [], x) ∷ es) h = (lower a es ((and_parts (below_all path_cmp (a ∷ []) es) (is_sorted path_cmp es) h).0), rises es ((and_parts (below_all path_cmp (a ∷ []) es) (is_sorted path_cmp es) h).1))
  rises ((a ∷ b ∷ q, x) ∷ es) h = rises es ((and_parts (below_all path_cmp (a ∷ b ∷ q) es) (is_sorted path_cmp es) h).1)

  -- a path is a key just where something stands there
  key_there : (m : FinMap path_cmp X) (q : Path) (x : X) → get m q ≡ Some x → Contains (keys m) q
  key_there m q x is =
      let any = Any-from_list_any (same_path q) (keys m) (sym (contains_key-keys m q) ∙ ap is_some is) in
      let same : q ≡ any.1 = same_path_is q any.1 any.4 in
      (any.0, any.2, (λ i. get_or (keys m) any.0 (same i)) ∙ any.3 ∙ sym same)

  there_key : (m : FinMap path_cmp X) (q : Path) → Contains (keys m) q → is_some (get m q) ≡ true
  there_key m q has = contains_key-keys m q ∙ list_any_at (same_path q) (keys m) has.0 q has.1 (ap (same_path q) has.2 ∙ ap is_eq (tied_itself path_total q))

single_is : (q : Path) → is_single q ≡ true → q ≡ last_name_of q ∷ []
single_is [] h = cc
single_is (a ∷ []) h = refl
single_is (a ∷ b ∷ q) h = cc

pub some_node : (o : Option Node) → is_some o ≡ true → (n : Node) × (o ≡ Some n)
some_node None h = cc
some_node (Some n) h = (n, refl)

-- the names by the catalogue of the nearest cut are those in the tree
module _ (t : Nodes) (tree : IsTree t) (c : Path) (cut : is_cut t c ≡ true) (keys_apart : KeysApart c (at t c)) (is : IsCatalogue (contents_of t c)) (p : Path) (near : IsNearest t c p) where
  deeper : (n : List ℕ) → p ++ n ∷ [] ≢ c
  deeper n e = omega (arith, ap length e, ap length near.is, length-append p (n ∷ []), length-append c near.rest)

  to_tree : (n : List ℕ) → IsNameAt (contents_of t c) p n → Contains (names_in t p) n
  to_tree n at_n =
      let there = get-at t p (n ∷ []) ∙ row_tells t tree c cut keys_apart at_n.row (p ++ n ∷ []) at_n.stands in
      goes_to last_name_of (filter is_single (keys (at t p))) (n ∷ []) (passing is_single (keys (at t p)) (n ∷ []) (key_there (at t p) (n ∷ []) (node_of at_n.row) there) refl)

  from_tree : (n : List ℕ) → Contains (names_in t p) n → IsNameAt (contents_of t c) p n
  from_tree n has =
      let e = comes_from last_name_of (filter is_single (keys (at t p))) n has in
      let kept = passes is_single (keys (at t p)) e.0 e.1 in
      let one : e.0 ≡ n ∷ [] = single_is e.0 kept.1 ∙ ap (λ (x : List ℕ). x ∷ []) e.2 in
      let found = some_node (get (at t p) (n ∷ [])) (there_key (at t p) (n ∷ []) (subst (Contains (keys (at t p))) one kept.0)) in
      let rest = near.rest ++ n ∷ [] in
      let place : c ++ rest ≡ p ++ n ∷ [] = sym (append_assoc c near.rest (n ∷ [])) ∙ ap (λ (w : Path). w ++ n ∷ []) (sym near.is) in
      let region : IsNear (at t c) rest found.0 = record {
        there = get-at t c rest ∙ ap (get t) place ∙ sym (get-at t p (n ∷ [])) ∙ found.1;
        near = near_below (at t c) near.rest n near.near near.free;
      } in
      let st = stands c (at t c) (rows_of c (at t c)) (stands_at_cut t c tree cut).part keys_apart (rows_are c (at t c) keys_apart) rest found.0 region in
      let here : StandsAt c (contents_of t c).rows (row_at c (at t c) rest found.0) (p ++ n ∷ []) = subst (λ (w : Path). StandsAt c (rows_of c (at t c)) (row_at c (at t c) rest found.0) w) place st in
      record {
        row = row_at c (at t c) rest found.0;
        stands = here;
        other = λ top. deeper n (one_place is.ordered here (root (stands_contained here) top));
      }

  pub names_are : (names : List (List ℕ)) → AreNames (contents_of t c) p names → names ≡ names_in t p
  names_are names are =
      same_list nat_list_cmp_total names (names_in t p) are.sorted (rises (entries (at t p)) (so (is_sorted path_cmp (entries (at t p))) (entries_sorted (at t p))))
      (λ n has. to_tree n (are.each n has)) (λ n has. are.all n (from_tree n has))
