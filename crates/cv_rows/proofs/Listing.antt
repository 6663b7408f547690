-- The paths of rows, one after another, and the rows that stand directly in a directory.
use Rattle.std.proofs.Common.{◌≡◌, ◌≢◌, ℕ, ◌+◌, ◌<◌, ◌≤◌, ◌↔◌, Bool, true, false, not, bytes_eq, List, [], ◌∷◌, ◌++◌, length, take, filter, get_or, refl, sym, ap, subst, ◌∙◌, arith, inl, inr}
use Rattle.std.specs.Prelude.{Contains, MatchBool}
use Rattle.std.proofs.lemmas.Bool.{and_from, and_parts}
use Rattle.std.proofs.lemmas.List.{take_more, take_all, get_or_default}
use Rattle.cv_base.specs.Path.{Path, key_of, covers, same_path}
use Rattle.cv_base.proofs.Laws.{last_same, same_path-itself, same_path_is}
use Rattle.cv_rows.specs.Catalogue.{Contents, IsCatalogue, is_below}
use Rattle.cv_rows.specs.Listing.{IsListing}
use Rattle.cv_rows.specs.ListingInner.{is_in}
use Rattle.cv_rows.specs.Places.{IsRoot, StandsAt, StandEach, root, below}
use Rattle.cv_rows.specs.declared.row.Row.{Row}
use Rattle.cv_rows.proofs.PlaceLaws.{stands_contained, same_by_key, one_place}
use Rattle.cv_rows.proofs.NestedLaws.{fits_there}
use Rattle.cv_rows.specs.Toward.{IsAbove}
use Rattle.cv_rows.specs.declared.nested.Nested.{Nested}
use Rattle.std.proofs.lemmas.Slice.Eq.{bytes_eq-Decides}
use Rattle.std.proofs.lemmas.Bool.{cases_lt}

-- one more
snoc : (at : Path) (all rows : List Row) (paths : List Path) (r : Row) (q : Path) → StandEach at all rows paths → StandsAt at all r q → StandEach at all (rows ++ r ∷ []) (paths ++ q ∷ [])
snoc at all [] [] r q h s = (s, tt)
snoc at all [] (y ∷ ys) r q h s = absurd h
snoc at all (x ∷ xs) [] r q h s = absurd h
snoc at all (x ∷ xs) (y ∷ ys) r q h s = (h.0, snoc at all xs ys r q h.1 s)

pub each_more : (at : Path) (rows : List Row) (paths new : List Path) (i : ℕ) (d : Row) (q : Path) → i < length rows → new ≡ paths ++ q ∷ [] → StandsAt at rows (get_or rows i d) q → StandEach at rows (take i rows) paths
    → StandEach at rows (take (i + 1) rows) new
each_more at rows paths new i d q lt is s h =
    subst (StandEach at rows (take (i + 1) rows)) (sym is) (subst (λ (l : List Row). StandEach at rows l (paths ++ q ∷ [])) (sym (take_more rows i d lt)) (snoc at rows (take i rows) paths (get_or rows i d) q h s))

pub each_all : (at : Path) (rows : List Row) (paths : List Path) (i : ℕ) → length rows ≤ i → StandEach at rows (take i rows) paths → StandEach at rows rows paths
each_all at rows paths i le h = subst (λ (l : List Row). StandEach at rows l paths) (take_all i rows le) h

-- ---- directly in a directory

module _ (c : Contents) (is : IsCatalogue c) where
  key_there : (r : Row) (q : Path) → StandsAt c.at c.rows r q → r.key.0 ≡ key_of q
  key_there r q s = (fits_there c.at c.rows r q is.ordered is.region.placed s).key

  one_there : (r p : Row) (q : Path) → StandsAt c.at c.rows r q → StandsAt c.at c.rows p q → r ≡ p
  one_there r p q s t = same_by_key c.rows r p is.ordered (stands_contained s) (stands_contained t) (key_there r q s ∙ sym (key_there p q t))

  root_by : (r : Row) → Contains c.rows r → r.key.0 ≡ key_of c.at → IsRoot c.at r
  root_by r has key = let top = is.region.root in subst (IsRoot c.at) (same_by_key c.rows top.0 r is.ordered top.1 has (top.2.key ∙ sym key)) top.2

  -- which rows these are
  pub listed : (directory : Row) (p : Path) → StandsAt c.at c.rows directory p → (r : Row) (q : Path) → StandsAt c.at c.rows r q
      → (is_in (key_of c.at) directory.key.0 r ≡ true) ↔ ((IsRoot c.at r → ⊥) × (name : List ℕ) × (q ≡ p ++ name ∷ []))
  listed directory p here r q s = (there s, back s)
    where
      there : {x : Path} → StandsAt c.at c.rows r x → is_in (key_of c.at) directory.key.0 r ≡ true → (IsRoot c.at r → ⊥) × (name : List ℕ) × (x ≡ p ++ name ∷ [])
      there (root has top) h =
          let parts = and_parts (is_below r directory.key.0) (not (bytes_eq r.key.0 (key_of c.at))) h in
          let same = (bytes_eq-Decides r.key.0 (key_of c.at)).1 top.key in
          absurd (let wrong : not true ≡ true = ap not (sym same) ∙ parts.1 in cc)
      there (below {p = above} {q = front} has apart up child) h =
          let parts = and_parts (is_below r directory.key.0) (not (bytes_eq r.key.0 (key_of c.at))) h in
          let first = and_parts (bytes_eq r.parent.0 directory.key.0) (not (bytes_eq r.key.0 directory.key.0)) parts.0 in
          let key = (bytes_eq-Decides r.parent.0 directory.key.0).0 first.0 in
          let one : above ≡ directory = same_by_key c.rows above directory is.ordered (stands_contained up) (stands_contained here) (sym child.parent ∙ key) in
          let same : front ≡ p = one_place is.ordered (subst (λ (x : Row). StandsAt c.at c.rows x front) one up) here in
          (apart, r.name, ap (λ (x : Path). x ++ r.name ∷ []) same)

      differs : (xs ys : List ℕ) → xs ≢ ys → not (bytes_eq xs ys) ≡ true
      differs xs ys apart = elim (bytes_eq xs ys) as (λ b. bytes_eq xs ys ≡ b → not b ≡ true) [
        | true ↦ λ e. absurd (apart ((bytes_eq-Decides xs ys).0 e))
        | false ↦ λ e. refl
      ] refl

      back : {x : Path} → StandsAt c.at c.rows r x → (IsRoot c.at r → ⊥) × (name : List ℕ) × (x ≡ p ++ name ∷ []) → is_in (key_of c.at) directory.key.0 r ≡ true
      back (root has top) h = absurd (h.0 top)
      back (below {p = above} {q = front} has apart up child) h =
          let same : front ≡ p = (last_same front p r.name h.1 h.2).0 in
          let one : above ≡ directory = one_there above directory p (subst (StandsAt c.at c.rows above) same up) here in
          let key : r.parent.0 ≡ directory.key.0 = child.parent ∙ ap (λ (x : Row). x.key.0) one in
          let other : r.key.0 ≢ directory.key.0 = λ e. child.other (e ∙ sym (ap (λ (x : Row). x.key.0) one)) in
          and_from _ _ (and_from _ _ ((bytes_eq-Decides r.parent.0 directory.key.0).1 key) (differs r.key.0 directory.key.0 other)) (differs r.key.0 (key_of c.at) (λ e. h.0 (root_by r has e)))

  -- where no row stands at the path, none stands in it
  pub nothing_in : (p : Path) → ((r : Row) → StandsAt c.at c.rows r p → ⊥) → (r : Row) (q : Path) → StandsAt c.at c.rows r q → (false ≡ true) ↔ ((IsRoot c.at r → ⊥) × (name : List ℕ) × (q ≡ p ++ name ∷ []))
  nothing_in p none r q s = (λ e. absurd cc, λ h. absurd (back s h))
    where
      back : {x : Path} → StandsAt c.at c.rows r x → (IsRoot c.at r → ⊥) × (name : List ℕ) × (x ≡ p ++ name ∷ []) → ⊥
      back (root has top) h = h.0 top
      back (below {p = above} {q = front} has apart up child) h = none above (subst (StandsAt c.at c.rows above) (last_same front p r.name h.1 h.2).0 up)

pub no_rows : (rows : List Row) → [] ≡ filter (λ (r : Row). false) rows
no_rows [] = refl
no_rows (r ∷ rows) = no_rows rows

pub listing : (c : Contents) (is : IsCatalogue c) (directory : Row) (p : Path) (key at_key : List ℕ) (items rows : List Row) → StandsAt c.at c.rows directory p → key ≡ directory.key.0 → at_key ≡ key_of c.at → items ≡ c.rows
    → rows ≡ filter (is_in at_key key) items → IsListing c p rows
listing c is directory p key at_key items rows here key-is at-is same rows-are = record {
  lists = is_in (key_of c.at) directory.key.0;
  lists_is = listed c is directory p here;
  rows_are = rows-are ∙ (λ i. filter (is_in (at-is i) (key-is i)) (same i));
}

pub empty_listing : (c : Contents) (is : IsCatalogue c) (p : Path) (rows : List Row) → ((r : Row) → StandsAt c.at c.rows r p → ⊥) → rows ≡ [] → IsListing c p rows
empty_listing c is p rows none nothing = record { lists = λ r. false; lists_is = nothing_in c is p none; rows_are = nothing ∙ no_rows c.rows }

-- ---- toward a path

pub above_is : (a p : Path) (b : Bool) → covers a p ≡ true → b ≡ not (same_path p a) → MatchBool b (IsAbove a p) (IsAbove a p → ⊥)
above_is a p b covered is = elim (same_path p a) as (λ s. same_path p a ≡ s → b ≡ not s → MatchBool b (IsAbove a p) (IsAbove a p → ⊥)) [
  | true ↦ λ h no. subst (λ (x : Bool). MatchBool x (IsAbove a p) (IsAbove a p → ⊥)) (sym no) (λ above. above.apart (same_path_is p a h))
  | false ↦ λ h yes. subst (λ (x : Bool). MatchBool x (IsAbove a p) (IsAbove a p → ⊥)) (sym yes) (record { covered = covered; apart = λ same. differs same h })
] refl is
  where
    differs : p ≡ a → same_path p a ≡ false → ⊥
    differs same h = (let yes : same_path p a ≡ true = ap (same_path p) (sym same) ∙ same_path-itself p in let e : true ≡ false = sym yes ∙ h in cc)

pub none_above : (nested : List Nested) (i : ℕ) (p : Path) → ((k : ℕ) (d : Nested) → k < i → IsAbove (get_or nested k d).path p → ⊥) → ((d : Nested) → IsAbove (get_or nested i d).path p → ⊥)
    → (k : ℕ) (d : Nested) → k < i + 1 → IsAbove (get_or nested k d).path p → ⊥
none_above nested i p before here k d lt =
    elim (cases_lt k i) [
      | inl less ↦ before k d less
      | inr ge ↦ let is : k ≡ i = omega arith in subst (λ (j : ℕ). IsAbove (get_or nested j d).path p → ⊥) (sym is) (here d)
    ]

pub above_here : (nested : List Nested) (i : ℕ) (n : Nested) (p : Path) → i < length nested → n ≡ get_or nested i n → IsAbove (get_or nested i n).path p → (d : Nested) → IsAbove (get_or nested i d).path p
above_here nested i n p lt is h d = subst (λ (m : Nested). IsAbove m.path p) (get_or_default nested i n d lt) h

pub not_above_here : (nested : List Nested) (i : ℕ) (n : Nested) (p : Path) → i < length nested → n ≡ get_or nested i n → (IsAbove (get_or nested i n).path p → ⊥) → (d : Nested) → IsAbove (get_or nested i d).path p → ⊥
not_above_here nested i n p lt is none d h = none (subst (λ (m : Nested). IsAbove m.path p) (get_or_default nested i d n lt) h)

pub none_at_all : (nested : List Nested) (i : ℕ) (p : Path) → length nested ≤ i → ((k : ℕ) (d : Nested) → k < i → IsAbove (get_or nested k d).path p → ⊥) → (n : Nested) → Contains nested n → IsAbove n.path p → ⊥
none_at_all nested i p all none n has h = none has.0 n (omega (arith, has.1)) (subst (λ (m : Nested). IsAbove m.path p) (sym has.2) h)
