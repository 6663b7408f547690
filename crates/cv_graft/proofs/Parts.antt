-- What one catalogue has outside a path, and another at the path and below it, are together parts of a catalogue, where no
-- key stands in both and the directory of the path is there.
use Rattle.std.proofs.Common.{◌≡◌, ◌≢◌, ℕ, Bool, true, false, not, ◌&&◌, List, [], ◌∷◌, ◌++◌, refl, sym, ap, subst, ◌∙◌, inl, inr, ◌⊎◌}
use Rattle.std.specs.Prelude.{Contains, bytes_eq}
use Rattle.std.specs.List.{All}
use Rattle.std.proofs.lemmas.Bool.{false_from_ne_true}
use Rattle.std.proofs.lemmas.List.{map-append}
use Rattle.std.proofs.lemmas.List.Elements.{All-from_recursion, recursion_from_All, All-filter, All-append, All-contains, Contains-append_left, Contains-append_right, Contains-append_cases}
use Rattle.std.proofs.lemmas.List.Folds.{Any-from_list_any, list_any-from_Any}
use Rattle.std.proofs.lemmas.Slice.Eq.{bytes_eq-Decides}
use Rattle.cv_base.specs.Marker.{marker, ends_in}
use Rattle.cv_base.specs.Path.{Path, covers, key_of, text_of}
use Rattle.cv_base.proofs.Laws.{first_true, second_true, text_of-injective, each_all}
use Rattle.cv_rows.specs.Row.{IsRow, same_kind}
use Rattle.cv_rows.specs.Nested.{IsNested}
use Rattle.cv_rows.specs.Places.{IsRoot, StandsAt, root, below}
use Rattle.cv_rows.specs.Catalogue.{Contents, IsCatalogue, IsRegion, FitsAt, IsMarkedWell, IsTransitionAt, IsListed, is_marker, has_marker}
use Rattle.cv_rows.specs.Made.{AreParts, AreApart, keys_of, texts_of}
use Rattle.cv_rows.specs.Without.{IsWithout}
use Rattle.cv_rows.specs.declared.row.Row.{Row}
use Rattle.cv_rows.specs.declared.nested.Nested.{Nested}
use Rattle.cv_rows.specs.declared.row_kind.RowKind.TheVariants.{NestedRoot, File}
use Rattle.cv_rows.specs.Within.{IsWithin}
use Rattle.cv_graft.specs.Places.{HasPlace}
use Rattle.cv_cut.proofs.Lemmas.{passes, passing, comes_from, kept_apart, sorted_apart, apart_append}
use Rattle.cv_rows.proofs.Lemmas.{covers_last, ends_so, not_above, stands_contained, one_place, fits_there, stands_among, no_root}

-- ---- paths with one more name

same_front : (p q : Path) (a b : List ℕ) → p ++ a ∷ [] ≡ q ++ b ∷ [] → p ≡ q
same_front [] [] a b h = refl
same_front [] (c ∷ []) a b h = cc
same_front [] (c ∷ d ∷ q) a b h = cc
same_front (c ∷ []) [] a b h = cc
same_front (c ∷ d ∷ p) [] a b h = cc
same_front (c ∷ p) (d ∷ q) a b h = let head : c ≡ d = cc in let rest = same_front p q a b cc in λ i. head i ∷ rest i

-- what is asked
pub record AreJoinable (c o rest : Contents) (p : Path) (rows : List Row) (nested : List Nested) : Type 0 where
  pub is : IsCatalogue rest
  pub other : IsCatalogue o
  pub below_ : covers o.at p ≡ true
  pub apart : p ≢ o.at
  pub unmarked : ends_in marker p ≡ false
  pub without : IsWithout c p rest
  pub within : IsWithin o p rows nested
  pub place : HasPlace rest p
  pub cross : (a b : Row) → Contains rest.rows a → Contains rows b → a.key.0 ≡ b.key.0 → ⊥

module _ (c o rest : Contents) (p : Path) (rows : List Row) (nested : List Nested) (j : AreJoinable c o rest p rows nested) where
  abbrev all_rows : List Row
  all_rows = rest.rows ++ rows

  abbrev all_nested : List Nested
  all_nested = rest.nested ++ nested

  left_row : (r : Row) → Contains rest.rows r → Contains (rest.rows ++ rows) r
  left_row r has = Contains-append_left rest.rows rows r has

  right_row : (r : Row) → Contains rows r → Contains (rest.rows ++ rows) r
  right_row r has = Contains-append_right rest.rows rows r has

  not_root_place : covers p o.at ≡ true → ⊥
  not_root_place h = let out = not_above o.at p j.below_ j.apart in let wrong : true ≡ false = sym h ∙ out in cc

  -- a row of the other catalogue that stands at the path or below comes
  comes : (r : Row) (q : Path) → StandsAt o.at o.rows r q → covers p q ≡ true → Contains rows r
  comes r q s h = subst (λ (rs : List Row). Contains rs r) (sym j.within.rows_are) (passing j.within.goes o.rows r (stands_contained s) (j.within.goes_is r q s ∙ h))

  -- and one that comes stands there
  record StandsIn (r : Row) : Type 0 where
    path : Path
    stands : StandsAt o.at o.rows r path
    fits : FitsAt o.at r path
    covered : covers p path ≡ true

  came : (r : Row) → Contains rows r → StandsIn r
  came r has =
      let was = passes j.within.goes o.rows r (subst (λ (rs : List Row). Contains rs r) j.within.rows_are has) in
      let f = All-contains (λ x. (q : Path) × StandsAt o.at o.rows x q × FitsAt o.at x q) o.rows r j.other.region.placed was.0 in
      record { path = f.0; stands = f.1; fits = f.2; covered = sym (j.within.goes_is r f.0 f.1) ∙ was.1 }

  -- no row that comes is the root row
  no_root_row : (r : Row) → Contains rows r → IsRoot rest.at r → ⊥
  no_root_row r has is = let top = j.is.region.root in j.cross top.0 r top.1 has (top.2.key ∙ sym is.key)

  stands_in : {r : Row} {q : Path} → StandsAt o.at o.rows r q → covers p q ≡ true → StandsAt rest.at (rest.rows ++ rows) r q
  stands_in (root has is) h = absurd (not_root_place h)
  stands_in {r} (below {p = par} {q = up} has other s child) h =
      let mine = comes r (up ++ r.name ∷ []) (below has other s child) h in
      elim (covers p up) as (λ b. covers p up ≡ b → StandsAt rest.at (rest.rows ++ rows) r (up ++ r.name ∷ [])) [
        | true ↦ λ e. below (right_row r mine) (no_root_row r mine) (stands_in s e) child
        | false ↦ λ e.
            let here : p ≡ up ++ r.name ∷ [] = covers_last p up r.name e h in
            let front : j.place.front ≡ up = same_front j.place.front up j.place.name r.name (sym j.place.is ∙ here) in
            let above : StandsAt rest.at (rest.rows ++ rows) j.place.row up = subst (StandsAt rest.at (rest.rows ++ rows) j.place.row) front (stands_among left_row j.place.stands) in
            let own = fits_there rest.at rest.rows j.place.row j.place.front j.is.ordered j.is.region.placed j.place.stands in
            let key : r.parent.0 ≡ j.place.row.key.0 = child.parent ∙ (fits_there o.at o.rows par up j.other.ordered j.other.region.placed s).key ∙ ap key_of (sym front) ∙ sym own.key in
            below (right_row r mine) (no_root_row r mine) above
            (record { kind = child.kind; holds = j.place.holds; parent = key; other = λ same. j.cross j.place.row r (stands_contained j.place.stands) mine (sym same) })
      ] refl

  -- ---- markers

  -- the directory of a marker that comes comes too
  marker_came : (f : Row) (key : List ℕ) → Contains rows f → is_marker f ≡ true → f.parent.0 ≡ key → (b : Row) × Contains rows b × (b.key.0 ≡ key)
  marker_came f key has marks parent =
      let s = came f has in
      up (s.path) s.stands s.covered
    where
      up : (q : Path) → StandsAt o.at o.rows f q → covers p q ≡ true → (b : Row) × Contains rows b × (b.key.0 ≡ key)
      up q (root has is) h = absurd (not_root_place h)
      up q (below {p = par} {q = front} has other s child) h =
          elim (covers p front) as (λ b. covers p front ≡ b → (b : Row) × Contains rows b × (b.key.0 ≡ key)) [
            | true ↦ λ e. (par, comes par front s e, sym child.parent ∙ parent)
            | false ↦ λ e.
                let here : p ≡ front ++ f.name ∷ [] = covers_last p front f.name e h in
                let named : f.name ≡ marker = (bytes_eq-Decides f.name marker).0 (second_true (same_kind f.kind File) (bytes_eq f.name marker) marks) in
                absurd (let wrong : true ≡ false = sym (ends_so front marker) ∙ ap (λ (n : List ℕ). ends_in marker (front ++ n ∷ [])) (sym named) ∙ ap (ends_in marker) (sym here) ∙ j.unmarked in cc)
          ] refl

  -- and that of one that stays stays
  marker_stayed : (f : Row) (key : List ℕ) → Contains rest.rows f → is_marker f ≡ true → f.parent.0 ≡ key → (a : Row) × Contains rest.rows a × (a.key.0 ≡ key)
  marker_stayed f key has marks parent =
      let at_f = All-contains (λ x. (q : Path) × StandsAt rest.at rest.rows x q × FitsAt rest.at x q) rest.rows f j.is.region.placed has in
      up at_f.0 at_f.1
    where
      up : (q : Path) → StandsAt rest.at rest.rows f q → (a : Row) × Contains rest.rows a × (a.key.0 ≡ key)
      up q (root has is) = absurd (no_root rest.at f.kind (first_true (same_kind f.kind File) (bytes_eq f.name marker) marks) is.kind)
      up q (below {p = par} has other s child) = (par, stands_contained s, sym child.parent ∙ parent)

  abbrev marks : List ℕ → Row → Bool
  marks key f = is_marker f && bytes_eq f.parent.0 key

  marked_either : (key : List ℕ) → has_marker (rest.rows ++ rows) key ≡ true → has_marker rest.rows key ≡ true ⊎ has_marker rows key ≡ true
  marked_either key h =
      let test = λ (f : Row). is_marker f && bytes_eq f.parent.0 key in
      let any = Any-from_list_any test (rest.rows ++ rows) h in
      elim (Contains-append_cases rest.rows rows any.1 (any.0, any.2, any.3)) [
        | inl left ↦ inl (list_any-from_Any test rest.rows (left.0, any.1, left.1, left.2, any.4))
        | inr right ↦ inr (list_any-from_Any test rows (right.0, any.1, right.1, right.2, any.4))
      ]

  no_marker_came : (a : Row) → Contains rest.rows a → has_marker rows a.key.0 ≡ true → ⊥
  no_marker_came a has h =
      let test = λ (f : Row). is_marker f && bytes_eq f.parent.0 a.key.0 in
      let any = Any-from_list_any test rows h in
      let b = marker_came any.1 a.key.0 (any.0, any.2, any.3) (first_true (is_marker any.1) (bytes_eq any.1.parent.0 a.key.0) any.4) ((bytes_eq-Decides any.1.parent.0 a.key.0).0 (second_true (is_marker any.1) (bytes_eq any.1.parent.0 a.key.0) any.4)) in
      j.cross a b.0 has b.1 (sym b.2)

  no_marker_stayed : (b : Row) → Contains rows b → has_marker rest.rows b.key.0 ≡ true → ⊥
  no_marker_stayed b has h =
      let test = λ (f : Row). is_marker f && bytes_eq f.parent.0 b.key.0 in
      let any = Any-from_list_any test rest.rows h in
      let a = marker_stayed any.1 b.key.0 (any.0, any.2, any.3) (first_true (is_marker any.1) (bytes_eq any.1.parent.0 b.key.0) any.4) ((bytes_eq-Decides any.1.parent.0 b.key.0).0 (second_true (is_marker any.1) (bytes_eq any.1.parent.0 b.key.0) any.4)) in
      j.cross a.0 b a.1 has a.2

  marker_in_left : (key : List ℕ) → has_marker rest.rows key ≡ true → has_marker (rest.rows ++ rows) key ≡ true
  marker_in_left key h =
      let test = λ (f : Row). is_marker f && bytes_eq f.parent.0 key in
      let any = Any-from_list_any test rest.rows h in
      let has = left_row any.1 (any.0, any.2, any.3) in
      list_any-from_Any test (rest.rows ++ rows) (has.0, any.1, has.1, has.2, any.4)

  stays_marked : (a : Row) → Contains rest.rows a → IsMarkedWell rest.at rest.rows a → IsMarkedWell rest.at (rest.rows ++ rows) a
  stays_marked a has h = (
    λ kind other. false_from_ne_true (has_marker (rest.rows ++ rows) a.key.0) (λ yes. elim (marked_either a.key.0 yes) [
      | inl left ↦ (let no = h.0 kind other in let wrong : true ≡ false = sym left ∙ no in cc)
      | inr right ↦ no_marker_came a has right
    ]),
    λ kind. marker_in_left a.key.0 (h.1 kind),
  )

  was_marked : (b : Row) → has_marker rows b.key.0 ≡ true → has_marker o.rows b.key.0 ≡ true
  was_marked b h =
      let test = λ (f : Row). is_marker f && bytes_eq f.parent.0 b.key.0 in
      let any = Any-from_list_any test rows h in
      let has = (passes j.within.goes o.rows any.1 (subst (λ (rs : List Row). Contains rs any.1) j.within.rows_are (any.0, any.2, any.3))).0 in
      list_any-from_Any test o.rows (has.0, any.1, has.1, has.2, any.4)

  comes_marked : (b : Row) → Contains rows b → IsMarkedWell rest.at (rest.rows ++ rows) b
  comes_marked b has =
      let s = came b has in
      let h : IsMarkedWell o.at o.rows b = All-contains (IsMarkedWell o.at o.rows) o.rows b j.other.region.marked (stands_contained s.stands) in
      let not_top : IsRoot o.at b → ⊥ = λ is. not_root_place (subst (λ (q : Path). covers p q ≡ true) (one_place j.other.ordered s.stands (root (stands_contained s.stands) is)) s.covered) in (
        λ kind other. false_from_ne_true (has_marker (rest.rows ++ rows) b.key.0) (λ yes. elim (marked_either b.key.0 yes) [
          | inl left ↦ no_marker_stayed b has left
          | inr right ↦ (let no = h.0 kind not_top in let wrong : true ≡ false = sym (was_marked b right) ∙ no in cc)
        ]),
        λ kind. absurd (no_nested_root b s.path s.stands s.covered kind),
      )
    where
      no_nested_root : (b : Row) (q : Path) → StandsAt o.at o.rows b q → covers p q ≡ true → b.kind ≡ NestedRoot → ⊥
      no_nested_root b q (root has is) h kind = not_root_place h
      no_nested_root b q (below has other s child) h kind = child.kind kind

  -- ---- all rules

  abbrev IsPlaced : Row → Type 0
  IsPlaced r = (q : Path) × StandsAt rest.at (rest.rows ++ rows) r q × FitsAt rest.at r q

  abbrev IsWell : Row → Type 0
  IsWell r = IsMarkedWell rest.at (rest.rows ++ rows) r

  abbrev IsNamed : Nested → Type 0
  IsNamed n = IsTransitionAt rest.at (rest.rows ++ rows) n.path

  abbrev HasList : Row → Type 0
  HasList r = IsListed rest.at (rest.rows ++ rows) (rest.nested ++ nested) r

  pub region_joined : IsRegion rest.at (rest.rows ++ rows) (rest.nested ++ nested)
  region_joined = record {
    place = j.is.region.place;
    spelled = recursion_from_All IsRow (rest.rows ++ rows) (All-append IsRow rest.rows rows (All-from_recursion IsRow rest.rows j.is.region.spelled)
        (subst (All IsRow) (sym j.within.rows_are) (All-filter j.within.goes IsRow o.rows (All-from_recursion IsRow o.rows j.other.region.spelled))));
    nested_spelled = recursion_from_All IsNested (rest.nested ++ nested) (All-append IsNested rest.nested nested (All-from_recursion IsNested rest.nested j.is.region.nested_spelled)
        (subst (All IsNested) (sym j.within.nested_are) (All-filter (λ (n : Nested). covers p n.path) IsNested o.nested (All-from_recursion IsNested o.nested j.other.region.nested_spelled))));
    root = (let top = j.is.region.root in (top.0, left_row top.0 top.1, top.2));
    placed = All-append IsPlaced rest.rows rows
        (each_all IsPlaced rest.rows (λ r has. let f = All-contains (λ x. (q : Path) × StandsAt rest.at rest.rows x q × FitsAt rest.at x q) rest.rows r j.is.region.placed has in (f.0, stands_among left_row f.1, f.2)))
        (each_all IsPlaced rows (λ r has. let s = came r has in (s.path, stands_in s.stands s.covered, record { key = s.fits.key; path = s.fits.path; name = λ is. absurd (no_root_row r has is) })));
    marked = All-append IsWell rest.rows rows
        (each_all IsWell rest.rows (λ r has. stays_marked r has (All-contains (IsMarkedWell rest.at rest.rows) rest.rows r j.is.region.marked has)))
        (each_all IsWell rows comes_marked);
    named = All-append IsNamed rest.nested nested
        (each_all IsNamed rest.nested (λ n has. let h = All-contains (λ (n : Nested). IsTransitionAt rest.at rest.rows n.path) rest.nested n j.is.region.named has in record { row = h.row; kind = h.kind; stands = stands_among left_row h.stands }))
        (each_all IsNamed nested (λ n has.
        let was = passes (λ (n : Nested). covers p n.path) o.nested n (subst (λ (ns : List Nested). Contains ns n) j.within.nested_are has) in
        let h = All-contains (λ (n : Nested). IsTransitionAt o.at o.rows n.path) o.nested n j.other.region.named was.0 in
        record { row = h.row; kind = h.kind; stands = stands_in h.stands was.1 }));
    listed = All-append HasList rest.rows rows
        (each_all HasList rest.rows (λ r has kind.
        let h = All-contains (IsListed rest.at rest.rows rest.nested) rest.rows r j.is.region.listed has kind in
        (h.0, Contains-append_left rest.nested nested h.0 h.1, stands_among left_row h.2)))
        (each_all HasList rows (λ r has kind.
        let s = came r has in
        let h = All-contains (IsListed o.at o.rows o.nested) o.rows r j.other.region.listed (stands_contained s.stands) kind in
        let covered : covers p h.0.path ≡ true = subst (λ (q : Path). covers p q ≡ true) (one_place j.other.ordered s.stands h.2) s.covered in
        let there : Contains nested h.0 = subst (λ (ns : List Nested). Contains ns h.0) (sym j.within.nested_are) (passing (λ (n : Nested). covers p n.path) o.nested h.0 h.1 covered) in
        (h.0, Contains-append_right rest.nested nested h.0 there, stands_in h.2 covered)));
  }

  text_paths : AreApart (texts_of (rest.nested ++ nested))
  text_paths =
      let text = λ (m : Nested). text_of m.path in
      let left = sorted_apart text rest.nested j.is.nested_ordered in
      let right = subst (λ (ns : List Nested). AreApart (texts_of ns)) (sym j.within.nested_are) (kept_apart text (λ (m : Nested). covers p m.path) o.nested j.other.nested_ordered) in
      subst AreApart (sym (map-append text rest.nested nested)) (apart_append (texts_of rest.nested) (texts_of nested) left right (λ x has had.
      let a = comes_from text rest.nested x has in
      let b = comes_from text nested x had in
      let was = passes (λ (m : Nested). not (covers p m.path)) c.nested a.0 (subst (λ (ns : List Nested). Contains ns a.0) j.without.nested a.1) in
      let will = passes (λ (m : Nested). covers p m.path) o.nested b.0 (subst (λ (ns : List Nested). Contains ns b.0) j.within.nested_are b.1) in
      let one = (All-contains IsNested rest.nested a.0 (All-from_recursion IsNested rest.nested j.is.region.nested_spelled) a.1).path in
      let other = (All-contains IsNested o.nested b.0 (All-from_recursion IsNested o.nested j.other.region.nested_spelled) will.0).path in
      let same = text_of-injective a.0.path b.0.path one other (a.2 ∙ sym b.2) in
      let wrong : not true ≡ true = ap not (sym will.1 ∙ ap (covers p) (sym same)) ∙ was.1 in cc))

  pub parts_joined : AreParts rest.at (rest.rows ++ rows) (rest.nested ++ nested)
  parts_joined = record { region = λ _. region_joined; apart = text_paths }

  -- no key stands twice
  pub keys_joined : AreApart (keys_of (rest.rows ++ rows))
  keys_joined =
      let key = λ (x : Row). x.key.0 in
      let left = sorted_apart key rest.rows j.is.ordered in
      let right = subst (λ (rs : List Row). AreApart (keys_of rs)) (sym j.within.rows_are) (kept_apart key j.within.goes o.rows j.other.ordered) in
      subst AreApart (sym (map-append key rest.rows rows)) (apart_append (keys_of rest.rows) (keys_of rows) left right (λ x has had.
      let a = comes_from key rest.rows x has in
      let b = comes_from key rows x had in
      j.cross a.0 b.0 a.1 b.1 (a.2 ∙ sym b.2)))
