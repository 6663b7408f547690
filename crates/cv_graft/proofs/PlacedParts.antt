-- The catalogue that directly holds a path, with a part there.
use Rattle.std.proofs.Common.{◌≡◌, ◌≢◌, ℕ, ◌+◌, ◌<◌, ◌≤◌, true, false, not, List, [], ◌∷◌, ◌++◌, map, reverse, take, length, get_or, Result, Ok, Err, inl, inr, sym, ap, subst, ◌∙◌}
use Rattle.std.specs.Prelude.{Contains, IsErrOf}
use Rattle.std.specs.List.{All}
use Rattle.std.proofs.lemmas.List.{map-append, take_more, take_all}
use Rattle.std.proofs.lemmas.List.Elements.{All-contains, All-from_recursion, Contains-append_cases}
use Rattle.std.proofs.lemmas.Bool.{not-true}
use Rattle.cv_base.specs.Path.{Path, covers, key_of, text_of}
use Rattle.cv_base.proofs.Laws.{text_of-injective}
use Rattle.cv_base.specs.declared.id.ObjectId.{ObjectId}
use Rattle.cv_ports.specs.Shelf.{Shelf}
use Rattle.cv_tree.specs.Tree.{Nodes, IsTree}
use Rattle.cv_tree.specs.declared.node.Node.{Node}
use Rattle.cv_rows.specs.Catalogue.{Contents, IsCatalogue}
use Rattle.cv_rows.specs.Made.{AreApart, in_order, keys_of, texts_of}
use Rattle.cv_rows.specs.Nested.{IsNested}
use Rattle.cv_rows.specs.Without.{IsWithout}
use Rattle.cv_rows.specs.declared.row.Row.{Row}
use Rattle.cv_rows.specs.declared.nested.Nested.{Nested}
use Rattle.cv_cut.specs.Cuts.{is_cut}
use Rattle.cv_cut.specs.Catalogues.{IsFull}
use Rattle.sha1.specs.Sha1.{sha1}
use Rattle.cv_base.specs.declared.object.Object.{Object}
use Rattle.cv_base.specs.Objects.{AreNamed}
use Rattle.cv_cut.specs.Cut.{catalogue_object, keys_at, row_in}
use Rattle.cv_cut.specs.Piece.{IsFullAmong, cuts_within, region_within}
use Rattle.cv_cut.specs.declared.cut_fault.CutFault.{CutFault}
use Rattle.cv_cut.specs.declared.cut_fault.CutFault.TheVariants as cut
use Rattle.cv_cut.proofs.Lemmas.{among_within, within_among, keys_are, entry_there, texts_apart_within, passes, comes_from, first_or_later, none_there, row_key, sorted_apart, apart_append}
use Rattle.cv_graft.specs.MakesInner.{Joins}
use Rattle.cv_graft.specs.Placed.{of_cut}
use Rattle.cv_graft.specs.PlacedInner.{IsMeeting, JoinsLists, from_part}
use Rattle.cv_graft.specs.PlacedWay.{ArePathsCrossed, MeetsPath, Rests, rows_within, entries_within, of_part, of_cut_}
use Rattle.cv_graft.specs.Places.{HasPlace}
use Rattle.cv_graft.specs.Way.{TellsDamage}
use Rattle.cv_graft.specs.declared.graft_fault.GraftFault.{GraftFault}
use Rattle.cv_graft.specs.declared.graft_fault.GraftFault.TheVariants as fault

-- no key stands twice
pub all_keys : (rest : Contents) (m : Nodes) (p : Path) → IsTree m → IsCatalogue rest → ArePathsCrossed rest.rows (region_within m p) → AreApart (keys_at (region_within m p)) → AreApart (keys_of (rest.rows ++ rows_within m p))
all_keys rest m p whole is crossed apart =
    let key = λ (r : Row). r.key.0 in
    subst AreApart (sym (map-append key rest.rows (rows_within m p)))
    (apart_append (keys_of rest.rows) (keys_of (rows_within m p)) (sorted_apart key rest.rows is.ordered) (subst AreApart (sym (keys_are m p whole)) apart) (λ x has had.
    let a = comes_from key rest.rows x has in
    let b = comes_from key (rows_within m p) x had in
    let e = comes_from (row_in m []) (region_within m p) b.0 b.1 in
    crossed a.0 e.0 a.1 e.1 (a.2 ∙ sym b.2 ∙ ap key (sym e.2) ∙ row_key _ e.0.0 e.0.1)))

-- nor does the text of a path
pub all_texts : (c rest : Contents) (m : Nodes) (p : Path) → IsTree m → IsCatalogue rest → IsWithout c p rest → AreApart (texts_of (rest.nested ++ entries_within m p))
all_texts c rest m p whole is without =
    let text = λ (n : Nested). text_of n.path in
    subst AreApart (sym (map-append text rest.nested (entries_within m p)))
    (apart_append (texts_of rest.nested) (texts_of (entries_within m p)) (sorted_apart text rest.nested is.nested_ordered) (texts_apart_within m p whole) (λ x has had.
    let a = comes_from text rest.nested x has in
    let b = comes_from text (entries_within m p) x had in
    let was = passes (λ (n : Nested). not (covers p n.path)) c.nested a.0 (subst (λ (ns : List Nested). Contains ns a.0) without.nested a.1) in
    let w = entry_there m p whole b.0 b.1 in
    let own = All-contains IsNested rest.nested a.0 (All-from_recursion IsNested rest.nested is.region.nested_spelled) a.1 in
    let same = text_of-injective a.0.path b.0.path own.path w.0 (a.2 ∙ sym b.2) in
    let wrong : true ≡ false = sym w.1 ∙ ap (covers p) (sym same) ∙ not-true (covers p a.0.path) was.1 in
    cc))

-- ---- a search for a key in both

pub paths_none : (rows : List Row) (coming : List (Path × Node)) → ArePathsCrossed rows (take 0 coming)
paths_none rows coming a e has had keys = absurd (none_there e had)

pub paths_more : (rows : List Row) (coming : List (Path × Node)) (i : ℕ) (x : Path × Node) → i < length coming → x ≡ get_or coming i x → ArePathsCrossed rows (take i coming) → ((a : Row) → Contains rows a → a.key.0 ≢ key_of x.0) → ArePathsCrossed rows (take (i + 1) coming)
paths_more rows coming i x lt is before new a e has had keys =
    elim (Contains-append_cases (take i coming) (get_or coming i x ∷ []) e (subst (λ (l : List (Path × Node)). Contains l e) (take_more coming i x lt) had)) [
      | inl earlier ↦ before a e has earlier keys
      | inr last ↦ elim (first_or_later (get_or coming i x) [] e last) [
        | inl same ↦ new a has (keys ∙ ap (λ (y : Path × Node). key_of y.0) (sym same ∙ sym is))
        | inr none ↦ absurd (none_there e none)
      ]
    ]

pub paths_all : (rows : List Row) (coming : List (Path × Node)) (i : ℕ) → length coming ≤ i → ArePathsCrossed rows (take i coming) → ArePathsCrossed rows coming
paths_all rows coming i le h = subst (ArePathsCrossed rows) (take_all i coming le) h

-- ---- what is put together

pub meets_at : (c rest : Contents) (p : Path) (m : Nodes) (es : List (Path × Node)) (f : GraftFault) → HasPlace c p → IsWithout c p rest → es ≡ region_within m p → IsMeeting rest es f → Joins (from_part m p) c (Err f)
meets_at c rest p m es (fault.PathCollision a b) place without is h = record { place = place; rest = rest; without = without; meets = subst (λ (l : List (Path × Node)). MeetsPath rest l a b) is h }
meets_at c rest p m es (fault.CatalogueFull d) place without is h = absurd h
meets_at c rest p m es fault.Failed place without is h = absurd h
meets_at c rest p m es (fault.Damaged id found) place without is h = absurd h
meets_at c rest p m es fault.NoMemory place without is h = tt

pub full_at : (c : Contents) (p : Path) (m : Nodes) (cuts : List Path) (f : CutFault) → Rests c p m → cuts ≡ reverse (cuts_within m p) → IsFullAmong m cuts f → Joins (from_part m p) c (Err (of_cut f))
full_at c p m cuts (cut.PathCollision a b) rests is h = absurd h
full_at c p m cuts (cut.CatalogueFull d) rests is h = of_part rests h.0 (among_within m p cuts d is h.1).1
full_at c p m cuts cut.NoMemory rests is h = tt

pub none_full : (m : Nodes) (p : Path) (cuts : List Path) → IsTree m → cuts ≡ reverse (cuts_within m p) → All (λ c. IsFull m c → ⊥) cuts → (d : Path) → is_cut m d ≡ true → covers p d ≡ true → IsFull m d → ⊥
none_full m p cuts whole is all d cut inside = All-contains (λ c. IsFull m c → ⊥) cuts d all (within_among m p cuts d whole is cut inside)

pub lists_join : (c : Contents) (p : Path) (m : Nodes) (rows : List Row) (nested : List Nested) (r : Result Contents GraftFault) → (x : Rests c p m) → ((d : Path) → is_cut m d ≡ true → covers p d ≡ true → IsFull m d → ⊥)
    → rows ≡ rows_within m p → nested ≡ entries_within m p → JoinsLists x.rest rows nested r → Joins (from_part m p) c r
lists_join c p m rows nested r x limits rows-is nested-is h =
    of r (subst (λ (l : List Row). JoinsLists x.rest l (entries_within m p) r) rows-is (subst (λ (l : List Nested). JoinsLists x.rest rows l r) nested-is h))
  where
    of : (r : Result Contents GraftFault) → JoinsLists x.rest (rows_within m p) (entries_within m p) r → Joins (from_part m p) c r
    of (Ok made) h = record { rests = x; limits = limits; fits = h.1; is = h.0 ∙ ap (λ (q : Path). in_order q (x.rest.rows ++ rows_within m p) (x.rest.nested ++ entries_within m p)) x.without.at }
    of (Err (fault.PathCollision a b)) h = absurd h
    of (Err (fault.CatalogueFull d)) h = of_cut_ x (h.0 ∙ x.without.at) h.1
    of (Err fault.Failed) h = absurd h
    of (Err (fault.Damaged id found)) h = absurd h
    of (Err fault.NoMemory) h = tt

pub cut_tells : (X : Type 0) (shelf : Shelf) (which : ObjectId → Type 0) (f : CutFault) → TellsDamage shelf which {X = X} (Err (of_cut f))
cut_tells X shelf which (cut.PathCollision a b) = tt
cut_tells X shelf which (cut.CatalogueFull c) = tt
cut_tells X shelf which cut.NoMemory = tt

pub cut_not_failed : (X : Type 0) (f : CutFault) → IsErrOf {T = X} (Err (of_cut f)) fault.Failed → ⊥
cut_not_failed X (cut.PathCollision a b) is = cc
cut_not_failed X (cut.CatalogueFull c) is = cc
cut_not_failed X cut.NoMemory is = cc

-- ---- objects have their own ids

pub own_objects : (t : Nodes) (ds : List Path) → AreNamed (map (catalogue_object t) ds)
own_objects t ds = record { each = λ o has. let d = comes_from (catalogue_object t) ds o has in ap (λ (x : Object). x.id.hash) (sym d.2) ∙ ap (λ (x : Object). sha1 x.bytes) d.2 }

pub own_more : (m : Nodes) (ds : List Path) (old new : List Object) → new ≡ old ++ map (catalogue_object m) ds → AreNamed old → AreNamed new
own_more m ds old new is own = subst AreNamed (sym is) (record {
  each = λ o has. elim (Contains-append_cases old (map (catalogue_object m) ds) o has) [
    | inl left ↦ own.each o left
    | inr right ↦ (own_objects m ds).each o right
  ];
})
