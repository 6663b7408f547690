-- Paths at and below those of a catalogue's rows.
use Rattle.std.proofs.Common.{◌≡◌, ◌≢◌, ℕ, ◌<◌, ◌≤◌, true, false, List, ◌∷◌, [], ◌++◌, length, get_or, refl, sym, ap, subst, arith, length-append, inl, inr}
use Rattle.std.proofs.lemmas.Bool.{or_cases}
use Rattle.cv_base.specs.Path.{Path, covers, overlap}
use Rattle.cv_base.proofs.Laws.{overlap-from_covers, covers_itself, covers_through, covers_below}
use Rattle.cv_rows.specs.Row.{holds_rows}
use Rattle.cv_rows.specs.Catalogue.{Contents, IsCatalogue}
use Rattle.cv_rows.specs.Places.{StandsAt, root, below}
use Rattle.cv_rows.specs.declared.row.Row.{Row}
use Rattle.cv_rows.specs.declared.nested.Nested.{Nested}
use Rattle.cv_rows.specs.declared.row_kind.RowKind.TheVariants.{Transition}
use Rattle.cv_rows.proofs.Lemmas.{covers_last}
use Rattle.cv_cut.specs.Cut.{rest_of}
use Rattle.cv_cut.proofs.Lemmas.{rest_is, transition_of, transition_long, nested_long}
use Rattle.std.specs.Prelude.{Contains}
use Rattle.cv_load.proofs.Filling.{one_row}
use Rattle.cv_load.proofs.Standing.{holds_not, entry_before}

pub covers_long : (p q : Path) → covers p q ≡ true → length p ≤ length q
covers_long p q h = omega (arith, ap (λ (x : Path). length x) (rest_is p q h), length-append p (rest_of p q))

-- rows stand at or below the catalogue's place
pub stands_covered : {at : Path} {rows : List Row} {r : Row} {q : Path} → StandsAt at rows r q → covers at q ≡ true
stands_covered {at} (root has is) = covers_itself at
stands_covered {at} {rows} {r} (below {q = q} has other s child) = covers_below at q (r.name ∷ []) (stands_covered s)

-- nothing stands below a Transition row
pub nothing_below : {c : Contents} {r s : Row} {q u : Path} → IsCatalogue c → StandsAt c.at c.rows r q → r.kind ≡ Transition → StandsAt c.at c.rows s u → covers q u ≡ true → q ≡ u
nothing_below {c} {r} {s} {q} is named kind (root has top) under = absurd (let long = transition_long named kind in omega (arith, long, covers_long q c.at under))
nothing_below {c} {r} {s} {q} is named kind (below {p = p} {q = front} has other up child) under =
    elim (covers q front) as (λ t. covers q front ≡ t → q ≡ front ++ s.name ∷ []) [
      | true ↦ λ e.
          let same : q ≡ front = nothing_below is named kind up e in
          let one : p ≡ r = one_row c p r front is up (subst (λ (x : Path). StandsAt c.at c.rows r x) same named) in
          absurd (holds_not r.kind kind (subst (λ (x : Row). holds_rows x.kind ≡ true) one child.holds))
      | false ↦ λ e. covers_last q front s.name e under
    ] refl

-- no path is at or below those of two nested entries
pub entries_apart : (c : Contents) (i j : ℕ) (m n : Nested) (q : Path) → IsCatalogue c → i < j → i < length c.nested → j < length c.nested → get_or c.nested i m ≡ m → get_or c.nested j n ≡ n
    → covers m.path q ≡ true → covers n.path q ≡ true → ⊥
entries_apart c i j m n q is lt li lj at had under_m under_n =
    let a = transition_of c m is (i, li, at) in
    let b = transition_of c n is (j, lj, had) in
    let near : overlap m.path n.path ≡ true = overlap-from_covers n.path m.path (rest_of n.path q) (subst (λ (x : Path). covers m.path x ≡ true) (rest_is n.path q under_n) under_m) in
    let same : m.path ≡ n.path = elim (or_cases (covers m.path n.path) (covers n.path m.path) near) [
      | inl over ↦ nothing_below is a.1.stands a.1.kind b.1.stands over
      | inr over ↦ sym (nothing_below is b.1.stands b.1.kind a.1.stands over)
    ] in
    entry_before c i j m n is lt li lj at had same

-- what is at or below a nested entry's path is properly below the catalogue's place
pub entry_below : (c : Contents) (n : Nested) (q : Path) → IsCatalogue c → Contains c.nested n → covers n.path q ≡ true → (covers c.at q ≡ true) × (q ≢ c.at)
entry_below c n q is has under =
    let t = transition_of c n is has in
    let long = nested_long c n is has in (
      covers_through c.at n.path q (stands_covered t.1.stands) under,
      λ same. omega (arith, long, covers_long n.path q under, ap (λ (x : Path). length x) same),
    )
