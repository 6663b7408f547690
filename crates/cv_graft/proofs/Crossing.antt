-- Keys that stand in two lists of rows, and the directory of a path.
use Rattle.std.proofs.Common.{◌≡◌, ◌≢◌, ℕ, ◌+◌, ◌<◌, ◌≤◌, true, List, [], ◌∷◌, ◌++◌, take, length, get_or, length-append, sym, ap, subst, ◌∙◌, arith, inl, inr}
use Rattle.std.specs.Prelude.{Contains}
use Rattle.std.proofs.lemmas.List.{take_more, take_all}
use Rattle.std.proofs.lemmas.List.Elements.{Contains-append_cases}
use Rattle.cv_base.specs.Path.{Path, covers}
use Rattle.cv_rows.specs.Row.{holds_rows}
use Rattle.cv_rows.specs.Catalogue.{Contents}
use Rattle.cv_rows.specs.Places.{StandsAt}
use Rattle.cv_rows.specs.Without.{IsWithout}
use Rattle.cv_rows.specs.declared.row.Row.{Row}
use Rattle.cv_graft.specs.Joins.{AreCrossed}
use Rattle.cv_graft.specs.Places.{HasPlace}
use Rattle.cv_cut.proofs.Lemmas.{first_or_later, none_there, passes, rest_behind}
use Rattle.cv_rows.proofs.Lemmas.{stands_among}

pub crossed_none : (left right : List Row) → AreCrossed left (take 0 right)
crossed_none left right a b has had = absurd (none_there b had)

-- one row more
pub crossed_more : (left right : List Row) (i : ℕ) (x : Row) → i < length right → x ≡ get_or right i x → AreCrossed left (take i right) → ((a : Row) → Contains left a → a.key.0 ≢ x.key.0) → AreCrossed left (take (i + 1) right)
crossed_more left right i x lt is before new a b has had =
    elim (Contains-append_cases (take i right) (get_or right i x ∷ []) b (subst (λ (l : List Row). Contains l b) (take_more right i x lt) had)) [
      | inl earlier ↦ before a b has earlier
      | inr last ↦ elim (first_or_later (get_or right i x) [] b last) [
        | inl same ↦ λ keys. new a has (keys ∙ ap (λ (r : Row). r.key.0) (sym same ∙ sym is))
        | inr none ↦ absurd (none_there b none)
      ]
    ]

pub crossed_all : (left right : List Row) (i : ℕ) → length right ≤ i → AreCrossed left (take i right) → AreCrossed left right
crossed_all left right i le h = subst (AreCrossed left) (take_all i right le) h

-- a path with one more name
pub one_more : (p q : Path) → covers p q ≡ true → length p + 1 ≡ length q → (name : List ℕ) × (q ≡ p ++ name ∷ [])
one_more p q h size =
    let b = rest_behind p q h in
    of b.0 b.1 (omega (arith, size, ap (λ (x : Path). length x) b.1, length-append p b.0))
  where
    of : (x : Path) → q ≡ p ++ x → length x ≡ 1 → (name : List ℕ) × (q ≡ p ++ name ∷ [])
    of [] is one = absurd (omega arith)
    of (a ∷ []) is one = (a, is)
    of (a ∷ b ∷ x) is one = absurd (omega arith)

-- a place in what is left is one in the whole
pub place_before : (c rest : Contents) (p q : Path) → IsWithout c q rest → HasPlace rest p → HasPlace c p
place_before c rest p q out h = record {
  front = h.front;
  name = h.name;
  is = h.is;
  row = h.row;
  stands = subst (λ (x : Path). StandsAt x c.rows h.row h.front) out.at (stands_among (λ r has. (passes out.stays c.rows r (subst (λ (l : List Row). Contains l r) out.rows has)).0) h.stands);
  holds = h.holds;
}

pub place_of : (c : Contents) (p front : Path) (row : Row) → StandsAt c.at c.rows row front → holds_rows row.kind ≡ true → (name : List ℕ) × (p ≡ front ++ name ∷ []) → HasPlace c p
place_of c p front row stands holds named = record { front = front; name = named.0; is = named.1; row = row; stands = stands; holds = holds }
