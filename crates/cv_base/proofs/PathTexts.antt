-- What a text says as a path, and the text of a path.
use Rattle.std.proofs.Common.{◌≡◌, ℕ, ◌+◌, ◌≤◌, ◌==◌, Bool, true, false, not, cond, ◌&&◌, List, [], ◌∷◌, ◌++◌, length, Option, Some, None, refl, sym, ap, ◌∙◌, append-nil, ◌≢◌, map, Bor, ◌-◌, take, drop, get_or, arith}
use Rattle.std.specs.Prelude.{position, unwrap_or, MatchOption}
use Rattle.std.specs.List.{list_all, position_from, join_with_byte}
use Rattle.std.proofs.lemmas.Bool.{eqb-true}
use Rattle.std.proofs.lemmas.Grind.{common_steps}
use Rattle.std.proofs.lemmas.List.Splits.{join_with_byte-slice_split}
use Rattle.std.proofs.lemmas.Iterator.Adapters.{position_from-zero}
use Rattle.cv_base.specs.Path.{Path, text_of, is_path_name, IsPath}
use Rattle.cv_base.specs.PathText.{parts_of, names_of, bad_name, without_last_slash}

-- the parts behind a leading slash, joined by slashes, are the text of the names
join-names : (names : Path) → join_with_byte 47 ([] ∷ names) ≡ text_of names
join-names [] = refl
join-names (a ∷ []) = sym (append-nil (47 ∷ a))
join-names (a ∷ b ∷ names) = ap (λ w. 47 ∷ (a ++ w)) (join-names (b ∷ names))

all_from : (names : Path) (i : ℕ) → position_from (λ name. not (is_path_name name)) i names ≡ None → list_all is_path_name names ≡ true
all_from [] i h = refl
all_from (a ∷ names) i h =
    elim (is_path_name a) as (λ t. cond (not t) (Some i) (position_from (λ name. not (is_path_name name)) (i + 1) names) ≡ None → (t && list_all is_path_name names) ≡ true) [
      | true ↦ λ rest. all_from names (i + 1) rest
      | false ↦ λ rest. cc
    ] h

-- parts without a bad name are names
pub names_good : (parts : List (List ℕ)) → bad_name parts ≡ None → list_all is_path_name (names_of parts) ≡ true
names_good [] h = cc
names_good ([] ∷ names) h = all_from names 0 (sym (position_from-zero _ names) ∙ h)
names_good ((b ∷ bytes) ∷ names) h = cc

text_of-parts : (parts : List (List ℕ)) → bad_name parts ≡ None → text_of (names_of parts) ≡ join_with_byte 47 parts
text_of-parts [] h = cc
text_of-parts ([] ∷ names) h = sym (join-names names)
text_of-parts ((b ∷ bytes) ∷ names) h = cc

-- the names in a text without a bad name have that text
pub text_of-names_of : (text : List ℕ) → bad_name (parts_of text) ≡ None → text_of (names_of (parts_of text)) ≡ text
text_of-names_of text h = text_of-parts (parts_of text) h ∙ join_with_byte-slice_split 47 text

-- a text within the limits that has no bad name is the text of a path
pub IsPath-names_of : (text : List ℕ) → bad_name (parts_of text) ≡ None → length text ≤ 4095
    → length (names_of (parts_of text)) ≤ 64 → IsPath (names_of (parts_of text))
IsPath-names_of text good short shallow = record {
  names = names_good (parts_of text) good;
  depth = shallow;
  size = rw (text_of-names_of text good) short;
}

-- a text with and without a slash at its end
pub without_last_slash-slash : (front : List ℕ) → without_last_slash (front ++ 47 ∷ []) ≡ front
without_last_slash-slash [] = refl
without_last_slash-slash (a ∷ []) = refl
without_last_slash-slash (a ∷ b ∷ front) = ap (λ w. a ∷ w) (without_last_slash-slash (b ∷ front))

pub without_last_slash-none : (text : List ℕ) → ((front : List ℕ) → text ≢ front ++ 47 ∷ []) → without_last_slash text ≡ text
without_last_slash-none [] h = refl
without_last_slash-none (b ∷ []) h =
    elim (b == 47) as (λ t. b == 47 ≡ t → cond t [] (b ∷ []) ≡ b ∷ []) [
      | true ↦ λ e. absurd (h [] (ap (λ c. c ∷ []) (eqb-true b 47 e)))
      | false ↦ λ e. refl
    ] refl
without_last_slash-none (a ∷ b ∷ text) h =
    ap (λ w. a ∷ w) (without_last_slash-none (b ∷ text) (λ front e. h (a ∷ front) (ap (λ w. a ∷ w) e)))

-- what stripping the slash gives, or else the text
pub stripped : (text : Bor (List ℕ)) (r : Option (Bor (List ℕ)))
    → MatchOption r ((front : List ℕ) → text.now ≢ front ++ 47 ∷ []) (λ front. text.now ≡ front.now ++ 47 ∷ [])
    → (unwrap_or r text).now ≡ without_last_slash text.now
stripped text None h = sym (without_last_slash-none text.now h)
stripped text (Some front) h = sym (ap without_last_slash h ∙ without_last_slash-slash front.now)

position_from-map : {X Y : Type 0} (p : Y → Bool) (f : X → Y) (i : ℕ) (xs : List X) → position_from p i (map f xs) ≡ position_from (λ x. p (f x)) i xs
position_from-map p f i [] = refl
position_from-map p f i (x ∷ xs) = rw (position_from-map p f (i + 1) xs) refl

-- the first place in a list that was mapped
pub position-map : {X Y : Type 0} (p : Y → Bool) (f : X → Y) (xs : List X) → position p (map f xs) ≡ position (λ x. p (f x)) xs
position-map p f xs = position_from-zero p (map f xs) ∙ position_from-map p f 0 xs ∙ sym (position_from-zero (λ x. p (f x)) xs)

all_but_first : {X : Type 0} (x : X) (xs : List X) → take (length (x ∷ xs) - 1) (drop 1 (x ∷ xs)) ≡ xs
all_but_first x xs = grind (arith, common_steps)

bad_name-empty : (first : List ℕ) (names : Path) → true ≡ (length first == 0) → bad_name (first ∷ names) ≡ position (λ name. not (is_path_name name)) names
bad_name-empty [] names h = refl
bad_name-empty (b ∷ bytes) names h = absurd (omega (arith, eqb-true _ _ (sym h)))

-- where the first part is empty, the first bad one of the others is the bad name
pub bad_name-rest : (parts : List (Bor (List ℕ))) (d : Bor (List ℕ)) → 1 ≤ length parts → true ≡ (length (get_or parts 0 d).now == 0)
    → position (λ text. not (is_path_name text.now)) (take (length parts - 1) (drop 1 parts)) ≡ bad_name (map (λ part. part.now) parts)
bad_name-rest [] d some h = absurd (omega arith)
bad_name-rest (first ∷ names) d some h =
    rw (all_but_first first names) (sym (position-map (λ name. not (is_path_name name)) (λ (part : Bor (List ℕ)). part.now) names)
    ∙ sym (bad_name-empty first.now (map (λ part. part.now) names) h))
