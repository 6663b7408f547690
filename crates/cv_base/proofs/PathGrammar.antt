-- A text says a path exactly where it is the text of that path, with or without a slash at its end.
use Rattle.std.proofs.Common.{◌≡◌, ◌≢◌, ℕ, ◌+◌, ◌≤◌, ◌==◌, true, false, not, cond, ◌&&◌, List, [], ◌∷◌, ◌++◌, length, Option, Some, None, Result, Ok, Err, ◌⊎◌, inl, inr, refl, sym, ap, subst, ◌∙◌, append-nil, nat_lt, nat_le}
use Rattle.std.specs.Prelude.{position, IfOk}
use Rattle.std.specs.List.{list_all, position_from}
use Rattle.std.specs.Str.{is_utf8}
use Rattle.std.proofs.lemmas.Bool.{eqb-true, le-ltb, ltb-false}
use Rattle.std.proofs.lemmas.Iterator.Adapters.{position_from-zero}
use Rattle.cv_base.specs.declared.path_fault.PathFault.{PathFault}
use Rattle.cv_base.specs.declared.path_fault.PathFault.TheVariants.{TooLong, TooDeep, NoMemory}
use Rattle.cv_base.specs.Path.{Path, text_of, is_path_name, is_path_byte, IsPath}
use Rattle.cv_base.specs.PathText.{Spells, parts_of, names_of, bad_name, without_last_slash, of_names, within_limits, path_of}
use Rattle.cv_base.specs.Unless.{IsUnless}
use Rattle.cv_base.proofs.PathTexts.{without_last_slash-slash, text_of-names_of, IsPath-names_of}
use Rattle.cv_base.proofs.Bools.{first_true, second_true}

-- a byte of a name is no slash
no_slash : (b : ℕ) → is_path_byte b ≡ true → (b == 47) ≡ false
no_slash b h = elim (b == 47) as (λ t. (not t && not (b == 0)) ≡ true → t ≡ false) [ true ↦ λ k. cc | false ↦ λ k. refl ] h

-- the bytes of a name have no slash, and there are some
pub name_bytes : (name : List ℕ) → is_path_name name ≡ true → list_all is_path_byte name ≡ true
name_bytes name h = second_true _ _ (first_true _ _ h)

some_bytes : (name : List ℕ) → is_path_name name ≡ true → name ≢ []
some_bytes [] h = λ e. let none : nat_le 1 0 ≡ true = second_true (is_utf8 []) (nat_le 1 0) (first_true _ _ (first_true _ _ (first_true _ _ h))) in cc (none)
some_bytes (b ∷ name) h = λ e. cc

-- names between slashes, and at the end
slice_split-name : (name rest : List ℕ) → list_all is_path_byte name ≡ true → parts_of (name ++ 47 ∷ rest) ≡ name ∷ parts_of rest
slice_split-name [] rest h = refl
slice_split-name (b ∷ name) rest h =
    let here = no_slash b (first_true (is_path_byte b) (list_all is_path_byte name) h) in
    let after = slice_split-name name rest (second_true (is_path_byte b) (list_all is_path_byte name) h) in
    rw (here, after) refl

slice_split-last : (name : List ℕ) → list_all is_path_byte name ≡ true → parts_of name ≡ name ∷ []
slice_split-last [] h = refl
slice_split-last (b ∷ name) h =
    let here = no_slash b (first_true (is_path_byte b) (list_all is_path_byte name) h) in
    let after = slice_split-last name (second_true (is_path_byte b) (list_all is_path_byte name) h) in
    rw (here, after) refl

slice_split-names : (name : List ℕ) (names : Path) → list_all is_path_name (name ∷ names) ≡ true → parts_of (name ++ text_of names) ≡ name ∷ names
slice_split-names name [] h = rw (append-nil name) (slice_split-last name (name_bytes name (first_true _ _ h)))
slice_split-names name (next ∷ names) h =
    slice_split-name name (next ++ text_of names) (name_bytes name (first_true _ _ h))
    ∙ ap (λ w. name ∷ w) (slice_split-names next names (second_true _ _ h))

-- the parts of a path's text
pub parts_of-text_of : (path : Path) → list_all is_path_name path ≡ true → parts_of (text_of path) ≡ [] ∷ path
parts_of-text_of [] h = refl
parts_of-text_of (name ∷ names) h = ap (λ w. [] ∷ w) (slice_split-names name names h)

without_last_slash-append : (xs : List ℕ) (y : ℕ) (ys : List ℕ) → without_last_slash (xs ++ (y ∷ ys)) ≡ xs ++ without_last_slash (y ∷ ys)
without_last_slash-append [] y ys = refl
without_last_slash-append (x ∷ []) y ys = refl
without_last_slash-append (x ∷ z ∷ xs) y ys = ap (λ w. x ∷ w) (without_last_slash-append (z ∷ xs) y ys)

without_last_slash-bytes : (name : List ℕ) → list_all is_path_byte name ≡ true → without_last_slash name ≡ name
without_last_slash-bytes [] h = refl
without_last_slash-bytes (b ∷ []) h = rw (no_slash b (first_true (is_path_byte b) _ h)) refl
without_last_slash-bytes (a ∷ b ∷ name) h = ap (λ w. a ∷ w) (without_last_slash-bytes (b ∷ name) (second_true _ _ h))

-- a path's text has no slash at its end
without_last_slash-one : (name : List ℕ) → is_path_name name ≡ true → without_last_slash (47 ∷ name) ≡ 47 ∷ name
without_last_slash-one [] h = absurd (some_bytes [] h refl)
without_last_slash-one (b ∷ name) h = ap (λ w. 47 ∷ w) (without_last_slash-bytes (b ∷ name) (name_bytes (b ∷ name) h))

without_last_slash-text_of : (path : Path) → list_all is_path_name path ≡ true → without_last_slash (text_of path) ≡ text_of path
without_last_slash-text_of [] h = refl
without_last_slash-text_of (name ∷ []) h = rw (append-nil name) (without_last_slash-one name (first_true _ _ h))
without_last_slash-text_of (name ∷ next ∷ names) h =
    without_last_slash-append (47 ∷ name) 47 (next ++ text_of names)
    ∙ ap (λ w. (47 ∷ name) ++ w) (without_last_slash-text_of (next ∷ names) (second_true _ _ h))

none_bad : (names : Path) (i : ℕ) → list_all is_path_name names ≡ true → position_from (λ name. not (is_path_name name)) i names ≡ None
none_bad [] i h = refl
none_bad (name ∷ names) i h = rw (first_true (is_path_name name) (list_all is_path_name names) h) (none_bad names (i + 1) (second_true _ _ h))

within_limits-none : (size : ℕ) (path : Path) → size ≤ 4095 → length path ≤ 64 → within_limits size path None ≡ Ok path
within_limits-none size path short shallow = rw (le-ltb 4095 size short, le-ltb 64 (length path) shallow) refl

-- a text whose bare form is a path's text says that path
path_of-bare : (text : List ℕ) (path : Path) → IsPath path → without_last_slash text ≡ text_of path → path_of text ≡ Ok path
path_of-bare text path is bare =
    let bad : position (λ name. not (is_path_name name)) path ≡ None = position_from-zero _ path ∙ none_bad path 0 is.names in
    rw (bare, parts_of-text_of path is.names, bad) (within_limits-none (length (text_of path)) path is.size is.depth)

-- the text of a path, with or without a slash, says that path
pub path_of-Spells : (text : List ℕ) (path : Path) → IsPath path → Spells text path → path_of text ≡ Ok path
path_of-Spells text path is (inl same) = path_of-bare text path is (ap without_last_slash same ∙ without_last_slash-text_of path is.names)
path_of-Spells text path is (inr more) = path_of-bare text path is (ap without_last_slash more ∙ without_last_slash-slash (text_of path))

slash_or_none : (text : List ℕ) → (text ≡ without_last_slash text) ⊎ (text ≡ without_last_slash text ++ 47 ∷ [])
slash_or_none [] = inl refl
slash_or_none (b ∷ []) =
    elim (b == 47) as (λ t. b == 47 ≡ t → (b ∷ [] ≡ cond t [] (b ∷ [])) ⊎ (b ∷ [] ≡ cond t [] (b ∷ []) ++ 47 ∷ [])) [
      | true ↦ λ e. inr (ap (λ c. c ∷ []) (eqb-true b 47 e))
      | false ↦ λ e. inl refl
    ] refl
slash_or_none (a ∷ b ∷ text) =
    elim (slash_or_none (b ∷ text)) [
      | inl same ↦ inl (ap (λ w. a ∷ w) same)
      | inr more ↦ inr (ap (λ w. a ∷ w) more)
    ]

-- what an answer that is a path tells
record IsAnswered (size : ℕ) (names : Path) (bad : Option ℕ) (path : Path) : Type 0 where
  short : size ≤ 4095
  shallow : length names ≤ 64
  good : bad ≡ None
  same : names ≡ path

answered : (size : ℕ) (names : Path) (bad : Option ℕ) (path : Path) → within_limits size names bad ≡ Ok path → IsAnswered size names bad path
answered size names bad path h =
    elim (nat_lt 4095 size) as (λ t. nat_lt 4095 size ≡ t → cond t (Err TooLong) (cond (nat_lt 64 (length names)) (Err TooDeep) (of_names names bad)) ≡ Ok path → IsAnswered size names bad path) [
      | true ↦ λ e k. cc
      | false ↦ λ short k. elim (nat_lt 64 (length names)) as (λ t. nat_lt 64 (length names) ≡ t → cond t (Err TooDeep) (of_names names bad) ≡ Ok path → IsAnswered size names bad path) [
        | true ↦ λ e m. cc
        | false ↦ λ shallow m. elim bad as (λ o. of_names names o ≡ Ok path → IsAnswered size names o path) [
          | None ↦ λ n. record { short = ltb-false 4095 size short; shallow = ltb-false 64 (length names) shallow; good = refl; same = cc }
          | Some place ↦ λ n. cc
        ] m
      ] refl k
    ] refl h

-- and a text says no path but those whose text it is
pub Spells-path_of : (text : List ℕ) (path : Path) → path_of text ≡ Ok path → IsPath path × Spells text path
Spells-path_of text path h =
    let bare = without_last_slash text in
    let known = answered (length bare) (names_of (parts_of bare)) (bad_name (parts_of bare)) path h in
    let is : IsPath path = let P : Path → Type 0 = λ p. IsPath p in subst P known.same (IsPath-names_of bare known.good known.short known.shallow) in
    let spelt : bare ≡ text_of path = sym (text_of-names_of bare known.good) ∙ ap text_of known.same in (
      is,
      elim (slash_or_none text) [
        | inl same ↦ inl (same ∙ spelt)
        | inr more ↦ inr (more ∙ ap (λ w. w ++ 47 ∷ []) spelt)
      ],
    )

-- what a reader's answer tells of the grammar
pub grammar : (text : List ℕ) (answer : Result Path PathFault) → IsUnless NoMemory answer (path_of text) → IfOk answer (λ path. IsPath path × Spells text path)
grammar text (Ok path) same = Spells-path_of text path (sym same)
grammar text (Err fault) h = tt

pub found : (text : List ℕ) (answer : Result Path PathFault) → IsUnless NoMemory answer (path_of text) → (path : Path) → IsPath path → Spells text path → IsUnless NoMemory answer (Ok path)
found text (Ok other) same path is spelt = same ∙ path_of-Spells text path is spelt
found text (Err fault) (inl lack) path is spelt = inl lack
found text (Err fault) (inr same) path is spelt = inr (same ∙ path_of-Spells text path is spelt)

-- the text decides the path
pub text_of-injective : (p q : Path) → IsPath p → IsPath q → text_of p ≡ text_of q → p ≡ q
text_of-injective p q is_p is_q same =
    let read_p = path_of-Spells (text_of p) p is_p (inl refl) in
    let read_q = path_of-Spells (text_of p) q is_q (inl same) in
    cc
