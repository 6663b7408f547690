-- What follows the last slash of a path, and the folder before it.
use Rattle.std.proofs.Common.{◌≡◌, ◌≢◌, ◌==◌, ℕ, suc, ◌+◌, ◌<◌, ◌≤◌, Bool, true, false, cond, List, [], ◌∷◌, ◌++◌, length, get_or, take, drop, Option, Some, None, MatchOption, refl, sym, ap, subst, ◌∙◌, append_assoc, take-append-drop, arith, length-append, length-take, eq-eqb, ne_eqb, Bor, lit<, ◌-◌, codes}
use Rattle.std.specs.Prelude.{IsTrue}
use Rattle.std.specs.List.{onto_first, starts_with, ends_with}
use Rattle.std.specs.Option.{unwrap_or}
use Rattle.std.specs.Str.{IsCharBoundary}
use Rattle.std.specs.Str.Pattern.{FindsTextSuffix, RFindsChar, SplitsAroundMatch, StripsSuffix}
use Rattle.std.proofs.Math.Seq.{take-append-add}
use Rattle.std.proofs.lemmas.List.{append-nil}
use Rattle.std.proofs.lemmas.List.Splits.{slice_split-cons_no}
use Rattle.std.proofs.lemmas.Slice.Eq.{starts_is}
use Rattle.std.proofs.lemmas.Bool.Decides.{Decides-eqb}
use Rattle.std.proofs.lemmas.Str.Pattern.{NoCharPasses-char, drop_at_char, ends_text}
use Rattle.cv_base.specs.Path.{Path, last_name_of}
use Rattle.cv_base.specs.PathText.{parts_of}
use Rattle.cv_system.specs.Names.{above, last_part, folder_of, without_slash}
use Rattle.cv_system.specs.Walks.{IsUnder}

-- no byte is a slash
HasNoSlash : List ℕ → Type 0
HasNoSlash bytes = (i : ℕ) → i < length bytes → get_or bytes i 0 ≢ 47

one_part : (bytes : List ℕ) → HasNoSlash bytes → parts_of bytes ≡ bytes ∷ []
unfolding HasNoSlash
one_part [] h = refl
one_part (b ∷ bytes) h =
    slice_split-cons_no (λ c. c == 47) b bytes (ne_eqb b 47 (h 0 (omega arith)))
    ∙ ap (onto_first b) (one_part bytes (λ i l. h (suc i) (omega arith)))

-- there are two parts or more, and this is the last
Ends : Path → List ℕ → Type 0
Ends [] last = ⊥
Ends (a ∷ []) last = ⊥
Ends (a ∷ b ∷ more) last = last_name_of (b ∷ more) ≡ last

ends_so : (parts : Path) (last : List ℕ) → Ends parts last → last_name_of parts ≡ last
unfolding Ends
ends_so [] last h = absurd h
ends_so (a ∷ []) last h = absurd h
ends_so (a ∷ b ∷ more) last h = h

one_byte_more : (byte : ℕ) (slash : Bool) (parts : Path) (last : List ℕ) → Ends parts last → Ends (cond slash ([] ∷ parts) (onto_first byte parts)) last
unfolding Ends
one_byte_more byte slash [] last h = absurd h
one_byte_more byte slash (a ∷ []) last h = absurd h
one_byte_more byte true (a ∷ b ∷ more) last h = h
one_byte_more byte false (a ∷ b ∷ more) last h = h

-- a text has one part at least
pub some_part : (text : List ℕ) → (first : List ℕ) × (more : Path) × (parts_of text ≡ first ∷ more)
some_part [] = ([], [], refl)
some_part (b ∷ text) =
    let parts = some_part text in
    elim (b == 47) as (λ slash. (first : List ℕ) × (more : Path) × (cond slash ([] ∷ parts_of text) (onto_first b (parts_of text)) ≡ first ∷ more)) [
      | true ↦ ([], parts_of text, refl)
      | false ↦ (b ∷ parts.0, parts.1, ap (onto_first b) parts.2)
    ]

-- behind a slash the last part is that of what follows
parts_behind : (front rest : List ℕ) → Ends (parts_of (front ++ 47 ∷ rest)) (last_part rest)
unfolding Ends
parts_behind [] rest =
    let parts = some_part rest in
    subst (λ (all : Path). Ends ([] ∷ all) (last_name_of all)) (sym parts.2) refl
parts_behind (b ∷ front) rest = one_byte_more b (b == 47) (parts_of (front ++ 47 ∷ rest)) (last_part rest) (parts_behind front rest)

parts_end : (front last : List ℕ) → HasNoSlash last → Ends (parts_of (front ++ 47 ∷ last)) last
parts_end front last h = subst (λ l. Ends (parts_of (front ++ 47 ∷ last)) l) (ap last_name_of (one_part last h)) (parts_behind front last)

pub last_behind : (front rest : List ℕ) → last_part (front ++ 47 ∷ rest) ≡ last_part rest
last_behind front rest = ends_so (parts_of (front ++ 47 ∷ rest)) (last_part rest) (parts_behind front rest)

-- the last part, and what comes before it, as `rsplit_once` finds it
pub last_part_is : (path : List ℕ) (r : Option (Bor (List ℕ) × Bor (List ℕ)))
    → MatchOption r (RFindsChar 47 path None) (λ x. SplitsAroundMatch (RFindsChar 47) path x.0.now x.1.now)
    → MatchOption r (last_part path ≡ path) (λ x. (last_part path ≡ x.1.now) × (path ≡ (x.0.now ++ 47 ∷ []) ++ x.1.now))
unfolding HasNoSlash
last_part_is path None h = ap last_name_of (one_part path (λ i l. NoCharPasses-char 47 path i h (lit< tt) l))
last_part_is path (Some x) (i, j, finds, front, back, within, front_size, back_size) =
    let behind : drop i path ≡ 47 ∷ x.1.now = drop_at_char 47 path i j finds.1 (lit< tt) ∙ ap (λ l. 47 ∷ l) (sym back) in
    let whole : x.0.now ++ 47 ∷ x.1.now ≡ path = ap (λ f. f ++ 47 ∷ x.1.now) front ∙ ap (λ l. take i path ++ l) (sym behind) ∙ take-append-drop i path in
    let free : HasNoSlash x.1.now = subst HasNoSlash (sym back) (λ k l. NoCharPasses-char 47 (drop j path) k finds.0 (lit< tt) l) in
    (ap last_part (sym whole) ∙ ends_so _ x.1.now (parts_end x.0.now x.1.now free), sym (append_assoc x.0.now (47 ∷ []) x.1.now ∙ whole))

-- a path without a slash stands in the folder at hand
pub no_folder : (path : List ℕ) → last_part path ≡ path → codes "./" ≡ folder_of path
no_folder path same =
    sym (ap (λ b. cond b (codes "./") (take (length path - length (last_part path)) path)) (ap (λ l. length l == length path) same ∙ eq-eqb (length path) (length path) refl))

-- the folder is what is left of the path without its last part
pub folder_is : (path front last : List ℕ) (r : Option (Bor (List ℕ))) (other : Bor (List ℕ)) → last_part path ≡ last → path ≡ (front ++ 47 ∷ []) ++ last
    → MatchOption r (FindsTextSuffix last path None) (λ x. StripsSuffix (FindsTextSuffix last) path x.now) → (unwrap_or r other).now ≡ folder_of path
folder_is path front last None other is whole none = absurd (none (front ++ 47 ∷ []) whole)
folder_is path front last (Some x) other is whole (n, finds, taken, size) =
    let longer : length path ≡ length ((front ++ 47 ∷ []) ++ last) = ap length whole in
    let shorter : (length (last_part path) == length path) ≡ false = ap (λ l. length l == length path) is ∙ ne_eqb (length last) (length path) (λ e. omega (arith, e, longer, length-append (front ++ 47 ∷ []) last, length-append front (47 ∷ []))) in
    taken
    ∙ ap (λ k. take (length path - k) path) (finds.0 ∙ ap length (sym is))
    ∙ sym (ap (λ b. cond b (codes "./") (take (length path - length (last_part path)) path)) shorter)

-- what is left of a folder's path without its last slash
pub without_slash_is : (folder : List ℕ) (r : Option (Bor (List ℕ))) (other : Bor (List ℕ)) → other.now ≡ folder
    → MatchOption r (FindsTextSuffix (47 ∷ []) folder None) (λ x. StripsSuffix (FindsTextSuffix (47 ∷ [])) folder x.now) → (unwrap_or r other).now ≡ without_slash folder
without_slash_is folder None other is none = is ∙ ap (λ t. cond t (take (length folder - 1) folder) folder) (ends_text false (47 ∷ []) folder none)
without_slash_is folder (Some x) other is (n, finds, taken, size) =
    taken ∙ ap (λ k. take (length folder - k) folder) finds.0 ∙ ap (λ t. cond t (take (length folder - 1) folder) folder) (ends_text true (47 ∷ []) folder (n, finds, omega (arith, size), subst (λ k. IsCharBoundary folder (length folder - k)) (sym finds.0) finds.2))

-- it isn't longer than the path
pub not_longer : (folder : List ℕ) (r : Option (Bor (List ℕ))) (other : Bor (List ℕ)) → other.now ≡ folder
    → MatchOption r (FindsTextSuffix (47 ∷ []) folder None) (λ x. StripsSuffix (FindsTextSuffix (47 ∷ [])) folder x.now) → length (unwrap_or r other).now ≤ length folder
not_longer folder None other is none = omega (arith, ap length is)
not_longer folder (Some x) other is (n, finds, taken, size) = omega (arith, size)

-- the folder of a path that the system takes has a path that it takes
pub folder_fits : (path : List ℕ) → length path < 4096 → length (folder_of path) < 4096
folder_fits path h = elim (length (last_part path) == length path) as (λ t. length (cond t (codes "./") (take (length path - length (last_part path)) path)) < 4096) [
  | true ↦ lit< tt
  | false ↦ omega (arith, length-take (length path - length (last_part path)) path)
]

one_byte_longer : (byte : ℕ) (slash : Bool) (parts : Path) (n : ℕ) → length (last_name_of parts) ≤ n → length (last_name_of (cond slash ([] ∷ parts) (onto_first byte parts))) ≤ suc n
one_byte_longer byte true [] n h = omega arith
one_byte_longer byte false [] n h = omega arith
one_byte_longer byte true (a ∷ parts) n h = omega arith
one_byte_longer byte false (a ∷ []) n h = omega arith
one_byte_longer byte false (a ∷ b ∷ parts) n h = omega arith

-- the last part isn't longer than the path
last_fits : (path : List ℕ) → length (last_part path) ≤ length path
last_fits [] = omega arith
last_fits (b ∷ path) = one_byte_longer b (b == 47) (parts_of path) (length path) (last_fits path)

-- a top stands under itself
pub top_under : (top : List ℕ) → IsUnder top (top ++ 47 ∷ [])
unfolding IsUnder
top_under top = ([], sym (append-nil (top ++ 47 ∷ [])))

-- a front of a path under a top is under it, where it is long enough
pub under : (top rest : List ℕ) (size : ℕ) → length top + 1 ≤ size → IsUnder top (take size ((top ++ 47 ∷ []) ++ rest))
unfolding IsUnder
under top rest size h =
    let is : length (top ++ 47 ∷ []) + (size - (length top + 1)) ≡ size = omega (arith, length-append top (47 ∷ [])) in
    (take (size - (length top + 1)) rest, subst (λ n. take n ((top ++ 47 ∷ []) ++ rest) ≡ (top ++ 47 ∷ []) ++ take (size - (length top + 1)) rest) is (take-append-add (top ++ 47 ∷ []) rest (size - (length top + 1))))

-- what begins with a path under a top is under it
pub more_under : (top path more : List ℕ) → IsUnder top path → IsUnder top (path ++ more)
unfolding IsUnder
more_under top path more (rest, is) = (rest ++ more, ap (λ l. l ++ more) is ∙ append_assoc (top ++ 47 ∷ []) rest more)

-- the folder of a path under another is that one, or under it
pub folder_under : (top path : List ℕ) → IsUnder top path → IsUnder top (folder_of path)
unfolding IsUnder
folder_under top path (rest, is) =
    let behind : (top ++ 47 ∷ []) ++ rest ≡ top ++ 47 ∷ rest = append_assoc top (47 ∷ []) rest in
    let last : last_part path ≡ last_part rest = ap last_part (is ∙ behind) ∙ ends_so _ _ (parts_behind top rest) in
    let size : length path ≡ length top + 1 + length rest = ap length is ∙ omega (arith, length-append (top ++ 47 ∷ []) rest, length-append top (47 ∷ [])) in
    let fits : length (last_part path) ≤ length rest = subst (λ (l : List ℕ). length l ≤ length rest) (sym last) (last_fits rest) in
    let shorter : (length (last_part path) == length path) ≡ false = ne_eqb (length (last_part path)) (length path) (λ e. omega (arith, e, size, fits)) in
    subst (IsUnder top) (ap (λ l. take (length path - length (last_part path)) l) (sym is) ∙ sym (ap (λ b. cond b (codes "./") (take (length path - length (last_part path)) path)) shorter))
    (under top rest (length path - length (last_part path)) (omega (arith, size, fits)))

-- the folder above one that stands under another is that one, or under it
pub above_under : (top folder : List ℕ) → length top + 1 < length folder → IsUnder top folder → IsUnder top (above folder)
unfolding IsUnder
above_under top folder longer (rest, is) =
    elim (ends_with (λ a b. a == b) folder (47 ∷ [])) as (λ t. IsUnder top (folder_of (cond t (take (length folder - 1) folder) folder))) [
      | true ↦ folder_under top (take (length folder - 1) folder) (subst (IsUnder top) (ap (λ l. take (length folder - 1) l) (sym is)) (under top rest (length folder - 1) (omega arith)))
      | false ↦ folder_under top folder (rest, is)
    ]

-- what begins with the path of a folder is under what that is under
pub first_under : (top folder path : List ℕ) → IsTrue (starts_with (λ a b. a == b) path folder) → IsUnder top folder → IsUnder top path
unfolding IsUnder
first_under top folder path begins (rest, is) =
    let whole : path ≡ folder ++ drop (length folder) path = (starts_is Decides-eqb path folder _ refl).0 begins in
    (rest ++ drop (length folder) path, whole ∙ ap (λ l. l ++ drop (length folder) path) is ∙ append_assoc (top ++ 47 ∷ []) rest (drop (length folder) path))

-- under a folder nothing but that one has so short a path
pub only_top : (top folder : List ℕ) → length folder ≤ length top + 1 → IsUnder top folder → folder ≡ top ++ 47 ∷ []
unfolding IsUnder
only_top top folder short ([], is) = is ∙ append-nil (top ++ 47 ∷ [])
only_top top folder short (b ∷ rest, is) = absurd (omega (arith, ap length is, length-append (top ++ 47 ∷ []) (b ∷ rest), length-append top (47 ∷ [])))
