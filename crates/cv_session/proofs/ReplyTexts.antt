-- A reply that is written says its code and its body, whatever stands behind it.
use Rattle.std.proofs.Common.{◌≡◌, ◌+◌, ◌<◌, ◌^◌, ◌%◌, ◌++◌, ◌∷◌, ℕ, List, [], length, refl, ap, sym, subst, ◌∙◌, append_assoc, arith, true, false, not, codes, decimal}
use Rattle.std.specs.Prelude.{Bool, ◌==◌, slice_index_or, if◌then◌else◌}
use Rattle.std.specs.List.{list_all}
use Rattle.std.proofs.lemmas.Bool.{and_parts, ne_eqb}
use Rattle.std.proofs.lemmas.Fmt.{decimal_by_steps, decimal_injective}
use Rattle.std.proofs.lemmas.List.{append_cancel_left}
use Rattle.cv_base.proofs.Laws.{same_parts}
use Rattle.cv_http.specs.Replies.{status_of, type_of, close_line, reply_head, reply}
use Rattle.cv_http.specs.declared.code.Code.{Code}
use Rattle.cv_http.specs.declared.code.Code.TheVariants.{Success, BadRequest, NotFound, LengthRequired, ContentTooLarge, FieldsTooLarge, ServerError, NotImplemented}
use Rattle.cv_http.specs.declared.body_kind.BodyKind.{BodyKind}
use Rattle.cv_http.specs.declared.body_kind.BodyKind.TheVariants.{Json, Octets, Text}

-- what stands before the length of a body
abbrev before_type : Code → List ℕ
before_type c = codes "HTTP/1.1 " ++ status_of c ++ codes "\r\nContent-Type: "

abbrev before_length : Code → BodyKind → List ℕ
before_length c k = before_type c ++ type_of k ++ codes "\r\nContent-Length: "

-- what stands behind it
abbrev behind_length : Bool → List ℕ → List ℕ
behind_length last later = 13 ∷ 10 ∷ (close_line last ++ (13 ∷ 10 ∷ later))

reply_parts : (c : Code) (k : BodyKind) (last : Bool) (body rest : List ℕ) → reply c k last body ++ rest ≡ before_length c k ++ (decimal (length body) ++ behind_length last (body ++ rest))
unfolding reply_head
reply_parts c k last body rest =
    append_assoc (reply_head c k (length body) last) body rest
    ∙ append_assoc (before_length c k ++ decimal (length body) ++ codes "\r\n" ++ close_line last) (codes "\r\n") (body ++ rest)
    ∙ append_assoc (before_length c k ++ decimal (length body) ++ codes "\r\n") (close_line last) (codes "\r\n" ++ (body ++ rest))
    ∙ append_assoc (before_length c k ++ decimal (length body)) (codes "\r\n") (close_line last ++ (codes "\r\n" ++ (body ++ rest)))
    ∙ append_assoc (before_length c k) (decimal (length body)) (codes "\r\n" ++ (close_line last ++ (codes "\r\n" ++ (body ++ rest))))

-- ---- the code and the kind

code_by : ℕ → ℕ → ℕ → Code
code_by a b c =
    if a == 50 then Success
    else if a == 53 then (if c == 48 then ServerError else NotImplemented)
    else if b == 48 then (if c == 48 then BadRequest else NotFound)
    else if b == 51 then FieldsTooLarge
    else if c == 49 then LengthRequired else ContentTooLarge

code_at : List ℕ → Code
code_at l = code_by (slice_index_or l 9 0) (slice_index_or l 10 0) (slice_index_or l 11 0)

code_found : (c : Code) (k : BodyKind) (later : List ℕ) → code_at (before_length c k ++ later) ≡ c
unfolding code_at code_by
code_found Success k later = refl
code_found BadRequest k later = refl
code_found NotFound k later = refl
code_found LengthRequired k later = refl
code_found ContentTooLarge k later = refl
code_found FieldsTooLarge k later = refl
code_found ServerError k later = refl
code_found NotImplemented k later = refl

kind_by : ℕ → BodyKind
kind_by b = if b == 106 then Json else if b == 111 then Octets else Text

kind_at : Code → List ℕ → BodyKind
kind_at c l = kind_by (slice_index_or l (length (before_type c) + 12) 0)

kind_found : (c : Code) (k : BodyKind) (later : List ℕ) → kind_at c (before_length c k ++ later) ≡ k
unfolding kind_at kind_by
kind_found Success Json later = refl
kind_found Success Octets later = refl
kind_found Success Text later = refl
kind_found BadRequest Json later = refl
kind_found BadRequest Octets later = refl
kind_found BadRequest Text later = refl
kind_found NotFound Json later = refl
kind_found NotFound Octets later = refl
kind_found NotFound Text later = refl
kind_found LengthRequired Json later = refl
kind_found LengthRequired Octets later = refl
kind_found LengthRequired Text later = refl
kind_found ContentTooLarge Json later = refl
kind_found ContentTooLarge Octets later = refl
kind_found ContentTooLarge Text later = refl
kind_found FieldsTooLarge Json later = refl
kind_found FieldsTooLarge Octets later = refl
kind_found FieldsTooLarge Text later = refl
kind_found ServerError Json later = refl
kind_found ServerError Octets later = refl
kind_found ServerError Text later = refl
kind_found NotImplemented Json later = refl
kind_found NotImplemented Octets later = refl
kind_found NotImplemented Text later = refl

-- ---- the length

abbrev is_other : ℕ → Bool
is_other b = not (b == 13)

-- what stands before the first return
before_return : (xs ys later later' : List ℕ) → list_all is_other xs ≡ true → list_all is_other ys ≡ true → xs ++ 13 ∷ later ≡ ys ++ 13 ∷ later' → (xs ≡ ys) × (later ≡ later')
before_return [] [] later later' all all' same = (refl, cc)
before_return [] (y ∷ ys) later later' all all' same = let first : 13 ≡ y = cc in let not_so = (and_parts (is_other y) (list_all is_other ys) all').0 in let P : ℕ → Type 0 = λ n. is_other n ≡ true in let both : false ≡ true = subst P (sym first) not_so in cc
before_return (x ∷ xs) [] later later' all all' same = let first : 13 ≡ x = cc in let not_so = (and_parts (is_other x) (list_all is_other xs) all).0 in let P : ℕ → Type 0 = λ n. is_other n ≡ true in let both : false ≡ true = subst P (sym first) not_so in cc
before_return (x ∷ xs) (y ∷ ys) later later' all all' same =
    let first : x ≡ y = cc in
    let more : xs ++ 13 ∷ later ≡ ys ++ 13 ∷ later' = cc in
    let rest = before_return xs ys later later' (and_parts (is_other x) (list_all is_other xs) all).1 (and_parts (is_other y) (list_all is_other ys) all').1 more in
    (rw (first, rest.0) refl, rest.1)

digits_other : (n : ℕ) → n < 2 ^ 64 → list_all is_other (decimal n) ≡ true
digits_other n small = decimal_by_steps (λ k digits. list_all is_other digits ≡ true)
    (λ k below. rw (ne_eqb (48 + k) 13 (omega arith)) refl)
    (λ k digits from all. all_more digits (48 + k % 10) all (rw (ne_eqb (48 + k % 10) 13 (omega arith)) refl))
    n small
  where
    all_more : (digits : List ℕ) (d : ℕ) → list_all is_other digits ≡ true → is_other d ≡ true → list_all is_other (digits ++ d ∷ []) ≡ true
    all_more [] d all is = rw is refl
    all_more (x ∷ digits) d all is = let parts = and_parts (is_other x) (list_all is_other digits) all in rw (parts.0, all_more digits d parts.1 is) refl

-- ---- the body

close_same : (last last' : Bool) (later later' : List ℕ) → close_line last ++ (13 ∷ 10 ∷ later) ≡ close_line last' ++ (13 ∷ 10 ∷ later') → later ≡ later'
close_same true true later later' same = cc
close_same false false later later' same = cc
close_same true false later later' same = let first : 67 ≡ 13 = ap (λ l. slice_index_or l 0 0) same in absurd (omega (arith, first))
close_same false true later later' same = let first : 13 ≡ 67 = ap (λ l. slice_index_or l 0 0) same in absurd (omega (arith, first))

-- behind the same front
behind_same : (b b' rest rest' : List ℕ) (last last' : Bool) → length b < 2 ^ 64 → length b' < 2 ^ 64
    → decimal (length b) ++ behind_length last (b ++ rest) ≡ decimal (length b') ++ behind_length last' (b' ++ rest') → (b ≡ b') × (rest ≡ rest')
behind_same b b' rest rest' last last' small small' same =
    let parts = before_return (decimal (length b)) (decimal (length b')) (10 ∷ (close_line last ++ (13 ∷ 10 ∷ (b ++ rest)))) (10 ∷ (close_line last' ++ (13 ∷ 10 ∷ (b' ++ rest'))))
    (digits_other (length b) small) (digits_other (length b') small') same in
    let closing : close_line last ++ (13 ∷ 10 ∷ (b ++ rest)) ≡ close_line last' ++ (13 ∷ 10 ∷ (b' ++ rest')) = let e = parts.1 in cc in
    let size : length b ≡ length b' = decimal_injective (length b) (length b') small small' parts.0 in
    same_parts (length b) b b' rest rest' refl (sym size) (close_same last last' (b ++ rest) (b' ++ rest') closing)

pub one_text : (c c' : Code) (k k' : BodyKind) (last last' : Bool) (b b' rest rest' : List ℕ) → length b < 2 ^ 64 → length b' < 2 ^ 64
    → reply c k last b ++ rest ≡ reply c' k' last' b' ++ rest' → (c ≡ c') × (b ≡ b') × (rest ≡ rest')
one_text c c' k k' last last' b b' rest rest' small small' same =
    let later : List ℕ = decimal (length b) ++ behind_length last (b ++ rest) in
    let later' : List ℕ = decimal (length b') ++ behind_length last' (b' ++ rest') in
    let parts : before_length c k ++ later ≡ before_length c' k' ++ later' = sym (reply_parts c k last b rest) ∙ same ∙ reply_parts c' k' last' b' rest' in
    let code : c ≡ c' = sym (code_found c k later) ∙ ap code_at parts ∙ code_found c' k' later' in
    let kind : k ≡ k' = sym (kind_found c k later) ∙ ap (kind_at c) parts ∙ ap (λ x. kind_at x (before_length c' k' ++ later')) code ∙ kind_found c' k' later' in
    let front : before_length c k ≡ before_length c' k' = ap (λ x. before_length x k) code ∙ ap (before_length c') kind in
    let behind : later ≡ later' = append_cancel_left (before_length c k) later later' (parts ∙ ap (λ l. l ++ later') (sym front)) in
    let both = behind_same b b' rest rest' last last' small small' behind in
    (code, both.0, both.1)
