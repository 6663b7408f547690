-- What a text has before its first slash.
use Rattle.std.proofs.Common.{◌≡◌, ◌≢◌, ◌⊎◌, inl, inr, ℕ, suc, ◌+◌, ◌==◌, Bool, true, false, not, cond, List, [], ◌∷◌, ◌++◌, length, get_or, take, drop, refl, sym, ap, ◌∙◌, arith, zero-add, subst}
use Rattle.std.specs.Prelude.{bytes_eq}
use Rattle.std.specs.List.{before_first, position_or_len, list_all}
use Rattle.std.specs.Str.Pattern.{FindsTextPrefix, StripsPrefix}
use Rattle.std.proofs.lemmas.Bool.{and_parts, eqb-true}
use Rattle.std.proofs.lemmas.List.{append-nil, append_cancel_left, take-append-drop}
use Rattle.std.proofs.lemmas.Slice.Eq.{bytes_eq-Decides}
use Rattle.std.proofs.Math.Seq.{take-append-add}
use Rattle.cv_base.specs.Name.{is_name, is_name_byte}

-- `/`
abbrev pub is_slash : ℕ → Bool
is_slash b = b == 47

-- nothing, or a text that begins with a slash
abbrev pub IsBehindName : List ℕ → Type 0
IsBehindName rest = (length rest ≡ 0) ⊎ (get_or rest 0 0 ≡ 47)

no_slash : (b : ℕ) → is_name_byte b ≡ true → is_slash b ≡ false
no_slash b h = by (b == 47) refl
  where
    by : (t : Bool) → (b == 47) ≡ t → t ≡ false
    by true e = let is : b ≡ 47 = eqb-true b 47 e in let P : ℕ → Type 0 = λ n. is_name_byte n ≡ true in absurd (let no = subst P is h in cc)
    by false e = refl

slash_behind : (name rest : List ℕ) → list_all is_name_byte name ≡ true → position_or_len is_slash (name ++ rest) ≡ length name + position_or_len is_slash rest
slash_behind [] rest h = sym (zero-add (position_or_len is_slash rest))
slash_behind (b ∷ name) rest h =
    let parts = and_parts (is_name_byte b) (list_all is_name_byte name) h in
    rw (no_slash b parts.0, slash_behind name rest parts.1) (omega arith)

-- a name is followed by what stands before the first slash of the rest
before_slash : (name rest : List ℕ) → is_name name ≡ true → before_first is_slash (name ++ rest) ≡ name ++ before_first is_slash rest
before_slash name rest h =
    let bytes = (and_parts _ _ h).1 in
    rw (slash_behind name rest bytes) (take-append-add name rest (position_or_len is_slash rest))

-- nothing stands before the first slash of what may be behind a name
nothing_before : (rest : List ℕ) → IsBehindName rest → before_first is_slash rest ≡ []
nothing_before [] h = refl
nothing_before (b ∷ rest) (inl h) = absurd (omega (arith, h))
nothing_before (b ∷ rest) (inr h) = let P : ℕ → Type 0 = λ n. before_first is_slash (n ∷ rest) ≡ [] in subst P (sym h) refl

-- and of nothing else
something_before : (rest : List ℕ) → before_first is_slash rest ≡ [] → IsBehindName rest
something_before [] h = inl refl
something_before (b ∷ rest) h = by (b == 47) refl h
  where
    by : (t : Bool) → (b == 47) ≡ t → take (cond (not t) (1 + position_or_len is_slash rest) 0) (b ∷ rest) ≡ [] → IsBehindName (b ∷ rest)
    by true e h = inr (eqb-true b 47 e)
    by false e h =
        let one_more : 1 + position_or_len is_slash rest ≡ suc (position_or_len is_slash rest) = omega arith in
        let P : ℕ → Type 0 = λ n. take n (b ∷ rest) ≡ [] in
        let taken : b ∷ take (position_or_len is_slash rest) rest ≡ [] = subst P one_more h in
        absurd (cc)

-- the name is what the text has before its first slash, where nothing else follows it
pub is_named : (name rest text : List ℕ) → is_name name ≡ true → text ≡ name ++ rest → IsBehindName rest → bytes_eq (before_first is_slash text) name ≡ true
is_named name rest text named is behind =
    (bytes_eq-Decides _ _).1 (ap (before_first is_slash) is ∙ before_slash name rest named ∙ ap (λ r. name ++ r) (nothing_before rest behind) ∙ append-nil name)

-- and something else may follow it
pub other_named : (name rest text : List ℕ) → is_name name ≡ true → text ≡ name ++ rest → (IsBehindName rest → ⊥) → bytes_eq (before_first is_slash text) name ≡ false
other_named name rest text named is other = by (bytes_eq (before_first is_slash text) name) refl
  where
    by : (t : Bool) → bytes_eq (before_first is_slash text) name ≡ t → t ≡ false
    by true e =
        let same : name ++ before_first is_slash rest ≡ name ++ [] =
        sym (before_slash name rest named) ∙ ap (before_first is_slash) (sym is) ∙ (bytes_eq-Decides _ _).0 e ∙ sym (append-nil name) in
        absurd (other (something_before rest (append_cancel_left name _ _ same)))
    by false e = refl

-- a text that doesn't begin with the name has another
pub no_name : (name text : List ℕ) → ((rest : List ℕ) → text ≢ name ++ rest) → bytes_eq (before_first is_slash text) name ≡ false
no_name name text other = by (bytes_eq (before_first is_slash text) name) refl
  where
    by : (t : Bool) → bytes_eq (before_first is_slash text) name ≡ t → t ≡ false
    by true e =
        let at : ℕ = position_or_len is_slash text in
        absurd (other (drop at text) (sym (take-append-drop at text) ∙ ap (λ front. front ++ drop at text) ((bytes_eq-Decides _ _).0 e)))
    by false e = refl

-- what was stripped of its name
pub stripped : (name text rest : List ℕ) → StripsPrefix (FindsTextPrefix name) text rest → (text ≡ name ++ rest) × (rest ≡ drop (length name) text)
stripped name text rest h = (h.1.1 ∙ ap (λ r. name ++ r) (sym h.2), h.2 ∙ ap (λ n. drop n text) h.1.0)
