-- The forms of words as clap tells them apart.
use Rattle.std.proofs.Common.{◌≡◌, ℕ, true, false, List, [], ◌∷◌, map, Some, None, refl, sym, ap, subst, bytes_eq, true≢false, inl, inr}
use Rattle.std.specs.Prelude.{◌==◌, ⊤, Option, slice_get, string_bytes}
use Rattle.std.specs.Char.{encode_utf8}
use Rattle.std.specs.Str.{IsUtf8, chars, encode_utf8_all}
use Rattle.std.specs.declared.string.String.{String}
use Rattle.std.proofs.lemmas.Str.{chars_from_encodes, IsUtf8-past_char, IsUtf8-string_bytes}
use Rattle.std.proofs.lemmas.Bool.{cases_Bool, eqb-true}
use Rattle.clap.specs.Walk.{Text}
use Rattle.clap.specs.Lexer.{long_of, short_of, name_and_value}
use Rattle.cv_words.specs.Words.{dashes, is_option}

-- a word that is a value before `--`
pub record IsPlain (word : Text) : Type 0 where
  pub no_dashes : bytes_eq word dashes ≡ false
  pub no_long : long_of word ≡ None
  pub no_short : short_of word ≡ None

no_long_of : (word : Text) → is_option word ≡ false → long_of word ≡ None
no_long_of [] h = refl
no_long_of (b ∷ []) h = elim (cases_Bool (b == 45)) [ inl is ↦ rw is refl | inr not ↦ rw not refl ]
no_long_of (b ∷ c ∷ more) h = rw h refl

no_short_of : (word : Text) → is_option word ≡ false → short_of word ≡ None
no_short_of [] h = refl
no_short_of (b ∷ []) h = elim (cases_Bool (b == 45)) [ inl is ↦ rw is refl | inr not ↦ rw not refl ]
no_short_of (b ∷ c ∷ more) h = rw h refl

pub plain : (word : Text) → bytes_eq word dashes ≡ false → is_option word ≡ false → IsPlain word
plain word d h = record { no_dashes = d; no_long = no_long_of word h; no_short = no_short_of word h }

-- a word that is an option, of either kind; the second has a first character behind its hyphen
pub data IsFlag (word : Text) : Type 0 where
  long : (p : Text × Option Text) → long_of word ≡ Some p → IsFlag word
  short : (b : ℕ) (more : Text) (first : ℕ) → long_of word ≡ None → short_of word ≡ Some (b ∷ more) → slice_get (chars (b ∷ more)) 0 ≡ Some first → IsFlag word

first_of : (cs : List ℕ) (b : ℕ) (more : Text) → encode_utf8_all cs ≡ b ∷ more → cs ≡ chars (b ∷ more) → (first : ℕ) × (slice_get (chars (b ∷ more)) 0 ≡ Some first)
first_of [] b more spells is = let e : [] ≡ b ∷ more = spells in absurd cc
first_of (c ∷ cs) b more spells is = (c, ap (λ (l : List ℕ). slice_get l 0) (sym is))

-- a text that isn't empty has a first character
has_first : (b : ℕ) (more : Text) → IsUtf8 (b ∷ more) → (first : ℕ) × (slice_get (chars (b ∷ more)) 0 ≡ Some first)
has_first b more utf8 = first_of utf8.0 b more utf8.1.1 (chars_from_encodes utf8.0 (b ∷ more) utf8 utf8.1.1)

behind_hyphen : (b : ℕ) (more : Text) → IsUtf8 (45 ∷ b ∷ more) → IsUtf8 (b ∷ more)
unfolding encode_utf8
behind_hyphen b more utf8 = IsUtf8-past_char (45 ∷ b ∷ more) (b ∷ more) 45 utf8 refl

two_hyphens : (c : ℕ) (more : Text) → (c == 45) ≡ true → bytes_eq (45 ∷ c ∷ more) dashes ≡ false → IsFlag (45 ∷ c ∷ more)
two_hyphens c [] is d = let e = rw is at d in absurd (true≢false e)
two_hyphens c (x ∷ more) is d = long (name_and_value (x ∷ more)) (rw is refl)

one_hyphen : (c : ℕ) (more : Text) → (c == 45) ≡ false → IsUtf8 (45 ∷ c ∷ more) → IsFlag (45 ∷ c ∷ more)
one_hyphen c more other utf8 =
    let first = has_first c more (behind_hyphen c more utf8) in
    short c more first.0 (rw other refl) (rw other refl) first.1

flag_by : (c : ℕ) (more : Text) → bytes_eq (45 ∷ c ∷ more) dashes ≡ false → IsUtf8 (45 ∷ c ∷ more) → IsFlag (45 ∷ c ∷ more)
flag_by c more d utf8 = elim (cases_Bool (c == 45)) [ inl is ↦ two_hyphens c more is d | inr other ↦ one_hyphen c more other utf8 ]

pub flag : (word : Text) → bytes_eq word dashes ≡ false → is_option word ≡ true → IsUtf8 word → IsFlag word
flag [] d o utf8 = absurd (true≢false (sym o))
flag (b ∷ []) d o utf8 = absurd (true≢false (sym o))
flag (b ∷ c ∷ more) d o utf8 =
    let is : b ≡ 45 = eqb-true b 45 o in
    subst (λ (x : ℕ). IsFlag (x ∷ c ∷ more)) (sym is)
    (flag_by c more (subst (λ (x : ℕ). bytes_eq (x ∷ c ∷ more) dashes ≡ false) is d) (subst (λ (x : ℕ). IsUtf8 (x ∷ c ∷ more)) is utf8))

-- each word is a text
abbrev pub AreTexts : List Text → Type 0
AreTexts [] = ⊤
AreTexts (word ∷ words) = IsUtf8 word × AreTexts words

pub strings_are_texts : {Z : Type 0} (words : List (String Z)) → AreTexts (map string_bytes words)
strings_are_texts [] = tt
strings_are_texts (word ∷ words) = (IsUtf8-string_bytes word, strings_are_texts words)
