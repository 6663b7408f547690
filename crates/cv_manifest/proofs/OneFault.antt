-- A text shows one fault.
use Rattle.std.proofs.Common.{◌≡◌, ◌≢◌, ℕ, ◌+◌, ◌<◌, true, false, List, [], ◌∷◌, ◌++◌, length, Result, Ok, Err, refl, sym, ap, subst, ◌∙◌, inl, inr, ◌⊎◌, arith, append_assoc, length-append}
use Rattle.std.specs.List.{AllByRecursion}
use Rattle.std.proofs.lemmas.Grind.{flat_map-append}
use Rattle.hex.specs.Hex.{encode_lower}
use Rattle.cv_base.specs.Unless.{IsUnless}
use Rattle.cv_manifest.specs.declared.field.Field.{Field}
use Rattle.cv_manifest.specs.declared.manifest.Manifest.{Manifest}
use Rattle.cv_manifest.specs.declared.manifest_fault.ManifestFault.{ManifestFault}
use Rattle.cv_manifest.specs.declared.manifest_fault.ManifestFault.TheVariants.{NoEnd, BadLine, Missing, Repeated, HashDiffers, BadSeal, NoMemory}
use Rattle.cv_manifest.specs.Field.{letter_of}
use Rattle.cv_manifest.specs.Lines.{value_in, values}
use Rattle.cv_manifest.specs.Parts.{Parts, digest_of, HasParts, IsSealed}
use Rattle.cv_manifest.specs.Fault.{IsOf, IsGood, IsFaultless, Comes, ShownBy, Shows}
use Rattle.cv_manifest.proofs.Splits.{one_parts}
use Rattle.cv_manifest.proofs.Exact.{Seals, Answers, no_fault, values-at}

-- ---- one line

-- the line brings a fault to the lines before it
abbrev Breaks : List (List ℕ) → List ℕ → Type 0
Breaks before line = ¬ IsFaultless (before ++ line ∷ [])

all_front : {X : Type 0} (P : X → Type 0) (front xs : List X) → AllByRecursion P (front ++ xs) → AllByRecursion P front
all_front P [] xs all = tt
all_front P (x ∷ front) xs all = (all.0, all_front P front xs all.1)

faultless_front : (front more : List (List ℕ)) → IsFaultless (front ++ more) → IsFaultless front
faultless_front front more is = record {
  good = all_front IsGood front more is.good;
  once = λ field.
      let all = is.once field in
      let parts = ap length (flat_map-append (λ l. value_in (letter_of field) l) front more) in
      omega (arith, all, parts, length-append (values field front) (values field more));
}

-- which of two places in a list is first
data Places {X : Type 0} (a : List X) (x : X) (b : List X) (y : X) : Type 0 where
  same : a ≡ b → x ≡ y → Places a x b y
  first_is : (m : List X) → b ≡ (a ++ x ∷ []) ++ m → Places a x b y
  second_is : (m : List X) → a ≡ (b ++ y ∷ []) ++ m → Places a x b y

place_more : {X : Type 0} (z : X) (a : List X) (x : X) (b : List X) (y : X) → Places a x b y → Places (z ∷ a) x (z ∷ b) y
place_more z a x b y (same e f) = same (ap (λ l. z ∷ l) e) f
place_more z a x b y (first_is m e) = first_is m (ap (λ l. z ∷ l) e)
place_more z a x b y (second_is m e) = second_is m (ap (λ l. z ∷ l) e)

places : {X : Type 0} (a : List X) (x : X) (s b : List X) (y : X) (t : List X) → a ++ x ∷ s ≡ b ++ y ∷ t → Places a x b y
places [] x s [] y t e = same refl cc
places {X} [] x s (z ∷ b) y t e = let head : z ≡ x = cc in first_is b (ap (λ (w : X). w ∷ b) head)
places {X} (z ∷ a) x s [] y t e = let head : z ≡ y = cc in second_is a (ap (λ (w : X). w ∷ a) head)
places {X} (z ∷ a) x s (w ∷ b) y t e =
    let head : z ≡ w = cc in
    let tail : a ++ x ∷ s ≡ b ++ y ∷ t = cc in
    subst (λ (v : X). Places (z ∷ a) x (v ∷ b) y) head (place_more z a x b y (places a x s b y t tail))

one_place : (lines a b : List (List ℕ)) (x y : List ℕ) → Comes lines a x → Comes lines b y → Breaks a x → Breaks b y → (a ≡ b) × (x ≡ y)
one_place lines a b x y a-comes b-comes a-breaks b-breaks = elim (places a x a-comes.after b y b-comes.after (sym a-comes.lines_are ∙ b-comes.lines_are)) [
  | same e f ↦ (e, f)
  | first_is m e ↦ absurd (a-breaks (faultless_front (a ++ x ∷ []) m (subst IsFaultless e b-comes.faultless)))
  | second_is m e ↦ absurd (b-breaks (faultless_front (b ++ y ∷ []) m (subst IsFaultless e a-comes.faultless)))
]

all_last : {X : Type 0} (P : X → Type 0) (xs : List X) (x : X) → AllByRecursion P (xs ++ x ∷ []) → P x
all_last P [] x all = all.0
all_last P (y ∷ xs) x all = all_last P xs x all.1

bad_breaks : (before : List (List ℕ)) (line : List ℕ) → ¬ IsGood line → Breaks before line
bad_breaks before line bad is = bad (all_last IsGood before line is.good)

some_size : (xs : List (List ℕ)) → xs ≢ [] → 0 < length xs
some_size [] some = absurd (some refl)
some_size (x ∷ xs) some = omega arith

repeat_breaks : (before : List (List ℕ)) (line : List ℕ) (field : Field) (value : List ℕ) → IsOf field value line → values field before ≢ [] → Breaks before line
repeat_breaks before line field value of some is =
    let once = is.once field in
    let size = ap length (values-at field before [] line value of) in
    omega (arith, once, size, some_size (values field before) some, length-append (values field before) (value ∷ []))

-- lines without a fault have no line that brings one
none_breaks : (lines before : List (List ℕ)) (line : List ℕ) → IsFaultless lines → Comes lines before line → Breaks before line → ⊥
none_breaks lines before line is comes breaks =
    let whole : lines ≡ (before ++ line ∷ []) ++ comes.after = comes.lines_are ∙ sym (append_assoc before (line ∷ []) comes.after) in
    breaks (faultless_front (before ++ line ∷ []) comes.after (subst IsFaultless whole is))

-- ---- one fault of lines

one_shown : (lines : List (List ℕ)) (f g : ManifestFault) → ShownBy lines f → ShownBy lines g → f ≡ g
one_shown lines NoEnd g f-shown g-shown = absurd f-shown
one_shown lines (HashDiffers s c) g f-shown g-shown = absurd f-shown
one_shown lines BadSeal g f-shown g-shown = absurd f-shown
one_shown lines NoMemory g f-shown g-shown = absurd f-shown
one_shown lines (BadLine n) NoEnd f-shown g-shown = absurd g-shown
one_shown lines (BadLine n) (HashDiffers s c) f-shown g-shown = absurd g-shown
one_shown lines (BadLine n) BadSeal f-shown g-shown = absurd g-shown
one_shown lines (BadLine n) NoMemory f-shown g-shown = absurd g-shown
one_shown lines (BadLine n) (BadLine k) (a, x, a-comes, a-bad, n-is) (b, y, b-comes, b-bad, k-is) =
    let place = one_place lines a b x y a-comes b-comes (bad_breaks a x a-bad) (bad_breaks b y b-bad) in
    ap (λ (i : ℕ). BadLine i) (n-is ∙ ap (λ (l : List (List ℕ)). length l + 1) place.0 ∙ sym k-is)
one_shown lines (BadLine n) (Missing l) (a, x, comes, bad, n-is) (faultless, field, lacks, l-is) =
    absurd (none_breaks lines a x faultless comes (bad_breaks a x bad))
one_shown lines (BadLine n) (Repeated l) (a, x, a-comes, a-bad, n-is) (b, y, b-comes, good, field, value, of, some, l-is) =
    let place = one_place lines a b x y a-comes b-comes (bad_breaks a x a-bad) (repeat_breaks b y field value of some) in
    absurd (a-bad (subst IsGood (sym place.1) good))
one_shown lines (Missing l) NoEnd f-shown g-shown = absurd g-shown
one_shown lines (Missing l) (HashDiffers s c) f-shown g-shown = absurd g-shown
one_shown lines (Missing l) BadSeal f-shown g-shown = absurd g-shown
one_shown lines (Missing l) NoMemory f-shown g-shown = absurd g-shown
one_shown lines (Missing l) (BadLine n) (faultless, field, lacks, l-is) (a, x, comes, bad, n-is) =
    absurd (none_breaks lines a x faultless comes (bad_breaks a x bad))
one_shown lines (Missing l) (Missing k) (f-faultless, f-field, f-lacks, l-is) (g-faultless, g-field, g-lacks, k-is) =
    let same : f-field ≡ g-field = let some = sym f-lacks ∙ g-lacks in cc in
    ap (λ (i : ℕ). Missing i) (l-is ∙ ap letter_of same ∙ sym k-is)
one_shown lines (Missing l) (Repeated k) (faultless, field, lacks, l-is) (b, y, comes, good, other, value, of, some, k-is) =
    absurd (none_breaks lines b y faultless comes (repeat_breaks b y other value of some))
one_shown lines (Repeated l) NoEnd f-shown g-shown = absurd g-shown
one_shown lines (Repeated l) (HashDiffers s c) f-shown g-shown = absurd g-shown
one_shown lines (Repeated l) BadSeal f-shown g-shown = absurd g-shown
one_shown lines (Repeated l) NoMemory f-shown g-shown = absurd g-shown
one_shown lines (Repeated l) (BadLine n) (b, y, b-comes, good, field, value, of, some, l-is) (a, x, a-comes, a-bad, n-is) =
    let place = one_place lines a b x y a-comes b-comes (bad_breaks a x a-bad) (repeat_breaks b y field value of some) in
    absurd (a-bad (subst IsGood (sym place.1) good))
one_shown lines (Repeated l) (Missing k) (b, y, comes, good, other, value, of, some, k-is) (faultless, field, lacks, l-is) =
    absurd (none_breaks lines b y faultless comes (repeat_breaks b y other value of some))
one_shown lines (Repeated l) (Repeated k) (a, x, a-comes, a-good, a-field, a-value, a-of, a-some, l-is) (b, y, b-comes, b-good, b-field, b-value, b-of, b-some, k-is) =
    let place = one_place lines a b x y a-comes b-comes (repeat_breaks a x a-field a-value a-of a-some) (repeat_breaks b y b-field b-value b-of b-some) in
    let line : letter_of a-field ∷ a-value ≡ letter_of b-field ∷ b-value = sym a-of ∙ place.1 ∙ b-of in
    let letter : letter_of a-field ≡ letter_of b-field = cc in
    ap (λ (i : ℕ). Repeated i) (l-is ∙ letter ∙ sym k-is)

-- ---- one fault of a text

-- the fault of a text of these parts
abbrev ShowsOf : Seals → Parts → ManifestFault → Type 0
ShowsOf is_seal parts NoEnd = ⊥
ShowsOf is_seal parts (HashDiffers stated computed) = (parts.stated ≡ stated) × (digest_of parts.lines ≡ computed) × (stated ≢ computed)
ShowsOf is_seal parts BadSeal = (parts.stated ≡ digest_of parts.lines) × (is_seal (encode_lower parts.stated) parts.seal ≡ false)
ShowsOf is_seal parts NoMemory = ⊥
ShowsOf is_seal parts fault = IsSealed is_seal parts × ShownBy parts.lines fault

shows_of : (is_seal : Seals) (text : List ℕ) (parts : Parts) → HasParts text parts → (fault : ManifestFault) → fault ≢ NoMemory → Shows is_seal text fault → ShowsOf is_seal parts fault
shows_of is_seal text parts has NoEnd other shows = shows parts has
shows_of is_seal text parts has (BadLine n) other (own, own-has, is_sealed, shown) =
    subst (λ (p : Parts). ShowsOf is_seal p (BadLine n)) (one_parts text own parts own-has has) (is_sealed, shown)
shows_of is_seal text parts has (Missing l) other (own, own-has, is_sealed, shown) =
    subst (λ (p : Parts). ShowsOf is_seal p (Missing l)) (one_parts text own parts own-has has) (is_sealed, shown)
shows_of is_seal text parts has (Repeated l) other (own, own-has, is_sealed, shown) =
    subst (λ (p : Parts). ShowsOf is_seal p (Repeated l)) (one_parts text own parts own-has has) (is_sealed, shown)
shows_of is_seal text parts has (HashDiffers s c) other (own, own-has, stated, computed, differs) =
    subst (λ (p : Parts). ShowsOf is_seal p (HashDiffers s c)) (one_parts text own parts own-has has) (stated, computed, differs)
shows_of is_seal text parts has BadSeal other (own, own-has, hash, bad) =
    subst (λ (p : Parts). ShowsOf is_seal p BadSeal) (one_parts text own parts own-has has) (hash, bad)
shows_of is_seal text parts has NoMemory other shows = absurd (other refl)

-- which fault, by the digest and by the seal
data Fault (is_seal : Seals) (parts : Parts) (fault : ManifestFault) : Type 0 where
  of_hash : (parts.stated ≢ digest_of parts.lines) → fault ≡ HashDiffers parts.stated (digest_of parts.lines) → Fault is_seal parts fault
  of_seal : (parts.stated ≡ digest_of parts.lines) → is_seal (encode_lower parts.stated) parts.seal ≡ false → fault ≡ BadSeal → Fault is_seal parts fault
  of_lines : (parts.stated ≡ digest_of parts.lines) → is_seal (encode_lower parts.stated) parts.seal ≡ true → ShownBy parts.lines fault → Fault is_seal parts fault

fault_of : (is_seal : Seals) (parts : Parts) (fault : ManifestFault) → ShowsOf is_seal parts fault → Fault is_seal parts fault
fault_of is_seal parts NoEnd shows = absurd shows
fault_of is_seal parts (BadLine n) shows = of_lines shows.0.hash shows.0.seal shows.1
fault_of is_seal parts (Missing l) shows = of_lines shows.0.hash shows.0.seal shows.1
fault_of is_seal parts (Repeated l) shows = of_lines shows.0.hash shows.0.seal shows.1
fault_of is_seal parts (HashDiffers s c) shows =
    of_hash (λ e. shows.2 (sym shows.0 ∙ e ∙ shows.1))
    (ap (λ (x : List ℕ). HashDiffers x c) (sym shows.0) ∙ ap (λ (x : List ℕ). HashDiffers parts.stated x) (sym shows.1))
fault_of is_seal parts BadSeal shows = of_seal shows.0 shows.1 refl
fault_of is_seal parts NoMemory shows = absurd shows

same_fault : (is_seal : Seals) (parts : Parts) (f g : ManifestFault) → Fault is_seal parts f → Fault is_seal parts g → f ≡ g
same_fault is_seal parts f g (of_hash a x) (of_hash b y) = x ∙ sym y
same_fault is_seal parts f g (of_hash a x) (of_seal b s y) = absurd (a b)
same_fault is_seal parts f g (of_hash a x) (of_lines b s y) = absurd (a b)
same_fault is_seal parts f g (of_seal a r x) (of_hash b y) = absurd (b a)
same_fault is_seal parts f g (of_seal a r x) (of_seal b s y) = x ∙ sym y
same_fault is_seal parts f g (of_seal a r x) (of_lines b s y) = absurd (let wrong : true ≡ false = sym s ∙ r in cc)
same_fault is_seal parts f g (of_lines a r x) (of_hash b y) = absurd (b a)
same_fault is_seal parts f g (of_lines a r x) (of_seal b s y) = absurd (let wrong : true ≡ false = sym r ∙ s in cc)
same_fault is_seal parts f g (of_lines a r x) (of_lines b s y) = one_shown parts.lines f g x y

with_parts : (is_seal : Seals) (text : List ℕ) (parts : Parts) → HasParts text parts → (f g : ManifestFault) → f ≢ NoMemory → g ≢ NoMemory
    → Shows is_seal text f → Shows is_seal text g → f ≡ g
with_parts is_seal text parts has f g f-other g-other f-shows g-shows =
    same_fault is_seal parts f g (fault_of is_seal parts f (shows_of is_seal text parts has f f-other f-shows)) (fault_of is_seal parts g (shows_of is_seal text parts has g g-other g-shows))

-- a fault other than NoEnd is that of a text that has parts
data HasEnd (text : List ℕ) (fault : ManifestFault) : Type 0 where
  none : fault ≡ NoEnd → HasEnd text fault
  some : (parts : Parts) → HasParts text parts → HasEnd text fault

has_end : (is_seal : Seals) (text : List ℕ) (fault : ManifestFault) → fault ≢ NoMemory → Shows is_seal text fault → HasEnd text fault
has_end is_seal text NoEnd other shows = none refl
has_end is_seal text (BadLine n) other shows = some shows.0 shows.1
has_end is_seal text (Missing l) other shows = some shows.0 shows.1
has_end is_seal text (Repeated l) other shows = some shows.0 shows.1
has_end is_seal text (HashDiffers s c) other shows = some shows.0 shows.1
has_end is_seal text BadSeal other shows = some shows.0 shows.1
has_end is_seal text NoMemory other shows = absurd (other refl)

one_fault : (is_seal : Seals) (text : List ℕ) (f g : ManifestFault) → f ≢ NoMemory → g ≢ NoMemory → Shows is_seal text f → Shows is_seal text g → f ≡ g
one_fault is_seal text f g f-other g-other f-shows g-shows = elim (has_end is_seal text f f-other f-shows) [
  | some parts has ↦ with_parts is_seal text parts has f g f-other g-other f-shows g-shows
  | none f-is ↦ elim (has_end is_seal text g g-other g-shows) [
    | some parts has ↦ with_parts is_seal text parts has f g f-other g-other f-shows g-shows
    | none g-is ↦ f-is ∙ sym g-is
  ]
]

-- a fault is want of memory, or another
memory_or : (fault : ManifestFault) → (fault ≡ NoMemory) ⊎ (fault ≢ NoMemory)
memory_or NoEnd = inr (λ e. cc)
memory_or (BadLine n) = inr (λ e. cc)
memory_or (Missing l) = inr (λ e. cc)
memory_or (Repeated l) = inr (λ e. cc)
memory_or (HashDiffers s c) = inr (λ e. cc)
memory_or BadSeal = inr (λ e. cc)
memory_or NoMemory = inl refl

pub answer_refused : (is_seal : Seals) (text : List ℕ) (result : Result Manifest ManifestFault) → Answers is_seal text result
    → (fault : ManifestFault) → Shows is_seal text fault → fault ≢ NoMemory → IsUnless NoMemory result (Err fault)
answer_refused is_seal text (Ok m) answers fault shows other = absurd (other (no_fault is_seal text m answers fault shows))
answer_refused is_seal text (Err own) answers fault shows other = elim (memory_or own) [
  | inl is ↦ inl is
  | inr own-other ↦ inr (ap (λ (f : ManifestFault). Err f) (one_fault is_seal text own fault own-other other answers shows))
]
