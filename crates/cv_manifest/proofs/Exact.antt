-- A text says one thing.
use Rattle.std.proofs.Common.{◌≡◌, ◌≢◌, ℕ, Bool, true, false, eqb, List, [], ◌∷◌, ◌++◌, length, Some, Result, Ok, Err, refl, sym, ap, subst, ◌∙◌, inl, inr, arith, length-append}
use Rattle.std.specs.Prelude.{MatchResult, IfOk, IfErr, find}
use Rattle.std.specs.List.{AllByRecursion}
use Rattle.std.proofs.lemmas.Bool.{eq-eqb, cases_Bool}
use Rattle.std.proofs.lemmas.Fmt.{decimal_injective}
use Rattle.std.proofs.lemmas.Grind.{flat_map-append}
use Rattle.cv_base.specs.Unless.{IsUnless}
use Rattle.cv_base.proofs.Laws.{same_digits}
use Rattle.cv_manifest.specs.declared.field.Field.{Field}
use Rattle.cv_manifest.specs.declared.field.Field.TheVariants.{Root, Size, RootKey, TimeToLive, Revision, Name, History, Time}
use Rattle.cv_manifest.specs.declared.manifest.Manifest.{Manifest}
use Rattle.cv_manifest.specs.declared.manifest_fault.ManifestFault.{ManifestFault}
use Rattle.cv_manifest.specs.declared.manifest_fault.ManifestFault.TheVariants.{NoEnd, BadLine, Missing, Repeated, HashDiffers, BadSeal, NoMemory}
use Rattle.cv_manifest.specs.Field.{letter_of, all_fields, IsValue}
use Rattle.cv_manifest.specs.Lines.{value_in, values}
use Rattle.cv_manifest.specs.Parts.{Parts, HasParts, IsSealed}
use Rattle.cv_manifest.specs.Manifest.{value_of, IsManifest, LinesSay, Says}
use Rattle.cv_manifest.specs.Fault.{IsOf, IsGood, is_none_of, Comes, ShownBy, Shows}
use Rattle.cv_manifest.proofs.Splits.{one_parts}

abbrev pub Seals : Type 0
Seals = List ℕ → List ℕ → Bool

-- ---- one manifest

only : (x y : List ℕ) → x ∷ [] ≡ y ∷ [] → x ≡ y
only x y e = cc

one_value : (lines : List (List ℕ)) (a b : Manifest) → LinesSay lines a → LinesSay lines b → (field : Field) → value_of a field ≡ value_of b field
one_value lines a b a-say b-say field = only _ _ (sym (a-say.fields field) ∙ b-say.fields field)

abbrev made : List ℕ → ℕ → ℕ → List ℕ → ℕ → List ℕ → ℕ → Manifest
made name ttl revision root size history time =
    record { name = name; ttl = ttl; head = record { revision = revision; root = root; size = size; history = history; time = time } }

one_said : (lines : List (List ℕ)) (a b : Manifest) → LinesSay lines a → LinesSay lines b → a ≡ b
one_said lines a b a-say b-say =
    let same = one_value lines a b a-say b-say in
    let ar = a-say.limits.in_range in
    let br = b-say.limits.in_range in
    let name : a.name ≡ b.name = same Name in
    let ttl : a.ttl ≡ b.ttl = decimal_injective _ _ ar.ttl br.ttl (same TimeToLive) in
    let revision : a.head.revision ≡ b.head.revision = decimal_injective _ _ ar.revision br.revision (same Revision) in
    let root : a.head.root ≡ b.head.root = same_digits _ _ ar.root br.root (same Root) in
    let size : a.head.size ≡ b.head.size = decimal_injective _ _ ar.size br.size (same Size) in
    let history : a.head.history ≡ b.head.history = same_digits _ _ ar.history br.history (same History) in
    let time : a.head.time ≡ b.head.time = decimal_injective _ _ ar.time br.time (same Time) in
    ap (λ (x : List ℕ). made x a.ttl a.head.revision a.head.root a.head.size a.head.history a.head.time) name
    ∙ ap (λ (x : ℕ). made b.name x a.head.revision a.head.root a.head.size a.head.history a.head.time) ttl
    ∙ ap (λ (x : ℕ). made b.name b.ttl x a.head.root a.head.size a.head.history a.head.time) revision
    ∙ ap (λ (x : List ℕ). made b.name b.ttl b.head.revision x a.head.size a.head.history a.head.time) root
    ∙ ap (λ (x : ℕ). made b.name b.ttl b.head.revision b.head.root x a.head.history a.head.time) size
    ∙ ap (λ (x : List ℕ). made b.name b.ttl b.head.revision b.head.root b.head.size x a.head.time) history
    ∙ ap (λ (x : ℕ). made b.name b.ttl b.head.revision b.head.root b.head.size b.head.history x) time

pub one_reading : (is_seal : Seals) (text : List ℕ) (a b : Manifest) → Says is_seal text a → Says is_seal text b → a ≡ b
one_reading is_seal text a b a-reads b-reads =
    let parts = one_parts text a-reads.parts b-reads.parts a-reads.has b-reads.has in
    let say : LinesSay b-reads.parts.lines a = subst (λ (p : Parts). LinesSay p.lines a) parts a-reads.say in
    one_said b-reads.parts.lines a b say b-reads.say

-- ---- no fault of a text that says a manifest

-- the line of a field gives it a value
pub values-at : (field : Field) (before after : List (List ℕ)) (line value : List ℕ) → IsOf field value line
    → values field (before ++ line ∷ after) ≡ values field before ++ value ∷ values field after
values-at field before after line value is =
    let letter : eqb (letter_of field) (letter_of field) ≡ true = eq-eqb _ _ refl in
    flat_map-append (λ l. value_in (letter_of field) l) before (line ∷ after)
    ∙ rw (is, letter) refl

single : (before after : List (List ℕ)) (value only : List ℕ) → before ++ value ∷ after ≡ only ∷ [] → (before ≡ []) × (value ≡ only)
single [] after value only e = (refl, cc)
single (x ∷ before) after value only e = absurd (omega (arith, ap length e, length-append before (value ∷ after)))

value_may : (m : Manifest) → IsManifest m → (field : Field) → IsValue field (value_of m field)
value_may m limits Root = (m.head.root, limits.in_range.root, refl)
value_may m limits Size = let size = limits.in_range.size in (m.head.size, omega arith, omega arith, refl)
value_may m limits RootKey = refl
value_may m limits TimeToLive = let ttl = limits.in_range.ttl in (m.ttl, omega arith, omega arith, refl)
value_may m limits Revision = let revision = limits.in_range.revision in (m.head.revision, limits.revision, omega arith, refl)
value_may m limits Name = limits.name
value_may m limits History = (m.head.history, limits.in_range.history, refl)
value_may m limits Time = let time = limits.time in (m.head.time, omega arith, omega arith, refl)

all_at : {X : Type 0} (P : X → Type 0) (before after : List X) (x : X) → AllByRecursion P (before ++ x ∷ after) → P x
all_at P [] after x all = all.0
all_at P (y ∷ before) after x all = all_at P before after x all.1

no_bad : (lines before : List (List ℕ)) (line : List ℕ) (m : Manifest) → LinesSay lines m → Comes lines before line → IsGood line
no_bad lines before line m say comes = record {
  full = all_at (λ l. l ≢ []) before comes.after line (subst (λ (ls : List (List ℕ)). AllByRecursion (λ l. l ≢ []) ls) comes.lines_are say.full);
  value = λ field value is.
      let given = sym (values-at field before comes.after line value is) ∙ ap (values field) (sym comes.lines_are) ∙ say.fields field in
      subst (IsValue field) (sym (single (values field before) (values field comes.after) value (value_of m field) given).1) (value_may m say.limits field);
}

-- what is found passes
found_passes : (p : Field → Bool) (fields : List Field) (field : Field) → find p fields ≡ Some field → p field ≡ true
found_passes p [] field e = absurd cc
found_passes p (first ∷ fields) field e = elim (cases_Bool (p first)) [
  | inl same ↦ let found : Some first ≡ Some field = rw same at e in let is : first ≡ field = cc in rw (← is) same
  | inr differs ↦ found_passes p fields field (rw differs at e)
]

no_shown : (lines : List (List ℕ)) (m : Manifest) → LinesSay lines m → (fault : ManifestFault) → ShownBy lines fault → ⊥
no_shown lines m say NoEnd shown = shown
no_shown lines m say (BadLine n) (before, line, comes, bad, number) = bad (no_bad lines before line m say comes)
no_shown lines m say (Missing letter) (faultless, field, lacks, is) =
    let none = found_passes (λ f. is_none_of (values f lines)) all_fields field lacks in
    let some : is_none_of (values field lines) ≡ false = ap is_none_of (say.fields field) in
    absurd cc
no_shown lines m say (Repeated letter) (before, line, comes, good, field, value, is, some, letter_is) =
    let given = sym (values-at field before comes.after line value is) ∙ ap (values field) (sym comes.lines_are) ∙ say.fields field in
    some (single (values field before) (values field comes.after) value (value_of m field) given).0
no_shown lines m say (HashDiffers s t) shown = shown
no_shown lines m say BadSeal shown = shown
no_shown lines m say NoMemory shown = shown

lines_of_text : (is_seal : Seals) (text : List ℕ) (m : Manifest) (parts : Parts) → Says is_seal text m → HasParts text parts → LinesSay parts.lines m × IsSealed is_seal parts
lines_of_text is_seal text m parts reads has =
    let same = one_parts text reads.parts parts reads.has has in
    (subst (λ (p : Parts). LinesSay p.lines m) same reads.say, subst (IsSealed is_seal) same reads.is_sealed)

pub no_fault : (is_seal : Seals) (text : List ℕ) (m : Manifest) → Says is_seal text m → (fault : ManifestFault) → Shows is_seal text fault → fault ≡ NoMemory
no_fault is_seal text m reads NoEnd shows = absurd (shows reads.parts reads.has)
no_fault is_seal text m reads (BadLine n) (parts, has, is_sealed, shown) = absurd (no_shown parts.lines m (lines_of_text is_seal text m parts reads has).0 (BadLine n) shown)
no_fault is_seal text m reads (Missing l) (parts, has, is_sealed, shown) = absurd (no_shown parts.lines m (lines_of_text is_seal text m parts reads has).0 (Missing l) shown)
no_fault is_seal text m reads (Repeated l) (parts, has, is_sealed, shown) = absurd (no_shown parts.lines m (lines_of_text is_seal text m parts reads has).0 (Repeated l) shown)
no_fault is_seal text m reads (HashDiffers s t) (parts, has, stated, computed, differs) =
    let hash = (lines_of_text is_seal text m parts reads has).1.hash in
    absurd (differs (sym stated ∙ hash ∙ computed))
no_fault is_seal text m reads BadSeal (parts, has, hash, bad) =
    let good = (lines_of_text is_seal text m parts reads has).1.seal in
    absurd cc
no_fault is_seal text m reads NoMemory shows = refl

-- ---- what a reader answers

abbrev pub Answers : Seals → List ℕ → Result Manifest ManifestFault → Type 0
Answers is_seal text result = MatchResult result (λ m. Says is_seal text m) (λ fault. Shows is_seal text fault)

pub answer_value : (is_seal : Seals) (text : List ℕ) (result : Result Manifest ManifestFault) → Answers is_seal text result → IfOk result (λ m. Says is_seal text m)
answer_value is_seal text (Ok m) answers = answers
answer_value is_seal text (Err fault) answers = tt

pub answer_fault : (is_seal : Seals) (text : List ℕ) (result : Result Manifest ManifestFault) → Answers is_seal text result → IfErr result (λ fault. Shows is_seal text fault)
answer_fault is_seal text (Ok m) answers = tt
answer_fault is_seal text (Err fault) answers = answers

pub answer_found : (is_seal : Seals) (text : List ℕ) (result : Result Manifest ManifestFault) → Answers is_seal text result
    → (m : Manifest) → Says is_seal text m → IsUnless NoMemory result (Ok m)
answer_found is_seal text (Ok found) answers m reads = ap (λ (x : Manifest). Ok x) (one_reading is_seal text found m answers reads)
answer_found is_seal text (Err fault) answers m reads = inl (no_fault is_seal text m reads fault answers)
