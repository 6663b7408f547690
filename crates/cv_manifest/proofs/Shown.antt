-- What a text says, by its parts.
use Rattle.std.proofs.Common.{◌≡◌, ◌≢◌, ℕ, ◌<◌, ◌≤◌, ◌^◌, Bool, true, eqb, List, [], ◌∷◌, Result, Ok, Err, decimal, refl, sym, ap, subst, ◌∙◌, inl, inr, arith}
use Rattle.std.specs.Prelude.{IfOk, IfErr, MatchResult, find}
use Rattle.std.specs.List.{AllByRecursion}
use Rattle.std.proofs.lemmas.Bool.{cases_Bool, eqb-true}
use Rattle.std.proofs.lemmas.Fmt.{decimal_injective}
use Rattle.sha1.specs.Sha1.{sha1}
use Rattle.hex.specs.Hex.{encode_lower}
use Rattle.cv_base.specs.declared.limits.TheConstants.{LAST_TIME}
use Rattle.cv_base.proofs.Laws.{all_weaker}
use Rattle.cv_manifest.specs.declared.field.Field.{Field}
use Rattle.cv_manifest.specs.declared.field.Field.TheVariants.{Revision, Name, Time}
use Rattle.cv_manifest.specs.declared.fields.Fields.{Fields}
use Rattle.cv_manifest.specs.declared.manifest.Manifest.{Manifest}
use Rattle.cv_manifest.specs.declared.manifest_fault.ManifestFault.{ManifestFault}
use Rattle.cv_manifest.specs.Field.{letter_of, all_fields, IsValue}
use Rattle.cv_manifest.specs.Lines.{ended, IsLine, values}
use Rattle.cv_manifest.specs.Parts.{Parts, digest_of, IsSealed}
use Rattle.cv_manifest.specs.Manifest.{value_of, InRange, IsManifest, Says}
use Rattle.cv_manifest.specs.Fault.{IsGood, is_none_of, Shows}
use Rattle.cv_manifest.specs.SplitInner.{IsSplit}
use Rattle.cv_manifest.specs.FieldsInner.{texts, HaveFields, LacksField}
use Rattle.cv_manifest.proofs.Exact.{Seals}
use Rattle.cv_manifest.proofs.Progress.{have_faultless}

-- the parts of a text that was split
abbrev parts_in : {text front stated seal : List ℕ} → IsSplit text front stated seal → Parts
parts_in {stated = stated} {seal = seal} split = record { lines = split.lines; stated = stated; seal = seal }

hash_is : (text front stated seal : List ℕ) (split : IsSplit text front stated seal) → stated ≡ sha1 front → stated ≡ digest_of split.lines
hash_is text front stated seal split is = is ∙ ap sha1 split.front_is

-- what a text says whose digits are sealed
pub record IsReady (is_seal : Seals) (text front : List ℕ) : Type 0 where
  pub stated : List ℕ
  pub seal : List ℕ
  pub split : IsSplit text front stated seal
  pub hash : stated ≡ sha1 front
  pub good : is_seal (encode_lower stated) seal ≡ true

sealed : (is_seal : Seals) (text front : List ℕ) (ready : IsReady is_seal text front) → IsSealed is_seal (parts_in ready.split)
sealed is_seal text front ready = record { hash = hash_is text front ready.stated ready.seal ready.split ready.hash; seal = ready.good }

find_same : {X : Type 0} (p q : X → Bool) → ((x : X) → p x ≡ q x) → (xs : List X) → find p xs ≡ find q xs
find_same p q same [] = refl
find_same p q same (x ∷ xs) = rw (same x, find_same p q same xs) refl

show_missing : (is_seal : Seals) (text front : List ℕ) → IsReady is_seal text front → (fields : Fields)
    → ((list : List (List ℕ)) → AllByRecursion IsLine list → front ≡ ended list → HaveFields list fields)
    → (fault : ManifestFault) → LacksField fields fault → Shows is_seal text fault
show_missing is_seal text front ready fields have fault (field, lacks, is) =
    let lines = ready.split.lines in
    let has = have lines ready.split.has.lines ready.split.front_is in
    let same = find_same (λ f. is_none_of (values f lines)) (λ f. is_none_of (texts fields f)) (λ f. ap is_none_of (sym (has.texts f))) all_fields in
    subst (λ (f : ManifestFault). Shows is_seal text f) (sym is)
    (parts_in ready.split, ready.split.has, sealed is_seal text front ready, (have_faultless lines fields has, field, same ∙ lacks, refl))

-- ---- the limits of a manifest's fields

-- a value that good lines give alone is one that the field may have
value_good : (lines : List (List ℕ)) (field : Field) (value : List ℕ) → AllByRecursion IsGood lines → values field lines ≡ value ∷ [] → IsValue field value
value_good [] field value good e = absurd cc
value_good ([] ∷ lines) field value good e = absurd (good.0.full refl)
value_good ((b ∷ found) ∷ lines) field value good e = elim (cases_Bool (eqb b (letter_of field))) [
  | inl same ↦
      let is : found ∷ values field lines ≡ value ∷ [] = rw same at e in
      let text : found ≡ value = cc in
      subst (IsValue field) text (good.0.value field found (ap (λ (l : ℕ). l ∷ found) (eqb-true b (letter_of field) same)))
  | inr differs ↦ value_good lines field value good.1 (rw differs at e)
]

revision_good : (revision : ℕ) → revision < 2 ^ 64 → IsValue Revision (decimal revision) → 1 ≤ revision
revision_good revision small (n, least, most, is) =
    let same : revision ≡ n = decimal_injective revision n small (omega arith) is in
    omega arith

time_good : (time : ℕ) → time < 2 ^ 64 → IsValue Time (decimal time) → time ≤ LAST_TIME
time_good time small (n, least, most, is) =
    let same : time ≡ n = decimal_injective time n small (omega arith) is in
    omega arith

is_manifest : (lines : List (List ℕ)) (m : Manifest) → AllByRecursion IsGood lines → ((field : Field) → values field lines ≡ value_of m field ∷ []) → InRange m → IsManifest m
is_manifest lines m good fields in_range = record {
  in_range = in_range;
  revision = revision_good m.head.revision in_range.revision (value_good lines Revision (decimal m.head.revision) good (fields Revision));
  name = value_good lines Name m.name good (fields Name);
  time = time_good m.head.time in_range.time (value_good lines Time (decimal m.head.time) good (fields Time));
}

show_manifest : (is_seal : Seals) (text front : List ℕ) → IsReady is_seal text front → (fields : Fields)
    → ((list : List (List ℕ)) → AllByRecursion IsLine list → front ≡ ended list → HaveFields list fields)
    → (m : Manifest) → ((field : Field) → texts fields field ≡ value_of m field ∷ []) → InRange m → Says is_seal text m
show_manifest is_seal text front ready fields have m is in_range =
    let lines = ready.split.lines in
    let has = have lines ready.split.has.lines ready.split.front_is in
    let each : (field : Field) → values field lines ≡ value_of m field ∷ [] = λ field. sym (has.texts field) ∙ is field in
    record {
      parts = parts_in ready.split;
      has = ready.split.has;
      is_sealed = sealed is_seal text front ready;
      say = record {
        full = all_weaker IsGood (λ line. line ≢ []) lines (λ line good. good.full) has.good;
        fields = each;
        limits = is_manifest lines m has.good each in_range;
      };
    }

pub show_result : (is_seal : Seals) (text front : List ℕ) → IsReady is_seal text front → (fields : Fields)
    → ((list : List (List ℕ)) → AllByRecursion IsLine list → front ≡ ended list → HaveFields list fields)
    → (result : Result Manifest ManifestFault) → IfOk result (λ m. (field : Field) → texts fields field ≡ value_of m field ∷ []) → IfOk result InRange
    → IfErr result (λ fault. LacksField fields fault) → MatchResult result (λ m. Says is_seal text m) (λ fault. Shows is_seal text fault)
show_result is_seal text front ready fields have (Ok m) value in_range missing = show_manifest is_seal text front ready fields have m value in_range
show_result is_seal text front ready fields have (Err fault) value in_range missing = show_missing is_seal text front ready fields have fault missing
