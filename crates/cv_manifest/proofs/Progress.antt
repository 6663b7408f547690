-- Fields that are read line by line.
use Rattle.std.proofs.Common.{◌≡◌, ℕ, ◌+◌, ◌≤◌, true, false, List, [], ◌∷◌, ◌++◌, length, Option, Some, None, sym, ap, subst, ◌∙◌, arith, length-append}
use Rattle.std.specs.List.{AllByRecursion}
use Rattle.std.proofs.lemmas.List.{append-nil}
use Rattle.std.proofs.lemmas.Grind.{flat_map-append}
use Rattle.cv_base.proofs.Laws.{all_push}
use Rattle.cv_manifest.specs.declared.field.Field.{Field}
use Rattle.cv_manifest.specs.declared.field.Field.TheVariants.{Root, Size, RootKey, TimeToLive, Revision, Name, History, Time}
use Rattle.cv_manifest.specs.declared.fields.Fields.{Fields}
use Rattle.cv_manifest.specs.declared.manifest_fault.ManifestFault.{ManifestFault}
use Rattle.cv_manifest.specs.declared.manifest_fault.ManifestFault.TheVariants.{NoEnd, BadLine, Missing, Repeated, HashDiffers, BadSeal, NoMemory}
use Rattle.cv_manifest.specs.Field.{letter_of}
use Rattle.cv_manifest.specs.Lines.{has_newline, ended, IsLine, value_in, values}
use Rattle.cv_manifest.specs.Fault.{IsGood, IsFaultless, Comes}
use Rattle.cv_manifest.specs.FieldsInner.{spelled, texts, TakesLine, RefusesLine, HaveFields, ShowFault}
use Rattle.cv_manifest.proofs.Cuts.{one_cut, newline_in, not_nil, ended-push, ended-first}
use Rattle.cv_manifest.proofs.Endings.{IsWhole, are_whole, Follow, follow}

-- the lines before the rest were read, and gave these fields
pub record Progress (bytes rest : List ℕ) (number : ℕ) (fields : Fields) : Type 0 where
  pub lines : List (List ℕ)
  pub bytes_are : bytes ≡ ended lines ++ rest
  pub whole : AllByRecursion IsWhole lines
  pub count : number ≡ length lines
  pub room : number + length rest ≤ length bytes
  pub have : HaveFields lines fields

line_size : (rest line after : List ℕ) → rest ≡ line ++ 10 ∷ after → length rest ≡ length line + (1 + length after)
line_size rest line after is = omega (arith, ap length is, length-append line (10 ∷ after))

pub values-push : (field : Field) (lines : List (List ℕ)) (line : List ℕ) → values field (lines ++ line ∷ []) ≡ values field lines ++ value_in (letter_of field) line
values-push field lines line =
    flat_map-append (λ l. value_in (letter_of field) l) lines (line ∷ [])
    ∙ ap (λ (t : List (List ℕ)). values field lines ++ t) (append-nil (value_in (letter_of field) line))

pub progress_more : (bytes rest line after : List ℕ) (number : ℕ) (old new : Fields) → Progress bytes rest number old → has_newline line ≡ false → rest ≡ line ++ 10 ∷ after
    → TakesLine old new line → Progress bytes after (number + 1) new
progress_more bytes rest line after number old new progress whole is takes =
    let have = progress.have in
    record {
      lines = progress.lines ++ line ∷ [];
      bytes_are = progress.bytes_are ∙ ap (λ (t : List ℕ). ended progress.lines ++ t) is ∙ sym (ended-push progress.lines line after);
      whole = all_push IsWhole progress.lines line progress.whole whole;
      count = ap (λ (n : ℕ). n + 1) progress.count ∙ sym (length-append progress.lines (line ∷ []));
      room = omega (arith, progress.room, line_size rest line after is);
      have = record {
        good = all_push IsGood progress.lines line have.good takes.good;
        texts = λ field.
            takes.texts field ∙ ap (λ (t : List (List ℕ)). t ++ value_in (letter_of field) line) (have.texts field) ∙ sym (values-push field progress.lines line);
      };
    }

-- ---- the lines that are still to come

spelled_few : {A : Type 0} (spell : A → List ℕ) (o : Option A) → length (spelled spell o) ≤ 1
spelled_few spell None = omega arith
spelled_few spell (Some x) = omega arith

texts_few : (fields : Fields) (field : Field) → length (texts fields field) ≤ 1
texts_few fields Root = spelled_few _ fields.root
texts_few fields Size = spelled_few _ fields.size
texts_few fields RootKey = spelled_few _ fields.root_key
texts_few fields TimeToLive = spelled_few _ fields.time_to_live
texts_few fields Revision = spelled_few _ fields.revision
texts_few fields Name = spelled_few _ fields.name
texts_few fields History = spelled_few _ fields.history
texts_few fields Time = spelled_few _ fields.time

pub have_faultless : (lines : List (List ℕ)) (fields : Fields) → HaveFields lines fields → IsFaultless lines
have_faultless lines fields have = record { good = have.good; once = λ field. rw (← have.texts field) (texts_few fields field) }

follows : (bytes rest : List ℕ) (number : ℕ) (fields : Fields) (progress : Progress bytes rest number fields) (list : List (List ℕ)) → AllByRecursion IsLine list → bytes ≡ ended list
    → Follow list progress.lines rest
follows bytes rest number fields progress list are is =
    follow progress.lines list rest progress.whole (are_whole list are) (sym is ∙ progress.bytes_are)

comes_with : (list before : List (List ℕ)) (line after rest : List ℕ) (more : List (List ℕ)) → AllByRecursion IsWhole more → list ≡ before ++ more → rest ≡ ended more → rest ≡ line ++ 10 ∷ after
    → has_newline line ≡ false → IsFaultless before → Comes list before line
comes_with list before line after rest [] all list-is rest-is is whole faultless = absurd (not_nil line after (sym is ∙ rest-is))
comes_with list before line after rest (first ∷ more) all list-is rest-is is whole faultless =
    let cut = one_cut first line (ended more) after all.0 whole (sym (ended-first first more) ∙ sym rest-is ∙ is) in
    record { after = more; lines_are = list-is ∙ ap (λ (l : List ℕ). before ++ l ∷ more) cut.0; faultless = faultless }

all_behind : {X : Type 0} (P : X → Type 0) (front xs : List X) → AllByRecursion P (front ++ xs) → AllByRecursion P xs
all_behind P [] xs all = all
all_behind P (x ∷ front) xs all = all_behind P front xs all.1

comes : (bytes rest line after : List ℕ) (number : ℕ) (fields : Fields) (progress : Progress bytes rest number fields) → rest ≡ line ++ 10 ∷ after → has_newline line ≡ false
    → (list : List (List ℕ)) → AllByRecursion IsLine list → bytes ≡ ended list → Comes list progress.lines line
comes bytes rest line after number fields progress is whole list are bytes-is =
    let behind = follows bytes rest number fields progress list are bytes-is in
    let all : AllByRecursion IsWhole (progress.lines ++ behind.lines) = subst (λ (l : List (List ℕ)). AllByRecursion IsWhole l) behind.all_are (are_whole list are) in
    comes_with list progress.lines line after rest behind.lines (all_behind IsWhole progress.lines behind.lines all) behind.all_are behind.rest_is is whole
    (have_faultless progress.lines fields progress.have)

pub progress_fault : (bytes rest line after : List ℕ) (number : ℕ) (fields : Fields) → Progress bytes rest number fields → rest ≡ line ++ 10 ∷ after → has_newline line ≡ false
    → (fault : ManifestFault) → RefusesLine fields line (number + 1) fault → (list : List (List ℕ)) → AllByRecursion IsLine list → bytes ≡ ended list → ShowFault list fault
progress_fault bytes rest line after number fields progress is whole NoEnd refuses list are bytes-is = absurd refuses
progress_fault bytes rest line after number fields progress is whole (BadLine n) refuses list are bytes-is =
    (progress.lines, line, comes bytes rest line after number fields progress is whole list are bytes-is, refuses.0, refuses.1 ∙ ap (λ (k : ℕ). k + 1) progress.count)
progress_fault bytes rest line after number fields progress is whole (Missing l) refuses list are bytes-is = refuses
progress_fault bytes rest line after number fields progress is whole (Repeated l) (good, field, value, of, some, letter) list are bytes-is = (
  progress.lines,
  line,
  comes bytes rest line after number fields progress is whole list are bytes-is,
  good,
  field,
  value,
  of,
  λ none. some (progress.have.texts field ∙ none),
  letter,
)
progress_fault bytes rest line after number fields progress is whole (HashDiffers s t) refuses list are bytes-is = absurd refuses
progress_fault bytes rest line after number fields progress is whole BadSeal refuses list are bytes-is = absurd refuses
progress_fault bytes rest line after number fields progress is whole NoMemory refuses list are bytes-is = tt

ends_with : (list before : List (List ℕ)) (rest : List ℕ) (more : List (List ℕ)) → list ≡ before ++ more → rest ≡ ended more → has_newline rest ≡ false → list ≡ before
ends_with list before rest [] list-is rest-is none = list-is ∙ append-nil before
ends_with list before rest (first ∷ more) list-is rest-is none =
    let is : rest ≡ first ++ 10 ∷ ended more = rest-is ∙ ended-first first more in
    let wrong : has_newline rest ≡ true = rw is (newline_in first (ended more)) in
    absurd cc

pub progress_end : (bytes rest : List ℕ) (number : ℕ) (fields : Fields) → Progress bytes rest number fields → has_newline rest ≡ false
    → (list : List (List ℕ)) → AllByRecursion IsLine list → bytes ≡ ended list → HaveFields list fields
progress_end bytes rest number fields progress none list are bytes-is =
    let behind = follows bytes rest number fields progress list are bytes-is in
    subst (λ (l : List (List ℕ)). HaveFields l fields) (sym (ends_with list progress.lines rest behind.lines behind.all_are behind.rest_is none)) progress.have
