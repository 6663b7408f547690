-- The text that is written.
use Rattle.std.proofs.Common.{◌≡◌, ℕ, Bool, true, false, eqb, List, [], ◌∷◌, ◌++◌, Result, Ok, Err, refl, sym, ap, subst, ◌∙◌}
use Rattle.std.specs.Prelude.{IfOk, map}
use Rattle.std.specs.List.{AllByRecursion}
use Rattle.hex.specs.Hex.{encode_lower}
use Rattle.cv_base.proofs.Laws.{digest_sha1}
use Rattle.cv_manifest.specs.declared.field.Field.{Field}
use Rattle.cv_manifest.specs.declared.field.Field.TheVariants.{Root, Size, RootKey, TimeToLive, Revision, Name, History, Time}
use Rattle.cv_manifest.specs.declared.manifest.Manifest.{Manifest}
use Rattle.cv_manifest.specs.Field.{letter_of, all_fields}
use Rattle.cv_manifest.specs.Lines.{has_newline, ended, IsLine, values}
use Rattle.cv_manifest.specs.Parts.{Parts, digest_of}
use Rattle.cv_manifest.specs.Manifest.{value_of, IsManifest, lines_of, sealed_text, manifest_text, LinesSay, Says}
use Rattle.cv_manifest.proofs.Cuts.{ended-first}
use Rattle.cv_manifest.proofs.Clear.{hash_clear, decimal_clear, name_clear}

-- a field's line, and what follows
abbrev line_and : Manifest → Field → List ℕ → List ℕ
line_and m field rest = letter_of field ∷ (value_of m field ++ 10 ∷ rest)

-- the lines of fields as one text
abbrev pub flat : Manifest → List Field → List ℕ
flat m [] = []
flat m (field ∷ fields) = line_and m field (flat m fields)

flat_is : (m : Manifest) (fields : List Field) → ended (map (λ field. letter_of field ∷ value_of m field) fields) ≡ flat m fields
flat_is m [] = refl
flat_is m (field ∷ fields) =
    ended-first (letter_of field ∷ value_of m field) (map (λ f. letter_of f ∷ value_of m f) fields) ∙ ap (line_and m field) (flat_is m fields)

pub lines_flat : (m : Manifest) → ended (lines_of m) ≡ flat m all_fields
lines_flat m = flat_is m all_fields

-- ---- what is written says the manifest

line_clear : (letter : ℕ) (value : List ℕ) → eqb letter 10 ≡ false → eqb letter 45 ≡ false → has_newline value ≡ false → IsLine (letter ∷ value)
line_clear letter value no_newline no_dash clear = record {
  whole = rw (no_newline, clear) refl;
  not_end = λ e. let dash : letter ≡ 45 = cc in let wrong : eqb letter 45 ≡ true = rw dash refl in cc;
}

value_clear : (m : Manifest) → IsManifest m → (field : Field) → has_newline (value_of m field) ≡ false
value_clear m limits Root = hash_clear m.head.root limits.in_range.root
value_clear m limits Size = decimal_clear m.head.size limits.in_range.size
value_clear m limits RootKey = refl
value_clear m limits TimeToLive = decimal_clear m.ttl limits.in_range.ttl
value_clear m limits Revision = decimal_clear m.head.revision limits.in_range.revision
value_clear m limits Name = name_clear m.name limits.name
value_clear m limits History = hash_clear m.head.history limits.in_range.history
value_clear m limits Time = decimal_clear m.head.time limits.in_range.time

lines_clear : (m : Manifest) → IsManifest m → AllByRecursion IsLine (lines_of m)
lines_clear m limits =
    let clear = value_clear m limits in (
      line_clear 67 _ refl refl (clear Root),
      (
        line_clear 66 _ refl refl (clear Size),
        (
          line_clear 82 _ refl refl (clear RootKey),
          (
            line_clear 68 _ refl refl (clear TimeToLive),
            (
              line_clear 83 _ refl refl (clear Revision),
              (line_clear 78 _ refl refl (clear Name), (line_clear 72 _ refl refl (clear History), (line_clear 84 _ refl refl (clear Time), tt))),
            ),
          ),
        ),
      ),
    )

all_full : (m : Manifest) → AllByRecursion (λ line. line ≡ [] → ⊥) (lines_of m)
all_full m = (λ e. cc, (λ e. cc, (λ e. cc, (λ e. cc, (λ e. cc, (λ e. cc, (λ e. cc, (λ e. cc, tt))))))))

each : (m : Manifest) (field : Field) → values field (lines_of m) ≡ value_of m field ∷ []
each m Root = refl
each m Size = refl
each m RootKey = refl
each m TimeToLive = refl
each m Revision = refl
each m Name = refl
each m History = refl
each m Time = refl

lines_say : (m : Manifest) → IsManifest m → LinesSay (lines_of m) m
lines_say m limits = record { full = all_full m; fields = each m; limits = limits }

-- the parts of the text that is written
abbrev parts_of : (List ℕ → List ℕ) → Manifest → Parts
parts_of seal_of m =
    record { lines = lines_of m; stated = digest_of (lines_of m); seal = seal_of (encode_lower (digest_of (lines_of m))) }

written_reads : (seal_of : List ℕ → List ℕ) (is_seal : List ℕ → List ℕ → Bool) (m : Manifest)
    → ((text : List ℕ) → is_seal text (seal_of text) ≡ true) → IsManifest m → Says is_seal (manifest_text seal_of m) m
written_reads seal_of is_seal m verifies limits = record {
  parts = parts_of seal_of m;
  has = record { spelled = refl; lines = lines_clear m limits; digest = digest_sha1 (ended (lines_of m)) };
  is_sealed = record { hash = refl; seal = verifies (encode_lower (digest_of (lines_of m))) };
  say = lines_say m limits;
}

-- ---- what a writer answers

pub written_text : {A E : Type 0} (items : A → List ℕ) (seal_of : List ℕ → List ℕ) (m : Manifest) (lines : List ℕ) (result : Result A E) → lines ≡ ended (lines_of m)
    → IfOk result (λ bytes. items bytes ≡ sealed_text seal_of lines) → IfOk result (λ bytes. items bytes ≡ manifest_text seal_of m)
written_text items seal_of m lines (Ok bytes) is written = written ∙ ap (sealed_text seal_of) is
written_text items seal_of m lines (Err error) is written = tt

pub written_again : {A E : Type 0} (items : A → List ℕ) (seal_of : List ℕ → List ℕ) (is_seal : List ℕ → List ℕ → Bool) (m : Manifest) (result : Result A E)
    → ((text : List ℕ) → is_seal text (seal_of text) ≡ true) → IsManifest m
    → IfOk result (λ bytes. items bytes ≡ manifest_text seal_of m) → IfOk result (λ bytes. Says is_seal (items bytes) m)
written_again items seal_of is_seal m (Ok bytes) verifies limits written =
    subst (λ (text : List ℕ). Says is_seal text m) (sym written) (written_reads seal_of is_seal m verifies limits)
written_again items seal_of is_seal m (Err error) verifies limits written = tt
