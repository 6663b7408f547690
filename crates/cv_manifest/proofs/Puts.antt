-- Values that are put into their places.
use Rattle.std.proofs.Common.{◌≡◌, ℕ, List, [], ◌∷◌, Option, Some, None, Result, Ok, Err, refl, sym, ◌∙◌}
use Rattle.std.specs.Prelude.{IfErr}
use Rattle.cv_manifest.specs.declared.field.Field.{Field}
use Rattle.cv_manifest.specs.declared.fields.Fields.{Fields}
use Rattle.cv_manifest.specs.declared.manifest_fault.ManifestFault.{ManifestFault}
use Rattle.cv_manifest.specs.declared.manifest_fault.ManifestFault.TheVariants.{BadLine, Repeated}
use Rattle.cv_manifest.specs.Field.{letter_of, IsValue}
use Rattle.cv_manifest.specs.PutInner.{Gives, put_into}
use Rattle.cv_manifest.specs.FieldsInner.{spelled, texts, Refuses}

-- a value that isn't put
pub put_refused : {A : Type 0} (spell : A → List ℕ) (is : Field) (old : Fields) (field : Field) (value : List ℕ) (line : ℕ) (before given : Option A) (result : Result Unit ManifestFault)
    → field ≡ is → result ≡ put_into before given field line → Gives spell (IsValue is value) value given → texts old is ≡ spelled spell before
    → IfErr result (λ fault. Refuses old field value line fault)
put_refused spell is old field value line before given (Ok x) same e gives place = tt
put_refused spell is old field value line before None (Err fault) same e gives place =
    let fault_is : fault ≡ BadLine line = cc in
    rw (fault_is, same) (gives, refl)
put_refused spell is old field value line None (Some x) (Err fault) same e gives place = absurd cc
put_refused spell is old field value line (Some y) (Some x) (Err fault) same e gives place =
    let fault_is : fault ≡ Repeated (letter_of field) = cc in
    rw (fault_is, same) (gives.0, λ none. let wrong : spell y ∷ [] ≡ [] = sym place ∙ none in cc, refl)
