-- Folders that are noted.
use Rattle.std.proofs.Common.{◌≡◌, ◌∙◌, ◌||◌, ◌++◌, ℕ, Bool, true, false, List, [], ◌∷◌, Vec, refl, ap, sym, subst, inl, inr, string_bytes}
use Rattle.std.specs.Prelude.{◌⊎◌, IsTrue}
use Rattle.std.specs.Str.{bytes_eq}
use Rattle.std.specs.declared.string.String.{String}
use Rattle.std.proofs.lemmas.List.Folds.{list_any-append}
use Rattle.std.proofs.lemmas.Slice.Eq.{bytes_eq-Decides}
use Rattle.cv_folder.specs.Noted.{NotesOnly, is_noted}

or_second : (b c : Bool) → c ≡ true → (b || (c || false)) ≡ true
or_second true c h = refl
or_second false c h = ap (λ t. t || false) h

one_or_other : (b c : Bool) → (b || (c || false)) ≡ true → (b ≡ true) ⊎ (c ≡ true)
one_or_other true c h = inl refl
one_or_other false true h = inr refl
one_or_other false false h = inl h

-- with one note more its folder is noted
pub is_noted_now : {A : Type 0} (notes : List (String A)) (note : String A) (folder : List ℕ) → string_bytes note ≡ folder → IsTrue (is_noted (notes ++ note ∷ []) folder)
is_noted_now notes note folder same =
    list_any-append (λ n. bytes_eq (string_bytes n) folder) notes (note ∷ [])
    ∙ or_second (is_noted notes folder) (bytes_eq (string_bytes note) folder) ((bytes_eq-Decides (string_bytes note) folder).1 same)

-- and no other
pub noted_alone : {A : Type 0} (notes : List (String A)) (note : String A) (folder : List ℕ) → string_bytes note ≡ folder → NotesOnly (λ other. other ≡ folder) notes (notes ++ note ∷ [])
noted_alone notes note folder same other is =
    elim (one_or_other (is_noted notes other) (bytes_eq (string_bytes note) other) (sym (list_any-append (λ n. bytes_eq (string_bytes n) other) notes (note ∷ [])) ∙ is)) [
      | inl was ↦ inl was
      | inr now ↦ inr (sym ((bytes_eq-Decides (string_bytes note) other).0 now) ∙ same)
    ]

module _ {A : Type 0} (IsSuch : List ℕ → Type 0) where
  -- none where the notes are the same
  pub notes_none : (before after : List (String A)) → after ≡ before → NotesOnly IsSuch before after
  notes_none before after same folder is = inl (subst (λ (notes : List (String A)). IsTrue (is_noted notes folder)) same is)

  -- some, and then others
  pub notes_then : (before between after : List (String A)) → NotesOnly IsSuch before between → NotesOnly IsSuch between after → NotesOnly IsSuch before after
  notes_then before between after first then folder is = elim (then folder is) [
    | inl was ↦ first folder was
    | inr such ↦ inr such
  ]

  -- such are others
  pub notes_wider : (IsOther : List ℕ → Type 0) (before after : List (String A)) → ((folder : List ℕ) → IsSuch folder → IsOther folder) → NotesOnly IsSuch before after → NotesOnly IsOther before after
  notes_wider IsOther before after wider only folder is = elim (only folder is) [
    | inl was ↦ inl was
    | inr such ↦ inr (wider folder such)
  ]

-- a folder that is noted is so where the notes are the same, by whatever path is equal to its own
pub stays_noted : {A Z : Type 0} (before after : Vec (String A) Z) (path folder : List ℕ) → after ≡ before → path ≡ folder → IsTrue (is_noted before.items path) → IsTrue (is_noted after.items folder)
stays_noted {A} {Z} before after path folder same at noted =
    subst (λ (notes : Vec (String A) Z). IsTrue (is_noted notes.items folder)) (sym same) (subst (λ (f : List ℕ). IsTrue (is_noted before.items f)) at noted)
