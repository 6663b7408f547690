-- Which folders are noted.
use Rattle.std.specs.Prelude.{ℕ, ◌⊎◌, Bool, List, IsTrue, bytes_eq, string_bytes}
use Rattle.std.specs.List.{list_any}
use Rattle.std.specs.declared.string.String.{String}

-- one of the notes is this folder
abbrev pub is_noted : {A : Type 0} → List (String A) → List ℕ → Bool
is_noted notes folder = list_any (λ note. bytes_eq (string_bytes note) folder) notes

-- a folder that was noted is noted still
abbrev pub Keeps : {A : Type 0} → List (String A) → List (String A) → Type 0
Keeps before after = (folder : List ℕ) → IsTrue (is_noted before folder) → IsTrue (is_noted after folder)

-- no folder is noted anew but such ones
abbrev pub NotesOnly : {A : Type 0} → (List ℕ → Type 0) → List (String A) → List (String A) → Type 0
NotesOnly IsSuch before after = (folder : List ℕ) → IsTrue (is_noted after folder) → IsTrue (is_noted before folder) ⊎ IsSuch folder
