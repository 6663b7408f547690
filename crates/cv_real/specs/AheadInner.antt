-- What is said of files that are read ahead, and of their directories.
use Rattle.std.specs.Prelude.{◌≡◌, ◌≢◌, ℕ, ◌-◌, List, [], ◌∷◌, Option, MatchOption, All, length, map, slice_index_or, string_bytes}
use Rattle.cv_real.specs.declared.ahead.Directory.{Directory}
use Rattle.cv_real.specs.declared.ahead.FileAhead.{FileAhead}

-- the names of these files, each in its place
abbrev pub names : List FileAhead → List (List ℕ)
names files = map (λ file. file.name) files

-- the first of these files, if there is one, has another name
abbrev pub FirstIsOther : List ℕ → List FileAhead → Type 0
FirstIsOther name [] = Unit {0}
FirstIsOther name (file ∷ files) = file.name ≢ name

-- of these files the first was taken where it has this name, and else none
abbrev pub TakesNext : List ℕ → Option FileAhead → List FileAhead → List FileAhead → Type 0
TakesNext name taken old new =
    MatchOption taken ((new ≡ old) × FirstIsOther name old) (λ file. (old ≡ file ∷ new) × (file.name ≡ name))

-- the paths of these directories, the innermost last
abbrev pub folders : List Directory → List (List ℕ)
folders directories = map (λ directory. string_bytes directory.folder) directories

-- the paths of these directories, each with the files that were read and nobody has taken
abbrev pub held : List Directory → List (List ℕ × List FileAhead)
held directories = map (λ directory. (string_bytes directory.folder, directory.ready.items)) directories

-- the last of these paths is this one
abbrev pub InnermostIs : List ℕ → List (List ℕ) → Type 0
InnermostIs folder paths = (other : List ℕ) → slice_index_or paths (length paths - 1) other ≡ folder

-- of the folder at this path no file is held that was read
abbrev pub NothingHeld : List ℕ → List (List ℕ × List FileAhead) → Type 0
NothingHeld folder directories = All (λ directory. directory.0 ≡ folder → directory.1 ≡ []) directories
