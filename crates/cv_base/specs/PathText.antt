-- What a text says as a path, and which fault it has first.
use Rattle.std.specs.Prelude.{ℕ, ◌≡◌, ◌==◌, ◌⊎◌, not, nat_lt, bytes_eq, List, [], ◌∷◌, ◌++◌, length, Option, Some, None, Result, Ok, Err, position, if◌then◌else◌}
use Rattle.std.specs.List.{slice_split}
use Rattle.std.specs.Str.{is_utf8}
use Rattle.cv_base.specs.Path.{Path, text_of, is_path_name}
use Rattle.cv_base.specs.declared.path_fault.PathFault.{PathFault}
use Rattle.cv_base.specs.declared.path_fault.PathFault.TheVariants.{BadName, TooLong, TooDeep}
use Rattle.cv_base.specs.declared.repo_path.TheConstants.{NAMES_LIMIT, PATH_LIMIT}

-- the text is that of the path, with or without one slash at its end
abbrev pub Spells : List ℕ → Path → Type 0
Spells text path = (text ≡ text_of path) ⊎ (text ≡ text_of path ++ 47 ∷ [])

-- a text without the one slash at its end
abbrev pub without_last_slash : List ℕ → List ℕ
without_last_slash [] = []
without_last_slash (b ∷ []) = if b == 47 then [] else b ∷ []
without_last_slash (a ∷ b ∷ bytes) = a ∷ without_last_slash (b ∷ bytes)

-- the parts of a text between its slashes
abbrev pub parts_of : List ℕ → List (List ℕ)
parts_of text = slice_split (λ b. b == 47) text

-- the names among the parts: all but the empty part before the slash that a text begins with
abbrev pub names_of : List (List ℕ) → Path
names_of ([] ∷ names) = names
names_of parts = parts

-- the place of the first bad name; a text that doesn't begin with a slash has a bad name at 0
abbrev pub bad_name : List (List ℕ) → Option ℕ
bad_name ([] ∷ names) = position (λ name. not (is_path_name name)) names
bad_name parts = Some 0

-- the path of these names, if none is bad
abbrev pub of_names : Path → Option ℕ → Result Path PathFault
of_names path None = Ok path
of_names path (Some place) = Err (BadName place)

-- the same under the limits of size and depth, which are judged first
abbrev pub within_limits : ℕ → Path → Option ℕ → Result Path PathFault
within_limits size path bad =
    if nat_lt PATH_LIMIT size then Err TooLong
    else if nat_lt NAMES_LIMIT (length path) then Err TooDeep
    else of_names path bad

-- the path that a text without a slash at its end says, or its first fault
abbrev pub path_of_bare : List ℕ → Result Path PathFault
path_of_bare bare = within_limits (length bare) (names_of (parts_of bare)) (bad_name (parts_of bare))

-- the path that a text says, or its first fault
abbrev pub path_of : List ℕ → Result Path PathFault
path_of text = path_of_bare (without_last_slash text)

-- the path that a text says, if the text is its own, with no slash at the end
abbrev pub only_path : List ℕ → Result Path PathFault → Option Path
only_path text (Ok path) = if bytes_eq (text_of path) text then Some path else None
only_path text (Err fault) = None

-- the path whose own text these bytes are
abbrev pub path_named : List ℕ → Option Path
path_named text = if is_utf8 text then only_path text (path_of text) else None

-- a path with one more name, or the first fault
abbrev pub joined : Path → List ℕ → Result Path PathFault
joined path name =
    let longer = path ++ name ∷ [] in
    within_limits (length (text_of longer)) longer (if is_path_name name then None else Some 0)
