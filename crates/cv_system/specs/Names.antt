-- Which texts are names of a vault over a folder, and the paths that they stand at.
use Rattle.std.specs.Prelude.{ℕ, Bool, not, ◌==◌, ◌&&◌, ◌-◌, List, [], ◌∷◌, ◌++◌, length, take, drop, codes, if◌then◌else◌}
use Rattle.std.specs.List.{ends_with, starts_with, list_all, slice_split}
use Rattle.cv_base.specs.Path.{is_dots, last_name_of}
use Rattle.cv_base.specs.PathText.{parts_of}

-- what the names of the adapter's own files begin with
abbrev pub own : List ℕ
own = codes ".cvkit-"

abbrev pub is_own : List ℕ → Bool
is_own name = starts_with (λ a b. a == b) name own

-- a text that may be one part of a name: it isn't empty, neither `.` nor `..`, and no own name
abbrev pub is_part : List ℕ → Bool
is_part part = not (length part == 0) && not (is_dots part) && not (is_own part)

-- a name of the vault: no byte of it is NUL, and what stands between its slashes are parts of a name
abbrev pub is_name : List ℕ → Bool
is_name name = list_all (λ b. not (b == 0)) name && list_all is_part (parts_of name)

-- a way: a name of one part below `txn/`
abbrev pub is_way : List ℕ → Bool
is_way name = starts_with (λ a b. a == b) name (codes "txn/") && list_all (λ b. not (b == 47)) (drop 4 name)

-- where a name stands below the vault's folder: a way at an own file of that folder, and any other name at itself
unfoldable pub stands_at : List ℕ → List ℕ
stands_at name = if is_way name then codes ".cvkit-txn-" ++ drop 4 name else name

-- the path of a name below a folder, on whose path no slash ends
abbrev pub path_of : List ℕ → List ℕ → List ℕ
path_of root name = root ++ 47 ∷ stands_at name

-- what follows the last slash of a path, or all of a path without one
abbrev pub last_part : List ℕ → List ℕ
last_part path = last_name_of (parts_of path)

-- the folder that a path stands in, with the slash at its end: all of the path before its last part, and `./` where that is all of it
abbrev pub folder_of : List ℕ → List ℕ
folder_of path =
    if length (last_part path) == length path then codes "./"
    else take (length path - length (last_part path)) path

-- the path of the own file beside a name
abbrev pub next_of : List ℕ → List ℕ → List ℕ
next_of root name = folder_of (path_of root name) ++ codes ".cvkit-next"

-- the names in what the system gives of a folder, between which NULs stand
abbrev pub names_in : List ℕ → List (List ℕ)
names_in bytes = slice_split (λ b. b == 0) bytes

-- a folder's path without the slash at its end
abbrev pub without_slash : List ℕ → List ℕ
without_slash folder = if ends_with (λ a b. a == b) folder (47 ∷ []) then take (length folder - 1) folder else folder

-- the folder above one
abbrev pub above : List ℕ → List ℕ
above folder = folder_of (without_slash folder)
