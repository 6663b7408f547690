-- What is printed of an answer.
use Rattle.std.specs.Prelude.{ℕ, ◌+◌, ◌/◌, ◌%◌, List, [], ◌∷◌, ◌++◌, codes, decimal}
use Rattle.std.specs.List.{flat_map}
use Rattle.cv_rows.specs.declared.row_kind.RowKind.{RowKind}
use Rattle.cv_rows.specs.declared.row_kind.RowKind.TheVariants.{Directory, Transition, NestedRoot, File, Link}
use Rattle.cv_resolver.specs.declared.stat_line.StatLine.{StatLine}
use Rattle.cv_resolver.specs.declared.found.Found.{Found}
use Rattle.cv_resolver.specs.declared.found.Found.TheVariants.{Names, Stat, Bytes}

-- a text and a newline
abbrev pub ended : List ℕ → List ℕ
ended text = text ++ codes "\n"

-- what an entry is
abbrev pub kind_text : RowKind → List ℕ
kind_text Directory = codes "dir"
kind_text Transition = codes "dir"
kind_text NestedRoot = codes "dir"
kind_text File = codes "file"
kind_text Link = codes "link"

-- the last octal digit of a number
abbrev pub octal_digit : ℕ → ℕ
octal_digit n = 48 + n % 8

-- twelve bits of permissions as four octal digits
abbrev pub mode_text : ℕ → List ℕ
mode_text mode = octal_digit (mode / 512) ∷ octal_digit (mode / 64) ∷ octal_digit (mode / 8) ∷ octal_digit mode ∷ []

-- a number behind a space
abbrev pub number_text : ℕ → List ℕ
number_text n = codes " " ++ decimal n

-- where a link leads to, and nothing of any other entry
abbrev pub target_text : RowKind → List ℕ → List ℕ
target_text Link target = codes " -> " ++ target
target_text Directory target = []
target_text Transition target = []
target_text NestedRoot target = []
target_text File target = []

-- kind, mode, user, group, size and time, and of a link its target
unfoldable pub stat_text : StatLine → List ℕ
stat_text s =
    kind_text s.kind ++ codes " " ++ mode_text s.attr.mode ++ number_text s.attr.uid ++ number_text s.attr.gid ++ number_text s.size
    ++ number_text s.attr.mtime ++ target_text s.kind s.target

-- each name and what is told of an entry end with a newline; the content of a file is as it is
abbrev pub found_text : Found → List ℕ
found_text (Names names) = flat_map ended names
found_text (Stat line) = ended (stat_text line)
found_text (Bytes bytes) = bytes
