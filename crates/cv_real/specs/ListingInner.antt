-- What a listing tells of an item, and where a folder stands.
use Rattle.std.specs.Prelude.{ℕ, ℤ, pos, negsuc, List, [], ◌∷◌, ◌++◌}
use Rattle.std.specs.List.{flat_map}
use Rattle.std.specs.Fs.{IsDir, IsFile, IsSymlink}
use Rattle.std.specs.declared.fs.FileType.{FileType}
use Rattle.cv_base.specs.Path.{Path}
use Rattle.cv_ports.specs.declared.folder.FoundKind.{FoundKind}
use Rattle.cv_ports.specs.declared.folder.FoundKind.TheVariants.{Dir, File, Link, Special}

-- what has this type is told as this kind
abbrev pub Tells : FileType → FoundKind → Type 0
Tells type Dir = IsDir type
Tells type File = IsFile type
Tells type (Link text) = IsSymlink type
Tells type Special = (IsDir type → ⊥) × (IsFile type → ⊥) × (IsSymlink type → ⊥)

-- the whole seconds since 1970, or 0 before
abbrev pub seconds_since_1970 : ℤ → ℕ
seconds_since_1970 (pos seconds) = seconds
seconds_since_1970 (negsuc before) = 0

-- the folder behind these names, from a folder on whose path ends in a slash: each name with a slash behind it
abbrev pub below : List ℕ → Path → List ℕ
below root names = root ++ flat_map (λ name. name ++ 47 ∷ []) names
