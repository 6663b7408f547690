-- What is seen of what has a type.
use Rattle.std.specs.Fs.{IsDir, IsFile}
use Rattle.std.specs.declared.fs.FileType.{FileType}
use Rattle.cv_system.specs.declared.seen.Kind.{Kind}
use Rattle.cv_system.specs.declared.seen.Kind.TheVariants.{File, Folder, Other}

-- what has this type is of this kind
abbrev pub IsKind : FileType → Kind → Type 0
IsKind type Folder = IsDir type
IsKind type File = IsFile type
IsKind type Other = (IsDir type → ⊥) × (IsFile type → ⊥)
