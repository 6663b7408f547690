-- What a folder in memory holds. What only this crate's own functions say.
use Rattle.std.specs.Prelude.{Bool, List}
use Rattle.std.specs.List.{list_all}
use Rattle.cv_base.specs.Path.{Path}
use Rattle.cv_ports.specs.declared.folder.FolderItem.{FolderItem}
use Rattle.cv_ports.specs.Folder.{ascends}

-- the items of each directory pass the test
abbrev pub all_ascend : List (Path × List FolderItem) → Bool
all_ascend directories = list_all (λ directory. ascends directory.1) directories
