-- What a folder in memory holds.
use Rattle.std.specs.Prelude.{ℕ, Option, List, [], unwrap_or}
use Rattle.std.specs.List.{AllByRecursion}
use Rattle.std.specs.FinMap.{find}
use Rattle.cv_base.specs.Path.{Path, path_cmp}
use Rattle.cv_ports.specs.declared.folder.FolderItem.{FolderItem}
use Rattle.cv_ports.specs.Calls.{Calls}
use Rattle.cv_ports.specs.Folder.{FolderView, Folders, Ascend}

-- the items of each directory and the content of each file, by their paths from the folder on; the name by which it was opened; and its
-- calls
pub record MemoryFolderView : Type 0 where
  pub directories : List (Path × List FolderItem)
  pub files : List (Path × List ℕ)
  pub named : Option (List ℕ)
  pub calls : Calls

-- the items of each directory ascend
abbrev pub AllAscend : List (Path × List FolderItem) → Type 0
AllAscend directories = AllByRecursion (λ directory. Ascend directory.1) directories

-- the folder that these lists say: of several at one path the first counts, and what isn't among them is empty
abbrev pub holding : MemoryFolderView → FolderView
holding m = record {
  items = λ path. unwrap_or (find path_cmp path m.directories) [];
  content = λ path. unwrap_or (find path_cmp path m.files) [];
}

-- which stands under every name
abbrev pub under_each : MemoryFolderView → Folders
under_each m = λ name. holding m
