-- What a folder holds, and what its calls answer of it.
use Rattle.std.specs.Prelude.{ℕ, Bool, true, ◌&&◌, List, [], ◌∷◌, take}
use Rattle.std.specs.Ordering.{is_lt}
use Rattle.std.specs.List.Sorted.{IsStrictlySortedBy}
use Rattle.cv_base.specs.Path.{Path}
use Rattle.cv_base.specs.BytesOrder.{bytes_cmp}
use Rattle.cv_ports.specs.declared.folder.FolderItem.{FolderItem}
use Rattle.cv_ports.specs.declared.folder.TheConstants.{FOLDER_READ_LIMIT}

-- the items of the directory at a path, and the content of the file at one, by the paths from the folder on
pub record FolderView : Type 0 where
  pub items : Path → List FolderItem
  pub content : Path → List ℕ

-- what the folder of each name holds
abbrev pub Folders : Type 0
Folders = List ℕ → FolderView

-- the names of these items
abbrev pub names_of : List FolderItem → List (List ℕ)
names_of [] = []
names_of (item ∷ items) = item.name ∷ names_of items

-- what is read of a content: the first bytes of it, one more than a file may have
abbrev pub read_front : List ℕ → List ℕ
read_front content = take FOLDER_READ_LIMIT content

-- the names of a listing ascend by their bytes, so that none stands twice
abbrev pub Ascend : List FolderItem → Type 0
Ascend items = IsStrictlySortedBy bytes_cmp (names_of items)

-- the same, as a test: each name is below the next
abbrev pub ascends : List FolderItem → Bool
ascends [] = true
ascends (last ∷ []) = true
ascends (item ∷ next ∷ items) = is_lt (bytes_cmp item.name next.name) && ascends (next ∷ items)

-- the names of each directory of a folder ascend
abbrev pub IsOrdered : FolderView → Type 0
IsOrdered holds = (path : Path) → Ascend (holds.items path)
