-- The walk of a folder of changes: its visits in order, the first fault, and what the changes of the folder are.
use Rattle.std.specs.Prelude.{◌≡◌, ℕ, ◌+◌, ◌%◌, Bool, true, false, not, ◌==◌, ◌||◌, ◌&&◌, nat_le, nat_lt, List, [], ◌∷◌, ◌++◌, length, Option, Some, None, Result, Ok, Err, is_ok, slice_get, if◌then◌else◌}
use Rattle.std.specs.declared.cmp.Ordering.{Ordering}
use Rattle.std.specs.Option.{option_or}
use Rattle.std.specs.List.{list_all}
use Rattle.std.specs.List.Sorted.{IsStrictlySortedBy}
use Rattle.std.specs.FinMap.{get}
use Rattle.sha1.specs.Sha1.{sha1}
use Rattle.cv_base.specs.Attr.{new_directory}
use Rattle.cv_base.specs.Path.{Path, last_name_of, path_cmp, same_name, same_path, with_slash}
use Rattle.cv_base.specs.PathText.{joined}
use Rattle.cv_base.specs.Target.{is_target}
use Rattle.cv_base.specs.declared.attr.Attr.{Attr}
use Rattle.cv_base.specs.declared.limits.TheConstants.{MODE_LIMIT, OBJECT_LIMIT}
use Rattle.cv_base.specs.declared.object.Object.{Object}
use Rattle.cv_ports.specs.declared.folder.FolderItem.{FolderItem}
use Rattle.cv_ports.specs.declared.folder.FoundKind.{FoundKind}
use Rattle.cv_ports.specs.declared.folder.FoundKind.TheVariants as kind
use Rattle.cv_ports.specs.Folder.{FolderView}
use Rattle.cv_tree.specs.declared.node.Node.{Node}
use Rattle.cv_tree.specs.declared.node.Node.TheVariants.{Dir, File, Link}
use Rattle.cv_overlay.specs.Whiteout.{is_whiteout}
use Rattle.cv_overlay.specs.Changes.{ChangesView}
use Rattle.cv_overlay.specs.declared.bounds.TheConstants.{SUM_LIMIT}
use Rattle.cv_overlay.specs.declared.read_fault.ReadFault.{ReadFault}
use Rattle.cv_overlay.specs.declared.read_fault.ReadFault.TheVariants as faults

-- an item of the folder, with the path of the directory in which it stands
pub record Visit : Type 0 where
  pub above : Path
  pub item : FolderItem

abbrev pub path_of : Visit → Path
path_of v = v.above ++ v.item.name ∷ []

abbrev pub paths_of : List Visit → List Path
paths_of [] = []
paths_of (v ∷ vs) = path_of v ∷ paths_of vs

-- the names of a path, each but the last with the slash that stands behind it in the path's text
abbrev pub with_slashes : Path → Path
with_slashes [] = []
with_slashes (a ∷ []) = a ∷ []
with_slashes (a ∷ b ∷ p) = with_slash a ∷ with_slashes (b ∷ p)

abbrev pub has_no_slash : List ℕ → Bool
has_no_slash name = list_all (λ byte. not (byte == 47)) name

-- the order of the walk: of names without a slash it is that of the bytes of the paths' texts
abbrev pub walk_cmp : Path → Path → Ordering
walk_cmp p q = path_cmp (with_slashes p) (with_slashes q)

-- a path takes one more name, and keeps the limits of a path
abbrev pub takes : Path → List ℕ → Bool
takes p name = is_ok (joined p name)

abbrev pub is_dir : FoundKind → Bool
is_dir kind.Dir = true
is_dir other = false

abbrev pub is_file : FoundKind → Bool
is_file kind.File = true
is_file other = false

-- the item of a name in a listing
abbrev pub item_named : List ℕ → List FolderItem → Option FolderItem
item_named name [] = None
item_named name (item ∷ items) = if same_name item.name name then Some item else item_named name items

abbrev pub is_way : Option FolderItem → Bool
is_way None = false
is_way (Some item) = is_dir item.kind

-- the item that a path finds behind the directory p, name by name, through directories whose paths, put behind the
-- published one, keep the limits of a path
abbrev pub item_from : FolderView → Path → Path → Path → Option FolderItem
item_from f at p [] = None
item_from f at p (name ∷ []) = item_named name (f.items p)
item_from f at p (name ∷ next ∷ names) =
    if is_way (item_named name (f.items p)) && takes (at ++ p) name then item_from f at (p ++ name ∷ []) (next ∷ names) else None

-- the item of a path among visits
abbrev pub found_at : Path → List Visit → Option FolderItem
found_at q [] = None
found_at q (v ∷ vs) = if same_path (path_of v) q then Some v.item else found_at q vs

-- the walk of a folder: each item that a path finds, in the order of the paths
pub record IsWalk (f : FolderView) (at : Path) (visits : List Visit) : Type 0 where
  pub ascend : IsStrictlySortedBy walk_cmp (paths_of visits)
  pub items : (q : Path) → found_at q visits ≡ item_from f at [] q

-- 1 to 4,095 bytes of UTF-8 without NUL, where it is a link
abbrev pub has_target : FoundKind → Bool
has_target (kind.Link target) = nat_le 1 (length target) && is_target target
has_target other = true

-- the bytes of a file; a whiteout is one too
abbrev pub size_of : FolderView → Visit → ℕ
size_of f v = if is_file v.item.kind then length (f.content (path_of v)) else 0

-- a file has more than 16 MiB, or all files up to it more than 1 GiB
abbrev pub is_large : ℕ → ℕ → Bool
is_large size sum = nat_lt OBJECT_LIMIT size || nat_lt SUM_LIMIT sum

abbrev pub kind_fault : Path → FoundKind → ℕ → ℕ → Option ReadFault
kind_fault q kind.Special size sum = Some (faults.Special q)
kind_fault q kind.File size sum = if is_large size sum then Some (faults.TooLarge q) else None
kind_fault q other size sum = None

-- the fault of a visit, if it has one: of several the first of these. The sum is that of the bytes of all files up to it.
abbrev pub fault_of : FolderView → Path → ℕ → Visit → Option ReadFault
fault_of f at sum v =
    if takes (at ++ v.above) v.item.name && has_target v.item.kind then kind_fault (path_of v) v.item.kind (size_of f v) sum
    else Some (faults.BadName v.above)

-- the first fault of these visits, behind files of so many bytes
abbrev pub first_fault : FolderView → Path → ℕ → List Visit → Option ReadFault
first_fault f at before [] = None
first_fault f at before (v ∷ vs) = option_or (fault_of f at (before + size_of f v) v) (first_fault f at (before + size_of f v) vs)

-- the node of an item: its permission bits and time, and no owner
abbrev pub attr_of : FolderItem → Attr
attr_of item = record { mode = item.mode % MODE_LIMIT; mtime = item.mtime; uid = 0; gid = 0 }

abbrev pub node_of : Attr → FoundKind → List ℕ → Option Node
node_of attr kind.Dir content = Some (Dir attr)
node_of attr kind.File content = Some (File attr (record { hash = sha1 content; size = length content }))
node_of attr (kind.Link target) content = Some (Link attr target)
node_of attr kind.Special content = None

abbrev pub node_at : Option FolderItem → List ℕ → Option Node
node_at None content = None
node_at (Some item) content = node_of (attr_of item) item.kind content

-- bytes that are the content of a file of the folder which is no whiteout
pub record IsContent (f : FolderView) (at : Path) (bytes : List ℕ) : Type 0 where
  pub path : Path
  pub item : FolderItem
  pub there : item_from f at [] path ≡ Some item
  pub file : is_file item.kind ≡ true
  pub named : is_whiteout (last_name_of path) ≡ false
  pub is : bytes ≡ f.content path

-- the attributes of the root that stands for the folder itself
abbrev pub root_attr : Attr
root_attr = new_directory 0

-- the changes of a folder: at each path the node of the item that it finds, below a root; and each of the contents is that of a file
-- that is no whiteout
pub record AreChanges (f : FolderView) (at : Path) (c : ChangesView) : Type 0 where
  pub root : get c.nodes [] ≡ Some (Dir root_attr)
  pub nodes : (name : List ℕ) (names : Path) → get c.nodes (name ∷ names) ≡ node_at (item_from f at [] (name ∷ names)) (f.content (name ∷ names))
  pub contents : (i : ℕ) (o : Object) → slice_get c.objects i ≡ Some o → IsContent f at o.bytes

-- what reading answers of a folder that tells: its changes where its walk has no fault, else the first
abbrev pub Reads : Path → Result ChangesView ReadFault → FolderView → Type 0
Reads at (Ok c) f = (visits : List Visit) × IsWalk f at visits × (first_fault f at 0 visits ≡ None) × AreChanges f at c
Reads at (Err faults.Failed) f = Unit {0}
Reads at (Err faults.NoMemory) f = Unit {0}
Reads at (Err fault) f = (visits : List Visit) × IsWalk f at visits × (first_fault f at 0 visits ≡ Some fault)
