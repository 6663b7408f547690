-- What is found of a folder, visit by visit.
use Rattle.std.specs.Prelude.{◌≡◌, ◌⊎◌, IsSome, ℕ, ◌+◌, Bool, List, [], ◌∷◌, ◌++◌, length, Option, Some, None, Result, Ok, Err, bytes_eq, if◌then◌else◌}
use Rattle.std.specs.List.{list_any}
use Rattle.std.specs.FinMap.{insert, get}
use Rattle.sha1.specs.Sha1.{sha1}
use Rattle.cv_base.specs.Path.{Path, last_name_of}
use Rattle.cv_base.specs.Sequence.{◌>>=◌}
use Rattle.cv_base.specs.declared.attr.Attr.{Attr}
use Rattle.cv_base.specs.declared.object.Object.{Object}
use Rattle.cv_base.specs.declared.id.Kind.TheVariants.{Plain}
use Rattle.cv_base.specs.ObjectId.{object_id}
use Rattle.cv_ports.specs.declared.folder.FoundKind.{FoundKind}
use Rattle.cv_ports.specs.declared.folder.FoundKind.TheVariants as kind
use Rattle.cv_ports.specs.Folder.{FolderView}
use Rattle.cv_tree.specs.declared.node.Node.{Node}
use Rattle.cv_tree.specs.declared.node.Node.TheVariants.{Dir, File, Link}
use Rattle.cv_tree.specs.Tree.{Nodes}
use Rattle.cv_overlay.specs.Whiteout.{is_whiteout}
use Rattle.cv_overlay.specs.Walk.{Visit, path_of, attr_of, size_of, fault_of, is_large}
use Rattle.cv_overlay.specs.declared.read_fault.ReadFault.{ReadFault}
use Rattle.cv_overlay.specs.declared.read_fault.ReadFault.TheVariants as faults

-- the nodes and contents so far, and the bytes of all files so far
pub record FoundView : Type 0 where
  pub nodes : Nodes
  pub objects : List Object
  pub sum : ℕ

-- an object has this hash
abbrev pub has_hash : List Object → List ℕ → Bool
has_hash objects hash = list_any (λ o. bytes_eq o.id.hash hash) objects

-- a content more, unless one of its hash is there
abbrev pub with_content : List Object → List ℕ → List Object
with_content objects content =
    if has_hash objects (sha1 content) then objects else objects ++ record { id = object_id (sha1 content) Plain; bytes = content } ∷ []

-- the same, unless the file is a whiteout
abbrev pub kept_content : List Object → Path → List ℕ → List Object
kept_content objects q content = if is_whiteout (last_name_of q) then objects else with_content objects content

abbrev pub with_node : FoundView → Path → Node → FoundView
with_node s q node = record s { nodes = insert s.nodes q node }

abbrev pub with_file : FoundView → Path → Attr → List ℕ → FoundView
with_file s q attr content = record {
  nodes = insert s.nodes q (File attr (record { hash = sha1 content; size = length content }));
  objects = kept_content s.objects q content;
  sum = s.sum + length content;
}

-- what an item adds
abbrev pub with_item : FoundView → Path → FoundKind → Attr → List ℕ → FoundView
with_item s q kind.Dir attr content = with_node s q (Dir attr)
with_item s q kind.File attr content = with_file s q attr content
with_item s q (kind.Link target) attr content = with_node s q (Link attr target)
with_item s q kind.Special attr content = s

-- one visit: its fault, or what it adds
abbrev pub or_fault : Option ReadFault → FoundView → Result FoundView ReadFault
or_fault None s = Ok s
or_fault (Some fault) s = Err fault

abbrev pub step : FolderView → Path → Visit → FoundView → Result FoundView ReadFault
step f at v s = or_fault (fault_of f at (s.sum + size_of f v) v) (with_item s (path_of v) v.item.kind (attr_of v.item) (f.content (path_of v)))

-- a file: it is too large, or it is added
abbrev pub file_step : Path → Attr → List ℕ → FoundView → Result FoundView ReadFault
file_step q attr content s = if is_large (length content) (s.sum + length content) then Err (faults.TooLarge q) else Ok (with_file s q attr content)

-- visits one after another, up to the first fault
abbrev pub run : FolderView → Path → List Visit → FoundView → Result FoundView ReadFault
run f at [] s = Ok s
run f at (v ∷ vs) s = step f at v s >>= run f at vs

-- an answer is this one, or the folder failed, or memory was wanted
abbrev pub Ends : Result FoundView ReadFault → Result FoundView ReadFault → Type 0
Ends (Ok s) end = end ≡ Ok s
Ends (Err faults.Failed) end = Unit {0}
Ends (Err faults.NoMemory) end = Unit {0}
Ends (Err fault) end = end ≡ Err fault

-- what was found has a node at this path, and at the paths where there was one
abbrev pub IsWithin : Path → FoundView → Result FoundView ReadFault → Type 0
IsWithin q old (Ok new) = (r : Path) → IsSome (get new.nodes r) → (r ≡ q) ⊎ IsSome (get old.nodes r)
IsWithin q old (Err fault) = Unit {0}
