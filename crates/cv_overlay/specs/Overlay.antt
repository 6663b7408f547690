-- The part that changes make of a base: what stands at each path.
use Rattle.std.specs.Prelude.{ℕ, Bool, true, false, not, ◌||◌, List, [], ◌∷◌, ◌++◌, Option, Some, None, is_some, if◌then◌else◌}
use Rattle.std.specs.List.{filter}
use Rattle.std.specs.FinMap.{get, entries, from_entries}
use Rattle.cv_base.specs.Attr.{new_directory}
use Rattle.cv_base.specs.Path.{Path, last_name_of}
use Rattle.cv_tree.specs.declared.node.Node.{Node}
use Rattle.cv_tree.specs.declared.node.Node.TheVariants.{Dir, File, Link}
use Rattle.cv_tree.specs.Tree.{Nodes}
use Rattle.cv_overlay.specs.Whiteout.{whiteout, opaque, is_whiteout}

-- what the folder puts at a path: an entry of it that is no whiteout
abbrev pub named : Nodes → Path → Option Node
named c q = if is_whiteout (last_name_of q) then None else get c q

-- nothing of the base stands below it
abbrev pub is_leaf : Option Node → Bool
is_leaf None = false
is_leaf (Some (Dir attr)) = false
is_leaf (Some (File attr file)) = true
is_leaf (Some (Link attr target)) = true

-- of the directory p of the base the changes of p itself hide the child of this name, and all below it:
-- p is opaque, or the name is whited out, or a file or link takes its place
abbrev pub hides : Nodes → Path → List ℕ → Bool
hides c p name = is_some (get c (p ++ opaque ∷ [])) || (is_some (get c (p ++ (whiteout ++ name) ∷ [])) || is_leaf (named c (p ++ name ∷ [])))

-- the same of a path behind p: a directory on the way hides the next name
abbrev pub hidden_from : Nodes → Path → Path → Bool
hidden_from c p [] = false
hidden_from c p (name ∷ names) = hides c p name || hidden_from c (p ++ name ∷ []) names

abbrev pub hidden : Nodes → Path → Bool
hidden c q = hidden_from c [] q

abbrev pub or_else : Option Node → Option Node → Option Node
or_else None y = y
or_else (Some x) y = Some x

-- the root keeps the attributes of the base's directory
abbrev pub root_of : Option Node → ℕ → Node
root_of (Some (Dir attr)) now = Dir attr
root_of other now = Dir (new_directory now)

-- what stands at each path: the root; what the folder names; what of the base isn't hidden
abbrev pub over_at : Nodes → Nodes → ℕ → Path → Option Node
over_at b c now [] = Some (root_of (get b []) now)
over_at b c now (name ∷ names) = or_else (named c (name ∷ names)) (if hidden c (name ∷ names) then None else get b (name ∷ names))

-- the entries that the folder names, and those that it doesn't hide
abbrev pub named_entries : List (Path × Node) → List (Path × Node)
named_entries es = filter (λ e. not (is_whiteout (last_name_of e.0))) es

abbrev pub kept_entries : Nodes → List (Path × Node) → List (Path × Node)
kept_entries c es = filter (λ e. not (hidden c e.0)) es

-- the part as a map: of several entries at one path the first counts
abbrev pub over_entries : Nodes → Nodes → ℕ → List (Path × Node)
over_entries b c now = ([], root_of (get b []) now) ∷ named_entries (entries c) ++ kept_entries c (entries b)

unfoldable pub over : Nodes → Nodes → ℕ → Nodes
over b c now = from_entries (over_entries b c now)
