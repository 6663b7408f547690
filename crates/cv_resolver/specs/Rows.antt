-- What the rows of a catalogue say to a walk, whatever the catalogue is.
use Rattle.std.specs.Prelude.{◌≡◌, ◌&&◌, ℕ, zero, suc, Bool, true, false, List, [], ◌∷◌, ◌++◌, take, Option, Some, None, Result, Ok, Err, Contains, if◌then◌else◌}
use Rattle.cv_base.specs.Path.{Path, parent, same_path}
use Rattle.cv_base.specs.PathText.{parts_of}
use Rattle.cv_tree.specs.Tree.{is_directory}
use Rattle.cv_tree.specs.declared.node.Node.{Node}
use Rattle.cv_rows.specs.Catalogue.{Contents}
use Rattle.cv_rows.specs.Places.{StandsAt}
use Rattle.cv_rows.specs.declared.row.Row.{Row}
use Rattle.cv_rows.specs.declared.nested.Nested.{Nested}
use Rattle.cv_rows.specs.declared.row_kind.RowKind.{RowKind}
use Rattle.cv_rows.specs.declared.row_kind.RowKind.TheVariants as kind
use Rattle.cv_cut.specs.Told.{node_of}
use Rattle.cv_resolver.specs.Walk.{Name, is_idle, is_up, is_last, is_absolute, lead_of}
use Rattle.cv_resolver.specs.Asking.{is_stat}
use Rattle.cv_resolver.specs.Listing.{AreNames}
use Rattle.cv_resolver.specs.Look.{Finding, Names, Stat, Content, names_at, stat_at, content_at}
use Rattle.cv_resolver.specs.Spot.{levels_of}
use Rattle.cv_resolver.specs.declared.spot.Level.{Level}
use Rattle.cv_resolver.specs.declared.spot.Spot.{Spot}
use Rattle.cv_resolver.specs.declared.walk.Walk.{Walk}
use Rattle.cv_resolver.specs.declared.question.Question.{Question}
use Rattle.cv_resolver.specs.declared.question.Question.TheVariants.{List as Lists, Stat as Stats, Read as Reading}
use Rattle.cv_resolver.specs.declared.found.Found.TheVariants as found
use Rattle.cv_resolver.specs.declared.found.ClientFault.{ClientFault}
use Rattle.cv_resolver.specs.declared.found.ClientFault.TheVariants as fault
use Rattle.cv_resolver.specs.declared.stage.Stage.{Stage}
use Rattle.cv_resolver.specs.declared.stage.Stage.TheVariants.{Walks, Reads, Ends}

-- ---- where a walk arrives

-- the node of the row that stands at a path, or none
abbrev pub Says : Contents → Path → Option Node → Type 0
Says c p None = (r : Row) → StandsAt c.at c.rows r p → ⊥
Says c p (Some node) = (r : Row) × StandsAt c.at c.rows r p × (node ≡ node_of r)

-- what a question finds at a path where this node stands: a list, the names that rows have in the directory
abbrev pub Finds : Contents → Question → Path → Option Node → Result Finding ClientFault → Type 0
Finds c (Lists asked) p o finding = (names : List (List ℕ)) × (is_directory o ≡ true → AreNames c p names) × (finding ≡ names_at names o)
Finds c (Stats asked) p o finding = finding ≡ stat_at o
Finds c (Reading asked) p o finding = finding ≡ content_at o

-- the question is answered so, or wants the content of the file
abbrev pub stage_of : Result Finding ClientFault → Stage
stage_of (Ok (Names names)) = Ends (Ok (found.Names names))
stage_of (Ok (Stat line)) = Ends (Ok (found.Stat line))
stage_of (Ok (Content file)) = Reads file.hash
stage_of (Err fault) = Ends (Err fault)

-- the question comes to what the row at the path says
pub record ArrivesAt (c : Contents) (q : Question) (p : Path) (s : Stage) : Type 0 where
  pub node : Option Node
  pub says : Says c p node
  pub finding : Result Finding ClientFault
  pub finds : Finds c q p node finding
  pub stage : s ≡ stage_of finding

-- ---- where a walk stands then

-- the spot is at the path, below these cuts
pub record IsAt (p : Path) (directory : Bool) (levels : List Level) (s : Spot) : Type 0 where
  pub place : s.at ≡ p
  pub is_dir : s.is_directory ≡ directory
  pub cuts : levels_of s ≡ levels

-- the spot is in the cut of a Transition row, of whose catalogue the nested entry tells
pub record IsInCut (c : Contents) (row : Row) (s : Spot) (path : Path) (into : Spot) : Type 0 where
  pub entry : Nested
  pub listed : Contains c.nested entry
  pub path_is : entry.path ≡ path
  pub at : into.at ≡ path
  pub directory : into.is_directory ≡ true
  pub levels : levels_of into ≡ levels_of s ++ record { path = path; hash = entry.hash; row = Some row } ∷ []

-- the spot is at the path of a row of this kind in the directory of another spot
abbrev pub Enters : Contents → Spot → RowKind → Row → Path → Spot → Type 0
Enters c s kind.Directory r p next = IsAt p true (levels_of s) next
Enters c s kind.NestedRoot r p next = IsAt p true (levels_of s) next
Enters c s kind.Transition r p next = IsInCut c r s p next
Enters c s kind.File r p next = IsAt p false (levels_of s) next
Enters c s kind.Link r p next = IsAt p false (levels_of s) next

-- the cuts that cover the directory above a spot: all but one at the spot itself. That of the root stays.
abbrev pub outer_or : List Level → Level → List Level
outer_or [] l = l ∷ []
outer_or (x ∷ xs) l = x ∷ xs

abbrev pub levels_above : Spot → List Level
levels_above s = if same_path s.level.path s.at then outer_or s.outer.items s.level else levels_of s

-- the cuts that cover the place from which a link of these parts leads on
abbrev pub levels_behind : List Name → List Level → List Level
levels_behind parts levels = if is_absolute parts then take 1 levels else levels

-- ---- a step of a walk

-- the walk goes on from such a spot by these names, and may follow so many links
pub record GoesOn (There : Spot → Type 0) (names : List Name) (links : ℕ) (s : Stage) : Type 0 where
  pub next : Walk
  pub is : s ≡ Walks next
  pub spot : There next.spot
  pub left : next.names.items ≡ names
  pub few : next.links ≡ links

-- a link of these parts is followed from a spot, before these names: it is one too many, leads nowhere, or leads on
abbrev pub Follows : Spot → List Name → ℕ → List Name → Option (Path × List Name) → Stage → Type 0
Follows spot names zero parts lead s = s ≡ Ends (Err fault.TooManyLinks)
Follows spot names (suc links) parts None s = s ≡ Ends (Err fault.NotFound)
Follows spot names (suc links) parts (Some start) s = GoesOn (IsAt start.0 true (levels_behind parts (levels_of spot))) (start.1 ++ names) links s

-- the name is that of an entry in the directory of the spot
pub record IsEntryName (s : Spot) (name : Name) : Type 0 where
  pub some : is_idle name ≡ false
  pub directory : s.is_directory ≡ true
  pub down : is_up name ≡ false

-- A walk passes a name by a catalogue. An empty name and `.` are passed over, and `..` leads up. Any other leads to what the
-- row there says: nothing, an entry, or a link, which is followed.
pub data Passes (repository : List ℕ) (stays : Bool) (c : Contents) (w : Walk) (name : Name) (names : List Name) (s : Stage) : Type 0 where
  idle : is_idle name ≡ true → GoesOn (λ next. next ≡ w.spot) names w.links s → Passes repository stays c w name names s
  below_file : is_idle name ≡ false → w.spot.is_directory ≡ false → s ≡ Ends (Err fault.NotDirectory) → Passes repository stays c w name names s
  up : is_idle name ≡ false → w.spot.is_directory ≡ true → is_up name ≡ true → GoesOn (IsAt (parent w.spot.at) true (levels_above w.spot)) names w.links s
      → Passes repository stays c w name names s
  nothing : IsEntryName w.spot name → ((r : Row) → StandsAt c.at c.rows r (w.spot.at ++ name ∷ []) → ⊥) → s ≡ Ends (Err fault.NotFound)
      → Passes repository stays c w name names s
  enters : IsEntryName w.spot name → (r : Row) → StandsAt c.at c.rows r (w.spot.at ++ name ∷ []) → (r.kind ≡ kind.Link → (is_last names && stays) ≡ true)
      → GoesOn (Enters c w.spot r.kind r (w.spot.at ++ name ∷ [])) names w.links s → Passes repository stays c w name names s
  follows : IsEntryName w.spot name → (r : Row) → StandsAt c.at c.rows r (w.spot.at ++ name ∷ []) → r.kind ≡ kind.Link → (is_last names && stays) ≡ false
      → Follows w.spot names w.links (parts_of r.target) (lead_of repository w.spot.at (parts_of r.target)) s → Passes repository stays c w name names s

-- One step of the walk of a question by a catalogue: it arrives, or it passes its next name; or there is no memory.
pub data StepsBy (repository : List ℕ) (q : Question) (c : Contents) (w : Walk) (s : Stage) : Type 0 where
  arrives : w.names.items ≡ [] → ArrivesAt c q w.spot.at s → StepsBy repository q c w s
  passes : (name : Name) (names : List Name) → w.names.items ≡ name ∷ names → Passes repository (is_stat q) c w name names s → StepsBy repository q c w s
  no_memory : s ≡ Ends (Err fault.NoMemory) → StepsBy repository q c w s
