-- What stands at a name in the directory of a spot.
use Rattle.std.specs.Prelude.{◌≡◌, ◌≢◌, List, [], ◌∷◌, ◌++◌, Option, Some, None}
use Rattle.std.specs.FinMap.{get}
use Rattle.cv_base.specs.Path.{Path}
use Rattle.cv_base.specs.declared.attr.Attr.{Attr}
use Rattle.cv_tree.specs.Tree.{Nodes}
use Rattle.cv_tree.specs.declared.node.Node.{Node}
use Rattle.cv_tree.specs.declared.node.Node.TheVariants as node
use Rattle.cv_rows.specs.Catalogue.{Contents}
use Rattle.cv_rows.specs.Places.{StandsAt}
use Rattle.cv_rows.specs.declared.row.Row.{Row}
use Rattle.cv_rows.specs.declared.row_kind.RowKind.TheVariants as kind
use Rattle.cv_resolver.specs.Walk.{Name}
use Rattle.cv_resolver.specs.Spot.{IsSpot, levels_of}
use Rattle.cv_resolver.specs.Rows.{Enters}
use Rattle.cv_resolver.specs.declared.spot.Level.{Level}
use Rattle.cv_resolver.specs.declared.spot.Spot.{Spot}
use Rattle.cv_resolver.specs.declared.enter.Entered.{Entered}
use Rattle.cv_resolver.specs.declared.enter.Entered.TheVariants.{Nothing, Stands, Link}

-- a directory or a file
abbrev pub IsOpen : Option Node → Type 0
IsOpen None = ⊥
IsOpen (Some (node.Dir attr)) = Unit {0}
IsOpen (Some (node.File attr file)) = Unit {0}
IsOpen (Some (node.Link attr target)) = ⊥

-- the spot is at the path, where a directory or a file stands
pub record IsThere (t : Nodes) (path : Path) (next : Spot) : Type 0 where
  pub spot : IsSpot t next
  pub at : next.at ≡ path
  pub is_open : IsOpen (get t path)

-- what stands at a name
abbrev pub IsEntered : Nodes → Spot → Name → Entered → Type 0
IsEntered t s name Nothing = get t (s.at ++ name ∷ []) ≡ None
IsEntered t s name (Stands next) = IsThere t (s.at ++ name ∷ []) next
IsEntered t s name (Link same path target) =
    (same ≡ s) × (path ≡ s.at ++ name ∷ []) × ((attr : Attr) × (get t path ≡ Some (node.Link attr target)))

-- the cuts below which the walk stands then
abbrev pub entered_levels : Entered → List Level
entered_levels Nothing = []
entered_levels (Stands next) = levels_of next
entered_levels (Link same path target) = levels_of same

-- ---- by the rows of a catalogue, whatever it is

abbrev pub IsToldBy : Contents → Spot → Name → Entered → Type 0
IsToldBy c s name Nothing = (r : Row) → StandsAt c.at c.rows r (s.at ++ name ∷ []) → ⊥
IsToldBy c s name (Stands next) = (r : Row) × StandsAt c.at c.rows r (s.at ++ name ∷ []) × (r.kind ≢ kind.Link) × Enters c s r.kind r (s.at ++ name ∷ []) next
IsToldBy c s name (Link same path target) =
    (r : Row) × StandsAt c.at c.rows r (s.at ++ name ∷ []) × (r.kind ≡ kind.Link) × (same ≡ s) × (path ≡ s.at ++ name ∷ []) × (target ≡ r.target)
