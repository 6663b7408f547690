-- One step of a walk. What only this crate's own functions say.
use Rattle.std.specs.Prelude.{◌≡◌, ◌<◌, ◌≤◌, ℕ, Bool, true, false, List, [], Err}
use Rattle.cv_base.specs.Path.{Path}
use Rattle.cv_tree.specs.Tree.{Nodes}
use Rattle.cv_resolver.specs.Walk.{Name, Trail, lead_of}
use Rattle.cv_resolver.specs.Spot.{IsSpot, levels_of}
use Rattle.cv_resolver.specs.Pass.{Continues}
use Rattle.cv_resolver.specs.PassInner.{end_of, at_link}
use Rattle.cv_resolver.specs.declared.walk.Walk.{Walk}
use Rattle.cv_resolver.specs.Rows.{IsAt, GoesOn, Follows}
use Rattle.cv_resolver.specs.ProgressInner.{refusal_of}
use Rattle.cv_resolver.specs.declared.spot.Spot.{Spot}
use Rattle.cv_resolver.specs.declared.stage.Stage.{Stage}
use Rattle.cv_resolver.specs.declared.stage.Stage.TheVariants.{Walks, Ends}
use Rattle.cv_resolver.specs.declared.spot.Level.{Level}
use Rattle.cv_resolver.specs.declared.step.Step.{Step}
use Rattle.cv_resolver.specs.declared.step.Step.TheVariants.{On, Over}
use Rattle.cv_resolver.specs.Step.{steps_left, trail_from}

-- ---- in a tree

module _ (repository : List ℕ) (t : Nodes) (stays : Bool) where
  -- what a walk does with a link that it meets
  abbrev pub link_trail : Walk → Path → List ℕ → Trail
  link_trail w path target = at_link repository t stays w.links w.spot.at path target w.names.items

  -- one step of a walk: it goes on, or is over
  abbrev pub IsStep : Trail → Step → Type 0
  IsStep whole (On w) = IsSpot t w.spot × Continues whole (trail_from repository t stays w)
  IsStep whole (Over halt) = whole.end ≡ end_of halt

-- ---- how many steps are left

abbrev pub HasAtMost : ℕ → Step → Type 0
HasAtMost n (On w) = steps_left w ≤ n
HasAtMost n (Over halt) = Unit {0}

abbrev pub HasFewer : ℕ → Step → Type 0
HasFewer n (On w) = steps_left w < n
HasFewer n (Over halt) = Unit {0}

-- the cuts below which the walk stands then
abbrev pub stepped_levels : Step → List Level
stepped_levels (On w) = levels_of w.spot
stepped_levels (Over halt) = []

-- ---- by the rows of a catalogue, whatever it is

-- the stage of a question whose walk makes this step
abbrev pub stage_after : Step → Stage
stage_after (On w) = Walks w
stage_after (Over halt) = Ends (Err (refusal_of halt))

-- a link at a path, of whose target these are the parts: the walk stays there, or follows it
abbrev pub MeetsLink : (repository : List ℕ) → (stays : Bool) → Spot → List Name → ℕ → Path → List Name → Stage → Type 0
MeetsLink repository true spot names links path parts s = GoesOn (IsAt path false (levels_of spot)) names links s
MeetsLink repository false spot names links path parts s = Follows spot names links parts (lead_of repository spot.at parts) s
