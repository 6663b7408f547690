-- One step of a walk.
use Rattle.std.specs.Prelude.{◌+◌, ◌*◌, ℕ, Bool, List, length}
use Rattle.cv_base.specs.declared.target.TheConstants.{TARGET_LIMIT}
use Rattle.cv_tree.specs.Tree.{Nodes}
use Rattle.cv_resolver.specs.Walk.{Trail, walk}
use Rattle.cv_resolver.specs.declared.walk.Walk.{Walk}

module _ (repository : List ℕ) (t : Nodes) (stays : Bool) where
  -- what is left of a walk
  abbrev pub trail_from : Walk → Trail
  trail_from w = walk repository t stays w.links w.names.items w.spot.at

-- a walk makes no more steps than this: a target has at most TARGET_LIMIT + 1 parts between its slashes
abbrev pub steps_left : Walk → ℕ
steps_left w = (TARGET_LIMIT + 2) * w.links + length w.names.items
