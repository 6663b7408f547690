-- How far a question has come.
use Rattle.std.specs.Prelude.{◌≡◌, ℕ, List, Option, Some, None, Result, Ok, Err}
use Rattle.cv_base.specs.ObjectId.{object_id}
use Rattle.cv_base.specs.declared.id.ObjectId.{ObjectId}
use Rattle.cv_base.specs.declared.id.Kind.TheVariants.{Plain, Catalogue}
use Rattle.cv_tree.specs.Tree.{Nodes}
use Rattle.cv_tree.specs.declared.node.FileRef.{FileRef}
use Rattle.cv_resolver.specs.Asking.{is_stat}
use Rattle.cv_resolver.specs.Spot.{IsSpot}
use Rattle.cv_resolver.specs.Pass.{Continues}
use Rattle.cv_resolver.specs.Step.{trail_from}
use Rattle.cv_resolver.specs.Look.{Finding, Content, trail, look, IsAnswer}
use Rattle.cv_resolver.specs.declared.question.Question.{Question}
use Rattle.cv_resolver.specs.declared.found.ClientFault.{ClientFault}
use Rattle.cv_resolver.specs.declared.found.ClientFault.TheVariants.{BadObject, BadCatalogue, NotServed}
use Rattle.cv_resolver.specs.declared.stage.Stage.{Stage}
use Rattle.cv_resolver.specs.declared.stage.Stage.TheVariants.{Walks, Reads, Ends}

-- the id of the object that is wanted
abbrev pub wanted_by : Stage → Option ObjectId
wanted_by (Walks w) = Some (object_id w.spot.level.hash Catalogue)
wanted_by (Reads hash) = Some (object_id hash Plain)
wanted_by (Ends answer) = None

-- ---- in a tree

-- the walk has arrived, and this is what the question finds: the file of this digest, or what is answered
abbrev pub IsFoundBy : Result Finding ClientFault → Stage → Type 0
IsFoundBy finding (Walks w) = ⊥
IsFoundBy finding (Reads hash) = (f : FileRef) × (finding ≡ Ok (Content f)) × (f.hash ≡ hash)
IsFoundBy finding (Ends answer) = IsAnswer finding answer

-- the question is on its way to its answer in the tree: its walk goes on to the same end, or has arrived
abbrev pub IsStage : (repository : List ℕ) → Nodes → Question → Stage → Type 0
IsStage repository t q (Walks w) = IsSpot t w.spot × Continues (trail repository t q) (trail_from repository t (is_stat q) w)
IsStage repository t q (Reads hash) = IsFoundBy (look repository t q) (Reads hash)
IsStage repository t q (Ends answer) = IsFoundBy (look repository t q) (Ends answer)

-- ---- whatever the tree

-- the fault tells of what the peer gave
abbrev pub IsOfPeer : ClientFault → Type 0
IsOfPeer (BadObject id found) = Unit {0}
IsOfPeer (BadCatalogue id) = Unit {0}
IsOfPeer (NotServed id) = Unit {0}
IsOfPeer fault = ⊥

-- the question isn't answered by such a fault
abbrev pub IsBlameless : Stage → Type 0
IsBlameless (Walks w) = Unit {0}
IsBlameless (Reads hash) = Unit {0}
IsBlameless (Ends (Ok found)) = Unit {0}
IsBlameless (Ends (Err fault)) = IsOfPeer fault → ⊥
