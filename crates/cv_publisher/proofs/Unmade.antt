-- Why nothing is made of what was fetched, and what is said of what was made.
use Rattle.std.proofs.Common.{◌≡◌, ◌⊎◌, ℕ, Bool, List, ◌++◌, subst, inl, inr}
use Rattle.std.specs.Prelude.{Result, Ok, Err}
use Rattle.cv_base.specs.declared.object.Object.{Object}
use Rattle.cv_ports.specs.Shelf.{Shelf}
use Rattle.cv_tree.specs.Tree.{Nodes}
use Rattle.cv_overlay.specs.Answers.{HasNoBad}
use Rattle.cv_overlay.specs.Overlay.{over}
use Rattle.cv_publisher.specs.Assembling.{unfetched, Assembles, is_bad, is_orphan, is_laid, unlaid, Sets, is_set, collides, is_full, unset}
use Rattle.cv_publisher.specs.Packing.{AreInOrder, objects_at}
use Rattle.cv_publisher.specs.Talks as talks
use Rattle.cv_publisher.specs.Talks.{IsUnmade}
use Rattle.cv_publisher.specs.declared.assembling.Delivery.{Delivery}
use Rattle.cv_publisher.specs.declared.fault.PublishFault.{PublishFault}
use Rattle.cv_publisher.specs.declared.fault.PublishFault.TheVariants as fault
use Rattle.cv_publisher.specs.declared.plan.Plan.{Plan}

-- why nothing was made
unset_by : (plan : Plan) (from : List ℕ) (fetched : Shelf) (part : Nodes) (r : Result Delivery PublishFault) (f : PublishFault)
    → HasNoBad plan.changes.nodes → Sets plan from fetched part r → r ≡ Err f → (f ≡ fault.NoMemory) ⊎ IsUnmade plan f
unset_by plan from fetched part r f good (is_set g d told delivers is) err = absurd cc
unset_by plan from fetched part r f good (collides a b told is) err = inr (talks.collides a b good cc)
unset_by plan from fetched part r f good (is_full c told is) err = inr (talks.is_full c good cc)
unset_by plan from fetched part r f good (unset is) err = inl cc

pub unmade_by : (plan : Plan) (from : List ℕ) (fetched : Shelf) (b : Nodes) (place : Bool) (r : Result Delivery PublishFault) (f : PublishFault)
    → Assembles plan from fetched b place r → r ≡ Err f → (f ≡ fault.NoMemory) ⊎ IsUnmade plan f
unmade_by plan from fetched b place r f (is_bad q least is) err = inr (talks.bad_whiteout q least cc)
unmade_by plan from fetched b place r f (is_orphan good none is) err = inr (talks.no_parent good cc)
unmade_by plan from fetched b place r f (is_laid good there sets) err = unset_by plan from fetched (over b plan.changes.nodes plan.moment) r f good sets err
unmade_by plan from fetched b place r f (unlaid is) err = inl cc

-- and what was made is in order, and what is sent of it wasn't fetched
pub record IsOrdered (plan : Plan) (fetched : Shelf) (d : Delivery) : Type 0 where
  pub order : AreInOrder (plan.changes.objects ++ d.catalogues) (objects_at (plan.changes.objects ++ d.catalogues) d.places)
  pub made : List Object
  pub new : d.catalogues ≡ unfetched fetched made

set_in_order : (plan : Plan) (from : List ℕ) (fetched : Shelf) (part : Nodes) (r : Result Delivery PublishFault) (d : Delivery)
    → Sets plan from fetched part r → r ≡ Ok d → IsOrdered plan fetched d
set_in_order plan from fetched part r d (is_set g d' told delivers is) ok =
    let same : d' ≡ d = cc in
    subst (IsOrdered plan fetched) same (record { order = delivers.order; made = g.added; new = delivers.catalogues })
set_in_order plan from fetched part r d (collides a b told is) ok = absurd cc
set_in_order plan from fetched part r d (is_full c told is) ok = absurd cc
set_in_order plan from fetched part r d (unset is) ok = absurd cc

pub made_in_order : (plan : Plan) (from : List ℕ) (fetched : Shelf) (b : Nodes) (place : Bool) (r : Result Delivery PublishFault) (d : Delivery)
    → Assembles plan from fetched b place r → r ≡ Ok d → HasNoBad plan.changes.nodes × IsOrdered plan fetched d
made_in_order plan from fetched b place r d (is_bad q least is) ok = absurd cc
made_in_order plan from fetched b place r d (is_orphan good none is) ok = absurd cc
made_in_order plan from fetched b place r d (is_laid good there sets) ok = (good, set_in_order plan from fetched (over b plan.changes.nodes plan.moment) r d sets ok)
made_in_order plan from fetched b place r d (unlaid is) ok = absurd cc
