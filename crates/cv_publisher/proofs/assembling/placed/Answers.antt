use Rattle.std.proofs.Common.{◌≡◌, List, ℕ, refl, subst}
use Rattle.std.specs.Prelude.{Result, Err}
use Rattle.cv_ports.specs.MemoryShelf.{standing}
use Rattle.cv_ports.specs.Shelf.{Shelf}
use Rattle.cv_tree.specs.Tree.{Nodes}
use Rattle.cv_graft.specs.declared.grafted.Grafted.{Grafted}
use Rattle.cv_graft.specs.declared.graft_fault.GraftFault.{GraftFault}
use Rattle.cv_publisher.specs.Assembling.{Delivers, IsSet, collides, is_full, is_set}
use Rattle.cv_publisher.specs.declared.plan.Plan.{Plan}
use Rattle.cv_publisher.proofs.assembling.placed.Goals as goal

unset_by : (plan : Plan) (base : List ℕ) (fetched : Shelf) (part : Nodes) (r : Result Grafted GraftFault) (f g : GraftFault) → IsSet plan base fetched part r → r ≡ Err f → f ≡ g
    → IsSet plan base fetched part (Err g)
unset_by plan base fetched part r f g set is same = subst (λ (x : GraftFault). IsSet plan base fetched part (Err x)) same (subst (IsSet plan base fetched part) is set)

pub returns-in-Ok : goal.returns-in-Ok
returns-in-Ok c =
    let set : IsSet c.args.plan.now c.args.base (standing c.args.fetched) c.args.part.now c.place.result = record {
      told = c.place.ensures.told (standing c.args.fetched) refl;
      way = c.place.ensures.way (standing c.args.fetched) refl;
      whole = c.place.ensures.whole;
    } in
    is_set c.in-Ok.grafted c.in_ok-delivered-in-Ok.field-0 (subst (IsSet c.args.plan.now c.args.base (standing c.args.fetched) c.args.part.now) c.in-Ok.is set)
    (subst (λ (s : Shelf). Delivers c.args.plan.now.changes.objects s c.in-Ok.grafted c.in_ok-delivered-in-Ok.field-0) c.place.ensures.reads c.in_ok-delivered-in-Ok.ensures) refl

pub returns-in-Err-PathCollision : goal.returns-in-Err-PathCollision
returns-in-Err-PathCollision c =
    let set : IsSet c.args.plan.now c.args.base (standing c.args.fetched) c.args.part.now c.place.result = record {
      told = c.place.ensures.told (standing c.args.fetched) refl;
      way = c.place.ensures.way (standing c.args.fetched) refl;
      whole = c.place.ensures.whole;
    } in
    rw c.in-Err-PathCollision.field-0-is
    (collides c.in-Err-PathCollision.first c.in-Err-PathCollision.second
    (unset_by c.args.plan.now c.args.base (standing c.args.fetched) c.args.part.now c.place.result c.in-Err-PathCollision.field-0 _ set c.in-Err-PathCollision.is c.in-Err-PathCollision.field-0-is) refl)

pub returns-in-Err-CatalogueFull : goal.returns-in-Err-CatalogueFull
returns-in-Err-CatalogueFull c =
    let set : IsSet c.args.plan.now c.args.base (standing c.args.fetched) c.args.part.now c.place.result = record {
      told = c.place.ensures.told (standing c.args.fetched) refl;
      way = c.place.ensures.way (standing c.args.fetched) refl;
      whole = c.place.ensures.whole;
    } in
    rw c.in-Err-CatalogueFull.field-0-is
    (is_full c.in-Err-CatalogueFull.path
    (unset_by c.args.plan.now c.args.base (standing c.args.fetched) c.args.part.now c.place.result c.in-Err-CatalogueFull.field-0 _ set c.in-Err-CatalogueFull.is c.in-Err-CatalogueFull.field-0-is) refl)
