use Rattle.std.proofs.Common.{Result, ◌∙◌, arith}
use Rattle.std.specs.Prelude.{IsErrOf}
use Rattle.std.specs.Option.{option_copied}
use Rattle.cv_base.proofs.Laws.{left_by}
use Rattle.cv_tree.specs.Changes.{nodes_of}
use Rattle.cv_cut.proofs.Lemmas.{own_only, own_piece}
use Rattle.cv_graft.specs.PlacedWay.{PlacesOnWay}
use Rattle.cv_graft.specs.Way.{IsOfWay, TellsDamage}
use Rattle.cv_graft.specs.declared.grafted.Grafted.{Grafted}
use Rattle.cv_graft.specs.declared.graft_fault.GraftFault.{GraftFault}
use Rattle.cv_graft.specs.declared.graft_fault.GraftFault.TheVariants as fault
use Rattle.cv_graft.proofs.PlacedParts.{cut_tells, cut_not_failed}
use Rattle.cv_graft.proofs.PlacedWay.{early_way, places_way, stands_alone}
use Rattle.cv_graft.proofs.setting.below_root_with.Goals as goal

pub from_root-requires-clause-ready : goal.from_root-requires-clause-ready
from_root-requires-clause-ready g c =
    let p = c.args.path.now in
    record { is = own_piece c.in_ok-piece.piece c.in_ok-tree.tree p c.in_ok-piece.ensures.piece; only = (own_only c.in_ok-piece.piece c.in_ok-tree.tree p _ c.in_ok-piece.ensures.piece c.in_ok-tree.ensures).only }

pub returns-in_err-piece-clause-damaged : goal.returns-in_err-piece-clause-damaged
returns-in_err-piece-clause-damaged g c = λ standing told.
    left_by (λ (x : Result Grafted GraftFault). TellsDamage standing (IsOfWay standing c.args.base.now.hash c.args.path.now) x) _ _ c.from_residual-in_err-piece.ensures.1 (cut_tells Grafted standing _ _)

pub returns-in_err-piece-clause-cause : goal.returns-in_err-piece-clause-cause
returns-in_err-piece-clause-cause g c = record {
  later = omega arith;
  failed = λ is. absurd (left_by (λ (x : Result Grafted GraftFault). IsErrOf x fault.Failed → ⊥) _ _ c.from_residual-in_err-piece.ensures.1 (cut_not_failed Grafted _) is);
}

pub returns-in_err-piece-clause-way : goal.returns-in_err-piece-clause-way
returns-in_err-piece-clause-way g c = λ standing told.
    let p = c.args.path.now in
    let s = nodes_of (option_copied c.args.part) in
    left_by (PlacesOnWay standing c.args.base.now.hash p s) _ _ c.from_residual-in_err-piece.ensures.1
    (early_way standing c.args.base.now.hash p s c.in_ok-tree.tree _ c.in_ok-tree.ensures c.piece_at.ensures.whole c.in_err-piece.ensures.fault)

pub returns-clause-way : goal.returns-clause-way
returns-clause-way g c = λ standing told.
    let p = c.args.path.now in
    let x = c.in_ok-piece.piece in
    places_way standing c.args.base.now.hash p (nodes_of (option_copied c.args.part)) x.tree x.cuts _ (stands_alone x c.in_ok-tree.tree _ p c.in_ok-piece.ensures.piece c.in_ok-tree.ensures)
    (own_piece x c.in_ok-tree.tree p c.in_ok-piece.ensures.piece).cuts_are (c.from_root.ensures.way standing told)
