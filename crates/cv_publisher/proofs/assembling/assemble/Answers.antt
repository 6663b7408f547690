use Rattle.std.proofs.Common.{sym, subst}
use Rattle.std.specs.Option.{option_copied}
use Rattle.std.specs.Prelude.{Err}
use Rattle.cv_ports.specs.MemoryShelf.{standing}
use Rattle.cv_tree.specs.Changes.{nodes_of}
use Rattle.cv_tree.specs.Tree.{Nodes}
use Rattle.cv_publisher.specs.Assembling.{Assembles, Sets, is_laid}
use Rattle.cv_publisher.specs.declared.fault.PublishFault.{PublishFault}
use Rattle.cv_publisher.proofs.Assembled.{over_fits, overlay_refuses}
use Rattle.cv_publisher.proofs.assembling.assemble.Goals as goal

pub returns-in-Err : goal.returns-in-Err
returns-in-Err c =
    subst (λ (f : PublishFault). Assembles c.args.plan.now c.args.base (standing c.args.fetched) (nodes_of (option_copied c.args.part)) c.args.has_place (Err f)) (sym c.of_overlay.ensures)
    (overlay_refuses c.args.plan.now c.args.base (standing c.args.fetched) (nodes_of (option_copied c.args.part)) c.args.has_place c.in-Err.fault c.in-Err.ensures.answer)

pub placed-requires-clause-limits : goal.placed-requires-clause-limits
placed-requires-clause-limits c =
    over_fits c.args.plan.now.path (nodes_of (option_copied c.args.part)) c.args.plan.now.changes.nodes c.args.plan.now.moment c.in-Ok.made c.names.ensures.limits c.requires.part c.requires.changes
    c.in-Ok.ensures.at

pub returns : goal.returns
returns c =
    is_laid c.in-Ok.ensures.answer.0 c.if-not-has_place.false
    (subst (λ (part : Nodes). Sets c.args.plan.now c.args.base (standing c.args.fetched) part c.placed.result) c.in-Ok.ensures.answer.1 c.placed.ensures)
