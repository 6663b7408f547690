use Rattle.std.proofs.Common.{◌∙◌, ap, subst, sym}
use Rattle.std.specs.Option.{option_copied}
use Rattle.cv_ports.specs.MemoryShelf.{standing}
use Rattle.cv_ports.specs.Objects.{shelf_of}
use Rattle.cv_tree.specs.Changes.{has_place, nodes_of, subtree_of}
use Rattle.cv_publisher.specs.Holding.{IsHeld}
use Rattle.cv_publisher.specs.Taking.{assembled}
use Rattle.cv_publisher.proofs.Assembled.{assembles_of}
use Rattle.cv_publisher.proofs.Held.{held_checkout}
use Rattle.cv_publisher.proofs.fetching.after_checkout.Goals as goal

pub returns-in-Ok-clause-after : goal.returns-in-Ok-clause-after
returns-in-Ok-clause-after c =
    assembled c.assemble-assembled.result
    (assembles_of c.args.plan.now c.args.base (standing c.in-Ok.found.catalogues) (shelf_of c.args.checkout.objects) (nodes_of (option_copied c.as_ref.result))
    (nodes_of (subtree_of (nodes_of c.args.checkout.tree) c.args.checkout.path)) c.in-Ok.found.has_place (has_place (nodes_of c.args.checkout.tree) c.args.checkout.path) c.assemble-assembled.result
    c.in-Ok.ensures.catalogues (ap nodes_of (c.as_ref.ensures.value ∙ c.in-Ok.ensures.part)) c.in-Ok.ensures.place c.assemble-assembled.ensures)
    c.behind_checkout.ensures

pub returns-in-Ok-clause-held : goal.returns-in-Ok-clause-held
returns-in-Ok-clause-held c =
    subst (IsHeld c.args.plan.now) (sym c.behind_checkout.ensures)
    (held_checkout c.args.plan.now c.args.token c.args.base c.args.base (standing c.in-Ok.found.catalogues) (nodes_of (option_copied c.as_ref.result)) c.in-Ok.found.has_place c.assemble-assembled.result
    c.assemble-assembled.ensures)
