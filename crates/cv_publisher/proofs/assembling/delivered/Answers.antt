use Rattle.std.proofs.Common.{refl, subst}
use Rattle.std.specs.Prelude.{All}
use Rattle.cv_ports.specs.MemoryShelf.{standing}
use Rattle.cv_publisher.specs.PackingInner.{IsCatalogueObject}
use Rattle.cv_publisher.proofs.Assembled.{delivers}
use Rattle.cv_publisher.proofs.assembling.delivered.Goals as goal

pub returns : goal.returns
returns c =
    delivers c.args.plan.now.changes.nodes c.args.plan.now.changes.objects c.objects.result.now c.in_ok-catalogues.catalogues.items c.deref.result.now c.new.result c.in_ok-places.places.items c.new-2.result
    (standing c.args.fetched.now) c.args.grafted c.args.grafted.root.hash refl c.in_ok-catalogues.ensures c.objects.ensures.value c.deref.ensures.value c.new.ensures c.new-2.ensures
    c.objects.ensures.contents c.requires (subst (All IsCatalogueObject) c.as_slice.ensures (c.are_catalogues.ensures c.if-not-are_catalogues.false)) c.in_ok-places.ensures.order c.in_ok-places.ensures.there
