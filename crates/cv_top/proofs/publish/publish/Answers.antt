use Rattle.std.proofs.Common.{refl}
use Rattle.std.specs.Prelude.{Ok, Err}
use Rattle.cv_client.proofs.Lemmas.{asks_none}
use Rattle.cv_client.specs.declared.exchanging.ExchangeFault.TheVariants.{NoMemory}
use Rattle.cv_top.specs.Publishes.{published, unpublished, cut, unread, begins}
use Rattle.cv_top.proofs.Published.{publishes_once}
use Rattle.cv_top.proofs.Publishing.{sends_by, no_memory}
use Rattle.cv_top.proofs.publish.publish.Goals as goal

pub returns-in-Err-clause-publishes : goal.returns-in-Err-clause-publishes
returns-in-Err-clause-publishes g c = unread c.in-Err.fault c.of_read.result c.in-Err.ensures.reads c.of_read.ensures refl refl refl

pub returns-in_default-clause-publishes : goal.returns-in_default-clause-publishes
returns-in_default-clause-publishes g c =
    cut NoMemory
    (record { changes = c.in-Ok.changes; reads = c.in-Ok.ensures.reads; contents = c.in-Ok.ensures.contents; limits = c.in-Ok.ensures.limits; now = c.now-now.result; moment = (c.now-now.ensures.first, c.now-now.ensures.later); exchanged = no_memory _ begins }) refl

pub returns-in-Ok-Ok-clause-publishes : goal.returns-in-Ok-Ok-clause-publishes
returns-in-Ok-Ok-clause-publishes g c =
    published c.in-Ok-Ok.revision c.print_revision.result
    (sends_by g.W.Sink.taken g.C.Clock.moments g.F.Folder.holds g.F.Folder.named g.N.Dial.came c.args.keys.now c.args.signer.now c.args.url.now c.args.path c.args.root.now _ _ _ _ _ _ c.in-Ok.changes c.now-now.result c.in-Ok-publisher_of.publisher (Ok (Ok c.in-Ok-Ok.revision))
    c.in-Ok.ensures.reads c.in-Ok.ensures.contents c.in-Ok.ensures.limits (c.now-now.ensures.first, c.now-now.ensures.later) c.in-Ok-publisher_of.ensures (rw c.in-Ok-Ok.field-0-is at c.in-Ok-Ok.ensures.exchanged)) c.print_revision.ensures.prints

pub returns-in-Ok-Err-clause-publishes : goal.returns-in-Ok-Err-clause-publishes
returns-in-Ok-Err-clause-publishes g c =
    unpublished c.in-Ok-Err.fault c.of_publish.result
    (sends_by g.W.Sink.taken g.C.Clock.moments g.F.Folder.holds g.F.Folder.named g.N.Dial.came c.args.keys.now c.args.signer.now c.args.url.now c.args.path c.args.root.now _ _ _ _ _ _ c.in-Ok.changes c.now-now.result c.in-Ok-publisher_of.publisher (Ok (Err c.in-Ok-Err.fault))
    c.in-Ok.ensures.reads c.in-Ok.ensures.contents c.in-Ok.ensures.limits (c.now-now.ensures.first, c.now-now.ensures.later) c.in-Ok-publisher_of.ensures (rw c.in-Ok-Err.field-0-is at c.in-Ok-Err.ensures.exchanged)) c.of_publish.ensures refl

pub returns-in-Err-exchange_all-clause-publishes : goal.returns-in-Err-exchange_all-clause-publishes
returns-in-Err-exchange_all-clause-publishes g c =
    rw c.of_exchange.ensures (cut c.in-Err-exchange_all.fault
    (sends_by g.W.Sink.taken g.C.Clock.moments g.F.Folder.holds g.F.Folder.named g.N.Dial.came c.args.keys.now c.args.signer.now c.args.url.now c.args.path c.args.root.now _ _ _ _ _ _ c.in-Ok.changes c.now-now.result c.in-Ok-publisher_of.publisher (Err c.in-Err-exchange_all.fault)
    c.in-Ok.ensures.reads c.in-Ok.ensures.contents c.in-Ok.ensures.limits (c.now-now.ensures.first, c.now-now.ensures.later) c.in-Ok-publisher_of.ensures c.in-Err-exchange_all.ensures.exchanged) refl)

pub returns-in-Err-clause-asks : goal.returns-in-Err-clause-asks
returns-in-Err-clause-asks g c = asks_none

pub returns-in_default-clause-asks : goal.returns-in_default-clause-asks
returns-in_default-clause-asks g c = asks_none

pub returns-in-Err-clause-published : goal.returns-in-Err-clause-published
returns-in-Err-clause-published g c = publishes_once c.a_revision_is_published_in_order.ensures c.a_lease_is_ended_once_after_a_fault.ensures (returns-in-Err-clause-publishes g c)

pub returns-in_default-clause-published : goal.returns-in_default-clause-published
returns-in_default-clause-published g c = publishes_once c.a_revision_is_published_in_order.ensures c.a_lease_is_ended_once_after_a_fault.ensures (returns-in_default-clause-publishes g c)

pub returns-in-Ok-Ok-clause-published : goal.returns-in-Ok-Ok-clause-published
returns-in-Ok-Ok-clause-published g c = publishes_once c.a_revision_is_published_in_order.ensures c.a_lease_is_ended_once_after_a_fault.ensures (returns-in-Ok-Ok-clause-publishes g c)

pub returns-in-Ok-Err-clause-published : goal.returns-in-Ok-Err-clause-published
returns-in-Ok-Err-clause-published g c = publishes_once c.a_revision_is_published_in_order.ensures c.a_lease_is_ended_once_after_a_fault.ensures (returns-in-Ok-Err-clause-publishes g c)

pub returns-in-Err-exchange_all-clause-published : goal.returns-in-Err-exchange_all-clause-published
returns-in-Err-exchange_all-clause-published g c = publishes_once c.a_revision_is_published_in_order.ensures c.a_lease_is_ended_once_after_a_fault.ensures (returns-in-Err-exchange_all-clause-publishes g c)
