use Rattle.std.proofs.Common.{◌++◌, ◌+◌, length, sym, length-append}
use Rattle.cv_publisher.proofs.Orders.{order_of, there_of}
use Rattle.cv_publisher.proofs.ordering.in_order.Goals as goal

pub returns-clause-order : goal.returns-clause-order
returns-clause-order c =
    order_of c.values_of.result (λ v. v.items) (c.args.contents.now ++ c.args.catalogues.now) c.in_ok-places.places (length c.args.contents.now + length c.args.catalogues.now)
    c.values_of.ensures.values (sym (length-append c.args.contents.now c.args.catalogues.now)) c.values_of.ensures.ordered c.in_ok-places.ensures

pub returns-clause-there : goal.returns-clause-there
returns-clause-there c =
    there_of c.values_of.result (λ v. v.items) (c.args.contents.now ++ c.args.catalogues.now) c.in_ok-places.places (length c.args.contents.now + length c.args.catalogues.now)
    c.values_of.ensures.values (sym (length-append c.args.contents.now c.args.catalogues.now)) c.values_of.ensures.ordered c.in_ok-places.ensures
