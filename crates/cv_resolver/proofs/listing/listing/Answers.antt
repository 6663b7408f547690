use Rattle.cv_resolver.proofs.Names.{are_names_if}
use Rattle.cv_resolver.proofs.listing.listing.Goals as goal

pub returns : goal.returns
returns c =
    are_names_if c.args.catalogue.now c.requires c.args.at.now c.in_ok-rows_in.field-0.items c.in_ok-rows_in.ensures (λ names. names.items) c.names_of.result c.by_name-rows.result.items c.deref.result.now c.by_name-rows.ensures.permutation c.by_name-rows.ensures.sorted c.deref.ensures.value c.names_of.ensures
