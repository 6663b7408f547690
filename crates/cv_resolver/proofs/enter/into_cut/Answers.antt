use Rattle.cv_resolver.proofs.Entering.{listed}
use Rattle.cv_resolver.proofs.enter.into_cut.Goals as goal

pub unreachable-requires : goal.unreachable-requires
unreachable-requires c = listed c.args.catalogue.now c.args.row.now c.args.path c.entry_at.ensures.rules c.requires.stands c.requires.kind (let e = c.in_default.ensures in e.entry)
