use Rattle.cv_resolver.proofs.Spots.{own_catalogue}
use Rattle.cv_resolver.proofs.giving.open_level.Goals as goal

pub returns-clause-own : goal.returns-clause-own
returns-clause-own c = λ t known apart. own_catalogue t c.args.level.now c.args.bytes.now _ c.opened.result c.as_ref.ensures.value c.opened.ensures.decodes c.requires known apart
