use Rattle.cv_resolver.proofs.Keeping.{kept_put}
use Rattle.cv_resolver.proofs.cache.Catalogues.put.Goals as goal

pub invariant_of-self : goal.invariant_of-self
invariant_of-self c = kept_put c.self.inside.cache c.put.new.self c.put.result c.args.hash c.args.catalogue c.self.invariant c.requires c.put.ensures.entries c.put.ensures.err

pub invariant_of-self-2 : goal.invariant_of-self-2
invariant_of-self-2 c = kept_put c.self.inside.cache c.put.new.self c.put.result c.args.hash c.args.catalogue c.self.invariant c.requires c.put.ensures.entries c.put.ensures.err
