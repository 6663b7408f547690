use Rattle.cv_resolver.proofs.Keeping.{found_in, place_found, there_found}
use Rattle.cv_resolver.proofs.cache.Catalogues.get.Goals as goal

pub returns-clause-kept : goal.returns-clause-kept
returns-clause-kept c = c.self.invariant.each c.args.level.now.hash c.in-Some.catalogue.now (found_in c.self.inside.cache.entries c.args.level.now.hash c.in-Some.catalogue.now c.in-Some.ensures)

pub returns-clause-place : goal.returns-clause-place
returns-clause-place c = place_found c.args.self.now c.self.inside.cache c.args.level.now c.in-Some.catalogue.now c.self.view_is c.in-Some.ensures c.requires

pub returns-clause-there : goal.returns-clause-there
returns-clause-there c = there_found c.args.self.now c.self.inside.cache c.args.level.now c.in-Some.catalogue.now c.self.view_is c.in-Some.ensures
