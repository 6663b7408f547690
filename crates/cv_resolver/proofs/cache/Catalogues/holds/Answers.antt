use Rattle.cv_resolver.proofs.Keeping.{found_in, holds_here}
use Rattle.cv_resolver.proofs.cache.Catalogues.holds.Goals as goal

pub fits_place-requires : goal.fits_place-requires
fits_place-requires c =
    let kept = c.self.invariant.each c.args.level.now.hash c.in-Some.catalogue.now (found_in c.self.inside.cache.entries c.args.level.now.hash c.in-Some.catalogue.now c.in-Some.ensures) in
    kept.is

pub returns-in-Some : goal.returns-in-Some
returns-in-Some c =
    holds_here c.args.self.now c.self.inside.cache c.args.level.now c.in-Some.catalogue.now _ c.fits_place.result c.self.view_is c.in-Some.ensures c.as_ref.ensures.value c.fits_place.ensures
