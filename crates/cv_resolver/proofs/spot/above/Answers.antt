use Rattle.std.proofs.Common.{◌∷◌, ◌++◌, [], true, refl, sym, subst}
use Rattle.cv_base.specs.Path.{Path}
use Rattle.cv_resolver.specs.Spot.{StandsIn}
use Rattle.cv_resolver.proofs.spot.above.Goals as goal

pub returns-clause-stands : goal.returns-clause-stands
returns-clause-stands c = λ t tree is.
    subst (λ (p : Path). StandsIn t p true (c.levels_above-outer.result.0.items ++ c.levels_above-outer.result.1 ∷ [])) (sym c.into_parent.ensures) (c.levels_above-outer.ensures.stands t c.args.spot.is_directory tree is)

pub returns-clause-at : goal.returns-clause-at
returns-clause-at c = record { place = c.into_parent.ensures; is_dir = refl; cuts = c.levels_above-outer.ensures.cuts }
