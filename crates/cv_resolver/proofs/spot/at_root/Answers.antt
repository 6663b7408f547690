use Rattle.std.proofs.Common.{List, ◌++◌, ◌∷◌, [], refl, sym, ap, subst, ◌∙◌}
use Rattle.cv_resolver.specs.NamingInner.{AreAmong}
use Rattle.cv_resolver.specs.Spot.{levels_of}
use Rattle.cv_resolver.specs.declared.spot.Level.{Level}
use Rattle.cv_resolver.proofs.Naming.{first_among}
use Rattle.cv_resolver.proofs.Spots.{at_top}
use Rattle.cv_resolver.proofs.spot.at_root.Goals as goal

pub returns-clause-stands : goal.returns-clause-stands
returns-clause-stands c = λ t tree is. at_top t c.args.spot c.root.result c.new.result.items c.first_level.result tree is c.root.ensures c.new.ensures.items c.first_level.ensures

pub returns-clause-levels : goal.returns-clause-levels
returns-clause-levels c =
    subst (λ (outer : List Level). AreAmong (levels_of c.args.spot) (outer ++ c.first_level.result ∷ [])) (sym c.new.ensures.items) (first_among c.first_level.result (levels_of c.args.spot) c.first_level.ensures)

pub returns-clause-at : goal.returns-clause-at
returns-clause-at c = record {
  place = c.root.ensures;
  is_dir = refl;
  cuts = ap (λ (outer : List Level). outer ++ c.first_level.result ∷ []) c.new.ensures.items ∙ c.first_level.ensures;
}
