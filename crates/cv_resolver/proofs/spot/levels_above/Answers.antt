use Rattle.std.proofs.Common.{sym, ◌∙◌}
use Rattle.std.proofs.lemmas.Bool.{not-true, not-false}
use Rattle.cv_base.specs.Path.{same_path}
use Rattle.cv_resolver.proofs.Naming.{above_among}
use Rattle.cv_resolver.proofs.Spots.{above_here, above_cut}
use Rattle.cv_resolver.proofs.Telling.{cuts_here, cuts_above}
use Rattle.cv_resolver.proofs.spot.levels_above.Goals as goal

pub returns-then-ne-clause-stands : goal.returns-then-ne-clause-stands
returns-then-ne-clause-stands c = λ t d tree s. above_here t d c.args.outer.items c.args.level tree c.args.at.now s (not-true (same_path c.args.level.path c.args.at.now) (sym c.ne.ensures ∙ c.if-ne.true))

pub returns-in-Some-clause-stands : goal.returns-in-Some-clause-stands
returns-in-Some-clause-stands c = λ t d tree s.
    above_cut t d c.args.outer.items c.args.level tree c.args.at.now c.pop.new.self.items c.in-Some.above c.in-Some.ensures.items s (not-false (same_path c.args.level.path c.args.at.now) (sym c.ne.ensures ∙ c.if-ne.false))

pub returns-then-ne-clause-levels : goal.returns-then-ne-clause-levels
returns-then-ne-clause-levels c = λ l has. has

pub returns-in-Some-clause-levels : goal.returns-in-Some-clause-levels
returns-in-Some-clause-levels c = above_among c.pop.new.self.items c.in-Some.above c.args.level c.args.outer.items c.in-Some.ensures.items

pub returns-then-ne-clause-cuts : goal.returns-then-ne-clause-cuts
returns-then-ne-clause-cuts c = cuts_here c.args.outer.items c.args.level _ (not-true (same_path c.args.level.path c.args.at.now) (sym c.ne.ensures ∙ c.if-ne.true))

pub returns-in-Some-clause-cuts : goal.returns-in-Some-clause-cuts
returns-in-Some-clause-cuts c =
    cuts_above c.pop.new.self.items c.in-Some.above c.args.level c.args.outer.items _ c.in-Some.ensures.items (not-false (same_path c.args.level.path c.args.at.now) (sym c.ne.ensures ∙ c.if-ne.false))
