use Rattle.std.proofs.Common.{sym, subst}
use Rattle.cv_resolver.specs.Kept.{Kept, AreKept}
use Rattle.cv_resolver.proofs.Keeping.{kept_promoted}
use Rattle.cv_resolver.proofs.cache.Catalogues.touch.Goals as goal

pub invariant_of-self : goal.invariant_of-self
invariant_of-self c = subst (λ (x : Kept). AreKept x.entries) (sym c.promote-was_there.ensures.entries) (kept_promoted c.self.inside.cache.entries c.args.hash c.self.invariant)
