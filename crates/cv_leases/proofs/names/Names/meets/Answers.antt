use Rattle.std.proofs.Common.{◌≡◌, ◌∙◌, drop, sym, subst}
use Rattle.cv_links.specs.Arena.{value_at}
use Rattle.cv_leases.specs.Names.{below_of}
use Rattle.cv_leases.specs.NamesInner.{meets}
use Rattle.cv_leases.proofs.Reaching.{meets_none}
use Rattle.cv_leases.proofs.names.Names.meets.Goals as goal

pub returns-in_default : goal.returns-in_default
returns-in_default g c =
    let a = c.args.self.now.places in
    sym (meets_none (value_at a) (below_of a) (drop c.loop-name.name-index c.args.path.now))
    ∙ subst (λ o. meets (value_at a) (below_of a) (drop c.loop-name.name-index c.args.path.now) o ≡ meets (value_at a) (below_of a) c.args.path.now c.args.self.now.root) c.in_default.is c.loop-name.invariant.rest
