use Rattle.std.proofs.Common.{None, ap}
use Rattle.cv_links.specs.Chains.{last_or, head_or}
use Rattle.cv_links.proofs.Lists.{live_in, stands, next_in, rest_next}
use Rattle.cv_links.proofs.arena.Arena.next.Goals as goal

pub around-requires : goal.around-requires
around-requires g c = (live_in c.args.self.now c.args.chain.now _ c.args.id c.requires.whole c.requires.stands)

pub returns-clause-next : goal.returns-clause-next
returns-clause-next g c = λ front back e.
    ap (λ pair. pair.1) (c.around.ensures (last_or front None) (head_or back None)
    (stands c.args.self.now c.args.chain.now front back c.args.id c.requires.whole e))

pub returns-clause-within : goal.returns-clause-within
returns-clause-within g c = next_in _ c.args.id _ c.requires.stands (λ front back e.
    ap (λ pair. pair.1) (c.around.ensures (last_or front None) (head_or back None)
    (stands c.args.self.now c.args.chain.now front back c.args.id c.requires.whole e)))

pub returns-clause-rest : goal.returns-clause-rest
returns-clause-rest g c = rest_next c.args.self.now c.args.chain.now c.args.id _ c.requires.whole c.requires.stands (λ front back e.
    ap (λ pair. pair.1) (c.around.ensures (last_or front None) (head_or back None)
    (stands c.args.self.now c.args.chain.now front back c.args.id c.requires.whole e)))
