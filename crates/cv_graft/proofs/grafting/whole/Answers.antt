use Rattle.std.proofs.Common.{List, sym, ap, ◌∙◌}
use Rattle.cv_base.specs.declared.object.Object.{Object}
use Rattle.cv_graft.proofs.Both.{offered_there}
use Rattle.cv_graft.proofs.grafting.whole.Goals as goal

pub returns-in-Ok-Some-clause-gives : goal.returns-in-Ok-Some-clause-gives
returns-in-Ok-Some-clause-gives g c = λ standing told.
    offered_there (standing c.args.offered.now) c.args.offered.now c.in-Ok-Some.size _ (sym c.in-Ok-Some.field-0-is ∙ c.in-Ok-Some.ensures.told standing told)
    (ap (λ (l : List Object). record { root = c.args.offered.now; size = c.in-Ok-Some.size; added = l }) (c.new-in-Ok-Some.ensures ∙ c.new.ensures.items))
