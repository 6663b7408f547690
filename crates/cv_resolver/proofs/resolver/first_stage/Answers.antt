use Rattle.std.proofs.Common.{refl}
use Rattle.cv_resolver.specs.Progress.{starts, no_memory}
use Rattle.cv_resolver.proofs.Going.{begins_at, started}
use Rattle.cv_resolver.proofs.resolver.first_stage.Goals as goal

pub returns-in-Ok-clause-stage : goal.returns-in-Ok-clause-stage
returns-in-Ok-clause-stage c = λ t tree fits own root.
    c.walk_on.ensures.stage t tree fits own (started c.args.repository.now t c.args.question.now c.args.root c.path.result.now c.in-Ok.walk tree fits root c.path.ensures c.in-Ok.ensures)

pub returns-in-Ok-clause-begins : goal.returns-in-Ok-clause-begins
returns-in-Ok-clause-begins c = starts c.in-Ok.walk (begins_at c.args.root c.path.result.now _ c.in-Ok.walk c.path.ensures c.in-Ok.ensures) c.walk_on.ensures.goes

pub returns-in-Err-clause-begins : goal.returns-in-Err-clause-begins
returns-in-Err-clause-begins c = no_memory refl c.from.ensures
