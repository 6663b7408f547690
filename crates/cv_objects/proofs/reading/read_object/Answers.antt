use Rattle.std.proofs.Common.{◌∙◌}
use Rattle.cv_objects.proofs.Telling.{read_stands, gives_fetched, gives_at}
use Rattle.cv_objects.proofs.reading.read_object.Goals as goal

pub returns-in-Ok-clause-told : goal.returns-in-Ok-clause-told
returns-in-Ok-clause-told g c = λ d e. gives_at c.args.id.now _ _ c.check.result (read_stands _ c.args.id.now (c.as_str.ensures.value ∙ c.in_ok-name.ensures.name) c.in_ok-name.ensures.digest d e c.in-Ok.found c.in-Ok.ensures.call) (gives_fetched c.args.id.now c.in-Ok.found c.check.result c.check.ensures.gives)
