use Rattle.std.proofs.Common.{◌∙◌}
use Rattle.cv_objects.proofs.Telling.{measure_stands}
use Rattle.cv_objects.proofs.reading.measure_object.Goals as goal

pub returns-in-Ok-clause-told : goal.returns-in-Ok-clause-told
returns-in-Ok-clause-told g c = λ d e. measure_stands _ c.args.id.now (c.as_str.ensures.value ∙ c.in_ok-name.ensures.name) c.in_ok-name.ensures.digest d e _ c.in-Ok.ensures.call
