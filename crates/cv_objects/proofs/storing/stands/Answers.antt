use Rattle.std.proofs.Common.{◌∙◌}
use Rattle.cv_objects.proofs.Looking.{looked, looked_some}
use Rattle.cv_objects.proofs.storing.stands.Goals as goal

pub returns-clause-walks : goal.returns-clause-walks
returns-clause-walks g c = λ d e. looked c.args.object.now _ (c.as_str.ensures.value ∙ c.in_ok-name.ensures.name) (g.met.V.Vault.only_now c.args.vault.now) e _ c.compare.result c.in_ok-read.ensures.call (looked_some d c.args.object.now c.in-Some.found _ c.compare.result c.in-Some.is c.compare.ensures)
