use Rattle.cv_objects.proofs.Seen.{calm_measured}
use Rattle.cv_objects.proofs.objects.Objects.measure_file.Goals as goal

pub invariant_of-self : goal.invariant_of-self
invariant_of-self g c = λ s. calm_measured c.args.name.now c.length.result c.length.ensures.call (c.self.invariant s)
