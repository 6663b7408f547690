use Rattle.cv_objects.proofs.Seen.{calm_read}
use Rattle.cv_objects.proofs.objects.Objects.read_file.Goals as goal

pub invariant_of-self : goal.invariant_of-self
invariant_of-self g c = λ s. calm_read c.args.name.now c.read.result c.read.ensures.call (c.self.invariant s)
