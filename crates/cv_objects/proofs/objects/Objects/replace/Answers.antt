use Rattle.cv_objects.proofs.Seen.{where_ok}
use Rattle.cv_objects.proofs.objects.Objects.replace.Goals as goal

pub invariant_of-self : goal.invariant_of-self
invariant_of-self g c = where_ok c.replace-result.result _ c.is_ok-self-inside.ensures.value c.replace-result.ensures.calm
