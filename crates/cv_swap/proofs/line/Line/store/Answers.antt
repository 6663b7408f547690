use Rattle.cv_swap.proofs.Bringing.{stored_waits}
use Rattle.cv_swap.proofs.line.Line.store.Goals as goal

pub invariant_of-self : goal.invariant_of-self
invariant_of-self g c = record {
  published_ = c.self.invariant.published_;
  next = c.self.invariant.next;
  head_ = c.self.invariant.head_;
  next_head_ = c.self.invariant.next_head_;
  waits = λ ready. stored_waits c.args.batch.now c.self.inside.manifest c.requires.named c.store.ensures.others (c.self.invariant.waits ready);
}
