use Rattle.std.proofs.Common.{arith, subst, List}
use Rattle.std.proofs.lemmas.List.{take_all}
use Rattle.cv_base.specs.declared.object.Object.{Object}
use Rattle.cv_base.proofs.Laws.{item_there}
use Rattle.cv_vault.proofs.Laws.{bind, looser, stand, spares_none, spares_then, spares_more}
use Rattle.cv_objects.specs.Batches.{AreReady}
use Rattle.cv_objects.proofs.Looking.{same_fault}
use Rattle.cv_objects.proofs.Batching.{ready_more, ready_none, wrote_then, apart_from}
use Rattle.cv_objects.proofs.storing.write_absent.Goals as goal

pub returns-in_err-write_one-clause-walks : goal.returns-in_err-write_one-clause-walks
returns-in_err-write_one-clause-walks g c = λ d e. rw (same_fault _ _ c.from_residual.ensures.1) (bind (c.loop-object.invariant.walks d e) (λ n f b. b) (λ d1 told gains r.
    looser (c.in_err-write_one.ensures.walks d1 told) (λ n f b. b) (λ d2 g2 w.
    wrote_then c.args.batch.now c.object-item.result c.in_err-write_one.field-0.0 (item_there c.args.batch.now c.loop-object.object-index c.object-item.result (omega arith) c.object-item.is) gains w)))

pub loop-object-preserved : goal.loop-object-preserved
loop-object-preserved g c = record {
  walks = λ d e. bind (c.loop-object.invariant.walks d e) (λ n f b. b) (λ d1 told gains r.
      looser (c.in_ok-write_one.ensures.walks d1 told) (λ n f b. b) (λ d2 g2 w.
      ready_more c.args.batch.now c.loop-object.object-index c.object-item.result d1 d2 c.requires.named c.requires.one (omega arith) c.object-item.is r w));
  others = spares_then c.loop-object.invariant.others (spares_more (apart_from c.object-item.result (item_there c.args.batch.now c.loop-object.object-index c.object-item.result (omega arith) c.object-item.is)) c.in_ok-write_one.ensures.others);
  cause = omega arith;
}

pub returns-clause-walks : goal.returns-clause-walks
returns-clause-walks g c = λ d e. looser (c.loop-object.invariant.walks d e) (λ n f b. b) (λ d1 gains r. subst (λ (xs : List Object). AreReady d1 xs) (take_all c.loop-object.object-index c.args.batch.now (omega arith)) r)

pub loop-object-init : goal.loop-object-init
loop-object-init g c = record { walks = λ d e. stand (g.met.V.Vault.only_now c.args.vault.now) e (ready_none c.args.batch.now d); others = spares_none; cause = omega arith }

pub returns-in_err-write_one-clause-others : goal.returns-in_err-write_one-clause-others
returns-in_err-write_one-clause-others g c = spares_then c.loop-object.invariant.others
    (spares_more (apart_from c.object-item.result (item_there c.args.batch.now c.loop-object.object-index c.object-item.result (omega arith) c.object-item.is)) c.in_err-write_one.ensures.others)
