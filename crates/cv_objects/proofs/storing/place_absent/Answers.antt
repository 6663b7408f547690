use Rattle.std.proofs.Common.{arith, subst, List}
use Rattle.std.proofs.lemmas.List.{take_all}
use Rattle.cv_base.specs.declared.object.Object.{Object}
use Rattle.cv_base.proofs.Laws.{item_there}
use Rattle.cv_vault.proofs.Laws.{bind, looser, stand, spares_none, spares_then, spares_more}
use Rattle.cv_objects.specs.Batches.{Has}
use Rattle.cv_objects.proofs.Looking.{same_fault}
use Rattle.cv_objects.proofs.Batching.{half_more, half_none, brings_on, placed_others, spares_all, apart_from}
use Rattle.cv_objects.proofs.storing.place_absent.Goals as goal

pub returns-in_err-place_one-clause-walks : goal.returns-in_err-place_one-clause-walks
returns-in_err-place_one-clause-walks g c = λ d e waits. rw (same_fault _ _ c.from_residual.ensures.1) (bind (c.loop-object.invariant.walks d e waits) (λ n f b. b) (λ d1 told gains r.
    let h = item_there c.args.batch.now c.loop-object.object-index c.object-item.result (omega arith) c.object-item.is in
    looser (c.in_err-place_one.ensures.walks d1 told (r.0.wait.each c.object-item.result h)) (brings_on c.object-item.result h gains) (λ d2 g2 w. w)))

pub loop-object-preserved : goal.loop-object-preserved
loop-object-preserved g c = record {
  walks = λ d e waits. bind (c.loop-object.invariant.walks d e waits) (λ n f b. b) (λ d1 told gains r.
      let h = item_there c.args.batch.now c.loop-object.object-index c.object-item.result (omega arith) c.object-item.is in
      looser (c.in_ok-place_one.ensures.walks d1 told (r.0.wait.each c.object-item.result h)) (brings_on c.object-item.result h gains) (λ d2 g2 w. (
        half_more c.args.batch.now c.loop-object.object-index c.object-item.result d1 d2 c.requires.named c.requires.one (omega arith) c.object-item.is r.0 w,
        placed_others c.object-item.result h r.1 w,
      )));
  others = spares_then c.loop-object.invariant.others (spares_more (apart_from c.object-item.result (item_there c.args.batch.now c.loop-object.object-index c.object-item.result (omega arith) c.object-item.is)) c.in_ok-place_one.ensures.others);
  cause = omega arith;
}

pub returns-clause-walks : goal.returns-clause-walks
returns-clause-walks g c = λ d e waits. looser (c.loop-object.invariant.walks d e waits) (λ n f b. b) (λ d1 gains r. (subst (λ (xs : List Object). Has d1 xs) (take_all c.loop-object.object-index c.args.batch.now (omega arith)) r.0.has, r.1))

pub loop-object-init : goal.loop-object-init
loop-object-init g c = record { walks = λ d e waits. stand (g.met.V.Vault.only_now c.args.vault.now) e (half_none c.args.batch.now d waits, spares_all); others = spares_none; cause = omega arith }

pub returns-in_err-place_one-clause-others : goal.returns-in_err-place_one-clause-others
returns-in_err-place_one-clause-others g c = spares_then c.loop-object.invariant.others
    (spares_more (apart_from c.object-item.result (item_there c.args.batch.now c.loop-object.object-index c.object-item.result (omega arith) c.object-item.is)) c.in_err-place_one.ensures.others)
