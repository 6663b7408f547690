use Rattle.std.proofs.Common.{arith, subst, List, ap, ◌∙◌}
use Rattle.std.proofs.lemmas.List.{take_all}
use Rattle.cv_base.specs.declared.object.Object.{Object}
use Rattle.cv_vault.proofs.Laws.{bind, looser, quiet_then}
use Rattle.cv_objects.specs.Batches.{Shows, Agrees}
use Rattle.cv_objects.specs.BatchesInner.{Noted}
use Rattle.cv_objects.specs.Fresh.{fresh_of}
use Rattle.cv_objects.specs.Names.{standing_on}
use Rattle.cv_objects.proofs.Looking.{same_fault}
use Rattle.cv_objects.proofs.Noting.{fresh_more, fresh_shows, agrees_more}
use Rattle.cv_objects.proofs.fresh.fresh_ids.Goals as goal

pub returns-in_err-note_fresh-clause-walks : goal.returns-in_err-note_fresh-clause-walks
returns-in_err-note_fresh-clause-walks g c = λ d e. bind (c.loop-object.invariant.walks d e) (λ n f b. b) (λ d1 told gains r.
    looser (c.in_err-note_fresh.ensures.walks d1 told) (λ n f b. b) (λ d2 g2 w.
    fresh_shows d c.args.batch.now c.loop-object.object-index c.object-item.result _ c.in_err-note_fresh.field-0.0 d2 (omega arith) c.object-item.is (same_fault _ _ c.from_residual.ensures.1) (w.0 ∙ r.0) (subst (λ x. Shows x c.object-item.result c.in_err-note_fresh.field-0.0) r.0 w.1)))

pub loop-object-preserved : goal.loop-object-preserved
loop-object-preserved g c = record {
  walks = λ d e. bind (c.loop-object.invariant.walks d e) (λ n f b. b) (λ d1 told gains r.
      looser (c.in_ok-note_fresh.ensures.walks d1 told) (λ n f b. b) (λ d2 g2 w. (
        w.0 ∙ r.0,
        fresh_more d c.args.batch.now c.loop-object.object-index c.object-item.result c.loop-object.ids.items c.note_fresh.new.ids.items c.loop-object.noted c.note_fresh.new.noted (omega arith) c.object-item.is r.1
            (subst (λ x. Noted x c.object-item.result c.loop-object.ids.items c.loop-object.noted c.note_fresh.new.ids.items c.note_fresh.new.noted) r.0 w.1),
        agrees_more d c.args.batch.now c.loop-object.object-index c.object-item.result c.loop-object.ids.items c.note_fresh.new.ids.items c.loop-object.noted c.note_fresh.new.noted (omega arith) c.object-item.is r.2
            (subst (λ x. Noted x c.object-item.result c.loop-object.ids.items c.loop-object.noted c.note_fresh.new.ids.items c.note_fresh.new.noted) r.0 w.1),
      )));
  reads = quiet_then c.loop-object.invariant.reads c.in_ok-note_fresh.ensures.reads;
  cause = omega arith;
}

pub returns-clause-walks : goal.returns-clause-walks
returns-clause-walks g c = λ d e. looser (c.loop-object.invariant.walks d e) (λ n f b. b) (λ d1 gains r. (
  r.0,
  r.1.ids_ ∙ ap (λ (xs : List Object). fresh_of xs (standing_on d)) (take_all c.loop-object.object-index c.args.batch.now (omega arith)),
  c.requires.one,
  subst (λ (xs : List Object). Agrees xs (standing_on d)) (take_all c.loop-object.object-index c.args.batch.now (omega arith)) r.2,
))
