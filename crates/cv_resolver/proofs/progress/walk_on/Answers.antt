use Rattle.std.proofs.Common.{◌≡◌, true, false, refl, sym, subst, ◌∙◌}
use Rattle.cv_resolver.specs.Kept.{Kept, AreOwn, kept_bytes}
use Rattle.cv_resolver.specs.Progress.{Leads, waits, halts, goes_further}
use Rattle.cv_resolver.proofs.Keeping.{own_used}
use Rattle.cv_resolver.proofs.progress.walk_on.Goals as goal

pub loop-alloc-init : goal.loop-alloc-init
loop-alloc-init c = record { leads = λ after s goes. goes; own = λ t own. own; stage = λ t tree fits own on. on }

pub loop-alloc-preserved : goal.loop-alloc-preserved
loop-alloc-preserved c = record {
  leads = λ after s on.
      let e = c.in-Walks.ensures in
      c.loop-alloc.invariant.leads after s (goes_further c.in-Walks.next e.steps (subst (λ (k : Kept). Leads c.args.repository.now c.args.question.now k c.in-Walks.next after s) c.touch.ensures on));
  own = λ t own. subst (λ (k : Kept). AreOwn t (kept_bytes k)) (sym c.touch.ensures) (own_used t c.loop-alloc.cache c.loop-alloc.walk.spot.level.hash (c.loop-alloc.invariant.own t own));
  stage = λ t tree fits own on. (let e = c.in-Walks.ensures in e.stage t tree fits (c.loop-alloc.invariant.own t own) (c.loop-alloc.invariant.stage t tree fits own on));
}

pub returns-in-Reads-clause-stage : goal.returns-in-Reads-clause-stage
returns-in-Reads-clause-stage c = λ t tree fits own on. (let e = c.in-Reads.ensures in e.stage t tree fits (c.loop-alloc.invariant.own t own) (c.loop-alloc.invariant.stage t tree fits own on))

pub returns-in-Reads-clause-goes : goal.returns-in-Reads-clause-goes
returns-in-Reads-clause-goes c = let e = c.in-Reads.ensures in c.loop-alloc.invariant.leads _ _ (halts e.steps tt c.touch.ensures)

pub returns-in-Ends-clause-stage : goal.returns-in-Ends-clause-stage
returns-in-Ends-clause-stage c = λ t tree fits own on. (let e = c.in-Ends.ensures in e.stage t tree fits (c.loop-alloc.invariant.own t own) (c.loop-alloc.invariant.stage t tree fits own on))

pub returns-in-Ends-clause-goes : goal.returns-in-Ends-clause-goes
returns-in-Ends-clause-goes c = let e = c.in-Ends.ensures in c.loop-alloc.invariant.leads _ _ (halts e.steps tt c.touch.ensures)

pub returns-clause-goes : goal.returns-clause-goes
returns-clause-goes c = c.loop-alloc.invariant.leads _ _ (waits (λ h. absurd (let e : true ≡ false = sym (c.holds.ensures.1 h) ∙ c.loop-alloc-test.false in cc)) refl refl)
