use Rattle.std.proofs.Common.{◌∙◌, [], ap, refl, subst, Ok, List, ℕ}
use Rattle.cv_system.specs.Looks.{SeesFolders, folders_at}
use Rattle.cv_system.specs.Steps.{Still}
use Rattle.std.proofs.lemmas.Result.{err_from_is_err_and}
use Rattle.cv_system.proofs.Failing.{fails_then, grows}
use Rattle.cv_system.proofs.Seeing.{all_seen, ends_here, one_place_more, sees_then}
use Rattle.cv_system.proofs.Stepping.{steps_then}
use Rattle.cv_system.proofs.looks.has_folders.Goals as goal

pub loop-end-init : goal.loop-end-init
loop-end-init g c = record { looks = Still; through = ([], refl, refl) }

pub returns-in_err-leads_on-clause-looks : goal.returns-in_err-leads_on-clause-looks
returns-in_err-leads_on-clause-looks g c = steps_then c.loop-end.invariant.looks c.leads_on.ensures.looks

pub returns-then-not-branch-clause-looks : goal.returns-then-not-branch-clause-looks
returns-then-not-branch-clause-looks g c = steps_then c.loop-end.invariant.looks c.leads_on.ensures.looks

pub returns-then-not-branch-clause-ends : goal.returns-then-not-branch-clause-ends
returns-then-not-branch-clause-ends g c = λ _.
    let so_far = c.loop-end.invariant.through in
    ends_here c.args.path.now c.args.from c.loop-end.end so_far.0 c.loop-end-test.true so_far.1 _ _ _ so_far.2 (c.leads_on.ensures.ends (c.in_ok-leads_on.was ∙ ap Ok c.if-not-branch.true))

pub loop-end-preserved : goal.loop-end-preserved
loop-end-preserved g c =
    let so_far = c.loop-end.invariant.through in
    record {
      looks = steps_then c.loop-end.invariant.looks c.leads_on.ensures.looks;
      through = (
        _,
        one_place_more c.args.path.now c.args.from c.loop-end.end so_far.0 c.loop-end-test.true so_far.1,
        sees_then so_far.0 (folders_at c.args.path.now c.loop-end.end) _ _ _ so_far.2 (c.leads_on.ensures.through (c.in_ok-leads_on.was ∙ ap Ok c.if-not-branch.false)),
      );
    }

pub returns-clause-through : goal.returns-clause-through
returns-clause-through g c = λ _.
    let so_far = c.loop-end.invariant.through in
    subst (λ (folders : List (List ℕ)). SeesFolders folders (g.S.System.log c.args.system.now) (g.S.System.log c.loop-end.system))
    (all_seen c.args.path.now c.args.from c.loop-end.end so_far.0 c.loop-end-test.false so_far.1) so_far.2

pub returns-in_err-leads_on-clause-fails : goal.returns-in_err-leads_on-clause-fails
returns-in_err-leads_on-clause-fails g c =
    let p = err_from_is_err_and c.from_residual.result c.from_residual.ensures.1 in
    rw (p.1, p.2) (fails_then (grows c.loop-end.invariant.looks) c.in_err-leads_on.ensures.fails)
