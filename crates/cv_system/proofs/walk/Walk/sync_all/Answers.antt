use Rattle.std.proofs.Common.{◌∙◌, subst, sym, ap, Ok}
use Rattle.std.proofs.lemmas.Result.{err_from_is_err_and}
use Rattle.cv_system.specs.Walks.{IsUnder, TurnsMore}
use Rattle.cv_system.proofs.LastParts.{top_under}
use Rattle.cv_system.proofs.Walking.{begins_so, ends_so, no_end, too_long, top_fails, turn_fails}
use Rattle.cv_system.proofs.walk.Walk.sync_all.Goals as goal

pub returns-in_err-begin-clause-fails : goal.returns-in_err-begin-clause-fails
returns-in_err-begin-clause-fails g c =
    let p = err_from_is_err_and c.from_residual.result c.from_residual.ensures.1 in
    rw p.1 (too_long c.args.top.now _ p.0 c.in_err-begin.ensures.long (p.2 ∙ c.in_err-begin.ensures.ends))

pub loop-init : goal.loop-init
loop-init g c = record {
  under = subst (IsUnder c.args.top.now) (sym (c.settle_top.ensures.folder ∙ c.in_ok-begin.ensures.folder)) (top_under c.args.top.now);
  walks = begins_so c.args.top.now _ _ _ c.args.self.now.place.ahead _ _ (c.settle_top.ensures.folder ∙ c.in_ok-begin.ensures.folder) (c.settle_top.ensures.last ∙ c.in_ok-begin.ensures.last)
      (c.settle_top.ensures.ahead ∙ c.begin.ensures.ahead) (rw c.in_ok-begin.ensures.folder at c.in_ok-settle_top.ensures.settles);
}

pub returns-in_err-settle_top-clause-fails : goal.returns-in_err-settle_top-clause-fails
returns-in_err-settle_top-clause-fails g c =
    let p = err_from_is_err_and c.from_residual-in_err-settle_top.result c.from_residual-in_err-settle_top.ensures.1 in
    rw p.1 (top_fails c.args.top.now _ p.0 _ _ _ p.2 c.in_ok-begin.ensures.folder c.in_err-settle_top.ensures.fails)

pub returns-in_err-turn-clause-fails : goal.returns-in_err-turn-clause-fails
returns-in_err-turn-clause-fails g c =
    let p = err_from_is_err_and c.from_residual-in_err-turn.result c.from_residual-in_err-turn.ensures.1 in
    rw p.1 (turn_fails c.args.top.now _ _ _ _ _ _ c.loop.invariant.walks p.0 _ _ p.2 c.in_err-turn.ensures.fails)

pub returns-then-branch-clause-settles : goal.returns-then-branch-clause-settles
returns-then-branch-clause-settles g c =
    let done = c.turn.ensures.done (c.in_ok-turn.was ∙ ap Ok c.if-branch.true) in
    ends_so c.args.top.now _ _ _ _ _ _ _ _ _ c.loop.invariant.walks done.0 done.1 done.2 done.3

pub loop-preserved : goal.loop-preserved
loop-preserved g c = record {
  under = c.in_ok-turn.ensures.under;
  walks = TurnsMore c.loop.invariant.walks (c.turn.ensures.turns (c.in_ok-turn.was ∙ ap Ok c.if-branch.false));
}

pub returns-clause-fails : goal.returns-clause-fails
returns-clause-fails g c = no_end c.args.top.now _ _ _ _ _ _ c.loop.invariant.walks c.loop-test.false
