use Rattle.std.proofs.Common.{◌∙◌, sym}
use Rattle.cv_system.proofs.Walking.{turns_into}
use Rattle.cv_system.proofs.walk.Walk.turn.Goals as goal

pub returns-then-branch-clause-turns : goal.returns-then-branch-clause-turns
returns-then-branch-clause-turns g c = λ _.
    turns_into c.args.top.now _ _ _ _ _ _ c.in_ok-has_next.ensures.finds _ c.has_next.ensures.folder (sym c.in_ok-has_next.ensures.next ∙ c.if-branch.true) c.requires
    _ _ _ _ c.enter.ensures.folder (c.settle.ensures.last ∙ c.enter.ensures.last) (c.settle.ensures.ahead ∙ c.enter.ensures.ahead) c.settle.ensures.folder _ c.in_ok-settle.ensures.settles
