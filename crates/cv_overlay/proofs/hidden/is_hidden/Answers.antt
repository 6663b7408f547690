use Rattle.std.proofs.Common.{◌∙◌, sym}
use Rattle.cv_overlay.proofs.Children.{next_hidden}
use Rattle.cv_overlay.proofs.hidden.is_hidden.Goals as goal

pub loop-name-preserved : goal.loop-name-preserved
loop-name-preserved c =
    next_hidden c.args.changes.now c.loop-name.above c.in-Ok.longer c.args.path.now c.loop-name.name-index c.name-item.result
    (rw (← c.as_str-in-loop-name.ensures) c.in-Ok.ensures) (rw (← c.as_str.ensures) (sym c.in_ok-hides.ensures ∙ c.if-branch.false)) (rw c.names-name-items.ensures.names at c.loop-name-test.true) (rw c.names-name-items.ensures.names at c.name-item.is) c.loop-name.invariant
