use Rattle.std.proofs.Common.{sym, ap, ◌∙◌}
use Rattle.cv_overlay.specs.Overlay.{is_leaf}
use Rattle.cv_overlay.proofs.Children.{whiteout_unnamed, other_named}
use Rattle.cv_overlay.proofs.hidden.puts_leaf.Goals as goal

pub returns-then-is_whiteout : goal.returns-then-is_whiteout
returns-then-is_whiteout c = sym (whiteout_unnamed c.args.changes.now c.args.above.now c.args.name.now (sym c.is_whiteout.ensures ∙ c.if-is_whiteout.true))

pub returns : goal.returns
returns c = c.is_leaf.ensures ∙ ap is_leaf (c.in_ok-found.ensures ∙ sym (other_named c.args.changes.now c.args.above.now c.args.name.now (sym c.is_whiteout.ensures ∙ c.if-is_whiteout.false)))
