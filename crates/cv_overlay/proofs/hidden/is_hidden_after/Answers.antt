use Rattle.std.proofs.Common.{sym, ◌∙◌}
use Rattle.cv_overlay.proofs.Trails.{behind_hidden, some_path, step_ok}
use Rattle.cv_overlay.proofs.hidden.is_hidden_after.Goals as goal

pub returns-then-covers : goal.returns-then-covers
returns-then-covers c =
    behind_hidden c.args.changes.now c.args.gone.now c.args.path.now
    (c.requires.gone (some_path c.args.gone.now c.names-2.result.now c.names-2.ensures.names (sym c.is_empty-2.ensures ∙ c.if-not-is_empty.true)))
    (sym c.covers.ensures ∙ c.if-covers.true)

pub returns-then-covers-2 : goal.returns-then-covers-2
returns-then-covers-2 c =
    step_ok c.hides.result c.args.changes.now c.in_ok-above.above c.args.shown.now c.args.path.now c.last_name.result.now c.in_ok-above.ensures c.last_name.ensures
    (some_path c.args.path.now c.names.result.now c.names.ensures.names (sym c.is_empty.ensures ∙ c.if-is_empty.false))
    c.requires.shown (sym c.covers-2.ensures ∙ c.if-covers-2.true) c.hides.ensures
