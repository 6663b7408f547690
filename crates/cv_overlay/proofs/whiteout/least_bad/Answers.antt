use Rattle.std.proofs.Common.{◌∙◌, sym, ap}
use Rattle.std.specs.declared.option.Option.TheVariants.{None}
use Rattle.cv_overlay.specs.LeastInner.{least_from}
use Rattle.cv_overlay.proofs.Leasts.{least_is}
use Rattle.cv_overlay.proofs.whiteout.least_bad.Goals as goal

pub returns : goal.returns
returns c = least_is c.args.changes.now c.in_ok-least.least (ap (least_from c.args.changes.now None) (sym c.in_ok-entries.ensures.entries) ∙ sym c.in_ok-least.ensures)
