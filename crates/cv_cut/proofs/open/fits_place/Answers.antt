use Rattle.std.proofs.Common.{sym, ap, ◌∙◌}
use Rattle.std.proofs.lemmas.Bool.{not-true, not-false}
use Rattle.std.specs.Option.{option_copied}
use Rattle.cv_base.specs.Path.{same_path}
use Rattle.cv_cut.proofs.Opening.{elsewhere, of_path, by_row, by_none}
use Rattle.cv_cut.proofs.open.fits_place.Goals as goal

pub returns-then-ne : goal.returns-then-ne
returns-then-ne c = (
  λ yes. absurd cc,
  λ fits. absurd (elsewhere c.args.catalogue.now c.at.result.now c.args.at.now _ c.at.ensures (not-true (same_path c.at.result.now c.args.at.now) (sym c.ne.ensures ∙ c.if-ne.true)) fits),
)

pub returns-in-Some : goal.returns-in-Some
returns-in-Some c =
    by_row c.args.catalogue.now c.args.at.now c.in-Some.transition.now _ c.fits_row.result
    (of_path c.args.catalogue.now c.at.result.now c.args.at.now c.at.ensures (not-false (same_path c.at.result.now c.args.at.now) (sym c.ne.ensures ∙ c.if-ne.false)))
    (ap option_copied c.in-Some.is) c.fits_row.ensures

pub returns-in-None : goal.returns-in-None
returns-in-None c =
    by_none c.args.catalogue.now c.args.at.now _
    (of_path c.args.catalogue.now c.at.result.now c.args.at.now c.at.ensures (not-false (same_path c.at.result.now c.args.at.now) (sym c.ne.ensures ∙ c.if-ne.false)))
    (ap option_copied c.in-None.is)
