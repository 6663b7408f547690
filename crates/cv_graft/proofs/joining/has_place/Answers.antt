use Rattle.std.proofs.Common.{◌∙◌, sym}
use Rattle.cv_graft.proofs.Crossing.{place_of}
use Rattle.cv_graft.proofs.joining.has_place.Goals as goal

pub returns : goal.returns
returns c = λ is. place_of c.args.catalogue.now c.args.path.now c.in_ok-above.above c.in-Some.row.now c.in_ok-above.ensures (sym c.holds_rows.ensures ∙ c.if-not-holds_rows.false) (c.is_parent.ensures is)
