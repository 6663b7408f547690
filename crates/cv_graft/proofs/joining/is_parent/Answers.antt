use Rattle.std.proofs.Common.{◌+◌, length, ap, sym, ◌∙◌, arith}
use Rattle.std.proofs.lemmas.Bool.Decides.{Decides-eqb}
use Rattle.cv_base.specs.Path.{Path}
use Rattle.cv_graft.proofs.Crossing.{one_more}
use Rattle.cv_graft.proofs.joining.is_parent.Goals as goal

pub returns : goal.returns
returns c = λ same.
    let sizes = (Decides-eqb (length c.names.result.now + 1) (length c.names-2.result.now)).0 same in
    let one = ap (λ (p : Path). length p) c.names.ensures.names in
    let other = ap (λ (p : Path). length p) c.names-2.ensures.names in
    one_more c.args.above.now c.args.path.now (sym c.covers.ensures ∙ c.if-not-covers.false) (omega (arith, sizes, one, other))
