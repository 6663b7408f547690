use Rattle.std.proofs.Common.{◌∙◌, refl, arith}
use Rattle.cv_seal.proofs.Comparing.{next_place, last_place}
use Rattle.cv_seal.proofs.compare.differing.Goals as goal

pub loop-place-init : goal.loop-place-init
loop-place-init c = refl

pub loop-place-preserved : goal.loop-place-preserved
loop-place-preserved c =
    let place = c.loop-place-test.true in
    c.loop-place.invariant ∙ next_place c.loop-place.found c.loop-place.place c.args.one.now c.args.other.now place (omega (arith, place, c.requires))

pub returns : goal.returns
returns c =
    let past = c.loop-place-test.false in
    c.loop-place.invariant ∙ last_place c.loop-place.found c.loop-place.place c.args.one.now c.args.other.now past (omega (arith, past, c.requires))
