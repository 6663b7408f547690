use Rattle.std.proofs.Common.{◌≡◌, ℕ, ◌^◌, subst, arith}
use Rattle.cv_rows.specs.ParentsInner.{AreAbove}
use Rattle.cv_rows.proofs.Steps.{above_one, above_inside, doubling, next_power}
use Rattle.cv_rows.proofs.places.far_above.Goals as goal

pub loop-init : goal.loop-init
loop-init c = rw c.in_ok-far.ensures.items (above_one c.args.parents.now)

pub loop-preserved : goal.loop-preserved
loop-preserved c =
    let farther = rw c.deref.ensures.value at c.in_ok-far-2.ensures in
    subst (λ (k : ℕ). AreAbove k c.args.parents.now c.in_ok-far-2.far.items) (next_power c.loop.counter)
    (doubling (2 ^ c.loop.counter) c.args.parents.now c.loop.far.items c.in_ok-far-2.far.items c.requires c.loop.invariant farther)

pub doubled-requires : goal.doubled-requires
doubled-requires c =
    rw c.deref.ensures.value (above_inside (2 ^ c.loop.counter) c.args.parents.now c.loop.far.items c.requires c.loop.invariant)

pub returns : goal.returns
returns c =
    let all : c.loop.counter ≡ 16 = omega arith in
    subst (λ (k : ℕ). AreAbove (2 ^ k) c.args.parents.now c.loop.far.items) all c.loop.invariant
