use Rattle.std.proofs.Common.{◌≡◌, ◌<◌, length, subst}
use Rattle.std.specs.List.{All}
use Rattle.std.proofs.lemmas.List.Elements.{All-head, All-tail}
use Rattle.cv_vault.specs.TableInner.{crashed}
use Rattle.cv_vault.proofs.Crashing.{in_range}
use Rattle.cv_vault.proofs.table.crash_all.Goals as goal

pub crash_one-rest-requires : goal.crash_one-rest-requires
crash_one-rest-requires c =
    All-head (λ p. p.1 < length c.loop-number.entries) _ c.next.new.self
    (subst (λ ps. All (λ p. p.1 < length c.loop-number.entries) ps) c.in-Some.ensures.steps c.loop-number.invariant.1)

pub loop-number-preserved : goal.loop-number-preserved
loop-number-preserved c =
    let range = All-tail (λ p. p.1 < length c.loop-number.entries) _ c.next.new.self
    (subst (λ ps. All (λ p. p.1 < length c.loop-number.entries) ps) c.in-Some.ensures.steps c.loop-number.invariant.1) in
    let before = subst (λ ps. crashed c.loop-number.rest ps c.loop-number.entries ≡ crashed c.args.pick c.args.numbers.now.entries c.args.entries.now) c.in-Some.ensures.steps c.loop-number.invariant.0 in
    (rw (c.crash_one-rest.ensures.pick, c.crash_one-rest.ensures.entries) before, rw c.crash_one-rest.ensures.entries (in_range c.loop-number.rest c.in-Some.number.now c.next.new.self c.loop-number.entries range))
