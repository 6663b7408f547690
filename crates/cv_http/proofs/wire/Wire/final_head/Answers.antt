use Rattle.std.proofs.Common.{◌≡◌, ℕ, refl, subst, arith}
use Rattle.cv_base.proofs.Laws.{left_by}
use Rattle.cv_http.specs.ReplyTexts.{Passes, no_more, many}
use Rattle.cv_http.specs.ReplyTextsInner.{FinalRead}
use Rattle.cv_http.specs.Wires.{Draws}
use Rattle.cv_http.proofs.Replying.{one_passed, final_found, final_lost, final_none, interim_looks}
use Rattle.cv_http.proofs.Streams.{draws_none, draws_as, draws_then, looks_none}
use Rattle.cv_http.proofs.wire.Wire.final_head.Goals as goal

pub interim-init : goal.interim-init
interim-init g c = record {
  draws = draws_none g.R.Source.left g.R.Source.given c.args.self.now (λ b. Passes 0 b c.args.self.now.held) (no_more c.args.self.now.held);
  looks = looks_none g.R.Source.left g.R.Source.looks c.args.self.now c.args.self.now _ refl;
  within = omega arith;
  later = omega arith;
}

pub returns-in_err-head-clause-reads : goal.returns-in_err-head-clause-reads
returns-in_err-head-clause-reads g c =
    left_by (λ r. Draws g.R.Source.left g.R.Source.given c.args.self.now c.next_head.new.self (λ b. FinalRead b c.next_head.new.self.held r)) c.from_residual.result _ c.from_residual.ensures.1
    (draws_then g.R.Source.left g.R.Source.given c.args.self.now c.interim.self c.next_head.new.self (λ b. Passes c.interim.passed b c.interim.self.held) _ _ c.interim.invariant.draws c.in_err-head.ensures.reads
    (λ b more passes is. final_lost more c.next_head.new.self.held passes c.interim-test.true _ is))

pub returns-in_err-head-clause-looks : goal.returns-in_err-head-clause-looks
returns-in_err-head-clause-looks g c =
    interim_looks g.R.Source.left g.R.Source.given g.R.Source.looks c.args.self.now c.interim.self c.next_head.new.self _ c.interim-test.true c.interim.invariant.draws c.interim.invariant.looks c.next_head.ensures.looks

pub returns-in_default-clause-reads : goal.returns-in_default-clause-reads
returns-in_default-clause-reads g c =
    draws_then g.R.Source.left g.R.Source.given c.args.self.now c.interim.self c.next_head.new.self (λ b. Passes c.interim.passed b c.interim.self.held) _ _ c.interim.invariant.draws c.in_ok-head.ensures.reads
    (λ b more passes is. final_none more c.next_head.new.self.held passes c.interim-test.true c.in_ok-head.field-0 c.in_default.not-Some is)

pub returns-in_default-clause-looks : goal.returns-in_default-clause-looks
returns-in_default-clause-looks g c =
    interim_looks g.R.Source.left g.R.Source.given g.R.Source.looks c.args.self.now c.interim.self c.next_head.new.self _ c.interim-test.true c.interim.invariant.draws c.interim.invariant.looks c.next_head.ensures.looks

pub returns-then-head-ne-INTERIM_CODE-clause-reads : goal.returns-then-head-ne-INTERIM_CODE-clause-reads
returns-then-head-ne-INTERIM_CODE-clause-reads g c =
    let found = rw c.in-Some.is at c.in_ok-head.ensures.reads in
    draws_then g.R.Source.left g.R.Source.given c.args.self.now c.interim.self c.next_head.new.self (λ b. Passes c.interim.passed b c.interim.self.held) _ _ c.interim.invariant.draws found
    (λ b more passes is. final_found more c.next_head.new.self.held passes c.interim-test.true c.in-Some.head c.if-head-ne-INTERIM_CODE.true is)

pub returns-then-head-ne-INTERIM_CODE-clause-looks : goal.returns-then-head-ne-INTERIM_CODE-clause-looks
returns-then-head-ne-INTERIM_CODE-clause-looks g c =
    interim_looks g.R.Source.left g.R.Source.given g.R.Source.looks c.args.self.now c.interim.self c.next_head.new.self _ c.interim-test.true c.interim.invariant.draws c.interim.invariant.looks c.next_head.ensures.looks

pub interim-preserved : goal.interim-preserved
interim-preserved g c =
    let found = rw c.in-Some.is at c.in_ok-head.ensures.reads in
    let was = c.interim.invariant.later in
    let now = c.next_head.ensures.cause.later in
    let below = c.interim-test.true in
    record {
      draws = draws_then g.R.Source.left g.R.Source.given c.args.self.now c.interim.self c.next_head.new.self (λ b. Passes c.interim.passed b c.interim.self.held) _ _ c.interim.invariant.draws found
          (λ b more passes is. one_passed more c.next_head.new.self.held passes c.in-Some.head c.if-head-ne-INTERIM_CODE.false is);
      looks = interim_looks g.R.Source.left g.R.Source.given g.R.Source.looks c.args.self.now c.interim.self c.next_head.new.self _ c.interim-test.true c.interim.invariant.draws c.interim.invariant.looks c.next_head.ensures.looks;
      within = omega (arith, below);
      later = omega (arith, was, now);
    }

pub returns-clause-reads : goal.returns-clause-reads
returns-clause-reads g c =
    let above = c.interim-test.false in
    let within = c.interim.invariant.within in
    let all : c.interim.passed ≡ 17 = omega (arith, above, within) in
    draws_as g.R.Source.left g.R.Source.given c.args.self.now c.interim.self (λ b. Passes c.interim.passed b c.interim.self.held) _ c.interim.invariant.draws
    (λ b passes. many c.interim.self.held (subst (λ (n : ℕ). Passes n b c.interim.self.held) all passes))
