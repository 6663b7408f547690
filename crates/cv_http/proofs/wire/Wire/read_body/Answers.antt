use Rattle.std.proofs.Common.{rules, Bool, Ok, ◌≡◌, ◌++◌, ◌∙◌, length, append-nil, ap, refl, arith}
use Rattle.cv_base.proofs.Laws.{left_by}
use Rattle.cv_http.specs.Wires.{Draws, BodyRead}
use Rattle.cv_http.proofs.Streams.{body_on, draws_as, draws_lost, draws_reads, body_unread, looks_still, body_looks}
use Rattle.cv_http.proofs.wire.Wire.read_body.Goals as goal

pub returns-in_err-has_some-clause-draws : goal.returns-in_err-has_some-clause-draws
returns-in_err-has_some-clause-draws g c =
    left_by (λ r. Draws g.R.Source.left g.R.Source.given c.args.self.now c.has_some.new.self (λ b. BodyRead c.args.size (λ text body. body ≡ text) b c.has_some.new.self.held r)) c.from_residual.result _ c.from_residual.ensures.1
    (draws_as g.R.Source.left g.R.Source.given c.args.self.now c.has_some.new.self _ _
    (body_on g.R.Source.left g.R.Source.given c.args.self.now c.parts.self c.has_some.new.self c.has_some.new.self c.parts.body.items c.parts.body.items c.parts.invariant.draws c.has_some.ensures.gets refl refl)
    (λ b read.
    let size : length b ≡ length c.parts.body.items = ap length (read ∙ ap (λ x. c.parts.body.items ++ x) c.in_err-has_some.ensures.lost.1 ∙ append-nil c.parts.body.items) in
    let below = c.parts-test.true in
    body_unread (λ text body. body ≡ text) b c.has_some.new.self.held c.args.size _ c.in_err-has_some.ensures.faults (omega (arith, size, below))))

pub returns-in_err-has_some-clause-reads : goal.returns-in_err-has_some-clause-reads
returns-in_err-has_some-clause-reads g c =
    draws_reads g.R.Source.left g.R.Source.given c.args.self.now c.has_some.new.self _ (returns-in_err-has_some-clause-draws g c)

pub returns-then-not-branch-clause-draws : goal.returns-then-not-branch-clause-draws
returns-then-not-branch-clause-draws g c =
    let none = c.in_ok-has_some.ensures.end (ap (λ (x : Bool). Ok x) c.if-not-branch.true) in
    draws_as g.R.Source.left g.R.Source.given c.args.self.now c.has_some.new.self _ _
    (body_on g.R.Source.left g.R.Source.given c.args.self.now c.parts.self c.has_some.new.self c.has_some.new.self c.parts.body.items c.parts.body.items c.parts.invariant.draws c.has_some.ensures.gets refl refl)
    (λ b read.
    let size : length b ≡ length c.parts.body.items = ap length (read ∙ ap (λ x. c.parts.body.items ++ x) none.0 ∙ append-nil c.parts.body.items) in
    let below = c.parts-test.true in
    omega (arith, size, below))

pub returns-then-not-branch-clause-reads : goal.returns-then-not-branch-clause-reads
returns-then-not-branch-clause-reads g c = draws_reads g.R.Source.left g.R.Source.given c.args.self.now c.has_some.new.self _ (returns-then-not-branch-clause-draws g c)

pub returns-in_err-take_part-clause-draws : goal.returns-in_err-take_part-clause-draws
returns-in_err-take_part-clause-draws g c =
    left_by (λ r. Draws g.R.Source.left g.R.Source.given c.args.self.now c.take_part.new.self (λ b. BodyRead c.args.size (λ text body. body ≡ text) b c.take_part.new.self.held r)) c.from_residual-in_err-take_part.result _ c.from_residual-in_err-take_part.ensures.1
    (draws_lost g.R.Source.left g.R.Source.given c.args.self.now c.parts.self c.has_some.new.self c.take_part.new.self _ c.parts.invariant.draws c.has_some.ensures.gets c.take_part.ensures.source)

pub returns-in_err-take_part-clause-reads : goal.returns-in_err-take_part-clause-reads
returns-in_err-take_part-clause-reads g c = draws_reads g.R.Source.left g.R.Source.given c.args.self.now c.take_part.new.self _ (returns-in_err-take_part-clause-draws g c)

pub returns-clause-draws : goal.returns-clause-draws
returns-clause-draws g c =
    let within = c.parts.invariant.within in
    let above = c.parts-test.false in
    let all : length c.parts.body.items ≡ c.args.size = omega (arith, within, above, c.len.ensures) in
    draws_as g.R.Source.left g.R.Source.given c.args.self.now c.parts.self _ _ c.parts.invariant.draws (λ b read. (c.parts.body.items, read, all, c.new.ensures))

pub returns-clause-reads : goal.returns-clause-reads
returns-clause-reads g c = draws_reads g.R.Source.left g.R.Source.given c.args.self.now c.parts.self _ (returns-clause-draws g c)

pub parts-preserved : goal.parts-preserved
parts-preserved g c =
    let parts : c.take_part.new.body.items ++ c.take_part.new.self.held ≡ c.parts.body.items ++ c.has_some.new.self.held = search rules in
    record {
      stream = search rules;
      draws = body_on g.R.Source.left g.R.Source.given c.args.self.now c.parts.self c.has_some.new.self c.take_part.new.self c.parts.body.items c.take_part.new.body.items c.parts.invariant.draws c.has_some.ensures.gets c.take_part.ensures.source parts;
      looks =
          looks_still g.R.Source.left g.R.Source.looks c.args.self.now c.has_some.new.self c.take_part.new.self _
          (body_looks g.R.Source.left g.R.Source.looks c.args.self.now c.parts.self c.has_some.new.self _ c.parts.body.items c.args.size c.parts.invariant.looks
          (draws_reads g.R.Source.left g.R.Source.given c.args.self.now c.parts.self _ c.parts.invariant.draws) (search rules) c.has_some.ensures.looks)
          c.take_part.ensures.source;
      within = search rules;
      no_read_failed = search rules;
    }
