use Rattle.std.proofs.Common.{rules, ◌≡◌, ◌+◌, ◌-◌, ◌++◌, ◌∙◌, length, length-append, min, None, ap, refl, arith}
use Rattle.cv_base.proofs.Laws.{left_by}
use Rattle.cv_http.specs.ReplyTextsInner.{ReplyBodyRead}
use Rattle.cv_http.specs.Wires.{Draws, HasEnded}
use Rattle.cv_http.specs.declared.wire.TheConstants.{BODY_LIMIT}
use Rattle.cv_http.proofs.Streams.{body_on, draws_as, draws_lost, draws_reads, looks_still, body_looks}
use Rattle.cv_http.proofs.wire.Wire.read_rest.Goals as goal

pub returns-then-bytes-most-clause-reads : goal.returns-then-bytes-most-clause-reads
returns-then-bytes-most-clause-reads g c =
    draws_as g.R.Source.left g.R.Source.given c.args.self.now c.has_some.new.self _ _
    (body_on g.R.Source.left g.R.Source.given c.args.self.now c.parts.self c.has_some.new.self c.has_some.new.self c.parts.body.items c.parts.body.items c.parts.invariant.draws c.has_some.ensures.gets refl refl)
    (λ b read.
    let size : length b ≡ length c.parts.body.items + length c.has_some.new.self.held = ap length read ∙ length-append c.parts.body.items c.has_some.new.self.held in
    let held = ap length c.bytes.ensures in
    let above = c.if-bytes-most.true in
    let within = c.parts.invariant.within in
    omega (arith, size, held, above, within, c.len-most.ensures))

pub returns-in_err-take_part-clause-reads : goal.returns-in_err-take_part-clause-reads
returns-in_err-take_part-clause-reads g c =
    left_by (λ r. Draws g.R.Source.left g.R.Source.given c.args.self.now c.take_part.new.self (λ b. ReplyBodyRead (HasEnded (g.R.Source.left c.take_part.new.self.source)) None b c.take_part.new.self.held r)) c.from_residual-in_err-take_part.result _ c.from_residual-in_err-take_part.ensures.1
    (draws_lost g.R.Source.left g.R.Source.given c.args.self.now c.parts.self c.has_some.new.self c.take_part.new.self _ c.parts.invariant.draws c.has_some.ensures.gets c.take_part.ensures.source)

pub parts-preserved : goal.parts-preserved
parts-preserved g c =
    let parts : c.take_part.new.body.items ++ c.take_part.new.self.held ≡ c.parts.body.items ++ c.has_some.new.self.held = search rules in
    let moved : length c.take_part.new.body.items ≡ length c.parts.body.items + min (length c.has_some.new.self.held) (BODY_LIMIT - c.len-most.result) = search rules in
    let within = c.parts.invariant.within in
    let size = c.len-most.ensures in
    record {
      draws = body_on g.R.Source.left g.R.Source.given c.args.self.now c.parts.self c.has_some.new.self c.take_part.new.self c.parts.body.items c.take_part.new.body.items c.parts.invariant.draws c.has_some.ensures.gets c.take_part.ensures.source parts;
      looks =
          looks_still g.R.Source.left g.R.Source.looks c.args.self.now c.has_some.new.self c.take_part.new.self _
          (body_looks g.R.Source.left g.R.Source.looks c.args.self.now c.parts.self c.has_some.new.self _ c.parts.body.items (BODY_LIMIT + 1) c.parts.invariant.looks
          (draws_reads g.R.Source.left g.R.Source.given c.args.self.now c.parts.self _ c.parts.invariant.draws) (omega (arith, within)) c.has_some.ensures.looks)
          c.take_part.ensures.source;
      within = omega (arith, moved, within, size);
      later = search rules;
    }
