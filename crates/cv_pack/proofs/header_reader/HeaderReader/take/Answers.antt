use Rattle.std.proofs.Common.{arith, inr, sym, ◌∙◌}
use Rattle.std.proofs.lemmas.Result.{err_from_is_err_and}
use Rattle.cv_pack.proofs.Steps.{past_limit, after_newline, after_other}
use Rattle.cv_pack.specs.HeaderReaderInner.{begun_of}
use Rattle.cv_pack.specs.HeaderState.{progress}
use Rattle.cv_pack.proofs.header_reader.HeaderReader.take.Goals as goal

pub returns-then-self-ge-HEADER_LIMIT-clause-takes :
    goal.returns-then-self-ge-HEADER_LIMIT-clause-takes
returns-then-self-ge-HEADER_LIMIT-clause-takes c = rw (← c.self.view_is) (λ text. inr (sym (past_limit _ _ _ _ _ text (rw (← c.self.view_is) at c.requires) (omega arith))))

pub returns-in_err-self-inside-clause-takes : goal.returns-in_err-self-inside-clause-takes
returns-in_err-self-inside-clause-takes c =
    let p = err_from_is_err_and c.from_residual.result c.from_residual.ensures.1 in
    rw (p.1, p.2, ← c.self.view_is) (λ text. c.in_err-self-inside.ensures.leads c.self.inside.at text (omega arith))

pub returns-then-byte-eq10-clause-takes : goal.returns-then-byte-eq10-clause-takes
returns-then-byte-eq10-clause-takes c = rw (← c.self.view_is) (λ text.
    let r = c.self-2.inside in
    (rw (← c.self-2.view_is) at (c.in_ok-self-inside.ensures.leads c.self.inside.at text (omega arith)))
    ∙ after_newline (progress (begun_of r)) c.in_ok-self-inside.field-0 c.self.inside.line c.args.byte c.self.inside.at r.at text c.if-byte-eq10.true (rw (← c.self-2.view_is) at c.take_field.ensures.at))

pub returns-else-byte-eq10-clause-takes : goal.returns-else-byte-eq10-clause-takes
returns-else-byte-eq10-clause-takes c = rw (← c.self.view_is) (λ text.
    let r = c.self-2.inside in
    (rw (← c.self-2.view_is) at (c.in_ok-self-inside.ensures.leads c.self.inside.at text (omega arith)))
    ∙ after_other (progress (begun_of r)) c.in_ok-self-inside.field-0 c.self.inside.line c.args.byte c.self.inside.at r.line r.at text c.if-byte-eq10.false
    (rw (← c.self-2.view_is) at c.take_field.ensures.line) (rw (← c.self-2.view_is) at c.take_field.ensures.at))
