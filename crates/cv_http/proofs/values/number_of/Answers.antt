use Rattle.std.proofs.Common.{sym, ◌∙◌}
use Rattle.cv_http.proofs.Numbers.{digits_are_utf8, parsed}
use Rattle.cv_http.proofs.values.number_of.Goals as goal

pub unreachable-requires : goal.unreachable-requires
unreachable-requires c = c.in-Err.ensures.cases.0 (digits_are_utf8 c.args.text.now (sym c.is_decimal.ensures ∙ c.if-not-is_decimal.false))

pub returns : goal.returns
returns c =
    let digits = sym c.is_decimal.ensures ∙ c.if-not-is_decimal.false in
    c.ok.ensures.value ∙ parsed c.args.text.now c.parse.result (rw c.in-Ok.ensures.cases.0 at c.parse.ensures.value.0) digits
