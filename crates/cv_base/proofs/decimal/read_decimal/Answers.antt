use Rattle.std.proofs.Common.{◌∙◌, ap}
use Rattle.std.specs.Result.{result_ok}
use Rattle.std.proofs.lemmas.Fmt.{parse-decimal}
use Rattle.cv_base.proofs.Decimals.{decimal-ok, plain-decimal, IsUtf8-decimal}
use Rattle.cv_base.proofs.decimal.read_decimal.Goals as goal

pub returns-then-not-is_plain-clause-found : goal.returns-then-not-is_plain-clause-found
returns-then-not-is_plain-clause-found c = λ n h is. absurd (plain-decimal c.args.text.now n h is c.if-not-is_plain.ensures)

pub returns-in-Ok-clause-value : goal.returns-in-Ok-clause-value
returns-in-Ok-clause-value c =
    rw c.ok.ensures.value (decimal-ok c.args.text.now c.in-Ok.digits.now c.parse.result c.in-Ok.ensures.cases.0 c.parse.ensures.value.0 c.if-not-is_plain.ensures)

pub returns-in-Ok-clause-found : goal.returns-in-Ok-clause-found
returns-in-Ok-clause-found c = λ n h is.
    c.ok.ensures.value ∙ ap result_ok (parse-decimal 64 n c.in-Ok.digits.now c.parse.result h h (c.in-Ok.ensures.cases.0 ∙ is) c.parse.ensures.value.0)

pub returns-in-Err-clause-found : goal.returns-in-Err-clause-found
returns-in-Err-clause-found c = λ n h is. absurd (c.in-Err.ensures.cases.0 (IsUtf8-decimal c.args.text.now n h is))
