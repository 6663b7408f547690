use Rattle.std.proofs.Common.{None, Some, decimal, lit<, ◌∙◌}
use Rattle.std.proofs.lemmas.Str.Pattern.{split_after}
use Rattle.cv_base.proofs.Decimals.{decimal-no_dash}
use Rattle.cv_base.proofs.token.Token.read.Goals as goal

pub returns-in-None-clause-found : goal.returns-in-None-clause-found
returns-in-None-clause-found c = λ token epoch number is.
    absurd (split_after 45 c.args.text.now (decimal token.epoch) (decimal token.number) None
    c.in-None.ensures.cases (lit< tt) is (decimal-no_dash token.epoch epoch))

pub returns-in-Some-clause-found : goal.returns-in-Some-clause-found
returns-in-Some-clause-found c = λ token epoch number is.
    let parts = split_after 45 c.args.text.now (decimal token.epoch) (decimal token.number) (Some (c.in-Some.epoch, c.in-Some.number))
    c.in-Some.ensures.cases (lit< tt) is (decimal-no_dash token.epoch epoch) in
    c.of_decimals.ensures.found token epoch number (c.as_bytes.ensures.value ∙ parts.0) (c.as_bytes-in-Some.ensures.value ∙ parts.1)
