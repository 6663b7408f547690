use Rattle.std.proofs.Common.{arith, ◌∙◌, sym}
use Rattle.std.proofs.lemmas.Grind.{common_steps}
use Rattle.cv_http.proofs.Numbers.{has_token_first, has_token_later, has_token_last}
use Rattle.cv_http.proofs.values.has_token.Goals as goal

pub returns-then-is_token : goal.returns-then-is_token
returns-then-is_token c =
    has_token_first c.args.token.now c.elements.rest.now c.in-Some.comma c.in-Some.ensures.first (sym c.if-is_token.ensures) ∙ sym c.elements.invariant

pub elements-preserved : goal.elements-preserved
elements-preserved c =
    let later = has_token_later c.args.token.now c.elements.rest.now c.in-Some.comma c.in-Some.ensures.first (sym c.if-is_token.ensures) in
    grind (arith, common_steps, later, c.elements.invariant)

pub returns : goal.returns
returns c = c.is_token-2.ensures ∙ has_token_last c.args.token.now c.elements.rest.now c.comma_in.result c.comma_in.ensures.first c.in_default.not-Some ∙ sym c.elements.invariant
