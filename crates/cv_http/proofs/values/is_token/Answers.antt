use Rattle.std.proofs.Common.{rules, refl}
use Rattle.std.proofs.lemmas.Str.Ascii.{trim_ascii_is}
use Rattle.cv_http.proofs.values.is_token.Goals as goal

pub returns : goal.returns
returns c =
    let is = trim_ascii_is c.args.element.now c.trim_ascii.result.now _ refl c.trim_ascii.ensures.value in
    rw (← is) (search rules)
