use Rattle.std.proofs.Common.{List, ℕ, ap, subst, sym, ◌∙◌}
use Rattle.cv_base.specs.Name.{name_of}
use Rattle.cv_client.specs.Url.{IsAuthority}
use Rattle.cv_client.proofs.Urls.{authority_lacks, same_parts, unnamed}
use Rattle.cv_client.proofs.url.Url.read.Goals as goal

pub returns-in_default : goal.returns-in_default
returns-in_default c = λ u is. c.in_default.ensures u.authority u.repository (authority_lacks u.authority u.host u.port is.authority) is.is

pub returns-in_default-read_authority : goal.returns-in_default-read_authority
returns-in_default-read_authority c = λ u is.
    let same = same_parts c.args.text.now c.in-Some.authority.now c.in-Some.repository.now u c.in-Some.ensures.0 c.in-Some.ensures.1 is in
    c.in_default-read_authority.ensures u.host u.port (subst (λ (x : List ℕ). IsAuthority x u.host u.port) same.0 is.authority)

pub returns-in_default-2 : goal.returns-in_default-2
returns-in_default-2 c = λ u is.
    let same = same_parts c.args.text.now c.in-Some.authority.now c.in-Some.repository.now u c.in-Some.ensures.0 c.in-Some.ensures.1 is in
    unnamed u.repository is.name (ap name_of same.1 ∙ sym c.in_ok-repository.ensures ∙ c.in_default-2.is)
