use Rattle.std.proofs.Common.{Some, None, ◌++◌, codes, lit<}
use Rattle.std.proofs.lemmas.Str.Pattern.{split_after, split_parts}
use Rattle.cv_client.proofs.Urls.{behind_scheme, url_text-around}
use Rattle.cv_client.proofs.url.split_url.Goals as goal

pub returns-in_err-authority : goal.returns-in_err-authority
returns-in_err-authority c = rw c.from_residual-in_err-authority.ensures (λ authority repository lacks is.
    split_after 47 c.in_ok-rest.rest.now authority (codes "cvmfs/" ++ repository) None c.in_err-authority.ensures.cases (lit< tt)
    (behind_scheme c.args.text.now c.in_ok-rest.rest.now authority repository c.in_ok-rest.ensures is) lacks)

pub returns-in_err-repository : goal.returns-in_err-repository
returns-in_err-repository c = rw c.from_residual-in_err-repository.ensures (λ authority repository lacks is.
    let parts = split_after 47 c.in_ok-rest.rest.now authority (codes "cvmfs/" ++ repository) (Some (c.in_ok-authority.authority, c.in_ok-authority.path)) c.in_ok-authority.ensures.cases (lit< tt)
    (behind_scheme c.args.text.now c.in_ok-rest.rest.now authority repository c.in_ok-rest.ensures is) lacks in
    c.in_err-repository.ensures repository parts.1)

pub returns : goal.returns
returns c =
    let parts = split_parts 47 c.in_ok-rest.rest.now (Some (c.in_ok-authority.authority, c.in_ok-authority.path)) c.in_ok-authority.ensures.cases (lit< tt) in
    (parts.1, url_text-around c.args.text.now c.in_ok-rest.rest.now c.in_ok-authority.authority.now c.in_ok-authority.path.now c.in_ok-repository.repository.now c.in_ok-rest.ensures parts.0 c.in_ok-repository.ensures)
