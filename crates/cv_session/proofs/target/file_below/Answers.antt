use Rattle.std.proofs.Common.{◌≡◌, ◌++◌, codes, sym, ◌∙◌, ap}
use Rattle.cv_session.proofs.Targeting.{behind_front}
use Rattle.cv_session.proofs.target.file_below.Goals as goal

pub returns-in_err-rest : goal.returns-in_err-rest
returns-in_err-rest c =
    rw c.from_residual.ensures (λ file is. c.in_err-rest.ensures _ (is ∙ ap (λ x. x ++ (c.args.repository.now ++ (codes "/" ++ file))) (sym c.as_slice.ensures)))

pub returns : goal.returns
returns c =
    let first : c.args.target.now ≡ codes "/cvmfs/" ++ c.in_ok-rest.rest.now = c.in_ok-rest.ensures ∙ ap (λ x. x ++ c.in_ok-rest.rest.now) c.as_slice.ensures in
    let second : c.in_ok-rest.rest.now ≡ c.args.repository.now ++ c.in_ok-rest-2.rest.now =
    c.in_ok-rest-2.ensures ∙ ap (λ x. x ++ c.in_ok-rest-2.rest.now) c.as_bytes.ensures.value in
    let last = rw c.as_slice-2.ensures at c.strip-3.ensures in
    behind_front (codes "/cvmfs/") c.in_ok-rest.rest.now _ (λ x. c.args.repository.now ++ (codes "/" ++ x)) _ first
    (behind_front c.args.repository.now c.in_ok-rest-2.rest.now _ (λ x. codes "/" ++ x) _ second last)
