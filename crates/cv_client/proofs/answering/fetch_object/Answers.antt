use Rattle.std.proofs.Common.{◌≡◌, ℕ, List, Some, refl, sym, subst, ◌∙◌}
use Rattle.std.proofs.lemmas.Result.{err_from_is_err_and}
use Rattle.cv_client.specs.Fetch.{unasked}
use Rattle.cv_client.proofs.answering.fetch_object.Goals as goal

pub returns-in_err-file-clause-fetches : goal.returns-in_err-file-clause-fetches
returns-in_err-file-clause-fetches g c =
    let p = err_from_is_err_and c.from_residual.result c.from_residual.ensures.1 in
    rw (p.1, p.2) (unasked refl)

pub returns-clause-completes : goal.returns-clause-completes
returns-clause-completes g c = λ files content has s.
    c.fetch.ensures.completes files content (subst (λ (name : List ℕ). files name ≡ Some content) (sym (c.as_str.ensures.value ∙ c.in_ok-file.ensures)) has) s
