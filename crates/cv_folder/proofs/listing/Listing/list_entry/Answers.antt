use Rattle.std.proofs.Common.{◌∙◌, ◌++◌, List, ℕ, Err, ap, refl, string_bytes, sym}
use Rattle.std.proofs.lemmas.Result.{err_from_is_err_and}
use Rattle.cv_system.specs.Calls.{Looked, cause_of}
use Rattle.cv_system.specs.Steps.{Still}
use Rattle.cv_system.proofs.Laws.{one_call}
use Rattle.cv_folder.proofs.Ending.{ends_failed, ends_wanting, goes_done, looked_skipped}
use Rattle.cv_folder.proofs.Seeing.{lists_no_more, lists_seen}
use Rattle.cv_folder.proofs.listing.Listing.list_entry.Goals as goal

pub returns-in_default-clause-lists : goal.returns-in_default-clause-lists
returns-in_default-clause-lists g c = lists_no_more c.args.front.now c.args.folder.now _ _ _ _ refl refl Still

pub returns-in_default-clause-ends : goal.returns-in_default-clause-ends
returns-in_default-clause-ends g c = goes_done _ _ _ Still

pub returns-then-not-has_no_slash-clause-lists : goal.returns-then-not-has_no_slash-clause-lists
returns-then-not-has_no_slash-clause-lists g c = lists_no_more c.args.front.now c.args.folder.now _ _ _ _ refl refl Still

pub returns-then-not-has_no_slash-clause-ends : goal.returns-then-not-has_no_slash-clause-ends
returns-then-not-has_no_slash-clause-ends g c = goes_done _ _ _ Still

pub returns-in_err-place-clause-lists : goal.returns-in_err-place-clause-lists
returns-in_err-place-clause-lists g c = lists_no_more c.args.front.now c.args.folder.now _ _ _ _ refl refl Still

pub returns-in_err-place-clause-ends : goal.returns-in_err-place-clause-ends
returns-in_err-place-clause-ends g c =
    let p = err_from_is_err_and c.from_residual.result c.from_residual.ensures.1 in
    rw (p.1, p.2) (ends_wanting _ (Err c.in_err-place.field-0.0) _ c.in_err-place.ensures.memory Still)

pub returns-in_err-name-clause-lists : goal.returns-in_err-name-clause-lists
returns-in_err-name-clause-lists g c = lists_no_more c.args.front.now c.args.folder.now _ _ _ _ refl refl Still

pub returns-in_err-name-clause-ends : goal.returns-in_err-name-clause-ends
returns-in_err-name-clause-ends g c =
    let p = err_from_is_err_and c.from_residual-in_err-name.result c.from_residual-in_err-name.ensures.1 in
    rw (p.1, p.2) (ends_wanting _ (Err c.in_err-name.field-0.0) _ c.in_err-name.ensures.memory Still)

pub returns-in_err-below-clause-lists : goal.returns-in_err-below-clause-lists
returns-in_err-below-clause-lists g c = lists_no_more c.args.front.now c.args.folder.now _ _ _ _ refl refl Still

pub returns-in_err-below-clause-ends : goal.returns-in_err-below-clause-ends
returns-in_err-below-clause-ends g c =
    let p = err_from_is_err_and c.from_residual-in_err-below.result c.from_residual-in_err-below.ensures.1 in
    rw (p.1, p.2) (ends_wanting _ (Err c.in_err-below.field-0.0) _ c.in_err-below.ensures.memory Still)

pub returns-in_err-path-clause-lists : goal.returns-in_err-path-clause-lists
returns-in_err-path-clause-lists g c = lists_no_more c.args.front.now c.args.folder.now _ _ _ _ refl refl Still

pub returns-in_err-path-clause-ends : goal.returns-in_err-path-clause-ends
returns-in_err-path-clause-ends g c =
    let p = err_from_is_err_and c.from_residual-in_err-path.result c.from_residual-in_err-path.ensures.1 in
    rw (p.1, p.2) (ends_wanting _ (Err c.in_err-path.field-0.0) _ c.in_err-path.ensures.memory Still)

pub returns-in_err-found-clause-lists : goal.returns-in_err-found-clause-lists
returns-in_err-found-clause-lists g c =
    let at = c.as_str-4.ensures.value ∙ c.in_ok-path.ensures.text ∙ ap (λ (n : List ℕ). c.args.front.now ++ n) c.as_str-3.ensures.value in
    lists_no_more c.args.front.now c.args.folder.now _ _ _ _ refl refl (one_call (Looked c.as_str-4.result.now (Err _)) (_, at) c.in_err-found.ensures.1)

pub returns-in_err-found-clause-ends : goal.returns-in_err-found-clause-ends
returns-in_err-found-clause-ends g c =
    let p = err_from_is_err_and c.from_residual-in_err-found.result c.from_residual-in_err-found.ensures.1 in
    rw (p.1, p.2) (ends_failed _ _ c.in_err-found.field-0.0 (Looked c.as_str-4.result.now (Err (cause_of c.in_err-found.field-0.0))) _ _ Still (refl, λ look. c.in_err-found.ensures.0) c.in_err-found.ensures.1)

pub returns-then-is_none-2-clause-lists : goal.returns-then-is_none-2-clause-lists
returns-then-is_none-2-clause-lists g c = lists_no_more c.args.front.now c.args.folder.now _ _ _ _ refl refl Still

pub returns-then-is_none-2-clause-ends : goal.returns-then-is_none-2-clause-ends
returns-then-is_none-2-clause-ends g c = goes_done _ _ _ Still

pub returns-clause-lists : goal.returns-clause-lists
returns-clause-lists g c =
    let at = c.as_str-4.ensures.value ∙ c.in_ok-path.ensures.text ∙ ap (λ (n : List ℕ). c.args.front.now ++ n) c.as_str-3.ensures.value in
    lists_seen c.args.front.now c.args.folder.now c.args.self.now _ _ (string_bytes c.in_ok-place.place) c.in_ok-name.name c.in_ok-below.below c.as_str-4.result.now _ _
    (sym c.has_no_slash.ensures ∙ c.if-not-has_no_slash.false) c.in_ok-place.ensures.text (rw c.as_str.ensures.value at c.in_ok-name.ensures.name) (rw c.as_str-2.ensures.value at c.in_ok-below.ensures.front)
    at c.in_ok-found.found c.in_ok-found.ensures c.add_found.ensures.added

pub returns-clause-ends : goal.returns-clause-ends
returns-clause-ends g c = ends_wanting _ c.add_found.result _ c.add_found.ensures.memory (looked_skipped c.as_str-4.result.now c.in_ok-found.found _ _ c.in_ok-found.ensures)
