use Rattle.std.proofs.Common.{◌∙◌, Err, refl}
use Rattle.std.proofs.lemmas.Result.{err_from_is_err_and}
use Rattle.cv_system.specs.Calls.{Done, Entered, Failed, cause_of}
use Rattle.cv_system.specs.Steps.{Still}
use Rattle.cv_system.proofs.Laws.{one_call}
use Rattle.cv_folder.proofs.Ending.{ends_failed, ends_wanting, goes_then}
use Rattle.cv_folder.proofs.Seeing.{lists_no_more, lists_then}
use Rattle.cv_folder.proofs.listing.Listing.list_folder.Goals as goal

pub returns-in_err-at-clause-lists : goal.returns-in_err-at-clause-lists
returns-in_err-at-clause-lists g c = lists_no_more c.args.front.now c.args.folder.now _ _ _ _ refl refl Still

pub returns-in_err-at-clause-ends : goal.returns-in_err-at-clause-ends
returns-in_err-at-clause-ends g c =
    let p = err_from_is_err_and c.from_residual.result c.from_residual.ensures.1 in
    rw (p.1, p.2) (ends_wanting _ (Err c.in_err-at.field-0.0) _ c.in_err-at.ensures.memory Still)

pub returns-in_err-entered-clause-lists : goal.returns-in_err-entered-clause-lists
returns-in_err-entered-clause-lists g c =
    lists_no_more c.args.front.now c.args.folder.now _ _ _ _ refl refl (one_call (Entered _ _) (c.args.folder.now, c.as_str.ensures.value ∙ c.in_ok-at.ensures.text) c.open_names.ensures.call)

pub returns-in_err-entered-clause-ends : goal.returns-in_err-entered-clause-ends
returns-in_err-entered-clause-ends g c =
    let p = err_from_is_err_and c.from_residual-in_err-entered.result c.from_residual-in_err-entered.ensures.1 in
    rw (p.1, p.2) (ends_failed _ _ c.in_err-entered.field-0.0 (Entered c.as_str.result.now (Failed (cause_of c.in_err-entered.field-0.0))) _ _ Still (refl, λ look nothing. look) c.in_err-entered.ensures.call)

pub list_open-requires : goal.list_open-requires
list_open-requires g c = λ some. c.in_ok-entered.ensures.folder some ∙ c.as_str.ensures.value ∙ c.in_ok-at.ensures.text

pub returns-clause-lists : goal.returns-clause-lists
returns-clause-lists g c =
    lists_then c.args.front.now c.args.folder.now _ _ _ _ _ _
    (lists_no_more c.args.front.now c.args.folder.now _ _ _ _ refl refl (one_call (Entered _ _) (c.args.folder.now, c.as_str.ensures.value ∙ c.in_ok-at.ensures.text) c.open_names.ensures.call)) c.list_open.ensures.lists

pub returns-clause-ends : goal.returns-clause-ends
returns-clause-ends g c = goes_then _ _ _ _ (one_call (Entered c.as_str.result.now Done) tt c.in_ok-entered.ensures.call) c.list_open.ensures.ends
