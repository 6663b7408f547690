use Rattle.std.proofs.Common.{◌∙◌, ◌++◌, Ok, Err, refl}
use Rattle.std.proofs.lemmas.Result.{err_from_is_err_and}
use Rattle.cv_system.specs.Calls.{Named, cause_of}
use Rattle.cv_system.specs.Steps.{Still, Then}
use Rattle.cv_system.proofs.Laws.{call_at, one_call, steps_then, told_before}
use Rattle.cv_folder.proofs.Ending.{done_goes, ends_failed, ends_never, ends_wanting, goes_done, goes_then}
use Rattle.cv_folder.proofs.Seeing.{lists_no_more, lists_then, lists_told}
use Rattle.cv_folder.proofs.listing.Listing.list_open.Goals as goal

pub returns-in_err-names-clause-lists : goal.returns-in_err-names-clause-lists
returns-in_err-names-clause-lists g c = lists_no_more c.args.front.now c.args.folder.now _ _ _ _ refl refl Still

pub returns-in_err-names-clause-ends : goal.returns-in_err-names-clause-ends
returns-in_err-names-clause-ends g c =
    let p = err_from_is_err_and c.from_residual.result c.from_residual.ensures.1 in
    rw (p.1, p.2) (ends_wanting _ (Err c.in_err-names.field-0.0) _ c.in_err-names.ensures Still)

pub loop-init : goal.loop-init
loop-init g c = record { begin = λ begin. begin; entered = c.requires; lists = lists_no_more c.args.front.now c.args.folder.now _ _ _ _ refl refl Still; goes = Still }

pub returns-in_err-count-clause-lists : goal.returns-in_err-count-clause-lists
returns-in_err-count-clause-lists g c =
    lists_then c.args.front.now c.args.folder.now _ _ _ _ _ _ c.loop.invariant.lists
    (lists_no_more c.args.front.now c.args.folder.now _ _ _ _ refl refl (one_call (Named (c.args.front.now ++ c.args.folder.now) _) (c.args.folder.now, refl) (call_at Named _ _ (c.args.front.now ++ c.args.folder.now) _ _ c.loop.invariant.entered c.read_names.ensures.call)))

pub returns-in_err-count-clause-ends : goal.returns-in_err-count-clause-ends
returns-in_err-count-clause-ends g c =
    let p = err_from_is_err_and c.from_residual-in_err-count.result c.from_residual-in_err-count.ensures.1 in
    rw (p.1, p.2) (ends_failed _ _ c.in_err-count.field-0.0 (Named _ (Err (cause_of c.in_err-count.field-0.0))) _ _ c.loop.invariant.goes (refl, λ look nothing. look) c.in_err-count.ensures.call)

pub returns-then-count-eq0-clause-lists : goal.returns-then-count-eq0-clause-lists
returns-then-count-eq0-clause-lists g c =
    lists_then c.args.front.now c.args.folder.now _ _ _ _ _ _ c.loop.invariant.lists
    (lists_no_more c.args.front.now c.args.folder.now _ _ _ _ refl refl (one_call (Named (c.args.front.now ++ c.args.folder.now) _) (c.args.folder.now, refl) (call_at Named _ _ (c.args.front.now ++ c.args.folder.now) _ _ c.loop.invariant.entered c.read_names.ensures.call)))

pub returns-then-count-eq0-clause-ends : goal.returns-then-count-eq0-clause-ends
returns-then-count-eq0-clause-ends g c = goes_done _ _ _ (Then c.loop.invariant.goes (Named _ (Ok _), tt, c.in_ok-count.ensures.call))

pub returns-in_err-list_names-clause-begin : goal.returns-in_err-list_names-clause-begin
returns-in_err-list_names-clause-begin g c = λ begin. c.list_names.ensures.begin (c.loop.invariant.begin begin)

pub returns-in_err-list_names-clause-lists : goal.returns-in_err-list_names-clause-lists
returns-in_err-list_names-clause-lists g c =
    lists_then c.args.front.now c.args.folder.now _ _ _ _ _ _
    (lists_then c.args.front.now c.args.folder.now _ _ _ _ _ _ c.loop.invariant.lists
    (lists_no_more c.args.front.now c.args.folder.now _ _ _ _ refl refl (one_call (Named (c.args.front.now ++ c.args.folder.now) _) (c.args.folder.now, refl) (call_at Named _ _ (c.args.front.now ++ c.args.folder.now) _ _ c.loop.invariant.entered c.read_names.ensures.call))))
    c.list_names.ensures.lists

pub returns-in_err-list_names-clause-ends : goal.returns-in_err-list_names-clause-ends
returns-in_err-list_names-clause-ends g c =
    let p = err_from_is_err_and c.from_residual-in_err-list_names.result c.from_residual-in_err-list_names.ensures.1 in
    rw (p.1, p.2) (goes_then _ _ _ _ (Then c.loop.invariant.goes (Named _ (Ok _), tt, c.in_ok-count.ensures.call)) c.in_err-list_names.ensures.ends)

pub loop-preserved : goal.loop-preserved
loop-preserved g c = record {
  begin = λ begin. c.list_names.ensures.begin (c.loop.invariant.begin begin);
  entered = λ some. c.read_names.ensures.folder ∙ c.loop.invariant.entered (told_before _ _ _ c.read_names.ensures.call (lists_told c.args.front.now c.args.folder.now _ _ _ _ c.list_names.ensures.lists some));
  lists =
      lists_then c.args.front.now c.args.folder.now _ _ _ _ _ _
      (lists_then c.args.front.now c.args.folder.now _ _ _ _ _ _ c.loop.invariant.lists
      (lists_no_more c.args.front.now c.args.folder.now _ _ _ _ refl refl (one_call (Named (c.args.front.now ++ c.args.folder.now) _) (c.args.folder.now, refl) (call_at Named _ _ (c.args.front.now ++ c.args.folder.now) _ _ c.loop.invariant.entered c.read_names.ensures.call))))
      c.list_names.ensures.lists;
  goes = steps_then (Then c.loop.invariant.goes (Named _ (Ok _), tt, c.in_ok-count.ensures.call)) (done_goes _ _ _ c.in_ok-list_names.ensures.ends);
}

pub returns-clause-ends : goal.returns-clause-ends
returns-clause-ends g c = ends_never _ _ _ _ c.from.ensures c.loop.invariant.goes
