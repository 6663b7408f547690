use Rattle.std.proofs.Common.{Ok, Err, refl}
use Rattle.std.proofs.lemmas.Result.{err_from_is_err_and}
use Rattle.cv_system.specs.Steps.{Still}
use Rattle.cv_system.proofs.Laws.{steps_then}
use Rattle.cv_folder.proofs.Ending.{done_goes, goes_then, passed_so}
use Rattle.cv_folder.proofs.Seeing.{lists_no_more, lists_then}
use Rattle.cv_folder.proofs.listing.Listing.list_names.Goals as goal

pub loop-name-init : goal.loop-name-init
loop-name-init g c = record { begin = λ begin. begin; lists = lists_no_more c.args.front.now c.args.folder.now _ _ _ _ refl refl Still; goes = Still }

pub loop-name-preserved : goal.loop-name-preserved
loop-name-preserved g c = record {
  begin = λ begin. c.list_entry.ensures.begin (c.loop-name.invariant.begin begin);
  lists = lists_then c.args.front.now c.args.folder.now _ _ _ _ _ _ c.loop-name.invariant.lists c.list_entry.ensures.lists;
  goes = steps_then c.loop-name.invariant.goes
      (done_goes _ _ _ (passed_so c.list_entry.result (Ok c.in_ok-passed_over.field-0) c.in_ok-passed_over.ensures.ok c.in_ok-passed_over.ensures.passed c.in_ok-passed_over.ensures.fails _ _ c.list_entry.ensures.ends));
}

pub returns-clause-lists : goal.returns-clause-lists
returns-clause-lists g c = lists_then c.args.front.now c.args.folder.now _ _ _ _ _ _ c.loop-name.invariant.lists c.list_entry-2.ensures.lists

pub returns-clause-ends : goal.returns-clause-ends
returns-clause-ends g c =
    goes_then _ _ _ _ c.loop-name.invariant.goes
    (passed_so c.list_entry-2.result c.passed_over-2.result c.passed_over-2.ensures.ok c.passed_over-2.ensures.passed c.passed_over-2.ensures.fails _ _ c.list_entry-2.ensures.ends)

pub returns-in_err-passed_over-clause-lists : goal.returns-in_err-passed_over-clause-lists
returns-in_err-passed_over-clause-lists g c = lists_then c.args.front.now c.args.folder.now _ _ _ _ _ _ c.loop-name.invariant.lists c.list_entry.ensures.lists

pub returns-in_err-passed_over-clause-ends : goal.returns-in_err-passed_over-clause-ends
returns-in_err-passed_over-clause-ends g c =
    let p = err_from_is_err_and c.from_residual.result c.from_residual.ensures.1 in
    rw (p.1, p.2) (goes_then _ _ _ _ c.loop-name.invariant.goes
    (passed_so c.list_entry.result (Err c.in_err-passed_over.field-0.0) c.in_err-passed_over.ensures.ok c.in_err-passed_over.ensures.passed c.in_err-passed_over.ensures.fails _ _ c.list_entry.ensures.ends))
