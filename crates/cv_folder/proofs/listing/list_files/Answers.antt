use Rattle.std.proofs.Common.{◌∙◌, Ok, Err, inl, inr, refl, subst, sym}
use Rattle.std.proofs.lemmas.Result.{err_from_is_err_and}
use Rattle.cv_folder.specs.Listed.{IsListed}
use Rattle.cv_base.specs.Path.{with_slash}
use Rattle.cv_system.specs.Steps.{Still}
use Rattle.cv_system.proofs.Laws.{steps_then}
use Rattle.cv_folder.proofs.Ending.{done_goes, fails_listing, goes_then, passed_so}
use Rattle.cv_folder.proofs.Listed.{listed, lists_sorted, none_listed}
use Rattle.cv_folder.proofs.Seeing.{begins_so, stands_found, turns_so}
use Rattle.cv_folder.proofs.listing.list_files.Goals as goal

pub returns-in_err-top-clause-calls : goal.returns-in_err-top-clause-calls
returns-in_err-top-clause-calls g c = Still

pub returns-in_err-top-clause-why : goal.returns-in_err-top-clause-why
returns-in_err-top-clause-why g c =
    let p = err_from_is_err_and c.from_residual.result c.from_residual.ensures.1 in
    rw (p.1, p.2) (inr (inl c.in_err-top.ensures.memory, Still))

pub returns-in_err-listing-clause-calls : goal.returns-in_err-listing-clause-calls
returns-in_err-listing-clause-calls g c = Still

pub returns-in_err-listing-clause-why : goal.returns-in_err-listing-clause-why
returns-in_err-listing-clause-why g c =
    let p = err_from_is_err_and c.from_residual-in_err-listing.result c.from_residual-in_err-listing.ensures.1 in
    rw (p.1, p.2) (inr (inl c.in_err-listing.ensures.memory, Still))

pub returns-in_default-clause-listed : goal.returns-in_default-clause-listed
returns-in_default-clause-listed g c = listed c.args.prefix.now c.loop.listing.found.items c.in_order.result.items c.in_order.ensures.ascending c.in_order.ensures.same c.loop.invariant.begin

pub returns-in_default-clause-calls : goal.returns-in_default-clause-calls
returns-in_default-clause-calls g c = c.loop.invariant.stands.0

pub returns-in_default-clause-saw : goal.returns-in_default-clause-saw
returns-in_default-clause-saw g c =
    lists_sorted c.args.root.now c.loop.listing.found.items c.in_order.result.items _ _ c.in_order.ensures.same (stands_found c.args.root.now c.loop.listing _ _ c.loop.invariant.stands)

pub loop-init : goal.loop-init
loop-init g c = record {
  begin = (subst (IsListed c.args.prefix.now) (sym c.in_ok-listing.ensures.found) (none_listed c.args.prefix.now)).1;
  stands = begins_so (with_slash c.args.root.now) c.in_ok-listing.listing _ c.in_ok-listing.ensures.found c.in_ok-listing.ensures.todo;
  goes = Still;
}

pub returns-in_err-passed_over-clause-calls : goal.returns-in_err-passed_over-clause-calls
returns-in_err-passed_over-clause-calls g c =
    let top = c.as_str.ensures.value ∙ c.in_ok-top.ensures.text in
    (turns_so (with_slash c.args.root.now) c.loop.listing _ _ c.in-Some.folder _ _ _ _ refl c.in-Some.ensures.rest (c.in-Some.ensures.variant.0 refl)
    (c.in-Some.ensures.value c.in-Some.folder (c.in-Some.ensures.variant.0 refl)) c.as_str-in-loop.ensures.value (rw top at c.list_folder.ensures.lists) c.loop.invariant.stands).0

pub returns-in_err-passed_over-clause-why : goal.returns-in_err-passed_over-clause-why
returns-in_err-passed_over-clause-why g c =
    let p = err_from_is_err_and c.from_residual-in_err-passed_over.result c.from_residual-in_err-passed_over.ensures.1 in
    rw (p.1, p.2) (fails_listing _ _ _ _ (goes_then _ _ _ _ c.loop.invariant.goes
    (passed_so c.list_folder.result (Err c.in_err-passed_over.field-0.0) c.in_err-passed_over.ensures.ok c.in_err-passed_over.ensures.passed c.in_err-passed_over.ensures.fails _ _ c.list_folder.ensures.ends)))

pub loop-preserved : goal.loop-preserved
loop-preserved g c =
    let top = c.as_str.ensures.value ∙ c.in_ok-top.ensures.text in
    record {
      begin = c.list_folder.ensures.begin c.loop.invariant.begin;
      stands =
          turns_so (with_slash c.args.root.now) c.loop.listing _ _ c.in-Some.folder _ _ _ _ refl c.in-Some.ensures.rest (c.in-Some.ensures.variant.0 refl)
          (c.in-Some.ensures.value c.in-Some.folder (c.in-Some.ensures.variant.0 refl)) c.as_str-in-loop.ensures.value (rw top at c.list_folder.ensures.lists) c.loop.invariant.stands;
      goes = steps_then c.loop.invariant.goes
          (done_goes _ _ _ (passed_so c.list_folder.result (Ok c.in_ok-passed_over.field-0) c.in_ok-passed_over.ensures.ok c.in_ok-passed_over.ensures.passed c.in_ok-passed_over.ensures.fails _ _ c.list_folder.ensures.ends));
    }

pub returns-clause-calls : goal.returns-clause-calls
returns-clause-calls g c = c.loop.invariant.stands.0

pub returns-clause-why : goal.returns-clause-why
returns-clause-why g c = inr (inr c.from.ensures, c.loop.invariant.goes)
