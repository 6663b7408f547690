use Rattle.std.proofs.Common.{inl, inr, refl, None, Ok, Err}
use Rattle.cv_base.proofs.Laws.{on_err_only}
use Rattle.cv_system.proofs.Laws.{looks_so, fails_now, fails_then, grows, steps_then}
use Rattle.cv_folder.proofs.Preparing.{leads_if_made, leads_seen, makes_missing, stops_at_error, stops_unmade}
use Rattle.std.proofs.lemmas.Result.{err_from_is_err_and, IfErr-weaker}
use Rattle.cv_system.specs.Calls.{Looked}
use Rattle.cv_folder.proofs.Reasons.{way_fails, way_sees}
use Rattle.cv_folder.proofs.Well.{looked_well}
use Rattle.std.specs.Prelude.{IsTrue}
use Rattle.cv_folder.proofs.making.make_folder.Goals as goal

pub returns-in_err-found-clause-calls : goal.returns-in_err-found-clause-calls
returns-in_err-found-clause-calls g c = inl (looks_so _ _ _ _ c.seen.ensures)

pub returns-in-Some-clause-calls : goal.returns-in-Some-clause-calls
returns-in-Some-clause-calls g c = inl (looks_so _ _ _ _ c.seen.ensures)

pub returns-in-Some-2-clause-calls : goal.returns-in-Some-2-clause-calls
returns-in-Some-2-clause-calls g c = inl (looks_so _ _ _ _ c.seen.ensures)

pub returns-in-None-clause-calls : goal.returns-in-None-clause-calls
returns-in-None-clause-calls g c = makes_missing _ _ _ _ _ (rw c.in-None.is at c.in_ok-found.ensures) c.make_noted.ensures.calls

pub returns-in-Some-clause-leads : goal.returns-in-Some-clause-leads
returns-in-Some-clause-leads g c = leads_seen _ _ _ _ (rw c.in-Some.is at c.in_ok-found.ensures) (c.is_folder.ensures.0 c.if-is_folder.true)

pub returns-in-None-clause-leads : goal.returns-in-None-clause-leads
returns-in-None-clause-leads g c = leads_if_made _ _ _ _ _ (rw c.in-None.is at c.in_ok-found.ensures) c.make_noted.ensures.made

pub returns-in_err-found-clause-why : goal.returns-in_err-found-clause-why
returns-in_err-found-clause-why g c =
    let p = err_from_is_err_and c.from_residual.result c.from_residual.ensures.1 in
    rw (p.1, p.2) (inr (way_fails _ _ _ (fails_now (Looked c.args.folder.now (Err _)) refl (λ look. c.in_err-found.ensures.0) c.in_err-found.ensures.1)))

pub returns-in-Some-2-clause-why : goal.returns-in-Some-2-clause-why
returns-in-Some-2-clause-why g c = inr (way_sees _ c.args.folder.now c.in-Some.found _ _ c.from.ensures (λ is. let yes : IsTrue c.is_folder.result = c.is_folder.ensures.1 is in cc) (rw c.in-Some.is at c.in_ok-found.ensures))

pub returns-in-None-clause-why : goal.returns-in-None-clause-why
returns-in-None-clause-why g c =
    IfErr-weaker c.make_noted.result _ _
    (λ error why. elim why [
      | inl memory ↦ inl (memory.0, steps_then (looked_well c.args.folder.now None _ _ (rw c.in-None.is at c.in_ok-found.ensures)) memory.1)
      | inr fails ↦ inr (way_fails _ _ _ (fails_then (grows (looks_so _ _ _ _ c.seen.ensures)) fails))
    ])
    c.make_noted.ensures.why

pub returns-in_err-found-clause-stops : goal.returns-in_err-found-clause-stops
returns-in_err-found-clause-stops g c = on_err_only c.from_residual.result (stops_at_error _ _ _ _ c.in_err-found.ensures.1)

pub returns-in-Some-2-clause-stops : goal.returns-in-Some-2-clause-stops
returns-in-Some-2-clause-stops g c = inl (Ok c.in-Some.found, λ is. let yes : IsTrue c.is_folder.result = c.is_folder.ensures.1 is in cc, rw c.in-Some.is at c.in_ok-found.ensures)

pub returns-in-None-clause-stops : goal.returns-in-None-clause-stops
returns-in-None-clause-stops g c = stops_unmade _ _ _ _ _ (rw c.in-None.is at c.in_ok-found.ensures) c.make_noted.ensures.stops
