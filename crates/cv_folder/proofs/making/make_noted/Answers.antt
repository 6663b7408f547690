use Rattle.std.proofs.lemmas.Result.{err_from_is_err_and, IfErr-weaker}
use Rattle.std.proofs.Common.{inl, inr, refl}
use Rattle.cv_base.proofs.Laws.{on_err_only}
use Rattle.cv_system.specs.Calls.{Made}
use Rattle.cv_system.specs.Steps.{Still}
use Rattle.cv_system.proofs.Laws.{one_fails}
use Rattle.cv_folder.proofs.Preparing.{not_made}
use Rattle.cv_folder.proofs.making.make_noted.Goals as goal

pub returns-in_err-note-clause-why : goal.returns-in_err-note-clause-why
returns-in_err-note-clause-why g c =
    let p = err_from_is_err_and c.from_residual.result c.from_residual.ensures.1 in
    rw (p.1, p.2) (inl (c.in_err-note.ensures.memory, Still))

pub returns-clause-why : goal.returns-clause-why
returns-clause-why g c = IfErr-weaker c.make_folder.result _ _ (λ error fails. inr fails) (one_fails (Made c.args.folder.now) (λ out. refl) (λ out look. look) c.make_folder.result _ _ c.make_folder.ensures)

pub returns-in_err-note-clause-stops : goal.returns-in_err-note-clause-stops
returns-in_err-note-clause-stops g c = on_err_only c.from_residual.result (inl refl)

pub returns-clause-stops : goal.returns-clause-stops
returns-clause-stops g c = not_made c.args.folder.now c.make_folder.result _ _ c.make_folder.ensures
