use Rattle.std.proofs.lemmas.Result.{err_from_is_err_and}
use Rattle.std.proofs.Common.{◌∙◌, Ok, Some, ap, refl, string_bytes, subst, sym, inr}
use Rattle.std.specs.declared.io.Error.{Error}
use Rattle.cv_system.specs.Names.{path_of}
use Rattle.cv_folder.specs.FolderVaultInner.{FindsNamed}
use Rattle.cv_folder.proofs.Acts.{acts_on, removes_in_vain, removes_lost, removes_named, removes_none}
use Rattle.cv_system.proofs.Laws.{fails_then}
use Rattle.cv_folder.proofs.Growing.{found_grows}
use Rattle.cv_folder.proofs.folder_vault.FolderVault.remove_now.Goals as goal

pub returns-in_err-_found-clause-calls : goal.returns-in_err-_found-clause-calls
returns-in_err-_found-clause-calls g c =
    let p = err_from_is_err_and c.from_residual.result c.from_residual.ensures.1 in
    rw p.1 (acts_on g.S.System.log _ _ _ _ _ c.in_err-_found.ensures.calls refl (λ asked look. removes_lost (string_bytes c.args.self.now.root) c.args.name.now _ asked _ _ _ _ _ look))

pub returns-in-None-clause-calls : goal.returns-in-None-clause-calls
returns-in-None-clause-calls g c =
    acts_on g.S.System.log _ _ _ _ _ (rw c.in-None.is at c.in_ok-_found.ensures.calls) refl (λ asked look. removes_none (string_bytes c.args.self.now.root) c.args.name.now _ asked _ _ _ look)

pub returns-in_err-remove_found-in-Some-clause-calls : goal.returns-in_err-remove_found-in-Some-clause-calls
returns-in_err-remove_found-in-Some-clause-calls g c =
    let p = err_from_is_err_and c.from_residual-in_err-remove_found-in-Some.result c.from_residual-in_err-remove_found-in-Some.ensures.1 in
    let at = (c.in_ok-_found.ensures.path.0.1 ∙ ap (λ root. path_of (string_bytes root) c.args.name.now) c.find.ensures.stays.0) in
    rw p.1 (acts_on g.S.System.log _ _ _ _ _ (rw c.in-Some.is at c.in_ok-_found.ensures.calls) c.remove_found.ensures.hold
    (λ asked has. removes_in_vain (string_bytes c.args.self.now.root) c.args.name.now _ asked c.in-Some._found _ (subst (λ hold. FindsNamed {E = Error} (string_bytes c.args.self.now.root) c.args.name.now hold (Ok (Some c.in-Some._found)) asked (g.S.System.log c.find.new.self.system)) (sym c.remove_found.ensures.hold) has) _ _ _ _ (rw at at c.remove_found.ensures.noted) (rw at at c.in_err-remove_found-in-Some.ensures.calls)))

pub returns-in_ok-remove_found-in-Some-clause-calls : goal.returns-in_ok-remove_found-in-Some-clause-calls
returns-in_ok-remove_found-in-Some-clause-calls g c =
    let at = (c.in_ok-_found.ensures.path.0.1 ∙ ap (λ root. path_of (string_bytes root) c.args.name.now) c.find.ensures.stays.0) in
    acts_on g.S.System.log _ _ _ _ _ (rw c.in-Some.is at c.in_ok-_found.ensures.calls) c.remove_found.ensures.hold
    (λ asked has. removes_named (string_bytes c.args.self.now.root) c.args.name.now _ asked c.in-Some._found _ (subst (λ hold. FindsNamed {E = Error} (string_bytes c.args.self.now.root) c.args.name.now hold (Ok (Some c.in-Some._found)) asked (g.S.System.log c.find.new.self.system)) (sym c.remove_found.ensures.hold) has) _ _ _ (rw at at c.remove_found.ensures.noted) (rw at at c.in_ok-remove_found-in-Some.ensures.calls))

pub returns-in_ok-remove_found-in-Some-clause-noted : goal.returns-in_ok-remove_found-in-Some-clause-noted
returns-in_ok-remove_found-in-Some-clause-noted g c = λ _.
    let at = c.in_ok-_found.ensures.path.0.1 ∙ ap (λ root. path_of (string_bytes root) c.args.name.now) (sym c.remove_found.ensures.adds.0) in
    rw at at c.remove_found.ensures.noted

pub returns-in_err-_found-clause-holds : goal.returns-in_err-_found-clause-holds
returns-in_err-_found-clause-holds g c =
    c.find.ensures.holds

pub returns-in-None-clause-holds : goal.returns-in-None-clause-holds
returns-in-None-clause-holds g c =
    c.find.ensures.holds

pub returns-in_err-_found-clause-why : goal.returns-in_err-_found-clause-why
returns-in_err-_found-clause-why g c =
    let p = err_from_is_err_and c.from_residual.result c.from_residual.ensures.1 in
    rw (p.1, p.2) (c.in_err-_found.ensures.why)

pub returns-in_err-remove_found-in-Some-clause-why : goal.returns-in_err-remove_found-in-Some-clause-why
returns-in_err-remove_found-in-Some-clause-why g c =
    let p = err_from_is_err_and c.from_residual-in_err-remove_found-in-Some.result c.from_residual-in_err-remove_found-in-Some.ensures.1 in
    rw (p.1, p.2) (inr (fails_then (found_grows g.S.System.log c.args.self.now c.find.new.self (string_bytes c.args.self.now.root) c.args.name.now c.find.new.self.hold c.in-Some._found (rw c.in-Some.is at c.in_ok-_found.ensures.calls))
    c.in_err-remove_found-in-Some.ensures.why))
