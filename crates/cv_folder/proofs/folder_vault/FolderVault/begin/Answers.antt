use Rattle.cv_folder.proofs.Acts.{asks_still}
use Rattle.std.proofs.lemmas.Result.{err_from_is_err_and}
use Rattle.std.proofs.Common.{inl, string_bytes, subst}
use Rattle.cv_folder.proofs.Reasons.{unheld_so, unset_so}
use Rattle.cv_folder.specs.Causes.{IsRefused}
use Rattle.cv_folder.proofs.folder_vault.FolderVault.begin.Goals as goal

pub returns-in_err-set_path-clause-asks : goal.returns-in_err-set_path-clause-asks
returns-in_err-set_path-clause-asks g c = asks_still g.S.System.log _ _ _ c.is_held.ensures.asks c.set_path.ensures.hold c.set_path.ensures.calls

pub returns-clause-asks : goal.returns-clause-asks
returns-clause-asks g c = asks_still g.S.System.log _ _ _ c.is_held.ensures.asks c.set_path.ensures.hold c.set_path.ensures.calls

pub returns-in_err-held-clause-why : goal.returns-in_err-held-clause-why
returns-in_err-held-clause-why g c =
    let p = err_from_is_err_and c.from_residual.result c.from_residual.ensures.1 in
    rw (p.1, p.2) (unheld_so (string_bytes c.args.self.now.root) c.args.name.now _ _ _ _ c.in_err-held.ensures.why)

pub returns-in_err-set_path-clause-why : goal.returns-in_err-set_path-clause-why
returns-in_err-set_path-clause-why g c =
    let p = err_from_is_err_and c.from_residual-in_err-set_path.result c.from_residual-in_err-set_path.ensures.1 in
    rw (p.1, p.2) (inl (
      c.in_err-set_path.ensures.kind,
      subst (λ root. IsRefused (string_bytes root) c.args.name.now c.set_path.new.self.hold) c.is_held.ensures.stays.0
          (unset_so _ c.args.name.now c.set_path.new.self.hold c.set_path.result c.set_path.ensures.ok _ c.in_err-set_path.was),
    ))
