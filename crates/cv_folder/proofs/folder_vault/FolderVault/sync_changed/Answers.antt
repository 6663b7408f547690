use Rattle.std.proofs.lemmas.Result.{err_from_is_err_and}
use Rattle.std.proofs.Common.{map, string_bytes}
use Rattle.cv_folder.proofs.Filing.{syncs_all}
use Rattle.cv_folder.proofs.Vain.{not_ended, not_first, not_noted}
use Rattle.cv_folder.proofs.folder_vault.FolderVault.sync_changed.Goals as goal

pub returns-clause-calls : goal.returns-clause-calls
returns-clause-calls g c =
    syncs_all (string_bytes c.args.self.now.root) c.args.self.now.is_unsettled (map string_bytes c.args.self.now.folders.items) _ _ _ _ c.sync_folders.result
    c.in_ok-end_begun.ensures.tries c.in_ok-settle.ensures.calls (rw c.settle.ensures.stays.1 at c.sync_folders.ensures.tries)

pub returns-in_err-end_begun-clause-fails : goal.returns-in_err-end_begun-clause-fails
returns-in_err-end_begun-clause-fails g c =
    let p = err_from_is_err_and c.from_residual.result c.from_residual.ensures.1 in
    rw (p.1, p.2) (not_ended (string_bytes c.args.self.now.root) _ c.args.self.now.is_unsettled (map string_bytes c.args.self.now.folders.items) _ _ c.in_err-end_begun.ensures.lost
    c.in_err-end_begun.ensures.tries)

pub returns-in_err-settle-clause-fails : goal.returns-in_err-settle-clause-fails
returns-in_err-settle-clause-fails g c =
    let p = err_from_is_err_and c.from_residual-in_err-settle.result c.from_residual-in_err-settle.ensures.1 in
    rw (p.1, p.2) (not_first (string_bytes c.args.self.now.root) _ c.args.self.now.is_unsettled (map string_bytes c.args.self.now.folders.items) _ _ _ c.in_ok-end_begun.ensures.tries
    c.in_err-settle.ensures.fails)

pub returns-clause-fails : goal.returns-clause-fails
returns-clause-fails g c =
    not_noted (string_bytes c.args.self.now.root) c.args.self.now.is_unsettled (map string_bytes c.args.self.now.folders.items) _ _ _ _ c.sync_folders.result
    c.in_ok-end_begun.ensures.tries c.in_ok-settle.ensures.calls (rw c.settle.ensures.stays.1 at c.sync_folders.ensures.tries) c.sync_folders.ensures.fails
