use Rattle.std.proofs.Common.{sym, string_bytes}
use Rattle.std.proofs.lemmas.Result.{err_from_is_err_and}
use Rattle.cv_system.proofs.Settling.{noted_in_vain, noted_one_more}
use Rattle.cv_system.proofs.syncing.sync_folders.Goals as goal

pub returns-in_err-sync_folder-clause-tries : goal.returns-in_err-sync_folder-clause-tries
returns-in_err-sync_folder-clause-tries g c =
    let p = err_from_is_err_and c.from_residual.result c.from_residual.ensures.1 in
    rw p.1 (noted_in_vain string_bytes c.args.folders.now.items c.loop-folder.folder-index c.folder-item.result
    (rw c.deref-folder-items.ensures.value at c.loop-folder-test.true) (sym (rw c.deref-folder-items.ensures.value at c.folder-item.is))
    c.as_str.result.now c.as_str.ensures.value _ _ _ c.loop-folder.invariant c.in_err-sync_folder.ensures.tries)

pub loop-folder-preserved : goal.loop-folder-preserved
loop-folder-preserved g c =
    noted_one_more string_bytes c.args.folders.now.items c.loop-folder.folder-index c.folder-item.result
    (rw c.deref-folder-items.ensures.value at c.loop-folder-test.true) (sym (rw c.deref-folder-items.ensures.value at c.folder-item.is))
    c.as_str.result.now c.as_str.ensures.value _ _ _ c.loop-folder.invariant c.in_ok-sync_folder.ensures.tries
