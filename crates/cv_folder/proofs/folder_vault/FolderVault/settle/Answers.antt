use Rattle.std.proofs.Common.{◌∙◌, ap, refl, string_bytes}
use Rattle.std.proofs.lemmas.Result.{IfErr-weaker, err_from_is_err_and, on_ok_weaker}
use Rattle.cv_system.specs.Names.{folder_of}
use Rattle.cv_folder.proofs.Filing.{settles_all, settles_nothing}
use Rattle.cv_folder.proofs.Vain.{fails_above, fails_walk, fails_ways}
use Rattle.cv_folder.proofs.folder_vault.FolderVault.settle.Goals as goal

pub returns-then-not-self-clause-calls : goal.returns-then-not-self-clause-calls
returns-then-not-self-clause-calls g c = settles_nothing (string_bytes c.args.self.now.root) c.args.self.now.is_unsettled _ _ c.if-not-self.true refl

pub returns-clause-calls : goal.returns-clause-calls
returns-clause-calls g c =
    on_ok_weaker c.sync_all.result
    (λ settles. settles_all (string_bytes c.args.self.now.root) c.args.self.now.is_unsettled _ _ _ _ c.if-not-self.false
    (rw c.as_str.ensures.value at c.in_ok-sync_ways.ensures)
    (rw (c.folder_of.ensures ∙ ap folder_of c.as_str-2.ensures.value) at c.in_ok-sync_folder.ensures.tries) (rw c.as_str-3.ensures.value at settles))
    c.sync_all.ensures.settles

pub returns-in_err-sync_ways-clause-fails : goal.returns-in_err-sync_ways-clause-fails
returns-in_err-sync_ways-clause-fails g c =
    let p = err_from_is_err_and c.from_residual.result c.from_residual.ensures.1 in
    rw (p.1, p.2) (fails_ways (string_bytes c.args.self.now.root) _ c.args.self.now.is_unsettled _ _ c.if-not-self.false (rw c.as_str.ensures.value at c.in_err-sync_ways.ensures))

pub returns-in_err-sync_folder-clause-fails : goal.returns-in_err-sync_folder-clause-fails
returns-in_err-sync_folder-clause-fails g c =
    let p = err_from_is_err_and c.from_residual-in_err-sync_folder.result c.from_residual-in_err-sync_folder.ensures.1 in
    rw (p.1, p.2) (fails_above (string_bytes c.args.self.now.root) _ c.args.self.now.is_unsettled _ _ _ c.if-not-self.false (rw c.as_str.ensures.value at c.in_ok-sync_ways.ensures)
    (rw (c.folder_of.ensures ∙ ap folder_of c.as_str-2.ensures.value) at c.in_err-sync_folder.ensures.fails))

pub returns-clause-fails : goal.returns-clause-fails
returns-clause-fails g c =
    IfErr-weaker c.sync_all.result _ _
    (λ unsynced fails. fails_walk (string_bytes c.args.self.now.root) unsynced c.args.self.now.is_unsettled _ _ _ c.if-not-self.false (rw c.as_str.ensures.value at c.in_ok-sync_ways.ensures) _
    (rw (c.folder_of.ensures ∙ ap folder_of c.as_str-2.ensures.value) at c.in_ok-sync_folder.ensures.tries) (rw c.as_str-3.ensures.value at fails))
    c.sync_all.ensures.fails
