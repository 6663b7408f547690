use Rattle.std.proofs.Common.{◌∙◌, map, refl, string_bytes, subst, sym}
use Rattle.std.proofs.lemmas.Result.{on_ok_weaker}
use Rattle.cv_base.proofs.Laws.{on_err_only}
use Rattle.cv_folder.specs.Hold.{IsHeld}
use Rattle.cv_folder.proofs.Acts.{acts_so}
use Rattle.cv_folder.proofs.Filing.{not_both, sync_done, syncs_nothing}
use Rattle.cv_folder.proofs.Vain.{fails_broken, fails_ended, fails_unheld}
use Rattle.cv_folder.proofs.folder_vault.FolderVault.sync_now.Goals as goal

pub returns-then-not-branch-clause-calls : goal.returns-then-not-branch-clause-calls
returns-then-not-branch-clause-calls g c =
    acts_so g.S.System.log _ _ _ _ c.is_held.ensures.asks refl
    (syncs_nothing (string_bytes c.args.self.now.root) c.args.self.now.hold _ c.args.self.now.is_unsettled (map string_bytes c.args.self.now.folders.items) _ _ (rw c.if-not-branch.true at c.in_ok-is_held.ensures.held) refl)

pub returns-clause-calls : goal.returns-clause-calls
returns-clause-calls g c =
    sync_done g.S.System.log c.args.self.now c.is_held.new.self c.sync_changed-done.new.self c.end_sync.new.self c.sync_changed-done.result c.end_sync.result c.is_held.ensures.asks
    (rw c.if-not-branch.false at c.in_ok-is_held.ensures.held) (c.is_held.ensures.all (rw c.if-not-branch.false at c.in_ok-is_held.ensures.held))
    c.is_held.ensures.stays.0 c.is_held.ensures.stays.1 c.sync_changed-done.ensures.calls (c.end_sync.ensures.hold ∙ c.sync_changed-done.ensures.hold) c.end_sync.ensures.calls c.end_sync.ensures.ok.0

pub returns-then-not-branch-clause-cleared : goal.returns-then-not-branch-clause-cleared
returns-then-not-branch-clause-cleared g c =
    (λ held. absurd (not_both c.is_held.new.self.hold held (rw c.if-not-branch.true at c.in_ok-is_held.ensures.held)), λ absent. c.is_held.ensures.stays)

pub returns-clause-cleared : goal.returns-clause-cleared
returns-clause-cleared g c =
    on_ok_weaker c.end_sync.result
    (λ done. (λ held. done, λ absent. absurd (not_both c.end_sync.new.self.hold (subst IsHeld (sym (c.end_sync.ensures.hold ∙ c.sync_changed-done.ensures.hold)) (rw c.if-not-branch.false at c.in_ok-is_held.ensures.held)) absent)))
    c.end_sync.ensures.done

pub returns-then-self-clause-vain : goal.returns-then-self-clause-vain
returns-then-self-clause-vain g c = fails_broken g.S.System.log c.args.self.now c.args.self.now c.args.self.now c.if-self.true (refl, refl, (refl, refl, λ is. is, refl))

pub returns-in_err-is_held-clause-vain : goal.returns-in_err-is_held-clause-vain
returns-in_err-is_held-clause-vain g c =
    on_err_only c.from_residual.result
    (fails_unheld g.S.System.log c.args.self.now c.is_held.new.self c.is_held.new.self c.if-self.false c.is_held.ensures.asks c.in_err-is_held.ensures.fails (c.is_held.ensures.stays.3 ∙ c.if-self.false))

pub returns-clause-vain : goal.returns-clause-vain
returns-clause-vain g c =
    fails_ended g.S.System.log c.args.self.now c.is_held.new.self c.sync_changed-done.new.self c.end_sync.new.self c.sync_changed-done.result c.end_sync.result c.if-self.false c.is_held.ensures.asks
    (rw c.if-not-branch.false at c.in_ok-is_held.ensures.held) (c.is_held.ensures.all (rw c.if-not-branch.false at c.in_ok-is_held.ensures.held))
    c.is_held.ensures.stays.0 c.is_held.ensures.stays.1 c.sync_changed-done.ensures.fails (c.end_sync.ensures.hold ∙ c.sync_changed-done.ensures.hold) c.end_sync.ensures.calls c.end_sync.ensures.broken
    (c.sync_changed-done.ensures.stays.3 ∙ c.is_held.ensures.stays.3 ∙ c.if-self.false) c.end_sync.ensures.ok.1
