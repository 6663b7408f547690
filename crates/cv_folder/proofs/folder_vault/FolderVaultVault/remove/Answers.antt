use Rattle.std.proofs.Common.{string_bytes}
use Rattle.cv_folder.proofs.Acts.{removes_done, removes_fault}
use Rattle.cv_folder.proofs.Within.{acts_within, removes_within}
use Rattle.cv_folder.proofs.folder_vault.FolderVaultVault.remove.Goals as goal

pub returns-in-Err-clause-calls : goal.returns-in-Err-clause-calls
returns-in-Err-clause-calls g c =
    rw c.fault.ensures.stays.1
    (removes_fault g.S.System.log _ _ _ c.fault.ensures.hold c.fault.ensures.calls _ _ (string_bytes c.args.self.now.root) c.args.name.now _ _ _ c.fault.ensures.stays.2 c.in-Err.ensures.calls)

pub returns-in-Ok-clause-calls : goal.returns-in-Ok-clause-calls
returns-in-Ok-clause-calls g c = removes_done _ _ g.S.System.log _ _ _ _ _ _ _ _ c.in-Ok.ensures.calls

pub returns-in-Err-clause-why : goal.returns-in-Err-clause-why
returns-in-Err-clause-why g c = rw (c.fault.ensures.calls, c.fault.ensures.hold) (_, c.in-Err.ensures.why)

pub returns-in-Ok-clause-within : goal.returns-in-Ok-clause-within
returns-in-Ok-clause-within g c = acts_within g.S.System.log _ _ _ (λ asked act. removes_within (string_bytes c.args.self.now.root) c.args.name.now _ asked _ _ _ _ act) c.in-Ok.ensures.calls

pub returns-in-Err-clause-within : goal.returns-in-Err-clause-within
returns-in-Err-clause-within g c = rw c.fault.ensures.calls (acts_within g.S.System.log _ _ _ (λ asked act. removes_within (string_bytes c.args.self.now.root) c.args.name.now _ asked _ _ _ _ act) c.in-Err.ensures.calls)
