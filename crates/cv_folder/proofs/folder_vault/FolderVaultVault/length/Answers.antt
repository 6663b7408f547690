use Rattle.std.proofs.Common.{string_bytes}
use Rattle.cv_folder.proofs.Acts.{measures_done, measures_fault}
use Rattle.cv_folder.proofs.Faults.{told_so}
use Rattle.cv_folder.proofs.Within.{acts_within, measures_within}
use Rattle.cv_folder.proofs.folder_vault.FolderVaultVault.length.Goals as goal

pub returns-in-Err-clause-calls : goal.returns-in-Err-clause-calls
returns-in-Err-clause-calls g c =
    measures_fault g.S.System.log _ _ _ c.fault_of.ensures.hold c.fault_of.ensures.calls _ _ (string_bytes c.args.self.now.root) c.args.name.now c.in-Err.ensures.calls

pub returns-in-Ok-clause-calls : goal.returns-in-Ok-clause-calls
returns-in-Ok-clause-calls g c = measures_done _ _ g.S.System.log _ _ _ _ _ _ c.in-Ok.ensures.calls

pub returns-in-Err-clause-why : goal.returns-in-Err-clause-why
returns-in-Err-clause-why g c = rw (c.fault_of.ensures.calls, c.fault_of.ensures.hold) (told_so _ c.fault_of.result c.in-Err.error c.fault_of.ensures.memory c.in-Err.ensures.why)

pub returns-in-Ok-clause-within : goal.returns-in-Ok-clause-within
returns-in-Ok-clause-within g c = acts_within g.S.System.log _ _ _ (λ asked act. measures_within (string_bytes c.args.self.now.root) c.args.name.now _ asked _ _ act) c.in-Ok.ensures.calls

pub returns-in-Err-clause-within : goal.returns-in-Err-clause-within
returns-in-Err-clause-within g c = rw c.fault_of.ensures.calls (acts_within g.S.System.log _ _ _ (λ asked act. measures_within (string_bytes c.args.self.now.root) c.args.name.now _ asked _ _ act) c.in-Err.ensures.calls)
