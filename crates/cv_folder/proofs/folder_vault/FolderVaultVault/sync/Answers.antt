use Rattle.cv_folder.proofs.Vain.{fails_counted}
use Rattle.cv_folder.proofs.Within.{sync_within, vain_sync_within}
use Rattle.cv_folder.proofs.folder_vault.FolderVaultVault.sync.Goals as goal

pub returns-in-Err-clause-vain : goal.returns-in-Err-clause-vain
returns-in-Err-clause-vain g c = fails_counted g.S.System.log _ _ _ c.fault.ensures.stays c.fault.ensures.hold c.fault.ensures.calls c.in-Err.ensures.vain

pub returns-in-Ok-clause-within : goal.returns-in-Ok-clause-within
returns-in-Ok-clause-within g c = sync_within g.S.System.log _ _ c.in-Ok.ensures.calls

pub returns-in-Err-clause-within : goal.returns-in-Err-clause-within
returns-in-Err-clause-within g c = rw c.fault.ensures.calls (vain_sync_within g.S.System.log _ _ c.in-Err.ensures.vain)
