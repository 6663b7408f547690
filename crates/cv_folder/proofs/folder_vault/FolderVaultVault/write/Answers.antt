use Rattle.std.proofs.Common.{◌∙◌, refl, string_bytes}
use Rattle.cv_folder.proofs.Acts.{asks_still}
use Rattle.cv_folder.proofs.Filing.{writes_by_then}
use Rattle.cv_folder.proofs.Notes.{stays_noted}
use Rattle.cv_folder.proofs.Faults.{told_so}
use Rattle.cv_folder.proofs.Within.{writes_whole, writes_within}
use Rattle.cv_folder.proofs.folder_vault.FolderVaultVault.write.Goals as goal

pub returns-in-Err-clause-calls : goal.returns-in-Err-clause-calls
returns-in-Err-clause-calls g c =
    rw (c.fault_of.ensures.calls, c.fault_of.ensures.hold)
    (writes_by_then _ _ _ _ _ _ _ _ _ _ _ _ c.fault_of.ensures.stays.2 (λ folder noted. stays_noted _ _ folder folder c.fault_of.ensures.stays.1 refl noted) c.in-Err.ensures.calls)

pub returns-in-Err-clause-no_name : goal.returns-in-Err-clause-no_name
returns-in-Err-clause-no_name g c = λ never. asks_still g.S.System.log _ _ _ (c.write_now.ensures.no_name never) c.fault_of.ensures.hold c.fault_of.ensures.calls

pub returns-in-Err-clause-holds : goal.returns-in-Err-clause-holds
returns-in-Err-clause-holds g c =
    λ there asked. c.fault_of.ensures.hold ∙ c.in-Err.ensures.holds there asked

pub returns-in-Err-clause-why : goal.returns-in-Err-clause-why
returns-in-Err-clause-why g c = rw (c.fault_of.ensures.calls, c.fault_of.ensures.hold) (told_so _ c.fault_of.result c.in-Err.error c.fault_of.ensures.memory c.in-Err.ensures.why)

pub returns-in-Ok-clause-within : goal.returns-in-Ok-clause-within
returns-in-Ok-clause-within g c = writes_within (string_bytes c.args.self.now.root) c.args.name.now c.args.bytes.now _ _ _ _ _ _ _ c.in-Ok.ensures.calls

pub returns-in-Err-clause-within : goal.returns-in-Err-clause-within
returns-in-Err-clause-within g c = rw c.fault_of.ensures.calls (writes_within (string_bytes c.args.self.now.root) c.args.name.now c.args.bytes.now _ _ _ _ _ _ _ c.in-Err.ensures.calls)

pub returns-in-Ok-clause-whole : goal.returns-in-Ok-clause-whole
returns-in-Ok-clause-whole g c = writes_whole (string_bytes c.args.self.now.root) c.args.name.now c.args.bytes.now _ _ _ _ _ _ _ c.in-Ok.ensures.calls

pub returns-in-Err-clause-whole : goal.returns-in-Err-clause-whole
returns-in-Err-clause-whole g c = rw c.fault_of.ensures.calls (writes_whole (string_bytes c.args.self.now.root) c.args.name.now c.args.bytes.now _ _ _ _ _ _ _ c.in-Err.ensures.calls)
