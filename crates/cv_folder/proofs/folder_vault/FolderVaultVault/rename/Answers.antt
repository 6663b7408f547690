use Rattle.std.proofs.Common.{refl, string_bytes}
use Rattle.std.specs.Prelude.{bytes_eq}
use Rattle.cv_folder.proofs.Acts.{moves_done, moves_fault}
use Rattle.cv_folder.proofs.Faults.{told_so}
use Rattle.std.proofs.lemmas.Slice.Eq.{bytes_eq-Decides}
use Rattle.cv_system.specs.Names.{is_name}
use Rattle.cv_system.proofs.Laws.{no_step}
use Rattle.cv_folder.proofs.Within.{acts_within, either_way, moves_within}
use Rattle.cv_folder.proofs.folder_vault.FolderVaultVault.rename.Goals as goal

pub returns-in-Ok-clause-calls : goal.returns-in-Ok-clause-calls
returns-in-Ok-clause-calls g c = λ differ named. moves_done _ _ g.S.System.log _ _ _ _ _ _ _ _ (c.in-Ok.ensures.calls differ named)

pub returns-in-Err-clause-calls : goal.returns-in-Err-clause-calls
returns-in-Err-clause-calls g c = λ differ named.
    rw c.fault_of.ensures.stays.1
    (moves_fault g.S.System.log _ _ _ c.fault_of.ensures.hold c.fault_of.ensures.calls _ _ (string_bytes c.args.self.now.root) c.args.from.now c.args.to.now _ (c.in-Err.ensures.calls differ named))

pub returns-in-Err-clause-why : goal.returns-in-Err-clause-why
returns-in-Err-clause-why g c = rw (c.fault_of.ensures.calls, c.fault_of.ensures.hold) (told_so _ c.fault_of.result c.in-Err.error c.fault_of.ensures.memory c.in-Err.ensures.why)

pub returns-in-Ok-clause-within : goal.returns-in-Ok-clause-within
returns-in-Ok-clause-within g c =
    either_way c.args.from.now c.args.to.now (bytes_eq c.args.from.now c.args.to.now) (bytes_eq-Decides c.args.from.now c.args.to.now) (is_name c.args.to.now) refl
    (λ differ named. acts_within g.S.System.log _ _ _ (λ asked act. moves_within (string_bytes c.args.self.now.root) c.args.from.now c.args.to.now _ _ asked _ _ act) (c.in-Ok.ensures.calls differ named))
    (λ same. no_step (c.in-Ok.ensures.rests same).0)

pub returns-in-Err-clause-within : goal.returns-in-Err-clause-within
returns-in-Err-clause-within g c =
    rw c.fault_of.ensures.calls
    (either_way c.args.from.now c.args.to.now (bytes_eq c.args.from.now c.args.to.now) (bytes_eq-Decides c.args.from.now c.args.to.now) (is_name c.args.to.now) refl
    (λ differ named. acts_within g.S.System.log _ _ _ (λ asked act. moves_within (string_bytes c.args.self.now.root) c.args.from.now c.args.to.now _ _ asked _ _ act) (c.in-Err.ensures.calls differ named))
    (λ same. no_step (c.in-Err.ensures.rests same).0))
