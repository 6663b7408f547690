use Rattle.cv_vault.specs.Disk.{files_now}
use Rattle.cv_swap.specs.Stands.{head_name}
use Rattle.cv_swap.proofs.Finding.{file_now, finds_head, unread_head, head_read}
use Rattle.cv_swap.proofs.Opens.{vault_fault}
use Rattle.cv_swap.proofs.opening.read_head.Goals as goal

pub returns-in-Some-clause-told : goal.returns-in-Some-clause-told
returns-in-Some-clause-told g c = λ d e. finds_head c.args.name.now (g.S.Signer.is_seal c.args.signer.now) (files_now d) c.in-Some.bytes c.read_manifest.result (file_now head_name _ _ d e c.in_ok-bytes.ensures.call c.in-Some.is) c.read_manifest.ensures

pub returns-in-None-clause-told : goal.returns-in-None-clause-told
returns-in-None-clause-told g c = λ d e. file_now head_name _ _ d e c.in_ok-bytes.ensures.call c.in-None.is

pub returns-in-Some-clause-head : goal.returns-in-Some-clause-head
returns-in-Some-clause-head g c = head_read c.args.name.now (g.S.Signer.is_seal c.args.signer.now) c.in-Some.bytes c.read_manifest.result c.read_manifest.ensures

pub returns-in_err-bytes-clause-told : goal.returns-in_err-bytes-clause-told
returns-in_err-bytes-clause-told g c = λ d e. unread_head c.args.name.now (g.S.Signer.is_seal c.args.signer.now) (files_now d) _ c.in_err-bytes.field-0.0 (vault_fault _ _ c.from_residual.ensures.1)
