use Rattle.std.proofs.Common.{ap, ◌∙◌}
use Rattle.std.specs.Str.{bytes_eq}
use Rattle.cv_vault.proofs.Calming.{calm_sync, calm_reads}
use Rattle.cv_vault.proofs.Quiet.{quiet_call}
use Rattle.cv_vault.proofs.Replacing.{finds, found_some}
use Rattle.cv_vault.proofs.files.is_sure.Goals as goal

pub returns-in-Some-clause-walks : goal.returns-in-Some-clause-walks
returns-in-Some-clause-walks g c = λ d e. finds c.args.name.now c.args.bytes.now (g.met.V.Vault.only_now c.args.vault.now) (g.met.V.Vault.only_now c.sync.new.self) e c.in_ok-sync.ensures.call _ _ c.in_ok-read.ensures.call (found_some c.args.name.now c.args.bytes.now c.in-Some.found _ c.eq.result c.in-Some.is (c.eq.ensures ∙ ap (λ x. bytes_eq x c.args.bytes.now) c.as_slice.ensures))

pub returns-in-None-clause-calm : goal.returns-in-None-clause-calm
returns-in-None-clause-calm g c = calm_reads (quiet_call (λ d d' h. h.0) c.in_ok-read.ensures.call) (calm_sync c.in_ok-sync.ensures.call)

pub returns-in-Some-clause-calm : goal.returns-in-Some-clause-calm
returns-in-Some-clause-calm g c = calm_reads (quiet_call (λ d d' h. h.0) c.in_ok-read.ensures.call) (calm_sync c.in_ok-sync.ensures.call)
