use Rattle.std.proofs.Common.{◌∙◌}
use Rattle.cv_base.proofs.Laws.{handed_on}
use Rattle.cv_swap.proofs.Building.{beside, beside_not}
use Rattle.cv_swap.proofs.Names.{epoch_way_not_data, head_way_not_data}
use Rattle.cv_swap.proofs.publishing.put_beside.Goals as goal

pub returns-in_err-write_file-clause-walks : goal.returns-in_err-write_file-clause-walks
returns-in_err-write_file-clause-walks g c = λ d e. beside_not c.args.manifest.now _ (c.as_bytes.ensures.value ∙ c.in_ok-text.ensures) (g.met.V.Vault.only_now c.args.objects.now.vault) e c.in_err-write_file.field-0.0 _ (handed_on _ _ c.from_residual-in_err-write_file.ensures.1) c.in_err-write_file.ensures.call

pub returns-clause-walks : goal.returns-clause-walks
returns-clause-walks g c = λ d e. beside c.args.manifest.now _ (c.as_bytes.ensures.value ∙ c.in_ok-text.ensures) (g.met.V.Vault.only_now c.args.objects.now.vault) e c.write_file-2.result (g.met.V.Vault.only_now c.write_file.new.self.vault) c.in_ok-write_file.ensures.call c.write_file-2.ensures.call

pub returns-in_err-write_file-clause-silent : goal.returns-in_err-write_file-clause-silent
returns-in_err-write_file-clause-silent g c = λ e. c.in_err-write_file.ensures.call.silent e

pub returns-clause-silent : goal.returns-clause-silent
returns-clause-silent g c = λ e. c.write_file-2.ensures.call.silent (c.in_ok-write_file.ensures.call.silent e)

pub write_file-requires : goal.write_file-requires
write_file-requires g c = record { plain = epoch_way_not_data }

pub write_file-requires-2 : goal.write_file-requires-2
write_file-requires-2 g c = record { plain = head_way_not_data }
