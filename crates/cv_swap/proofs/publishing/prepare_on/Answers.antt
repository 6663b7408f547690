use Rattle.cv_vault.proofs.Laws.{looser}
use Rattle.cv_objects.proofs.Lemmas.{handed_on, outside, same_fault, refusal_inside}
use Rattle.cv_swap.proofs.Publish.{prepared_failed, then_manifest, then_prepared, then_unwritten, then_unsettled}
use Rattle.cv_swap.proofs.Views.{refusal_as}
use Rattle.cv_swap.proofs.Names.{head_way_not_data}
use Rattle.cv_swap.proofs.publishing.prepare_on.Goals as goal

pub returns-in_err-shelve_absent-clause-walks : goal.returns-in_err-shelve_absent-clause-walks
returns-in_err-shelve_absent-clause-walks g c = λ d e. looser (c.in_err-shelve_absent.ensures.walks d e) (λ n f b. b) (λ d1 gains s. prepared_failed d c.args.batch.now c.args.manifest.now d1 _ _ (same_fault _ _ c.from_residual.ensures.1) s)

pub returns-in_err-write_file-clause-walks : goal.returns-in_err-write_file-clause-walks
returns-in_err-write_file-clause-walks g c = λ d e. then_unwritten c.args.batch.now c.args.manifest.now _ c.in_err-write_file.field-0.0 (handed_on _ _ c.from_residual-in_err-write_file.ensures.1) (g.met.V.Vault.only_now c.shelve_absent.new.objects.vault) (c.in_ok-shelve_absent.ensures.walks d e) c.in_err-write_file.ensures.call

pub returns-in_err-settle-clause-walks : goal.returns-in_err-settle-clause-walks
returns-in_err-settle-clause-walks g c = λ d e.
    let w = then_manifest c.args.batch.now c.args.manifest.now c.requires.named (g.met.V.Vault.only_now c.shelve_absent.new.objects.vault) (c.in_ok-shelve_absent.ensures.walks d e) c.in_ok-write_file.ensures.call in
    then_unsettled c.args.batch.now c.args.manifest.now _ c.in_err-settle.field-0.0 (handed_on _ _ c.from_residual-in_err-settle.ensures.1) (g.met.V.Vault.only_now c.write_file.new.self.vault) w c.in_err-settle.ensures.call

pub returns-clause-walks : goal.returns-clause-walks
returns-clause-walks g c = λ d e.
    let w = then_manifest c.args.batch.now c.args.manifest.now c.requires.named (g.met.V.Vault.only_now c.shelve_absent.new.objects.vault) (c.in_ok-shelve_absent.ensures.walks d e) c.in_ok-write_file.ensures.call in
    then_prepared c.args.batch.now c.args.manifest.now (g.met.V.Vault.only_now c.write_file.new.self.vault) w c.in_ok-settle.ensures.call

pub returns-clause-free : goal.returns-clause-free
returns-clause-free g c = λ d told all. record {
  looked = c.shelve_absent.new.objects.vault;
  written = c.write_file.new.self.vault;
  reads = c.in_ok-shelve_absent.ensures.reads d told all;
  writes = c.in_ok-write_file.ensures.call;
  syncs = c.in_ok-settle.ensures.call;
}

pub returns-in_err-shelve_absent-clause-refused : goal.returns-in_err-shelve_absent-clause-refused
returns-in_err-shelve_absent-clause-refused g c = λ refusal. c.in_err-shelve_absent.ensures.refused (refusal_as (Unit {0}) _ _ (same_fault _ _ c.from_residual.ensures.1) refusal)

pub returns-in_err-write_file-clause-refused : goal.returns-in_err-write_file-clause-refused
returns-in_err-write_file-clause-refused g c = λ refusal. absurd (refusal_inside _ _ (handed_on _ _ c.from_residual-in_err-write_file.ensures.1) (outside c.in_err-write_file.field-0.0) refusal)

pub returns-in_err-settle-clause-refused : goal.returns-in_err-settle-clause-refused
returns-in_err-settle-clause-refused g c = λ refusal. absurd (refusal_inside _ _ (handed_on _ _ c.from_residual-in_err-settle.ensures.1) (outside c.in_err-settle.field-0.0) refusal)

pub returns-clause-refused : goal.returns-clause-refused
returns-clause-refused g c = λ refusal. absurd refusal

pub returns-in_err-write_file-clause-silent : goal.returns-in_err-write_file-clause-silent
returns-in_err-write_file-clause-silent g c = λ e. c.in_err-write_file.ensures.call.silent (c.in_ok-shelve_absent.ensures.silent e)

pub returns-in_err-settle-clause-silent : goal.returns-in_err-settle-clause-silent
returns-in_err-settle-clause-silent g c = λ e. c.in_err-settle.ensures.call.silent (c.in_ok-write_file.ensures.call.silent (c.in_ok-shelve_absent.ensures.silent e))

pub returns-clause-silent : goal.returns-clause-silent
returns-clause-silent g c = λ e. c.in_ok-settle.ensures.call.silent (c.in_ok-write_file.ensures.call.silent (c.in_ok-shelve_absent.ensures.silent e))

pub write_file-requires : goal.write_file-requires
write_file-requires g c = record { plain = head_way_not_data }
