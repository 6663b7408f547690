use Rattle.cv_vault.proofs.Laws.{looser}
use Rattle.cv_objects.proofs.Lemmas.{handed_on, outside, same_fault, refusal_inside}
use Rattle.cv_swap.specs.Stands.{epoch_text}
use Rattle.cv_swap.specs.Publishing.{the_epoch}
use Rattle.cv_swap.proofs.Building.{built_refused, then_beside, then_objects, then_epoch, then_built, then_unbuilt, then_unbrought, then_unsettled}
use Rattle.cv_swap.proofs.Bringing.{told_end}
use Rattle.cv_swap.proofs.Names.{epoch_not_data}
use Rattle.cv_swap.proofs.publishing.build_first.Goals as goal

pub returns-in_err-put-clause-walks : goal.returns-in_err-put-clause-walks
returns-in_err-put-clause-walks g c = λ d e. looser (c.in_err-put.ensures.walks d e) (λ n f b. absurd b) (λ d1 gains s. built_refused d c.args.batch.now c.args.manifest.now d1 _ _ (same_fault _ _ c.from_residual.ensures.1) s.0 gains)

pub returns-in_err-put_beside-clause-walks : goal.returns-in_err-put_beside-clause-walks
returns-in_err-put_beside-clause-walks g c = λ d e. then_unbuilt c.args.batch.now c.args.manifest.now _ _ (handed_on _ _ c.from_residual-in_err-put_beside.ensures.1) (outside c.in_err-put_beside.field-0.0) (λ n f b. absurd b)
    (c.in_ok-put.ensures.walks d e) (λ d1 told put. c.in_err-put_beside.ensures.walks d1 told) (λ d1 gains n f b. absurd b)

pub bring-requires-clause-ready : goal.bring-requires-clause-ready
bring-requires-clause-ready g c = λ d' told.
    (told_end (λ e. c.in_ok-put_beside.ensures.silent (c.in_ok-put.ensures.others.silent e))
    (λ d e. then_beside c.args.batch.now c.args.manifest.now c.requires.named (c.in_ok-put.ensures.walks d e) c.in_ok-put_beside.ensures.walks) d' told).ready

pub returns-in_err-bring-clause-walks : goal.returns-in_err-bring-clause-walks
returns-in_err-bring-clause-walks g c = λ d e.
    let w = then_beside c.args.batch.now c.args.manifest.now c.requires.named (c.in_ok-put.ensures.walks d e) c.in_ok-put_beside.ensures.walks in
    then_unbrought c.args.batch.now c.args.manifest.now _ _ (same_fault _ _ c.from_residual-in_err-bring.ensures.1) w c.in_err-bring.ensures.walks

pub returns-in_err-bring_file-clause-walks : goal.returns-in_err-bring_file-clause-walks
returns-in_err-bring_file-clause-walks g c = λ d e.
    let w1 = then_beside c.args.batch.now c.args.manifest.now c.requires.named (c.in_ok-put.ensures.walks d e) c.in_ok-put_beside.ensures.walks in
    let w2 = then_objects c.args.batch.now c.args.manifest.now c.requires.named w1 c.in_ok-bring.ensures.walks in
    then_unbuilt c.args.batch.now c.args.manifest.now _ _ (handed_on _ _ c.from_residual-in_err-bring_file.ensures.1) (outside c.in_err-bring_file.field-0.0) (λ n f b. b)
    w2 (λ d1 told are. c.in_err-bring_file.ensures.walks d1 told (epoch_text 0) are.epoch) (λ d1 gains n f b. the_epoch b)

pub returns-in_err-settle-clause-walks : goal.returns-in_err-settle-clause-walks
returns-in_err-settle-clause-walks g c = λ d e.
    let w1 = then_beside c.args.batch.now c.args.manifest.now c.requires.named (c.in_ok-put.ensures.walks d e) c.in_ok-put_beside.ensures.walks in
    let w2 = then_objects c.args.batch.now c.args.manifest.now c.requires.named w1 c.in_ok-bring.ensures.walks in
    let w3 = then_epoch c.args.batch.now c.args.manifest.now w2 c.in_ok-bring_file.ensures.walks in
    then_unsettled c.args.batch.now c.args.manifest.now _ c.in_err-settle.field-0.0 (handed_on _ _ c.from_residual-in_err-settle.ensures.1) (g.met.V.Vault.only_now c.bring_file.new.self.vault) w3 c.in_err-settle.ensures.call

pub returns-clause-walks : goal.returns-clause-walks
returns-clause-walks g c = λ d e.
    let w1 = then_beside c.args.batch.now c.args.manifest.now c.requires.named (c.in_ok-put.ensures.walks d e) c.in_ok-put_beside.ensures.walks in
    let w2 = then_objects c.args.batch.now c.args.manifest.now c.requires.named w1 c.in_ok-bring.ensures.walks in
    let w3 = then_epoch c.args.batch.now c.args.manifest.now w2 c.in_ok-bring_file.ensures.walks in
    then_built c.args.batch.now c.args.manifest.now (g.met.V.Vault.only_now c.bring_file.new.self.vault) w3 c.in_ok-settle.ensures.call

pub returns-in_err-put-clause-refused : goal.returns-in_err-put-clause-refused
returns-in_err-put-clause-refused g c = λ refusal d e. looser (c.in_err-put.ensures.walks d e) (λ n f b. b) (λ d1 gains shown. tt)

pub returns-in_err-put_beside-clause-refused : goal.returns-in_err-put_beside-clause-refused
returns-in_err-put_beside-clause-refused g c = λ refusal. absurd (refusal_inside _ _ (handed_on _ _ c.from_residual-in_err-put_beside.ensures.1) (outside c.in_err-put_beside.field-0.0) refusal)

pub returns-in_err-bring_file-clause-refused : goal.returns-in_err-bring_file-clause-refused
returns-in_err-bring_file-clause-refused g c = λ refusal. absurd (refusal_inside _ _ (handed_on _ _ c.from_residual-in_err-bring_file.ensures.1) (outside c.in_err-bring_file.field-0.0) refusal)

pub returns-in_err-settle-clause-refused : goal.returns-in_err-settle-clause-refused
returns-in_err-settle-clause-refused g c = λ refusal. absurd (refusal_inside _ _ (handed_on _ _ c.from_residual-in_err-settle.ensures.1) (outside c.in_err-settle.field-0.0) refusal)

pub returns-in_err-bring-clause-refused : goal.returns-in_err-bring-clause-refused
returns-in_err-bring-clause-refused g c = λ refusal d e.
    let w = then_beside c.args.batch.now c.args.manifest.now c.requires.named (c.in_ok-put.ensures.walks d e) c.in_ok-put_beside.ensures.walks in
    absurd (refusal_inside _ _ (same_fault _ _ c.from_residual-in_err-bring.ensures.1) (c.in_err-bring.ensures.walks w.end w.told).is refusal)

pub returns-clause-refused : goal.returns-clause-refused
returns-clause-refused g c = λ refusal. absurd refusal

pub returns-in_err-put-clause-silent : goal.returns-in_err-put-clause-silent
returns-in_err-put-clause-silent g c = λ e. c.in_err-put.ensures.others.silent e

pub returns-in_err-put_beside-clause-silent : goal.returns-in_err-put_beside-clause-silent
returns-in_err-put_beside-clause-silent g c = λ e. c.in_err-put_beside.ensures.silent (c.in_ok-put.ensures.others.silent e)

pub returns-in_err-bring-clause-silent : goal.returns-in_err-bring-clause-silent
returns-in_err-bring-clause-silent g c = λ e. c.in_err-bring.ensures.others.silent (c.in_ok-put_beside.ensures.silent (c.in_ok-put.ensures.others.silent e))

pub returns-in_err-bring_file-clause-silent : goal.returns-in_err-bring_file-clause-silent
returns-in_err-bring_file-clause-silent g c = λ e. c.in_err-bring_file.ensures.others.silent (c.in_ok-bring.ensures.others.silent (c.in_ok-put_beside.ensures.silent (c.in_ok-put.ensures.others.silent e)))

pub returns-in_err-settle-clause-silent : goal.returns-in_err-settle-clause-silent
returns-in_err-settle-clause-silent g c = λ e. c.in_err-settle.ensures.call.silent (c.in_ok-bring_file.ensures.others.silent (c.in_ok-bring.ensures.others.silent (c.in_ok-put_beside.ensures.silent (c.in_ok-put.ensures.others.silent e))))

pub returns-clause-silent : goal.returns-clause-silent
returns-clause-silent g c = λ e. c.in_ok-settle.ensures.call.silent (c.in_ok-bring_file.ensures.others.silent (c.in_ok-bring.ensures.others.silent (c.in_ok-put_beside.ensures.silent (c.in_ok-put.ensures.others.silent e))))

pub bring_file-requires-clause-plain : goal.bring_file-requires-clause-plain
bring_file-requires-clause-plain g c = epoch_not_data
