use Rattle.cv_vault.proofs.Laws.{looser, calm_sync}
use Rattle.cv_objects.proofs.Looking.{handed_on, outside, same_fault}
use Rattle.cv_objects.proofs.Stores.{refusal_inside, refused_settled, then_refused, then_unplaced, then_unrefused, then_brought, then_stored, then_fails}
use Rattle.cv_objects.proofs.storing.store_all.Goals as goal

pub returns-in_err-put_all-clause-walks : goal.returns-in_err-put_all-clause-walks
returns-in_err-put_all-clause-walks g c = λ d e. then_refused c.args.batch.now _ _ c.requires.one (same_fault _ _ c.from_residual.ensures.1) (c.in_err-put_all.ensures.walks d e)

pub returns-in_err-bring_all-clause-walks : goal.returns-in_err-bring_all-clause-walks
returns-in_err-bring_all-clause-walks g c = λ d e. then_unplaced c.args.batch.now _ _ c.requires.one (same_fault _ _ c.from_residual-in_err-bring_all.ensures.1) (c.in_ok-put_all.ensures.walks d e) c.in_err-bring_all.ensures.walks

pub returns-in_err-sync-clause-walks : goal.returns-in_err-sync-clause-walks
returns-in_err-sync-clause-walks g c = λ d e.
    let w = then_brought c.args.batch.now (c.in_ok-put_all.ensures.walks d e) c.in_ok-bring_all.ensures.walks in
    then_fails c.args.batch.now c.in_err-sync.field-0.0 _ c.requires.one (handed_on _ _ c.from_residual-in_err-sync.ensures.1) (g.met.V.Vault.only_now c.bring_all.new.vault) w c.in_err-sync.ensures.call

pub returns-clause-walks : goal.returns-clause-walks
returns-clause-walks g c = λ d e.
    let w = then_brought c.args.batch.now (c.in_ok-put_all.ensures.walks d e) c.in_ok-bring_all.ensures.walks in
    then_stored c.args.batch.now (g.met.V.Vault.only_now c.bring_all.new.vault) w c.in_ok-sync.ensures.call

pub returns-in_err-put_all-clause-refused : goal.returns-in_err-put_all-clause-refused
returns-in_err-put_all-clause-refused g c = λ refusal d e. looser (c.in_err-put_all.ensures.walks d e) (λ n f b. b) (λ d1 gains shown. tt)

pub returns-in_err-bring_all-clause-refused : goal.returns-in_err-bring_all-clause-refused
returns-in_err-bring_all-clause-refused g c = λ refusal d e. absurd (then_unrefused c.args.batch.now _ _ (same_fault _ _ c.from_residual-in_err-bring_all.ensures.1) refusal (c.in_ok-put_all.ensures.walks d e) c.in_err-bring_all.ensures.walks)

pub returns-in_err-sync-clause-refused : goal.returns-in_err-sync-clause-refused
returns-in_err-sync-clause-refused g c = λ refusal d e. absurd (refusal_inside _ _ (handed_on _ _ c.from_residual-in_err-sync.ensures.1) (outside c.in_err-sync.field-0.0) refusal)

pub returns-clause-refused : goal.returns-clause-refused
returns-clause-refused g c = λ refusal. absurd refusal

pub returns-in_err-put_all-clause-settled : goal.returns-in_err-put_all-clause-settled
returns-in_err-put_all-clause-settled g c = λ d e. refused_settled c.args.batch.now _ _ (same_fault _ _ c.from_residual.ensures.1) (c.in_err-put_all.ensures.walks d e)

pub returns-in_err-bring_all-clause-settled : goal.returns-in_err-bring_all-clause-settled
returns-in_err-bring_all-clause-settled g c = λ d e d' told refusal. absurd (then_unrefused c.args.batch.now _ _ (same_fault _ _ c.from_residual-in_err-bring_all.ensures.1) refusal (c.in_ok-put_all.ensures.walks d e) c.in_err-bring_all.ensures.walks)

pub returns-in_err-sync-clause-settled : goal.returns-in_err-sync-clause-settled
returns-in_err-sync-clause-settled g c = λ d e d' told refusal. absurd (refusal_inside _ _ (handed_on _ _ c.from_residual-in_err-sync.ensures.1) (outside c.in_err-sync.field-0.0) refusal)

pub returns-clause-settled : goal.returns-clause-settled
returns-clause-settled g c = λ d e d' told refusal. absurd refusal

pub returns-clause-calm : goal.returns-clause-calm
returns-clause-calm g c = calm_sync c.in_ok-sync.ensures.call
