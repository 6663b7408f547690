use Rattle.std.proofs.Common.{vec_len, length, sym, ap, ◌∙◌, arith}
use Rattle.std.proofs.lemmas.List.{nil_from_length}
use Rattle.std.proofs.lemmas.Bool.Decides.{Decides-eqb, not_from_Decides}
use Rattle.cv_vault.proofs.Laws.{looser}
use Rattle.cv_objects.proofs.Lemmas.{same_fault, brings_nothing}
use Rattle.cv_swap.proofs.Shelving.{failed_refused, shelved_failed, looked_shelved, looked_refused, looked, none_given, stands_all}
use Rattle.cv_swap.proofs.publishing.shelve_absent.Goals as goal

pub returns-in_err-fresh-clause-walks : goal.returns-in_err-fresh-clause-walks
returns-in_err-fresh-clause-walks g c = λ d e. looser (c.in_err-fresh.ensures.walks d e) brings_nothing (λ d1 gains s.
    shelved_failed d c.args.batch.now d1 _ _ (same_fault _ _ c.from_residual.ensures.1) (failed_refused d c.args.batch.now d1 _ (λ k. c.requires.one) s.1 gains))

pub returns-in_err-fresh-clause-refused : goal.returns-in_err-fresh-clause-refused
returns-in_err-fresh-clause-refused g c = λ refusal d e. looser (c.in_err-fresh.ensures.walks d e) (λ n f b. b) (λ d1 gains shown. tt)

pub returns-then-is_empty-clause-walks : goal.returns-then-is_empty-clause-walks
returns-then-is_empty-clause-walks g c = λ d e.
    let size = (Decides-eqb (vec_len c.in_ok-fresh.field-0) 0).0 (sym c.is_empty.ensures ∙ c.if-is_empty.true) in
    stands_all c.args.batch.now c.in_ok-fresh.field-0 (c.in_ok-fresh.ensures.walks d e) c.requires.named c.requires.one (nil_from_length c.in_ok-fresh.field-0.items (omega (arith, c.in_ok-fresh.field-0.ok.0, size)))

pub returns-clause-walks : goal.returns-clause-walks
returns-clause-walks g c = λ d e. looked_shelved c.args.batch.now c.shelve_on.result (looked c.args.batch.now c.in_ok-fresh.field-0 (c.in_ok-fresh.ensures.walks d e)) c.shelve_on.ensures.walks

pub returns-clause-refused : goal.returns-clause-refused
returns-clause-refused g c = λ refusal d e. looked_refused c.args.batch.now c.shelve_on.result (looked c.args.batch.now c.in_ok-fresh.field-0 (c.in_ok-fresh.ensures.walks d e)) (c.shelve_on.ensures.refused refusal)

pub returns-clause-reads : goal.returns-clause-reads
returns-clause-reads g c = λ d e has.
    let none = none_given c.args.batch.now c.in_ok-fresh.field-0 (c.in_ok-fresh.ensures.walks d e) c.requires.named has in
    absurd (not_from_Decides _ (Decides-eqb (vec_len c.in_ok-fresh.field-0) 0) (sym c.is_empty.ensures ∙ c.if-is_empty.false) (omega (arith, c.in_ok-fresh.field-0.ok.0, ap length none)))
