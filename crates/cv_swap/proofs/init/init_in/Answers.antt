use Rattle.std.proofs.Common.{ℕ, List, subst, sym, ap, ◌∙◌, refl}
use Rattle.std.specs.declared.option.Option.TheVariants.{Some}
use Rattle.std.specs.declared.result.Result.TheVariants.{Err}
use Rattle.cv_manifest.specs.declared.head.Head.{Head}
use Rattle.cv_vault.proofs.Laws.{gains_none}
use Rattle.cv_swap.specs.Faults.{init_fault_in}
use Rattle.cv_swap.specs.First.{first_revision}
use Rattle.cv_swap.specs.Stands.{Publishes, head_of, head_text}
use Rattle.cv_swap.specs.declared.init_fault.InitFault.TheVariants.{Exists, NoMemory}
use Rattle.cv_swap.proofs.Inits.{same_fault, vault_fault, inits_nothing, inits_all, inits_some, store_fault, vault_answers, vault_makes}
use Rattle.cv_swap.proofs.Texts.{text_none, text_writes}
use Rattle.cv_swap.proofs.init.init_in.Goals as goal

pub returns-then-branch-clause-makes : goal.returns-then-branch-clause-makes
returns-then-branch-clause-makes g c = λ d e. inits_nothing c.args.name.now (g.S.Signer.is_seal c.args.signer.now) c.args.now (g.met.V.Vault.only_now c.args.objects.now.vault) e c.in_ok-has_head.ensures.reads (Err Exists) Exists refl (rw c.if-branch.true at c.in_ok-has_head.ensures.told d e) refl

pub returns-in_err-has_head-clause-makes : goal.returns-in_err-has_head-clause-makes
returns-in_err-has_head-clause-makes g c = λ d e. inits_nothing c.args.name.now (g.S.Signer.is_seal c.args.signer.now) c.args.now (g.met.V.Vault.only_now c.args.objects.now.vault) e c.in_err-has_head.ensures.reads _ (init_fault_in c.in_err-has_head.field-0.0) (vault_fault _ _ c.from_residual.ensures.1)
    (vault_answers d c.args.now c.in_err-has_head.field-0.0) (vault_makes c.args.name.now (g.S.Signer.is_seal c.args.signer.now) c.args.now d c.in_err-has_head.field-0.0)

pub returns-in_err-parts-clause-makes : goal.returns-in_err-parts-clause-makes
returns-in_err-parts-clause-makes g c = λ d e. inits_nothing c.args.name.now (g.S.Signer.is_seal c.args.signer.now) c.args.now (g.met.V.Vault.only_now c.args.objects.now.vault) e c.in_ok-has_head.ensures.reads _ NoMemory (same_fault _ NoMemory c.from_residual-in_err-parts.ensures.1) tt (gains_none refl)

pub returns-in_err-init_on-clause-makes : goal.returns-in_err-init_on-clause-makes
returns-in_err-init_on-clause-makes g c = λ d e. inits_some c.args.name.now (g.S.Signer.is_seal c.args.signer.now) c.args.now (g.met.V.Vault.only_now c.args.objects.now.vault) e c.in_ok-has_head.ensures.reads c.as_slice-2.result.now c.requires (rw c.if-branch.false at c.in_ok-has_head.ensures.told d e)
    (subst (λ (m : List ℕ). Publishes c.args.name.now (g.S.Signer.is_seal c.args.signer.now) (Some m) (head_of (first_revision c.args.now))) (sym c.as_slice-2.ensures)
    (subst (λ (h : Head). Publishes c.args.name.now (g.S.Signer.is_seal c.args.signer.now) (Some c.in_ok-parts.parts.manifest) h) c.in_ok-parts.ensures.head c.in_ok-parts.ensures.says))
    c.as_slice.result.now (c.as_slice.ensures ∙ c.in_ok-parts.ensures.batch) _ c.in_err-init_on.field-0.0 (store_fault _ _ c.from_residual-in_err-init_on.ensures.1) c.in_err-init_on.ensures.inits

pub returns-clause-makes : goal.returns-clause-makes
returns-clause-makes g c = λ d e. inits_all c.args.name.now (g.S.Signer.is_seal c.args.signer.now) c.args.now (g.met.V.Vault.only_now c.args.objects.now.vault) e c.in_ok-has_head.ensures.reads c.as_slice-2.result.now c.requires (rw c.if-branch.false at c.in_ok-has_head.ensures.told d e)
    (subst (λ (m : List ℕ). Publishes c.args.name.now (g.S.Signer.is_seal c.args.signer.now) (Some m) (head_of (first_revision c.args.now))) (sym c.as_slice-2.ensures)
    (subst (λ (h : Head). Publishes c.args.name.now (g.S.Signer.is_seal c.args.signer.now) (Some c.in_ok-parts.parts.manifest) h) c.in_ok-parts.ensures.head c.in_ok-parts.ensures.says))
    c.as_slice.result.now (c.as_slice.ensures ∙ c.in_ok-parts.ensures.batch) c.in_ok-init_on.ensures.inits

pub returns-then-branch-clause-text : goal.returns-then-branch-clause-text
returns-then-branch-clause-text g c = λ d e. text_none (g.met.V.Vault.only_now c.args.objects.now.vault) e c.in_ok-has_head.ensures.reads _

pub returns-in_err-parts-clause-text : goal.returns-in_err-parts-clause-text
returns-in_err-parts-clause-text g c = λ d e. text_none (g.met.V.Vault.only_now c.args.objects.now.vault) e c.in_ok-has_head.ensures.reads _

pub returns-in_err-has_head-clause-text : goal.returns-in_err-has_head-clause-text
returns-in_err-has_head-clause-text g c = λ d e. text_none (g.met.V.Vault.only_now c.args.objects.now.vault) e c.in_err-has_head.ensures.reads _

pub returns-in_err-init_on-clause-text : goal.returns-in_err-init_on-clause-text
returns-in_err-init_on-clause-text g c = λ d e. text_writes (g.met.V.Vault.only_now c.args.objects.now.vault) e c.in_ok-has_head.ensures.reads c.as_slice.result.now _ c.as_slice-2.result.now _
    (c.as_slice-2.ensures ∙ c.in_ok-parts.ensures.text ∙ ap (head_text (g.S.Signer.seal_of c.args.signer.now) c.args.name.now) c.in_ok-parts.ensures.head) c.in_err-init_on.ensures.inits

pub returns-clause-text : goal.returns-clause-text
returns-clause-text g c = λ d e. text_writes (g.met.V.Vault.only_now c.args.objects.now.vault) e c.in_ok-has_head.ensures.reads c.as_slice.result.now _ c.as_slice-2.result.now _
    (c.as_slice-2.ensures ∙ c.in_ok-parts.ensures.text ∙ ap (head_text (g.S.Signer.seal_of c.args.signer.now) c.args.name.now) c.in_ok-parts.ensures.head) c.in_ok-init_on.ensures.inits

pub returns-in_err-has_head-clause-silent : goal.returns-in_err-has_head-clause-silent
returns-in_err-has_head-clause-silent g c = λ e. c.in_err-has_head.ensures.reads.silent e

pub returns-then-branch-clause-silent : goal.returns-then-branch-clause-silent
returns-then-branch-clause-silent g c = λ e. c.in_ok-has_head.ensures.reads.silent e

pub returns-in_err-parts-clause-silent : goal.returns-in_err-parts-clause-silent
returns-in_err-parts-clause-silent g c = λ e. c.in_ok-has_head.ensures.reads.silent e

pub returns-in_err-init_on-clause-silent : goal.returns-in_err-init_on-clause-silent
returns-in_err-init_on-clause-silent g c = λ e. c.in_err-init_on.ensures.silent (c.in_ok-has_head.ensures.reads.silent e)

pub returns-clause-silent : goal.returns-clause-silent
returns-clause-silent g c = λ e. c.in_ok-init_on.ensures.silent (c.in_ok-has_head.ensures.reads.silent e)
