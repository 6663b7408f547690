use Rattle.std.proofs.Common.{rules, ◌≡◌, [], ◌∷◌, ◌++◌, refl, sym, subst}
use Rattle.cv_vault.specs.Walks.{BringsNothing}
use Rattle.cv_base.specs.Objects.{AreNamed}
use Rattle.cv_objects.specs.declared.store_fault.StoreFault.TheVariants.{NoMemory}
use Rattle.cv_objects.proofs.Lemmas.{same_fault, refusal_inside}
use Rattle.cv_swap.specs.Kept.{object_of}
use Rattle.cv_swap.proofs.Views.{vault_seen, shelve_stands, dropped_here, named_push}
use Rattle.cv_swap.proofs.line.Line.shelve.Goals as goal

pub returns-in_err-object-clause-walks : goal.returns-in_err-object-clause-walks
returns-in_err-object-clause-walks g c = shelve_stands _ _ (same_fault _ NoMemory c.from_residual.ensures.1) _ _ (vault_seen _ _ c.self.view_is) (g.met.V.Vault.only_now c.self.inside.objects.vault)

pub returns-in_err-batch-clause-walks : goal.returns-in_err-batch-clause-walks
returns-in_err-batch-clause-walks g c = shelve_stands _ _ (same_fault _ NoMemory c.from_residual-in_err-batch.ensures.1) _ _ (vault_seen _ _ c.self.view_is) (g.met.V.Vault.only_now c.self.inside.objects.vault)

pub shelve_on-requires : goal.shelve_on-requires
shelve_on-requires g c =
    let e : c.as_slice.result.now ≡ c.args.others.items ++ object_of c.args.next.now ∷ [] = search rules in
    record { named = subst AreNamed (sym e) (named_push c.args.others.items c.args.next.now c.requires.named) }

pub returns-in_err-object-clause-refused : goal.returns-in_err-object-clause-refused
returns-in_err-object-clause-refused g c = λ refusal. absurd (refusal_inside _ NoMemory (same_fault _ NoMemory c.from_residual.ensures.1) tt refusal)

pub returns-in_err-batch-clause-refused : goal.returns-in_err-batch-clause-refused
returns-in_err-batch-clause-refused g c = λ refusal. absurd (refusal_inside _ NoMemory (same_fault _ NoMemory c.from_residual-in_err-batch.ensures.1) tt refusal)

pub returns-clause-refused : goal.returns-clause-refused
returns-clause-refused g c = λ refusal. subst (λ v. BringsNothing g.V.Vault.disk g.V.Vault.count g.V.Vault.left v c.shelve_on.new.objects.vault) (vault_seen _ _ c.self.view_is) (c.shelve_on.ensures.refused refusal)

pub returns-in_err-object-clause-dropped : goal.returns-in_err-object-clause-dropped
returns-in_err-object-clause-dropped g c = dropped_here _ _ _ c.self.view_is refl refl

pub returns-in_err-batch-clause-dropped : goal.returns-in_err-batch-clause-dropped
returns-in_err-batch-clause-dropped g c = dropped_here _ _ _ c.self.view_is refl refl

pub returns-clause-dropped : goal.returns-clause-dropped
returns-clause-dropped g c = dropped_here _ _ _ c.self.view_is refl c.shelve_on.ensures.taken
