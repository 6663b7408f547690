use Rattle.std.proofs.Common.{rules, ◌≡◌, ℕ, ◌+◌, List, [], ◌∷◌, ◌++◌, take, length, length-append, refl, sym, ap, subst, ◌∙◌, arith}
use Rattle.std.proofs.lemmas.List.{length-take-le}
use Rattle.cv_vault.specs.Walks.{BringsNothing}
use Rattle.cv_base.specs.Objects.{AreNamed}
use Rattle.cv_objects.specs.Batches.{IsOne}
use Rattle.cv_objects.specs.declared.store_fault.StoreFault.TheVariants.{NoMemory}
use Rattle.cv_objects.proofs.Lemmas.{same_fault, refusal_inside, named_none}
use Rattle.cv_base.specs.Told.{WhereTold}
use Rattle.cv_base.proofs.Laws.{on_err_only}
use Rattle.cv_swap.specs.Kept.{object_of}
use Rattle.cv_swap.specs.Stands.{head_name, head_way}
use Rattle.cv_vault.specs.Replace.{IsWaiting}
use Rattle.cv_swap.proofs.Bringing.{prepared_waits}
use Rattle.cv_swap.proofs.Views.{vault_seen, prepare_stands, prepared_seen, unprepared_seen, free_seen, named_push, one_alone, dropped_seen, refusal_as}
use Rattle.cv_swap.proofs.line.Line.prepare.Goals as goal

pub returns-in_err-parts-clause-walks : goal.returns-in_err-parts-clause-walks
returns-in_err-parts-clause-walks g c = prepare_stands _ _ (same_fault _ NoMemory c.from_residual.ensures.1) _ _ (vault_seen _ _ c.self.view_is) (g.met.V.Vault.only_now c.self.inside.objects.vault) _

pub returns-in_err-push-clause-walks : goal.returns-in_err-push-clause-walks
returns-in_err-push-clause-walks g c = prepare_stands _ _ (same_fault _ NoMemory c.from_residual-in_err-push.ensures.1) _ _ (vault_seen _ _ c.self.view_is) (g.met.V.Vault.only_now c.self.inside.objects.vault) c.self.inside.manifest

pub returns-in_err-prepare_on-clause-walks : goal.returns-in_err-prepare_on-clause-walks
returns-in_err-prepare_on-clause-walks g c =
    let e : c.as_slice.result.now ≡ object_of c.args.next ∷ [] = search rules in
    unprepared_seen e (vault_seen _ _ c.self.view_is) c.as_slice-2.result.now c.self.inside.manifest _ _ (same_fault _ _ c.from_residual-in_err-prepare_on.ensures.1) c.in_err-prepare_on.ensures.walks

pub returns-clause-walks : goal.returns-clause-walks
returns-clause-walks g c =
    let e : c.as_slice.result.now ≡ object_of c.args.next ∷ [] = search rules in
    prepared_seen e (vault_seen _ _ c.self.view_is) c.as_slice-2.ensures c.in_ok-prepare_on.ensures.walks

pub returns-clause-free : goal.returns-clause-free
returns-clause-free g c =
    let e : c.as_slice.result.now ≡ object_of c.args.next ∷ [] = search rules in
    free_seen e (vault_seen _ _ c.self.view_is) c.as_slice-2.ensures c.in_ok-prepare_on.ensures.free

pub prepare_on-requires : goal.prepare_on-requires
prepare_on-requires g c =
    let e : c.as_slice.result.now ≡ object_of c.args.next ∷ [] = search rules in
    record { named = subst AreNamed (sym e) (named_push [] c.args.next named_none); one = subst IsOne (sym e) (one_alone (object_of c.args.next)) }

pub returns-in_err-prepare_on-clause-dropped : goal.returns-in_err-prepare_on-clause-dropped
returns-in_err-prepare_on-clause-dropped g c =
    let e : c.push.new.self.items ≡ take c.self.inside.made c.self.inside.records.items ++ c.args.next ∷ [] = search rules in
    on_err_only _ (dropped_seen _ _ _ c.args.next c.self.view_is c.self.invariant.published_ e refl (record { name_ = refl; signer_ = refl; made_ = refl; head_ = refl; epoch_ = refl; taken_ = c.in_err-prepare_on.ensures.taken }))

pub returns-in_err-parts-clause-refused : goal.returns-in_err-parts-clause-refused
returns-in_err-parts-clause-refused g c = λ refusal. absurd (refusal_inside _ NoMemory (same_fault _ NoMemory c.from_residual.ensures.1) tt refusal)

pub returns-in_err-push-clause-refused : goal.returns-in_err-push-clause-refused
returns-in_err-push-clause-refused g c = λ refusal. absurd (refusal_inside _ NoMemory (same_fault _ NoMemory c.from_residual-in_err-push.ensures.1) tt refusal)

pub returns-in_err-prepare_on-clause-refused : goal.returns-in_err-prepare_on-clause-refused
returns-in_err-prepare_on-clause-refused g c = λ refusal.
    subst (λ v. BringsNothing g.V.Vault.disk g.V.Vault.count g.V.Vault.left v c.prepare_on.new.objects.vault) (vault_seen _ _ c.self.view_is)
    (c.in_err-prepare_on.ensures.refused (refusal_as (Unit {0}) _ _ (same_fault _ _ c.from_residual-in_err-prepare_on.ensures.1) refusal))

pub invariant_of-self-2 : goal.invariant_of-self-2
invariant_of-self-2 g c =
    let e : c.push.new.self.items ≡ take c.self.inside.made c.self.inside.records.items ++ c.args.next ∷ [] = search rules in
    let n : length c.push.new.self.items ≡ length (take c.self.inside.made c.self.inside.records.items) + 1 = ap length e ∙ length-append (take c.self.inside.made c.self.inside.records.items) (c.args.next ∷ []) in
    let m : length (take c.self.inside.made c.self.inside.records.items) ≡ c.self.inside.made = length-take-le c.self.inside.made c.self.inside.records.items c.self.invariant.published_ in
    record {
      published_ = omega (arith, n, m);
      next = λ under_way. omega (arith, n, m);
      head_ = c.self.invariant.head_;
      next_head_ = c.in_ok-parts.ensures.writable;
      waits = λ ready. subst (λ (bytes : List ℕ). WhereTold (g.V.Vault.disk c.prepare_on.new.objects.vault) (IsWaiting head_way head_name bytes)) c.as_slice-2.ensures
          (prepared_waits c.as_slice.result.now c.as_slice-2.result.now c.in_ok-prepare_on.ensures.silent c.in_ok-prepare_on.ensures.walks);
    }
