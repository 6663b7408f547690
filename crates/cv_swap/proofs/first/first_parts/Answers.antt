use Rattle.std.proofs.Common.{rules, ◌≡◌, length, [], ◌∷◌, ◌++◌, ap, ◌∙◌, sym, subst}
use Rattle.std.proofs.lemmas.Result.{IfOk-weaker}
use Rattle.cv_cut.specs.Catalogues.{cat, root_of}
use Rattle.cv_cut.specs.Cut.{cut_of}
use Rattle.cv_swap.specs.Kept.{object_of}
use Rattle.cv_swap.specs.Stands.{head_with}
use Rattle.cv_swap.specs.First.{first_tree, first_record, first_batch}
use Rattle.cv_base.specs.Objects.{AreNamed}
use Rattle.cv_swap.proofs.Named.{first_named}
use Rattle.cv_swap.proofs.first.first_parts.Goals as goal

pub returns-clause-batch : goal.returns-clause-batch
returns-clause-batch g c =
    let a : c.into_vec.result.items ≡ (cut_of (first_tree c.args.now)).catalogues = search rules in
    let h : c.in_ok-root.field-0.root.hash ≡ root_of (first_tree c.args.now) = search rules in
    let n : c.in_ok-next.next ≡ first_record (root_of (first_tree c.args.now)) c.args.now = c.in_ok-next.ensures.value ∙ ap (λ r. first_record r c.args.now) h in
    let e : c.into_vec.result.items ++ object_of c.in_ok-next.next ∷ [] ≡ first_batch c.args.now = (λ i. a i ++ object_of (n i) ∷ []) in
    IfOk-weaker c.make_parts.result _ _ (λ parts b. b ∙ e) c.make_parts.ensures.batch

pub returns-clause-head : goal.returns-clause-head
returns-clause-head g c =
    let h : c.in_ok-root.field-0.root.hash ≡ root_of (first_tree c.args.now) = search rules in
    let z : c.in_ok-root.field-0.size ≡ length (cat (first_tree c.args.now) []) = search rules in
    let n : c.in_ok-next.next ≡ first_record (root_of (first_tree c.args.now)) c.args.now = c.in_ok-next.ensures.value ∙ ap (λ r. first_record r c.args.now) h in
    IfOk-weaker c.make_parts.result _ _ (λ parts b. b ∙ (λ i. head_with (n i) (z i))) c.make_parts.ensures.head

pub returns-clause-named : goal.returns-clause-named
returns-clause-named g c = IfOk-weaker c.make_parts.result _ _ (λ parts b. subst AreNamed (sym b) (first_named c.args.now)) (returns-clause-batch g c)
