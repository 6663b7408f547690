use Rattle.std.proofs.Common.{◌≡◌, ◌+◌, ◌<◌, List, length, take, get_or, sym, ap, subst, ◌∙◌}
use Rattle.std.specs.Prelude.{filter}
use Rattle.std.specs.List.{AllZip}
use Rattle.cv_base.specs.Path.{overlap}
use Rattle.cv_rows.specs.declared.nested.Nested.{Nested}
use Rattle.cv_checkout.specs.Wanting.{IsNamed}
use Rattle.cv_checkout.specs.declared.wanted.Wanted.{Wanted}
use Rattle.cv_checkout.proofs.Steps.{zip_passed, zip_taken}
use Rattle.cv_checkout.proofs.naming.named_toward.Goals.{then-is_toward+in_ok-named+in_ok-push, else-is_toward}
use Rattle.cv_checkout.proofs.naming.named_toward.Goals as goal

pub loop-nested-preserved : goal.loop-nested-preserved
loop-nested-preserved c =
    let all = c.args.catalogue.now.nested in
    let i = c.loop-nested.nested-index in
    let n = c.nested-item.result in
    let same = c.nested-nested-items.ensures in
    let near = λ (m : Nested). overlap c.args.path.now m.path in
    let lt : i < length all = subst (λ (ns : List Nested). i < length ns) same c.loop-nested-test.true in
    let item : n ≡ get_or all i n = c.nested-item.is ∙ ap (λ (ns : List Nested). get_or ns i n) same in
    let Are : List Wanted → Type 0 = λ (ws : List Wanted). AllZip (IsNamed c.args.catalogue.now) (filter near (take (i + 1) all)) ws in
    elim c.if-is_toward.branch [
      | then-is_toward+in_ok-named+in_ok-push w ↦
          subst Are (sym (ap (λ v. v.items) w.all-is ∙ w.in_ok-push.ensures.items))
          (zip_taken (IsNamed c.args.catalogue.now) near all c.loop-nested.all.items i n lt item w.in_ok-named.field-0 (sym c.is_toward.ensures ∙ w.if-is_toward.true) c.loop-nested.invariant w.in_ok-named.ensures)
      | else-is_toward w ↦
          subst Are (sym (ap (λ v. v.items) w.all-is)) (zip_passed (IsNamed c.args.catalogue.now) near all c.loop-nested.all.items i n lt item (sym c.is_toward.ensures ∙ w.if-is_toward.false) c.loop-nested.invariant)
    ]
