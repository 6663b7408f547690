use Rattle.std.proofs.Common.{◌≡◌, ◌++◌, ◌∷◌, [], sym, ap, subst, ◌∙◌}
use Rattle.cv_base.specs.Path.{IsPath}
use Rattle.cv_tree.proofs.Laws.{FitsUnder-insert, joined-Ok}
use Rattle.cv_tree_tests.proofs.tests.add_file.Goals as goal

pub returns : goal.returns
returns c =
    let whole = joined-Ok c.args.place.now c.args.name.now c.in_ok-whole.whole c.in_ok-whole.ensures in
    let short = joined-Ok c.root.result c.args.name.now c.in_ok-short.short c.in_ok-short.ensures in
    let same : c.in_ok-whole.whole ≡ c.args.place.now ++ c.in_ok-short.short =
    whole ∙ ap (λ w. c.args.place.now ++ w) (sym (short ∙ ap (λ w. w ++ c.args.name.now ∷ []) c.root.ensures)) in
    rw c.in_ok-insert.ensures.ok (FitsUnder-insert c.args.place.now _ c.in_ok-short.short _ c.requires (subst IsPath same c.names.ensures.limits))
