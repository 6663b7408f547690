use Rattle.std.proofs.Common.{◌≡◌, ◌∷◌, [], length, length-append, IsSome, sym, ap, subst, ◌∙◌, arith, rules}
use Rattle.std.specs.FinMap.{get}
use Rattle.cv_base.specs.Path.{Path, parent}
use Rattle.cv_tree.proofs.Laws.{some_directory}
use Rattle.cv_load.proofs.Growing.{grows_added, grows_more, parent_of, parent_by_key, stands_at_place}
use Rattle.cv_load.proofs.Clearing.{ready_grown, place_below}
use Rattle.cv_load.proofs.placing.+place.Goals as goal

pub returns-then-names-clause-there : goal.returns-then-names-clause-there
returns-then-names-clause-there t c =
    let same = ap length (sym c.names.ensures.names) ∙ c.if-names.true ∙ ap length (c.names-2.ensures.names ∙ c.at.ensures) in
    subst (λ (p : Path). IsSome (get c.args.tree.now p)) (sym (stands_at_place c.args.catalogue.now c.args.row.now c.args.path.now c.requires.stands same)) (some_directory _ c.requires.ready.directory)

pub returns-in_err-add-clause-grows : goal.returns-in_err-add-clause-grows
returns-in_err-add-clause-grows t c =
    grows_added _ _ c.args.row.now c.args.path.now _ _ c.requires.stands c.in_err-add.ensures.added

pub returns-then-branch-clause-grows : goal.returns-then-branch-clause-grows
returns-then-branch-clause-grows t c =
    grows_added _ _ c.args.row.now c.args.path.now _ _ c.requires.stands c.in_ok-add.ensures.added

pub unreachable-requires : goal.unreachable-requires
unreachable-requires t c =
    let deeper = λ (same : length c.args.path.now ≡ length c.args.catalogue.now.at). c.if-names.false (ap length c.names.ensures.names ∙ same ∙ ap length (sym (c.names-2.ensures.names ∙ c.at.ensures))) in
    let above = parent_of c.args.catalogue.now c.args.row.now c.args.path.now c.requires.stands deeper in
    c.in_default.ensures above.0 above.2.there (sym above.2.child.parent)

pub returns-in_err-copy-clause-grows : goal.returns-in_err-copy-clause-grows
returns-in_err-copy-clause-grows t c =
    grows_added _ _ c.args.row.now c.args.path.now _ _ c.requires.stands c.in_ok-add.ensures.added

pub place-requires : goal.place-requires
place-requires t c =
    let deeper = λ (same : length c.args.path.now ≡ length c.args.catalogue.now.at). c.if-names.false (ap length c.names.ensures.names ∙ same ∙ ap length (sym (c.names-2.ensures.names ∙ c.at.ensures))) in
    let up : c.into_parent-above.result ≡ parent c.args.path.now = search rules in
    let below = parent_by_key c.args.catalogue.now c.args.row.now c.in-Some.parent.now c.args.path.now c.into_parent-above.result c.requires.rules c.requires.stands deeper c.in-Some.ensures.0 c.in-Some.ensures.1 up in
    let ready = ready_grown _ _ _ _ c.requires.ready (grows_added _ _ c.args.row.now c.args.path.now _ _ c.requires.stands c.in_ok-add.ensures.added) in
    (omega (arith, ap length below.way, length-append c.into_parent-above.result (c.args.row.now.name ∷ [])), (c.requires.rules, (c.in-Some.ensures.0, (below.stands, ready))))

pub returns-in_err-place-clause-grows : goal.returns-in_err-place-clause-grows
returns-in_err-place-clause-grows t c =
    grows_more _ _ _ _ _ (grows_added _ _ c.args.row.now c.args.path.now _ _ c.requires.stands c.in_ok-add.ensures.added) c.in_err-place.ensures.grows

pub returns-in_err-add-2-clause-grows : goal.returns-in_err-add-2-clause-grows
returns-in_err-add-2-clause-grows t c =
    grows_more _ _ _ _ _ (grows_more _ _ _ _ _ (grows_added _ _ c.args.row.now c.args.path.now _ _ c.requires.stands c.in_ok-add.ensures.added) c.in_ok-place.ensures.grows) (grows_added _ _ c.args.row.now c.args.path.now _ _ c.requires.stands c.in_err-add-2.ensures.added)

pub returns-clause-there : goal.returns-clause-there
returns-clause-there t c =
    let deeper = λ (same : length c.args.path.now ≡ length c.args.catalogue.now.at). c.if-names.false (ap length c.names.ensures.names ∙ same ∙ ap length (sym (c.names-2.ensures.names ∙ c.at.ensures))) in
    let up : c.into_parent-above.result ≡ parent c.args.path.now = search rules in
    let below = parent_by_key c.args.catalogue.now c.args.row.now c.in-Some.parent.now c.args.path.now c.into_parent-above.result c.requires.rules c.requires.stands deeper c.in-Some.ensures.0 c.in-Some.ensures.1 up in
    let ready = ready_grown _ _ _ _ c.requires.ready (grows_more _ _ _ _ _ (grows_added _ _ c.args.row.now c.args.path.now _ _ c.requires.stands c.in_ok-add.ensures.added) c.in_ok-place.ensures.grows) in
    c.in_ok-add-2.ensures.there (c.in_ok-add-2.ensures.place ∙ place_below c.args.catalogue.now c.args.row.now c.in-Some.parent.now c.args.path.now c.into_parent-above.result c.place.new.tree c.requires.rules ready below c.in_ok-place.ensures.there)

pub returns-clause-grows : goal.returns-clause-grows
returns-clause-grows t c =
    grows_more _ _ _ _ _ (grows_more _ _ _ _ _ (grows_added _ _ c.args.row.now c.args.path.now _ _ c.requires.stands c.in_ok-add.ensures.added) c.in_ok-place.ensures.grows) (grows_added _ _ c.args.row.now c.args.path.now _ _ c.requires.stands c.in_ok-add-2.ensures.added)
