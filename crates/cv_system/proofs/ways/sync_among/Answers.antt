use Rattle.std.proofs.Common.{◌∙◌, ◌∷◌, ◌++◌, [], ap, refl, sym, append_assoc}
use Rattle.std.proofs.lemmas.Result.{err_from_is_err_and}
use Rattle.cv_system.specs.Names.{names_in}
use Rattle.cv_system.proofs.WaySyncs.{last_way, one_way_more, way_fails}
use Rattle.cv_system.proofs.ways.sync_among.Goals as goal

pub loop-name-init : goal.loop-name-init
loop-name-init g c = ([], refl, (refl, refl))

pub returns-in_err-sync_way : goal.returns-in_err-sync_way
returns-in_err-sync_way g c =
    let so_far = c.loop-name.invariant in
    let p = err_from_is_err_and c.from_residual.result c.from_residual.ensures.1 in
    rw (p.1, p.2) (way_fails c.args.folder.now (names_in c.args.names.now) so_far.0 c.in-Some.name.now (names_in c.in-Some.others.now) _ _ _ _
    (so_far.1 ∙ ap (λ names. so_far.0 ++ names) c.in-Some.ensures.cut) so_far.2 c.in_err-sync_way.ensures)

pub loop-name-preserved : goal.loop-name-preserved
loop-name-preserved g c =
    let so_far = c.loop-name.invariant in (
      so_far.0 ++ c.in-Some.name.now ∷ [],
      so_far.1 ∙ ap (λ names. so_far.0 ++ names) c.in-Some.ensures.cut ∙ sym (append_assoc so_far.0 (c.in-Some.name.now ∷ []) (names_in c.in-Some.others.now)),
      one_way_more c.args.folder.now so_far.0 c.in-Some.name.now _ _ _ so_far.2 c.in_ok-sync_way.ensures,
    )

pub returns : goal.returns
returns g c =
    let so_far = c.loop-name.invariant in
    last_way c.args.folder.now (names_in c.args.names.now) so_far.0 c.loop-name.rest.now c.sync_way-2.result _ _ _
    (so_far.1 ∙ ap (λ names. so_far.0 ++ names) c.in_default.ensures.cut) so_far.2 c.sync_way-2.ensures
