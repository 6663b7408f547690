use Rattle.std.proofs.Common.{◌∙◌, ◌≡◌, ◌∷◌, ◌++◌, [], ap, refl, sym, append_assoc}
use Rattle.cv_system.specs.Names.{names_in}
use Rattle.std.proofs.lemmas.Result.{err_from_is_err_and, on_err_weaker, on_ok_weaker}
use Rattle.cv_system.proofs.Looking.{fails_at, looks_at_more}
use Rattle.cv_system.proofs.walk.look_at.Goals as goal

pub loop-name-init : goal.loop-name-init
loop-name-init g c = record { folder = refl; last = refl; looks = ([], refl, (refl, refl)) }

pub returns-in_err-look-clause-fails : goal.returns-in_err-look-clause-fails
returns-in_err-look-clause-fails g c =
    let so_far = c.loop-name.invariant.looks in
    let p = err_from_is_err_and c.from_residual.result c.from_residual.ensures.1 in
    rw p.1 (fails_at c.args.place.now.folder c.args.place.now.last _ _ c.loop-name.invariant.folder c.loop-name.invariant.last (names_in c.args.names.now) so_far.0 c.in-Some.name.now
    (names_in c.in-Some.others.now) _ _ _ _ _ (so_far.1 ∙ ap (λ names. so_far.0 ++ names) c.in-Some.ensures.cut) so_far.2 c.in_err-look.ensures.fails)

pub loop-name-preserved : goal.loop-name-preserved
loop-name-preserved g c =
    let so_far = c.loop-name.invariant.looks in
    record {
      folder = c.look.ensures.folder ∙ c.loop-name.invariant.folder;
      last = c.look.ensures.last ∙ c.loop-name.invariant.last;
      looks = (
        so_far.0 ++ c.in-Some.name.now ∷ [],
        so_far.1 ∙ ap (λ names. so_far.0 ++ names) c.in-Some.ensures.cut ∙ sym (append_assoc so_far.0 (c.in-Some.name.now ∷ []) (names_in c.in-Some.others.now)),
        looks_at_more c.args.place.now.folder c.args.place.now.last _ _ c.loop-name.invariant.folder c.loop-name.invariant.last so_far.0 c.in-Some.name.now _ _ _ _ _ _ so_far.2 c.in_ok-look.ensures.looks,
      );
    }

pub returns-clause-looks : goal.returns-clause-looks
returns-clause-looks g c =
    let so_far = c.loop-name.invariant.looks in
    let names : names_in c.args.names.now ≡ so_far.0 ++ c.loop-name.rest.now ∷ [] = so_far.1 ∙ ap (λ names. so_far.0 ++ names) c.in_default.ensures.cut in
    on_ok_weaker c.look-2.result
    (λ look. rw names (looks_at_more c.args.place.now.folder c.args.place.now.last _ _ c.loop-name.invariant.folder c.loop-name.invariant.last so_far.0 c.loop-name.rest.now _ _ _ _ _ _ so_far.2 look))
    c.look-2.ensures.looks

pub returns-clause-fails : goal.returns-clause-fails
returns-clause-fails g c =
    let so_far = c.loop-name.invariant.looks in
    on_err_weaker c.look-2.result
    (λ fails. fails_at c.args.place.now.folder c.args.place.now.last _ _ c.loop-name.invariant.folder c.loop-name.invariant.last (names_in c.args.names.now) so_far.0 c.loop-name.rest.now [] _ _ _ _ _
    (so_far.1 ∙ ap (λ names. so_far.0 ++ names) c.in_default.ensures.cut) so_far.2 fails)
    c.look-2.ensures.fails
