use Rattle.std.proofs.lemmas.Result.{err_from_is_err_and, IfErr-at_err, IfErr-weaker}
use Rattle.std.proofs.Common.{◌∙◌, refl}
use Rattle.cv_system.specs.Calls.{Wrote}
use Rattle.cv_folder.specs.Writes.{named_by}
use Rattle.cv_system.proofs.Laws.{call_at, failed_so, made_then, told_before, fails_then, one_fails, one_call}
use Rattle.cv_folder.proofs.putting.fill.Goals as goal

pub give_name-requires : goal.give_name-requires
give_name-requires g c = λ some. c.write_all.ensures.place ∙ c.requires (told_before _ _ _ c.write_all.ensures.call some)

pub returns-in_err-write_all-clause-tries : goal.returns-in_err-write_all-clause-tries
returns-in_err-write_all-clause-tries g c =
    let p = err_from_is_err_and c.from_residual.result c.from_residual.ensures.1 in
    let wrote = call_at (λ path out. Wrote path c.args.bytes.now out) _ _ c.args.at.now _ _ c.requires c.write_all.ensures.call in
    rw p.1 (failed_so (Wrote c.args.at.now c.args.bytes.now) (named_by c.args.name.now c.args.at.now c.args.path.now) c.write_all.result _ _ wrote _ c.in_err-write_all.was)

pub returns-clause-tries : goal.returns-clause-tries
returns-clause-tries g c =
    let wrote = call_at (λ path out. Wrote path c.args.bytes.now out) _ _ c.args.at.now _ _ c.requires c.write_all.ensures.call in
    made_then (Wrote c.args.at.now c.args.bytes.now) (named_by c.args.name.now c.args.at.now c.args.path.now) c.write_all.result _ _ wrote _ _ _ c.in_ok-write_all.was c.give_name.ensures.tries

pub returns-in_err-write_all-clause-fails : goal.returns-in_err-write_all-clause-fails
returns-in_err-write_all-clause-fails g c =
    let p = err_from_is_err_and c.from_residual.result c.from_residual.ensures.1 in
    let wrote = call_at (λ path out. Wrote path c.args.bytes.now out) _ _ c.args.at.now _ _ c.requires c.write_all.ensures.call in
    rw (p.1, p.2) (IfErr-at_err _ c.in_err-write_all.was (one_fails (Wrote c.args.at.now c.args.bytes.now) (λ out. refl) (λ out look. look) c.write_all.result _ _ wrote))

pub returns-clause-fails : goal.returns-clause-fails
returns-clause-fails g c =
    let wrote = call_at (λ path out. Wrote path c.args.bytes.now out) _ _ c.args.at.now _ _ c.requires c.write_all.ensures.call in
    IfErr-weaker c.give_name.result _ _ (λ error fails. fails_then (one_call (Wrote c.args.at.now c.args.bytes.now _) tt wrote) fails) c.give_name.ensures.fails
