use Rattle.std.proofs.lemmas.Result.{err_from_is_err_and, IfErr-at_err, IfErr-weaker}
use Rattle.std.proofs.Common.{◌∙◌, [], ◌∷◌, refl, sym}
use Rattle.cv_system.specs.Calls.{Begun, Renamed, Synced}
use Rattle.cv_system.proofs.Laws.{call_at, failed_so, fails_then, made_then, one_call, one_fails, tried_one}
use Rattle.cv_folder.proofs.Naming.{named_beside, named_on_way}
use Rattle.cv_folder.proofs.putting.give_name.Goals as goal

pub returns-then-is_way-clause-tries : goal.returns-then-is_way-clause-tries
returns-then-is_way-clause-tries g c =
    rw (named_on_way c.args.name.now c.args.at.now c.args.path.now (sym c.is_way.ensures ∙ c.if-is_way.true))
    (tried_one (Begun c.args.at.now) c.begin_sync.result _ _ (call_at Begun _ _ c.args.at.now _ _ c.requires c.begin_sync.ensures))

pub returns-then-is_way-clause-fails : goal.returns-then-is_way-clause-fails
returns-then-is_way-clause-fails g c =
    one_fails (Begun c.args.at.now) (λ out. refl) (λ out look. look) c.begin_sync.result _ _ (call_at Begun _ _ c.args.at.now _ _ c.requires c.begin_sync.ensures)

pub returns-in_err-sync-clause-tries : goal.returns-in_err-sync-clause-tries
returns-in_err-sync-clause-tries g c =
    let p = err_from_is_err_and c.from_residual.result c.from_residual.ensures.1 in
    let synced = call_at Synced _ _ c.args.at.now _ _ c.requires c.sync.ensures in
    rw (p.1, named_beside c.args.name.now c.args.at.now c.args.path.now (sym c.is_way.ensures ∙ c.if-is_way.false))
    (failed_so (Synced c.args.at.now) (Renamed c.args.at.now c.args.path.now ∷ []) c.sync.result _ _ synced _ c.in_err-sync.was)

pub returns-in_err-sync-clause-fails : goal.returns-in_err-sync-clause-fails
returns-in_err-sync-clause-fails g c =
    let p = err_from_is_err_and c.from_residual.result c.from_residual.ensures.1 in
    let synced = call_at Synced _ _ c.args.at.now _ _ c.requires c.sync.ensures in
    rw (p.1, p.2) (IfErr-at_err _ c.in_err-sync.was (one_fails (Synced c.args.at.now) (λ out. refl) (λ out look. look) c.sync.result _ _ synced))

pub returns-clause-tries : goal.returns-clause-tries
returns-clause-tries g c =
    let synced = call_at Synced _ _ c.args.at.now _ _ c.requires c.sync.ensures in
    rw (named_beside c.args.name.now c.args.at.now c.args.path.now (sym c.is_way.ensures ∙ c.if-is_way.false))
    (made_then (Synced c.args.at.now) (Renamed c.args.at.now c.args.path.now ∷ []) c.sync.result _ _ synced _ _ _ c.in_ok-sync.was
    (tried_one (Renamed c.args.at.now c.args.path.now) c.rename.result _ _ c.rename.ensures))

pub returns-clause-fails : goal.returns-clause-fails
returns-clause-fails g c =
    let synced = call_at Synced _ _ c.args.at.now _ _ c.requires c.sync.ensures in
    IfErr-weaker c.rename.result _ _ (λ error fails. fails_then (one_call (Synced c.args.at.now _) tt synced) fails)
    (one_fails (Renamed c.args.at.now c.args.path.now) (λ out. refl) (λ out look. look) c.rename.result _ _ c.rename.ensures)
