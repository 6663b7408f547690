use Rattle.std.proofs.Common.{refl}
use Rattle.cv_resolver.specs.Rows.{no_memory}
use Rattle.cv_resolver.proofs.Entering.{nearest_of}
use Rattle.cv_resolver.proofs.Spots.{kept_is}
use Rattle.cv_resolver.proofs.progress.go_by_cache.Goals as goal

pub returns-in-Ok-clause-stage : goal.returns-in-Ok-clause-stage
returns-in-Ok-clause-stage c = λ t tree fits own on.
    let e = c.in-Ok.ensures in
    let k = c.get-catalogue.ensures in
    e.stage t tree fits (kept_is t c.args.walk.spot.level c.args.cache.now c.get-catalogue.result.now (nearest_of t c.args.walk.spot on.0).1 own k.kept k.place k.there) on

pub returns-in-Ok-clause-steps : goal.returns-in-Ok-clause-steps
returns-in-Ok-clause-steps c =
    let e = c.in-Ok.ensures in
    let k = c.get-catalogue.ensures in
    record { holds = record { found = c.get-catalogue.result.now; there = k.there; place = k.place }; told = e.told k.kept.is; steps = e.steps; on = e.stage }

pub returns-in-Err-clause-steps : goal.returns-in-Err-clause-steps
returns-in-Err-clause-steps c =
    let k = c.get-catalogue.ensures in
    rw c.from.ensures (record { holds = record { found = c.get-catalogue.result.now; there = k.there; place = k.place }; told = no_memory refl; steps = λ peer. peer; on = λ t tree fits own on. tt })
