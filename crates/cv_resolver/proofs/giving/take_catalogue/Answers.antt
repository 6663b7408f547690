use Rattle.std.proofs.Common.{◌≡◌, sym, subst}
use Rattle.cv_cut.specs.Catalogues.{contents_of}
use Rattle.cv_rows.specs.Catalogue.{Contents}
use Rattle.cv_resolver.specs.Kept.{Kept, AreOwn, kept_bytes}
use Rattle.cv_resolver.proofs.Entering.{nearest_of}
use Rattle.cv_resolver.proofs.Keeping.{own_put}
use Rattle.cv_resolver.proofs.Taking.{decoded, not_none, takes_opened}
use Rattle.cv_resolver.proofs.giving.take_catalogue.Goals as goal

pub returns-in-Ok-clause-stage : goal.returns-in-Ok-clause-stage
returns-in-Ok-clause-stage c = λ t tree fits own new on.
    let e = c.in-Ok-Some.ensures in
    let d = decoded c.args.walk.spot.level c.args.bytes.now c.in-Ok-Some.field-0 c.in-Ok-Some.catalogue c.in-Ok-Some.field-0-is e.decodes in
    let p = c.in-Ok.ensures in
    c.walk_on.ensures.stage t tree fits (subst (λ (k : Kept). AreOwn t (kept_bytes k)) (sym p.put) (own_put t c.args.cache.now c.args.walk.spot.level.hash c.args.bytes.now c.in-Ok-Some.catalogue d.spelled own new)) on

pub returns-in-Ok-clause-taken : goal.returns-in-Ok-clause-taken
returns-in-Ok-clause-taken c =
    let e = c.in-Ok-Some.ensures in
    let d = decoded c.args.walk.spot.level c.args.bytes.now c.in-Ok-Some.field-0 c.in-Ok-Some.catalogue c.in-Ok-Some.field-0-is e.decodes in
    let p = c.in-Ok.ensures in
    takes_opened c.args.repository.now c.args.question.now c.args.cache.now c.put.new.self c.walk_on.new.cache c.args.walk c.args.bytes.now c.in-Ok-Some.catalogue c.walk_on.result d p.put c.walk_on.ensures.goes

pub returns-in-Ok-None-clause-stage : goal.returns-in-Ok-None-clause-stage
returns-in-Ok-None-clause-stage c = λ t tree fits own new on.
    let e = c.in-Ok-None.ensures in
    not_none (λ (x : Contents). x ≡ contents_of t c.args.walk.spot.level.path) c.in-Ok-None.field-0 c.in-Ok-None.field-0-is (e.own t (nearest_of t c.args.walk.spot on.0).1 new)
