use Rattle.std.proofs.Common.{refl, ap, ◌∙◌}
use Rattle.sha1.specs.Sha1.{sha1}
use Rattle.cv_resolver.specs.Giving.{nothing}
use Rattle.cv_resolver.proofs.Taking.{agree, takes_file, takes_other, takes_walk}
use Rattle.cv_resolver.proofs.giving.take.Goals as goal

pub returns-in_default-clause-takes : goal.returns-in_default-clause-takes
returns-in_default-clause-takes c = nothing c.args.id c.requires c.in_default.is refl refl

pub returns-then-ne-clause-takes : goal.returns-then-ne-clause-takes
returns-then-ne-clause-takes c =
    takes_other c.args.repository.now c.args.question.now c.args.cache.now c.args.was c.args.given c.args.id c.in-Some.bytes c.digest-found.result c.ne.result c.requires c.in-Some.is (c.digest-found.ensures ∙ ap sha1 c.as_slice.ensures) c.ne.ensures c.if-ne.true

pub returns-in-Walks-clause-takes : goal.returns-in-Walks-clause-takes
returns-in-Walks-clause-takes c =
    takes_walk c.args.repository.now c.args.question.now c.args.cache.now c.take_catalogue.new.cache c.args.was c.take_catalogue.result c.args.given c.args.id c.in-Some.bytes c.as_slice-in-Walks.result.now c.digest-found.result c.in-Walks.walk c.requires c.in-Some.is
    (c.digest-found.ensures ∙ ap sha1 c.as_slice.ensures) (agree c.digest-found.result c.args.id.hash c.ne.result c.ne.ensures c.if-ne.false) c.in-Walks.is c.as_slice-in-Walks.ensures c.take_catalogue.ensures.taken

pub returns-in-Reads-clause-takes : goal.returns-in-Reads-clause-takes
returns-in-Reads-clause-takes c =
    takes_file c.args.repository.now c.args.question.now c.args.cache.now c.args.was c.args.given c.args.id c.in-Some.bytes c.digest-found.result c.in-Reads.field-0 c.requires c.in-Some.is
    (c.digest-found.ensures ∙ ap sha1 c.as_slice.ensures) (agree c.digest-found.result c.args.id.hash c.ne.result c.ne.ensures c.if-ne.false) c.in-Reads.is
