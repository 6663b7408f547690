use Rattle.std.proofs.Common.{List, sym, ap, subst, ◌∙◌, inl}
use Rattle.std.specs.Option.{option_map}
use Rattle.cv_base.specs.Path.{Path}
use Rattle.cv_base.specs.declared.id.ObjectId.{ObjectId}
use Rattle.cv_objects.specs.Names.{standing_on}
use Rattle.cv_load.specs.Known.{AreWhole}
use Rattle.cv_load.specs.NewFetches.{HasNew}
use Rattle.cv_desk.specs.Refusals.{is_unmade}
use Rattle.cv_desk.proofs.CommitCalls.{at_ok, if_ok}
use Rattle.cv_desk.proofs.CommitExact.{unmade_at}
use Rattle.cv_desk.proofs.Knowing.{known_read, known_judged, learned, learned_whole, offers_learnt, unmade_learnt}
use Rattle.cv_desk.proofs.committing.judge.Goals as goal

pub returns-in-Ok-clause-offers : goal.returns-in-Ok-clause-offers
returns-in-Ok-clause-offers g c = λ d told. offers_learnt (standing_on d) c.args.offered.now.hash c.learn.result c.learn.ensures.memory
    (at_ok _ _ c.whole.result c.in-Ok.pairs c.in-Ok.is (c.whole.ensures.told (standing_on d) (ap (option_map standing_on) told) (c.requires.known d told))).0

pub returns-in-Ok-clause-only : goal.returns-in-Ok-clause-only
returns-in-Ok-clause-only g c = λ d told. learned_whole (standing_on d) c.args.known.now c.learn.new.known c.as_slice.result.now
    (subst (AreWhole (standing_on d)) (sym c.as_slice.ensures.value) (at_ok _ _ c.whole.result c.in-Ok.pairs c.in-Ok.is (c.whole.ensures.told (standing_on d) (ap (option_map standing_on) told) (c.requires.known d told))).1) c.learn.ensures.only

pub returns-in-Ok-clause-known : goal.returns-in-Ok-clause-known
returns-in-Ok-clause-known g c = known_judged g.V.Vault.disk g.V.Vault.count g.V.Vault.left c.args.line.now c.whole.new.shelf c.whole.ensures.reads c.args.known.now c.learn.new.known c.requires.known (returns-in-Ok-clause-only g c)

pub returns-in-Err-clause-known : goal.returns-in-Err-clause-known
returns-in-Err-clause-known g c = known_read g.V.Vault.disk g.V.Vault.count g.V.Vault.left c.args.known.now c.args.line.now.vault c.whole.new.shelf.vault c.whole.ensures.reads.0 c.requires.known

pub returns-in-Err-clause-only : goal.returns-in-Err-clause-only
returns-in-Err-clause-only g c = λ d told hash path was. inl was

pub returns-in-Err-clause-remembers : goal.returns-in-Err-clause-remembers
returns-in-Err-clause-remembers g c = λ hash path was. was

pub returns-in-Ok-clause-learns : goal.returns-in-Ok-clause-learns
returns-in-Ok-clause-learns g c = λ d told. learned (standing_on d) c.args.known.now c.learn.new.known c.args.offered.now.hash c.as_slice.result.now
    (subst (λ (pairs : List (ObjectId × Path)). HasNew (standing_on d) c.args.known.now c.args.offered.now.hash pairs) (sym c.as_slice.ensures.value)
    (if_ok _ c.whole.result c.in-Ok.pairs c.in-Ok.is (c.whole.ensures.given (standing_on d) (ap (option_map standing_on) told)))) c.learn.ensures.remembers c.learn.result c.learn.ensures.added

pub returns-in-Ok-clause-kind : goal.returns-in-Ok-clause-kind
returns-in-Ok-clause-kind g c = unmade_learnt c.learn.result c.learn.ensures.memory

pub returns-in-Err-clause-kind : goal.returns-in-Err-clause-kind
returns-in-Err-clause-kind g c = ap is_unmade c.of_offered.ensures ∙ unmade_at c.in-Err.fault

pub returns-in-Ok-clause-fetches : goal.returns-in-Ok-clause-fetches
returns-in-Ok-clause-fetches g c = λ d told. c.whole.ensures.fetches (standing_on d) (ap (option_map standing_on) told)

pub returns-in-Err-clause-fetches : goal.returns-in-Err-clause-fetches
returns-in-Err-clause-fetches g c = λ d told. c.whole.ensures.fetches (standing_on d) (ap (option_map standing_on) told)
