use Rattle.std.proofs.Common.{◌+◌, arith, List, subst, sym, ◌∙◌}
use Rattle.std.specs.List.{Contains}
use Rattle.std.proofs.lemmas.List.{take_all}
use Rattle.cv_base.specs.declared.object.Object.{Object}
use Rattle.cv_objects.proofs.Noted.{AreHere, here_again, here_anew, here_one}
use Rattle.cv_objects.proofs.batch.clash_in.Goals.{in-Some+else-differs_at, in-None+in_ok-note_place-in-None}
use Rattle.cv_objects.proofs.batch.clash_in.Goals as goal

pub loop-second-preserved : goal.loop-second-preserved
loop-second-preserved c = elim c.match-place_of.branch [
  | in-Some+else-differs_at w ↦ subst (AreHere c.args.batch.now (c.loop-second.second + 1)) (sym w.places-is)
      (here_again c.args.batch.now c.loop-second.second w.in-Some.first c.loop-second.places c.index-batch-second.result c.loop-second.invariant c.loop-second-test.true c.index-batch-second.is (sym c.place_of.ensures ∙ w.in-Some.is) (λ other at. w.differs_at.ensures.no other at w.if-differs_at.false))
  | in-None+in_ok-note_place-in-None w ↦ subst (AreHere c.args.batch.now (c.loop-second.second + 1)) (sym w.places-is)
      (here_anew c.args.batch.now c.loop-second.second c.loop-second.places w.note_place.new.places c.index-batch-second.result c.loop-second.invariant c.loop-second-test.true c.index-batch-second.is (sym c.place_of.ensures ∙ w.in-None.is) w.in_ok-note_place-in-None.ensures)
]

pub returns : goal.returns
returns c = here_one c.args.batch.now c.loop-second.places (λ o h. c.loop-second.invariant.all o (subst (λ (xs : List Object). Contains xs o) (sym (take_all c.loop-second.second c.args.batch.now (omega arith))) h))
