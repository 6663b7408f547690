use Rattle.std.proofs.Common.{refl}
use Rattle.cv_objects.proofs.Lemmas.{same_fault, named_more}
use Rattle.cv_swap.specs.Kept.{object_of}
use Rattle.cv_desk.proofs.Preparing.{then_unbrought, then_prepared, ready_then, published_then, says_then, dropped_then}
use Rattle.cv_desk.proofs.committing.make_ready.Goals as goal

pub returns-in_err-shelve-clause-walks : goal.returns-in_err-shelve-clause-walks
returns-in_err-shelve-clause-walks g c = λ d e. then_unbrought _ _ _ _ (same_fault _ _ c.from_residual.ensures.1) (c.in_err-shelve.ensures.walks d e)

pub returns-clause-walks : goal.returns-clause-walks
returns-clause-walks g c = λ d e. then_prepared c.prepare.result c.args.others.items (object_of c.args.next) _ (named_more c.args.others.items (object_of c.args.next) c.requires.named refl) (c.in_ok-shelve.ensures.walks d e) c.prepare.ensures.walks

pub returns-clause-ready : goal.returns-clause-ready
returns-clause-ready g c = ready_then c.in_ok-shelve.ensures.dropped c.prepare.new.self c.args.next c.prepare.result c.prepare.ensures.ready

pub returns-clause-published : goal.returns-clause-published
returns-clause-published g c = published_then c.in_ok-shelve.ensures.dropped c.prepare.new.self c.prepare.result c.prepare.ensures.published

pub returns-clause-says : goal.returns-clause-says
returns-clause-says g c = says_then c.in_ok-shelve.ensures.dropped c.prepare.new.self g.S.Signer.is_seal c.prepare.result c.prepare.ensures.says

pub returns-clause-dropped : goal.returns-clause-dropped
returns-clause-dropped g c = dropped_then c.in_ok-shelve.ensures.dropped c.prepare.new.self c.prepare.result c.prepare.ensures.dropped
