use Rattle.clap.specs.Matches.{found_of}
use Rattle.cv_words.proofs.Values.{none_added, one_added}
use Rattle.cv_words.proofs.program.push_value.Goals as goal

pub returns-in_default-clause-pushed : goal.returns-in_default-clause-pushed
returns-in_default-clause-pushed c = none_added c.args.values.now.items c.args.id.now (found_of c.args.matches.now) c.in_default.ensures

pub returns-clause-pushed : goal.returns-clause-pushed
returns-clause-pushed c =
    one_added c.args.values.now.items c.push.new.self.items c.in-Some.value c.args.id.now (found_of c.args.matches.now) c.in_ok-push.ensures.items c.in-Some.ensures
