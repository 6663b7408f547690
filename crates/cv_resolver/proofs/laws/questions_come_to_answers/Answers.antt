use Rattle.cv_resolver.proofs.Progressing.{begun_wants, given_wants}
use Rattle.cv_resolver.proofs.laws.questions_come_to_answers.Goals as goal

pub returns-clause-first : goal.returns-clause-first
returns-clause-first c = begun_wants

pub returns-clause-fewer : goal.returns-clause-fewer
returns-clause-fewer c = given_wants
