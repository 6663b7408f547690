use Rattle.cv_resolver.proofs.Grounds.{begun_told, given_content, given_told}
use Rattle.cv_resolver.proofs.laws.answers_are_those_of_rows.Goals as goal

pub returns-clause-asked : goal.returns-clause-asked
returns-clause-asked c = begun_told

pub returns-clause-given : goal.returns-clause-given
returns-clause-given c = given_told

pub returns-clause-content : goal.returns-clause-content
returns-clause-content c = given_content
