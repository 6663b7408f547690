use Rattle.std.proofs.Common.{sym, ap, ◌∙◌}
use Rattle.cv_answers.specs.Refusal.{id_of}
use Rattle.cv_answers.proofs.Ids.{id_of-id_text, id_of-None}
use Rattle.cv_answers.proofs.read_refusal.id_in.Goals as goal

pub returns-in-Some : goal.returns-in-Some
returns-in-Some c = sym (ap id_of c.in-Some.ensures.value ∙ id_of-id_text c.in-Some.id c.in-Some.ensures.digest)

pub returns-in-None : goal.returns-in-None
returns-in-None c = sym (id_of-None c.args.text.now (λ id is spelt. let never = c.in-None.ensures.found id is spelt in cc (never)))
