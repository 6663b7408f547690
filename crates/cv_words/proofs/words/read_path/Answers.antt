use Rattle.cv_words.proofs.words.read_path.Goals as goal

pub returns-in-Ok-clause-only : goal.returns-in-Ok-clause-only
returns-in-Ok-clause-only c = λ p is spells. let same = c.in-Ok.ensures.found p is spells in cc
