use Rattle.cv_words.proofs.words.read_place.Goals as goal

pub returns-clause-only : goal.returns-clause-only
returns-clause-only c = λ u p place. c.in_ok-read_path.ensures.only p place.is_path place.spells
