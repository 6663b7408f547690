-- The walk that a question asks for.
use Rattle.std.specs.Prelude.{Bool, true, false}
use Rattle.cv_base.specs.Path.{Path}
use Rattle.cv_resolver.specs.declared.question.Question.{Question}
use Rattle.cv_resolver.specs.declared.question.Question.TheVariants.{List, Stat, Read}

abbrev pub path_of_question : Question → Path
path_of_question (List p) = p
path_of_question (Stat p) = p
path_of_question (Read p) = p

-- a link at the path itself is followed, but not where its own entry is asked for
abbrev pub is_stat : Question → Bool
is_stat (List p) = false
is_stat (Stat p) = true
is_stat (Read p) = false
