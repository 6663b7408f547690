-- What a line asks.
use Rattle.std.specs.Prelude.{◌≡◌, ◌++◌, ℕ, List, codes, true, Ok}
use Rattle.std.specs.Str.{is_utf8}
use Rattle.cv_base.specs.Path.{Path}
use Rattle.cv_base.specs.PathText.{path_of}
use Rattle.cv_resolver.specs.declared.question.Question.{Question}
use Rattle.cv_resolver.specs.declared.question.Question.TheVariants as question
use Rattle.cv_shell.specs.declared.line.Line.{Line}
use Rattle.cv_shell.specs.declared.line.Line.TheVariants.{Ask, Renew}
use Rattle.cv_shell.specs.declared.line.Verb.{Verb}
use Rattle.cv_shell.specs.declared.line.Verb.TheVariants.{List as list, Stat, Read}

-- the word before a path, and the space behind it
abbrev pub word_of : Verb → List ℕ
word_of list = codes "ls "
word_of Stat = codes "stat "
word_of Read = codes "cat "

-- the question about a path
abbrev pub question_of : Verb → Path → Question
question_of list path = question.List path
question_of Stat path = question.Stat path
question_of Read path = question.Read path

-- the bytes are UTF-8 that says this path
pub record PathIn (bytes : List ℕ) (path : Path) : Type 0 where
  pub utf8 : is_utf8 bytes ≡ true
  pub says : path_of bytes ≡ Ok path

-- the text asks this
pub data Says (text : List ℕ) : Line → Type 0 where
  asks : (verb : Verb) (bytes : List ℕ) (path : Path) → text ≡ word_of verb ++ bytes → PathIn bytes path → Says text (Ask (question_of verb path))
  renews : text ≡ codes "renew" → Says text Renew
