-- What a client's command ends with where its server has the answer.
use Rattle.std.specs.Prelude.{◌≡◌, ℕ, Bool, true, false, List, Option}
use Rattle.cv_tree.specs.Tree.{Nodes}
use Rattle.cv_manifest.specs.declared.manifest.Manifest.{Manifest}
use Rattle.cv_resolver.specs.declared.question.Question.{Question}
use Rattle.cv_client.specs.Exchange.{Links}
use Rattle.cv_client.specs.Served.{Files, ServedBy, HasAnswer}
use Rattle.cv_client.specs.declared.url.Url.{Url}
use Rattle.cv_top.specs.Seal.{is_seal_by}
use Rattle.cv_top.specs.Tells.{IsSo}
use Rattle.cv_words.specs.Words.{Asks}
use Rattle.cv_top.specs.declared.status.Status.{Status}
use Rattle.cv_top.specs.declared.status.Status.TheVariants.{Done, NoAnswer, OutOfMemory}
use Rattle.cv_words.specs.declared.words.Command.TheVariants.{Look}

-- by the answer in the tree, or memory was wanted
abbrev pub ends_answered : Status → Bool
ends_answered Done = true
ends_answered (NoAnswer fault) = true
ends_answered OutOfMemory = true
ends_answered other = false

-- what an output took
module _ {W : Type 0} (taken : W → Option (List ℕ)) where
  -- what the status says is so in the tree
  pub record Ends (repository : List ℕ) (t : Nodes) (q : Question) (output output' : W) (status : Status) : Type 0 where
    pub so : IsSo taken repository t q output output' status
    pub whole : ends_answered status ≡ true

  -- so ends a question wherever each link that came back sent what the server has, which has the answer in the tree
  abbrev pub Answered : (seal : List ℕ) → Url → Question → (before after : Links) → (output output' : W) → Status → Type 0
  Answered seal u q before after output output' status = (files : Files) → ServedBy u files before after
      → (t : Nodes) (m : Manifest) → HasAnswer (is_seal_by seal) files t m q → Ends m.name t q output output' status

  -- so ends the question that the words ask
  pub record Answers (words : List (List ℕ)) (seal : List ℕ) (before after : Links) (output output' : W) (status : Status) : Type 0 where
    pub url : Url
    pub question : Question
    pub asks : Asks words (Look url question)
    pub answered : Answered seal url question before after output output' status
