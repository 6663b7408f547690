-- What a client's command tells of the tree that is served, whatever the links give.
use Rattle.std.specs.Prelude.{◌≡◌, ℕ, Bool, true, false, List, Option, Some}
use Rattle.std.specs.declared.result.Result.{Result}
use Rattle.std.specs.declared.result.Result.TheVariants.{Ok, Err}
use Rattle.cv_ports.specs.Streams.{onto}
use Rattle.cv_tree.specs.Tree.{Nodes}
use Rattle.cv_manifest.specs.declared.manifest.Manifest.{Manifest}
use Rattle.cv_resolver.specs.Look.{IsFound, look as found_in}
use Rattle.cv_resolver.specs.Resolver.{Client, Asks as IsAsked, answer_in}
use Rattle.cv_resolver.specs.declared.question.Question.{Question}
use Rattle.cv_resolver.specs.declared.found.Found.{Found}
use Rattle.cv_resolver.specs.declared.found.ClientFault.{ClientFault}
use Rattle.cv_resolver.specs.declared.found.ClientFault.TheVariants as client_fault
use Rattle.cv_client.specs.Answer.{Given, Comes, bytes_in}
use Rattle.cv_client.specs.Exchange.{Links}
use Rattle.cv_client.specs.Pin.{FetchesManifest, client_at}
use Rattle.cv_client.specs.Texts.{found_text}
use Rattle.cv_client.specs.declared.url.Url.{Url}
use Rattle.cv_shell.specs.Tells.{IsServed}
use Rattle.cv_top.specs.Seal.{is_seal_by}
use Rattle.cv_words.specs.Words.{Asks}
use Rattle.cv_top.specs.declared.client_fault.LookFault.{LookFault}
use Rattle.cv_top.specs.declared.client_fault.LookFault.TheVariants as look
use Rattle.cv_top.specs.declared.status.Status.{Status}
use Rattle.cv_top.specs.declared.status.Status.TheVariants.{Done, NoAnswer}
use Rattle.cv_words.specs.declared.words.Command.TheVariants.{Look}

-- the words ask a question
pub record IsQuestion (words : List (List ℕ)) : Type 0 where
  pub url : Url
  pub question : Question
  pub asks : Asks words (Look url question)

-- the statuses that tell of the tree
abbrev pub tells_of_tree : Status → Bool
tells_of_tree Done = true
tells_of_tree (NoAnswer fault) = true
tells_of_tree other = false

-- why a question finds nothing
abbrev pub cause_of : LookFault → ClientFault
cause_of look.NotFound = client_fault.NotFound
cause_of look.NotDirectory = client_fault.NotDirectory
cause_of look.NotFile = client_fault.NotFile
cause_of look.TooManyLinks = client_fault.TooManyLinks

-- what an output took
module _ {W : Type 0} (taken : W → Option (List ℕ)) where
  -- by the status: what was printed is the text of what the question finds in the tree; or it finds nothing there, for this cause
  abbrev pub IsSo : (repository : List ℕ) → Nodes → Question → W → W → Status → Type 0
  IsSo repository t q output output' Done = (found : Found) × IsFound (found_in repository t q) found × (taken output' ≡ onto (taken output) (found_text found))
  IsSo repository t q output output' (NoAnswer fault) = found_in repository t q ≡ Err (cause_of fault)
  IsSo repository t q output output' other = Unit {0}

  -- The manifest came in the first exchange, and has its seal. Behind it was asked, in order, what the client that is pinned there
  -- wants, until it told its answer. What the status says is so in each tree with the root of that manifest.
  pub record Tells (words : List (List ℕ)) (seal : List ℕ) (before after : Links) (output output' : W) (status : Status) : Type 0 where
    pub url : Url
    pub question : Question
    pub asks : Asks words (Look url question)
    pub manifest : Manifest
    pub mid : Links
    pub fetched : FetchesManifest (is_seal_by seal) url before mid (Ok manifest)
    pub start : Client
    pub end : Client
    pub given : Given
    pub begins : IsAsked (client_at manifest) question start
    pub comes : Comes url mid start given after end
    pub answer : Result Found ClientFault
    pub told : answer_in end.asked ≡ Some answer
    pub so : (t : Nodes) → IsServed t manifest (bytes_in given) → IsSo manifest.name t question output output' status
