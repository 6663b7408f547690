-- One question is asked at the head that is served.
use Rattle.std.specs.Prelude.{ℕ, Bool, List, Result, Ok, Err}
use Rattle.cv_resolver.specs.Resolver.{Client}
use Rattle.cv_resolver.specs.declared.question.Question.{Question}
use Rattle.cv_resolver.specs.declared.found.Found.{Found}
use Rattle.cv_client.specs.Answer.{Answers}
use Rattle.cv_client.specs.Exchange.{Links}
use Rattle.cv_client.specs.Pin.{Pins}
use Rattle.cv_client.specs.declared.ask_fault.AskFault.{AskFault}
use Rattle.cv_client.specs.declared.url.Url.{Url}

-- A client was pinned at the manifest of the first reply, and told its answer there; or it wasn't pinned.
pub data Told (is_seal : List ℕ → List ℕ → Bool) (u : Url) (q : Question) (before after : Links) : Result Found AskFault → Type 0 where
  pinned : (mid : Links) (client client' : Client) (answer : Result Found AskFault) → Pins is_seal u before mid (Ok client)
      → Answers u q mid after client client' answer → Told is_seal u q before after answer
  unpinned : (fault : AskFault) → Pins is_seal u before after (Err fault) → Told is_seal u q before after (Err fault)
