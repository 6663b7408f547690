-- A question is answered by exchanges.
use Rattle.std.specs.Prelude.{◌≡◌, ℕ, List, [], ◌∷◌, Option, Some, None, Result, Ok, Err}
use Rattle.cv_base.specs.ObjectId.{file_name}
use Rattle.cv_base.specs.declared.id.ObjectId.{ObjectId}
use Rattle.cv_tree.specs.Tree.{Nodes}
use Rattle.cv_resolver.specs.Kept.{AreOwn}
use Rattle.cv_resolver.specs.Look.{IsAnswer, look}
use Rattle.cv_resolver.specs.Resolver.{Client, IsOn, Asks, Gives, wanted_in, answer_in}
use Rattle.cv_resolver.specs.declared.question.Question.{Question}
use Rattle.cv_resolver.specs.declared.resolver.Asked.{Asked}
use Rattle.cv_resolver.specs.declared.found.Found.{Found}
use Rattle.cv_resolver.specs.declared.found.ClientFault.{ClientFault}
use Rattle.cv_client.specs.Exchange.{Links}
use Rattle.cv_client.specs.Fetch.{Fetches}
use Rattle.cv_client.specs.Faults.{lost_by, refused_by}
use Rattle.cv_client.specs.declared.url.Url.{Url}
use Rattle.cv_client.specs.declared.exchanging.ExchangeFault.{ExchangeFault}
use Rattle.cv_client.specs.declared.ask_fault.AskFault.{AskFault}

-- what was given for objects that were wanted, one after another: bytes, or that there are none
abbrev pub Given : Type 0
Given = List (Option (List ℕ))

-- the bytes among it
abbrev pub bytes_in : Given → List (List ℕ)
bytes_in [] = []
bytes_in (None ∷ more) = bytes_in more
bytes_in (Some bytes ∷ more) = bytes ∷ bytes_in more

-- While the client wants an object, that is fetched and given to it, one after another.
pub data Comes (u : Url) : Links → Client → Given → Links → Client → Type 0 where
  stays : {l : Links} {r : Client} → Comes u l r [] l r
  goes : {l mid l' : Links} {r next r' : Client} {more : Given} (a : Asked) (id : ObjectId) (given : Option (List ℕ)) → r.asked ≡ Some a → wanted_in r.asked ≡ Some id
      → Fetches u (file_name id) l mid (Ok given) → Gives r a given next → Comes u mid next more l' r' → Comes u l r (given ∷ more) l' r'

-- the answer that a client told, or its refusal
abbrev pub told_by : Result Found ClientFault → Result Found AskFault
told_by (Ok found) = Ok found
told_by (Err fault) = Err (refused_by fault)

-- In every tree at whose root the client was pinned, if none of the bytes given shares a digest with others of the tree: it stays so.
abbrev pub StaysOn : Client → Given → Client → Type 0
StaysOn r given r' = (t : Nodes) → IsOn t r → AreOwn t (bytes_in given) → IsOn t r'

-- and the answer is that of the tree
abbrev pub IsLook : Client → Given → Question → Result Found ClientFault → Type 0
IsLook r given q answer = (t : Nodes) → IsOn t r → AreOwn t (bytes_in given) → IsAnswer (look r.name t q) answer

-- The question was asked; what was wanted for it was fetched and given; and the client told its answer, or an object wasn't fetched.
pub data Answers (u : Url) (q : Question) (before after : Links) (r r' : Client) : Result Found AskFault → Type 0 where
  answered : (start end : Client) (given : Given) (answer : Result Found ClientFault) → Asks r q start → Comes u before start given after end
      → answer_in end.asked ≡ Some answer → r' ≡ record end { asked = None } → StaysOn r given r' → IsLook r given q answer
      → Answers u q before after r r' (told_by answer)
  cut : (start : Client) (given : Given) (mid : Links) (id : ObjectId) (fault : ExchangeFault) → Asks r q start → Comes u before start given mid r'
      → wanted_in r'.asked ≡ Some id → Fetches u (file_name id) mid after (Err fault) → StaysOn r given r'
      → Answers u q before after r r' (Err (lost_by fault))
