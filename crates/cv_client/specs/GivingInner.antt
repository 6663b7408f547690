-- A client is given what it wants until it wants nothing.
use Rattle.std.specs.Prelude.{◌≡◌, Some, None, Result, Ok, Err}
use Rattle.cv_base.specs.ObjectId.{file_name}
use Rattle.cv_base.specs.declared.id.ObjectId.{ObjectId}
use Rattle.cv_resolver.specs.Resolver.{Client, wanted_in}
use Rattle.cv_client.specs.Answer.{Given, Comes, StaysOn}
use Rattle.cv_client.specs.Exchange.{Links}
use Rattle.cv_client.specs.Fetch.{Fetches}
use Rattle.cv_client.specs.declared.url.Url.{Url}
use Rattle.cv_client.specs.declared.exchanging.ExchangeFault.{ExchangeFault}

-- it was given so much, and came so far
pub record GoesOn (u : Url) (before after : Links) (r r' : Client) : Type 0 where
  pub given : Given
  pub comes : Comes u before r given after r'
  pub on : StaysOn r given r'

-- it wants nothing more, or an object wasn't fetched
pub data GivesAll (u : Url) (before after : Links) (r r' : Client) : Result (Unit {0}) ExchangeFault → Type 0 where
  all : GoesOn u before after r r' → wanted_in r'.asked ≡ None → GivesAll u before after r r' (Ok tt)
  cut : (mid : Links) (id : ObjectId) (fault : ExchangeFault) → GoesOn u before mid r r' → wanted_in r'.asked ≡ Some id → Fetches u (file_name id) mid after (Err fault)
      → GivesAll u before after r r' (Err fault)
