-- What is fetched of a repository's server.
use Rattle.std.specs.Prelude.{◌≡◌, ◌≢◌, ℕ, List, Option, Some, None, Result, Ok, Err}
use Rattle.cv_http.specs.declared.code.TheConstants.{NOT_FOUND, OK}
use Rattle.cv_http.specs.declared.http_reply.HttpReply.{HttpReply}
use Rattle.cv_client.specs.Exchange.{Links, Exchanges}
use Rattle.cv_client.specs.Requests.{file_request}
use Rattle.cv_client.specs.declared.url.Url.{Url}
use Rattle.cv_client.specs.declared.exchanging.ExchangeFault.{ExchangeFault}
use Rattle.cv_client.specs.declared.exchanging.ExchangeFault.TheVariants.{BadReply, NoMemory}

-- what a reply says of a file: of code 200 its content; of code 404 that there is none; of another code nothing
pub data SaysFile (reply : HttpReply) : Result (Option (List ℕ)) ExchangeFault → Type 0 where
  served : reply.code ≡ OK → SaysFile reply (Ok (Some reply.body))
  absent : reply.code ≡ NOT_FOUND → SaysFile reply (Ok None)
  other : reply.code ≢ OK → reply.code ≢ NOT_FOUND → SaysFile reply (Err BadReply)

-- a file of the repository was asked for in one exchange, and the reply said this; or the exchange was lost, or memory was wanted before it
pub data Fetches (u : Url) (file : List ℕ) (before after : Links) : Result (Option (List ℕ)) ExchangeFault → Type 0 where
  said : (reply : HttpReply) (r : Result (Option (List ℕ)) ExchangeFault) → Exchanges u (file_request u file) before after (Ok reply) → SaysFile reply r → Fetches u file before after r
  lost : (fault : ExchangeFault) → Exchanges u (file_request u file) before after (Err fault) → Fetches u file before after (Err fault)
  unasked : after ≡ before → Fetches u file before after (Err NoMemory)
