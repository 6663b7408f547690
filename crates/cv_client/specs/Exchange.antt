-- One exchange: a request on a link of its own, and its reply.
use Rattle.std.specs.Prelude.{◌≡◌, ◌++◌, [], ◌⊎◌, ℕ, List, Option, IsSome, Result, Ok, Err, option_map}
use Rattle.cv_base.specs.Told.{WhereTold}
use Rattle.cv_ports.specs.Dial.{Came, Story, and_failed, and_opened, and_back}
use Rattle.cv_http.specs.Requests.{request_text}
use Rattle.cv_http.specs.ReplyTexts.{IsReply, IsRefusedReply, IsCutReply, IsAwaitedReply}
use Rattle.cv_http.specs.Wires.{HasEnded}
use Rattle.cv_http.specs.declared.outgoing.Outgoing.{Outgoing}
use Rattle.cv_http.specs.declared.http_reply.HttpReply.{HttpReply}
use Rattle.cv_http.specs.declared.fault.HttpFault.{HttpFault}
use Rattle.cv_client.specs.declared.url.Url.{Url}
use Rattle.cv_client.specs.declared.exchanging.ExchangeFault.{ExchangeFault}
use Rattle.cv_client.specs.declared.exchanging.ExchangeFault.TheVariants.{LinkFailed, BadReply, NoMemory}

-- what a dial tells of its dials and of its links, where it tells
abbrev pub Links : Type 0
Links = Option Story

-- one dial was made, to the URL's host and port, and opened a link, which came back
abbrev pub linked_by : Url → Came → Links → Links
linked_by u c = option_map (λ s. and_back c (and_opened u.host u.port s))

-- one dial was made, and failed
abbrev pub unlinked : Links → Links
unlinked = option_map and_failed

-- a link tells what it gave, has left, took and passed on
pub record IsTold (c : Came) : Type 0 where
  pub given : IsSome c.given
  pub left : IsSome c.left
  pub taken : IsSome c.taken
  pub passed : IsSome c.passed

-- the link took the whole request, and has passed it on
pub record TookAll (request : Outgoing) (c : Came) : Type 0 where
  pub taken : WhereTold c.taken (λ b. b ≡ request_text request)
  pub passed : WhereTold c.passed (λ b. b ≡ request_text request)

-- of the request the link took a front
pub record TookFront (request : Outgoing) (taken : List ℕ) : Type 0 where
  pub more : List ℕ
  pub split : request_text request ≡ taken ++ more

-- the bytes begin with this reply, which the end of the link ends where its length isn't stated
pub record GaveReply (left : Option (List ℕ)) (reply : HttpReply) (given : List ℕ) : Type 0 where
  pub later : List ℕ
  pub is : IsReply (HasEnded left) given reply later

-- the bytes are no reply: they are refused, or the link ends before one does
abbrev pub GaveNone : Option (List ℕ) → List ℕ → Type 0
GaveNone left given = ((fault : HttpFault) × IsRefusedReply given fault) ⊎ (IsCutReply given × HasEnded left)

-- What a link took and gave, by what became of the request: it took all of it and gave this reply; or all of it, and what it gave is none;
-- or it failed while it took it, and gave nothing; or took all of it, and failed before what it gave was a whole reply; or memory was
-- wanted.
pub data Converses (request : Outgoing) (c : Came) : Result HttpReply ExchangeFault → Type 0 where
  replied : (reply : HttpReply) → TookAll request c → WhereTold c.given (GaveReply c.left reply) → Converses request c (Ok reply)
  bad : TookAll request c → WhereTold c.given (GaveNone c.left) → Converses request c (Err BadReply)
  write_failed : WhereTold c.taken (TookFront request) → WhereTold c.given (λ b. b ≡ []) → Converses request c (Err LinkFailed)
  read_failed : TookAll request c → WhereTold c.given IsAwaitedReply → Converses request c (Err LinkFailed)
  no_memory : WhereTold c.taken (TookFront request) → Converses request c (Err NoMemory)

-- What an exchange came to: it made one dial, to the URL's host and port, whose link came back, and is told where the dial tells; or one
-- dial, which failed.
pub data Exchanges (u : Url) (request : Outgoing) (before after : Links) : Result HttpReply ExchangeFault → Type 0 where
  linked : (c : Came) (r : Result HttpReply ExchangeFault) → after ≡ linked_by u c before → c.host ≡ u.host → c.port ≡ u.port → (IsSome before → IsTold c) → Converses request c r
      → Exchanges u request before after r
  undialled : after ≡ unlinked before → Exchanges u request before after (Err LinkFailed)
