-- Exchanges over a dial that are those of one publication.
use Rattle.std.specs.Prelude.{◌≡◌, ◌⊎◌, ℕ, Bool, List, [], ◌∷◌, ◌++◌, Contains, Result, Ok, Err}
use Rattle.std.specs.List.{AllByRecursion}
use Rattle.cv_http.specs.declared.outgoing.Outgoing.{Outgoing}
use Rattle.cv_keys.specs.declared.key.Key.{Key}
use Rattle.cv_publisher.specs.Talks.{Exchanged, Published, Unleased, Cancelled, bodies}
use Rattle.cv_publisher.specs.declared.fault.PublishFault.{PublishFault}
use Rattle.cv_publisher.specs.declared.plan.Plan.{Plan}
use Rattle.cv_client.specs.Exchange.{Links, Exchanges}
use Rattle.cv_client.specs.declared.exchanging.ExchangeFault.{ExchangeFault}
use Rattle.cv_client.specs.declared.exchanging.ExchangeFault.TheVariants.{NoMemory}
use Rattle.cv_client.specs.declared.url.Url.{Url}

-- Exchanges went one after another, each on a link of its own, which took the request and gave the reply; and nothing else was dialled.
abbrev pub Went : Url → Links → List Exchanged → Links → Type 0
Went u before [] after = after ≡ before
Went u before (e ∷ es) after = (mid : Links) × Exchanges u e.request before mid (Ok e.reply) × Went u mid es after

-- by this seal, under these keys, of this plan
module _ (is_seal : List ℕ → List ℕ → Bool) (keys : List Key) (plan : Plan) where
  -- exchanges are all those of a publication that ended so: with a revision; or with a fault, before a lease was granted, or behind it
  abbrev pub AreWhole : List Exchanged → Result ℕ PublishFault → Type 0
  AreWhole es (Ok revision) = Published is_seal keys plan es revision
  AreWhole es (Err fault) = Unleased is_seal keys plan es fault ⊎ Cancelled is_seal keys plan es fault

  -- A request comes behind exchanges in a publication: with some reply to it, and what would come then, they are all those of one that ended
  -- with a fault. These replies have no bytes that weren't given before.
  pub record Follows (es : List Exchanged) (request : Outgoing) : Type 0 where
    pub next : Exchanged
    pub asks : next.request ≡ request
    pub more : List Exchanged
    pub fault : PublishFault
    pub whole : AreWhole (es ++ next ∷ more) (Err fault)
    pub given : AllByRecursion (λ e. (es ≡ []) ⊎ Contains (bodies es) e.reply.body) (next ∷ more)

  -- each of these requests comes behind those before it in a publication
  abbrev pub AreInTurn : List Exchanged → Type 0
  AreInTurn es = (before more : List Exchanged) (e : Exchanged) → es ≡ before ++ e ∷ more → Follows before e.request

  -- What went between was one publication, which came to this: it ended so; or a request of it had no reply, by this fault; or memory was
  -- wanted behind these exchanges.
  pub data IsPublication (u : Url) (before after : Links) : Result (Result ℕ PublishFault) ExchangeFault → Type 0 where
    whole : (es : List Exchanged) (end : Result ℕ PublishFault) → Went u before es after → AreWhole es end → IsPublication u before after (Ok end)
    unanswered : (es : List Exchanged) (mid : Links) (request : Outgoing) (fault : ExchangeFault) → Went u before es mid → Follows es request → Exchanges u request mid after (Err fault)
        → IsPublication u before after (Err fault)
    lacking : (es : List Exchanged) → Went u before es after → AreInTurn es → IsPublication u before after (Err NoMemory)
