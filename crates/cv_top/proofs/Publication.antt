-- What a publisher sends over a dial is one publication.
use Rattle.std.proofs.Common.{◌≡◌, Bool, ℕ, List, [], ◌∷◌, ◌++◌, refl, sym, subst, inl, inr, arith}
use Rattle.std.specs.Prelude.{◌⊎◌, Contains, Option, Some, None}
use Rattle.std.specs.declared.result.Result.{Result}
use Rattle.std.specs.declared.result.Result.TheVariants.{Ok, Err}
use Rattle.std.specs.List.{AllByRecursion}
use Rattle.std.specs.Option.{option_or}
use Rattle.cv_manifest.specs.declared.manifest.Manifest.{Manifest}
use Rattle.cv_base.specs.declared.token.Token.{Token}
use Rattle.cv_http.specs.declared.outgoing.Outgoing.{Outgoing}
use Rattle.cv_http.specs.declared.http_reply.HttpReply.{HttpReply}
use Rattle.cv_keys.specs.declared.key.Key.{Key}
use Rattle.cv_publisher.specs.Holding.{PublisherView}
use Rattle.cv_publisher.specs.Requests.{cancel_request}
use Rattle.cv_publisher.specs.Taking.{Takes, Steps as TakesStep, lease_lost, manifest_unsaid, catalogue_unsaid, payload_lost, commit_lost}
use Rattle.cv_publisher.specs.Talks.{Exchanged, Talks, Published, Unleased, Cancelled, begun, bodies}
use Rattle.cv_publisher.specs.Wanting.{Wants}
use Rattle.cv_publisher.specs.declared.fault.PublishFault.{PublishFault}
use Rattle.cv_publisher.specs.declared.fault.PublishFault.TheVariants as publish_fault
use Rattle.cv_publisher.specs.declared.plan.Plan.{Plan}
use Rattle.cv_publisher.specs.declared.stage.Stage.{Stage}
use Rattle.cv_publisher.specs.declared.stage.Stage.TheVariants.{Leasing, Reading, Fetching, Sending, Committing, Cancelling, Ended}
use Rattle.cv_publisher.specs.declared.want.Want.TheVariants.{Exchange, Done as Ends}
use Rattle.cv_client.specs.Exchange.{Links}
use Rattle.cv_client.specs.declared.exchanging.ExchangeFault.{ExchangeFault}
use Rattle.cv_client.specs.declared.url.Url.{Url}
use Rattle.cv_top.specs.Publication.{Went, AreWhole, Follows, AreInTurn, IsPublication, whole, unanswered, lacking}
use Rattle.cv_top.specs.Publishes.{End, Steps, went, lost, ended, unwanted, Goes, begins, goes, Exchanged as Came, done, cut_off}

-- the laws of a publication
abbrev pub IsPublishedInOrder : Type 0
IsPublishedInOrder =
    (is_seal : List ℕ → List ℕ → Bool) (keys : List Key) (plan : Plan) (es : List Exchanged) (end : PublisherView) (revision : ℕ)
    → Talks is_seal keys (begun plan) es end → end.stage ≡ Ended (Ok revision) → Published is_seal keys plan es revision

abbrev pub IsEndedOnce : Type 0
IsEndedOnce =
    (is_seal : List ℕ → List ℕ → Bool) (keys : List Key) (plan : Plan) (es : List Exchanged) (end : PublisherView) (fault : PublishFault)
    → Talks is_seal keys (begun plan) es end → end.stage ≡ Ended (Err fault)
    → Unleased is_seal keys plan es fault ⊎ Cancelled is_seal keys plan es fault

went_on : (u : Url) (before : Links) (es more : List Exchanged) (mid after : Links) → Went u before es mid → Went u mid more after → Went u before (es ++ more) after
went_on u before [] more mid after same then = subst (λ (l : Links). Went u l more after) same then
went_on u before (e ∷ es) more mid after first then = (first.0, first.1, went_on u first.0 es more mid after first.2 then)

-- a reply that says nothing, with these bytes
abbrev mute : List ℕ → HttpReply
mute b = record { code = 500; body = b }

-- the bytes of the first reply
abbrev first_body : List Exchanged → List ℕ
first_body [] = []
first_body (e ∷ es) = e.reply.body

abbrev IsGiven : List Exchanged → Exchanged → Type 0
IsGiven es e = (es ≡ []) ⊎ Contains (bodies es) e.reply.body

given_first : (es : List Exchanged) (e : Exchanged) → e.reply.body ≡ first_body es → IsGiven es e
given_first [] e is = inl refl
given_first (x ∷ es) e is = inr (0, omega arith, sym is)

all_given : (es more : List Exchanged) → AllByRecursion (λ e. e.reply.body ≡ first_body es) more → AllByRecursion (IsGiven es) more
all_given es [] all = tt
all_given es (e ∷ more) all = (given_first es e all.0, all_given es more all.1)

abbrev view : Plan → Option Manifest → Stage → PublisherView
view plan manifest s = record { plan = plan; manifest = manifest; stage = s }

module _ (is_seal : List ℕ → List ℕ → Bool) (keys : List Key) where
  talks_on : (p : PublisherView) (es more : List Exchanged) (mid q : PublisherView) → Talks is_seal keys p es mid → Talks is_seal keys mid more q → Talks is_seal keys p (es ++ more) q
  talks_on p [] more mid q same then = subst (λ (v : PublisherView). Talks is_seal keys v more q) same then
  talks_on p (e ∷ es) more mid q first then = (first.0, (first.1.0, first.1.1, talks_on first.1.0 es more mid q first.1.2 then))

  -- where a request was wanted
  wanted_at : (p : PublisherView) (before : List Exchanged) (e : Exchanged) (more : List Exchanged) (q : PublisherView) → Talks is_seal keys p (before ++ e ∷ more) q
      → (mid : PublisherView) × Talks is_seal keys p before mid × Wants keys mid.plan mid.stage (Exchange e.request)
  wanted_at p [] e more q t = (p, refl, t.0)
  wanted_at p (x ∷ before) e more q t = (let at = wanted_at t.1.0 before e more q t.1.2 in (at.0, (t.0, (t.1.0, t.1.1, at.1)), at.2))

  -- ---- a request whose reply says nothing

  abbrev moved : PublisherView → Stage → PublisherView
  moved p next = view p.plan (option_or None p.manifest) next

  takes : (b : List ℕ) (p : PublisherView) (next : Stage) → TakesStep is_seal (mute b) p.plan p.stage None next → Takes is_seal (mute b) p (moved p next)
  takes b p next steps = record { read = None; steps = steps; plan_is = refl; manifest_is = refl }

  -- it would end the publication, with one more exchange at most
  record Ending (p : PublisherView) (request : Outgoing) (b : List ℕ) : Type 0 where
    more : List Exchanged
    end : PublisherView
    fault : PublishFault
    talks : Talks is_seal keys p (record { request = request; reply = mute b } ∷ more) end
    ends : end.stage ≡ Ended (Err fault)
    same : AllByRecursion (λ e. e.reply.body ≡ b) more

  at_once : (p : PublisherView) (request : Outgoing) (b : List ℕ) (fault : PublishFault) → Wants keys p.plan p.stage (Exchange request)
      → TakesStep is_seal (mute b) p.plan p.stage None (Ended (Err fault)) → Ending p request b
  at_once p request b fault wants steps = record {
    more = [];
    end = moved p (Ended (Err fault));
    fault = fault;
    talks = (wants, (moved p (Ended (Err fault)), takes b p (Ended (Err fault)) steps, refl));
    ends = refl;
    same = tt;
  }

  by_cancel : (p : PublisherView) (request : Outgoing) (b : List ℕ) (token : Token) (fault : PublishFault) → Wants keys p.plan p.stage (Exchange request)
      → TakesStep is_seal (mute b) p.plan p.stage None (Cancelling token fault) → Ending p request b
  by_cancel p request b token fault wants steps =
      let mid : PublisherView = moved p (Cancelling token fault) in
      let cancel : Exchanged = record { request = cancel_request keys p.plan token; reply = mute b } in
      let end : PublisherView = moved mid (Ended (Err fault)) in
      record {
        more = cancel ∷ [];
        end = end;
        fault = fault;
        talks = (wants, (mid, takes b p (Cancelling token fault) steps, (refl, (end, takes b mid (Ended (Err fault)) (refl, refl), refl))));
        ends = refl;
        same = (refl, tt);
      }

  ending : (plan : Plan) (manifest : Option Manifest) (s : Stage) (request : Outgoing) (b : List ℕ) → Wants keys plan s (Exchange request) → Ending (view plan manifest s) request b
  ending plan manifest Leasing request b wants = at_once (view plan manifest Leasing) request b publish_fault.NoMemory wants (refl, lease_lost refl)
  ending plan manifest (Reading token) request b wants =
      by_cancel (view plan manifest (Reading token)) request b token publish_fault.BadReply wants (manifest_unsaid (λ is. absurd (omega (arith, is))) refl refl)
  ending plan manifest (Fetching token base checkout) request b wants =
      by_cancel (view plan manifest (Fetching token base checkout)) request b token publish_fault.BadReply wants (refl, catalogue_unsaid refl refl)
  ending plan manifest (Sending offer catalogues left) request b wants =
      by_cancel (view plan manifest (Sending offer catalogues left)) request b offer.token publish_fault.NoMemory wants (refl, payload_lost refl)
  ending plan manifest (Committing offer) request b wants =
      by_cancel (view plan manifest (Committing offer)) request b offer.token publish_fault.NoMemory wants (refl, commit_lost refl)
  ending plan manifest (Cancelling token fault) request b wants = at_once (view plan manifest (Cancelling token fault)) request b fault wants (refl, refl)
  ending plan manifest (Ended end) request b wants = absurd cc

  -- ---- an end

  wants_nothing : (s : Stage) (plan : Plan) (end : End) → Wants keys plan s (Ends end) → s ≡ Ended end
  wants_nothing Leasing plan end wants = absurd cc
  wants_nothing (Reading token) plan end wants = absurd cc
  wants_nothing (Fetching token base checkout) plan end wants = (let is = wants.is in absurd cc)
  wants_nothing (Sending offer catalogues left) plan end wants = (let is = wants.is in absurd cc)
  wants_nothing (Committing offer) plan end wants = absurd cc
  wants_nothing (Cancelling token fault) plan end wants = absurd cc
  wants_nothing (Ended was) plan end wants = cc

  -- ---- the exchanges so far

  module _ (in_order : IsPublishedInOrder) (ended_once : IsEndedOnce) (plan : Plan) where
    follows : (es : List Exchanged) (p : PublisherView) (request : Outgoing) → Talks is_seal keys (begun plan) es p → Wants keys p.plan p.stage (Exchange request)
        → Follows is_seal keys plan es request
    follows es p request talks wants =
        let e : Ending p request (first_body es) = ending p.plan p.manifest p.stage request (first_body es) wants in
        let next : Exchanged = record { request = request; reply = mute (first_body es) } in
        record {
          next = next;
          asks = refl;
          more = e.more;
          fault = e.fault;
          whole = ended_once is_seal keys plan (es ++ next ∷ e.more) e.end e.fault (talks_on (begun plan) es (next ∷ e.more) p e.end talks e.talks) e.ends;
          given = (given_first es next refl, all_given es e.more e.same);
        }

    in_turn : (es : List Exchanged) (p : PublisherView) → Talks is_seal keys (begun plan) es p → AreInTurn is_seal keys plan es
    in_turn es p talks before more e is =
        let at = wanted_at (begun plan) before e more p (subst (λ (l : List Exchanged). Talks is_seal keys (begun plan) l p) is talks) in
        follows before at.0 e.request at.1 at.2

    are_whole : (es : List Exchanged) (p : PublisherView) (end : End) → Talks is_seal keys (begun plan) es p → p.stage ≡ Ended end → AreWhole is_seal keys plan es end
    are_whole es p (Ok revision) talks is = in_order is_seal keys plan es p revision talks is
    are_whole es p (Err fault) talks is = ended_once is_seal keys plan es p fault talks is

    module _ (u : Url) (before : Links) where
      record Talked (after : Links) (p : PublisherView) : Type 0 where
        es : List Exchanged
        gone : Went u before es after
        talks : Talks is_seal keys (begun plan) es p

      one_more : {mid after : Links} {p next : PublisherView} → Talked mid p → Steps is_seal keys u mid after p next (Ok None) → Talked after next
      one_more {mid} {after} {p} {next} t (went request reply wants exchanged taken) =
          let e : Exchanged = record { request = request; reply = reply } in
          record {
            es = t.es ++ e ∷ [];
            gone = went_on u before t.es (e ∷ []) mid after t.gone (after, exchanged, refl);
            talks = talks_on (begun plan) t.es (e ∷ []) p next t.talks (wants, (next, taken, refl));
          }

      talked : {after : Links} {p : PublisherView} → Goes is_seal keys u before (begun plan) after p → Talked after p
      talked begins = record { es = []; gone = refl; talks = refl }
      talked (goes so_far step) = one_more (talked so_far) step

      by_end : {mid after : Links} {p next : PublisherView} (end : End) → Talked mid p → Steps is_seal keys u mid after p next (Ok (Some end))
          → IsPublication is_seal keys plan u before after (Ok end)
      by_end {mid} {after} {p} end t (ended _ wants same) =
          whole t.es end (subst (λ (l : Links). Went u before t.es l) (sym same) t.gone) (are_whole t.es p end t.talks (wants_nothing p.stage p.plan end wants))

      by_fault : {mid after : Links} {p next : PublisherView} (fault : ExchangeFault) → Talked mid p → Steps is_seal keys u mid after p next (Err fault)
          → IsPublication is_seal keys plan u before after (Err fault)
      by_fault {mid} {after} {p} _ t (lost request fault wants exchanged) = unanswered t.es mid request fault t.gone (follows t.es p request t.talks wants) exchanged
      by_fault {mid} {after} {p} _ t (unwanted same) = lacking t.es (subst (λ (l : Links). Went u before t.es l) (sym same) t.gone) (in_turn t.es p t.talks)

      pub publication : (after : Links) (r : Result End ExchangeFault) → Came is_seal keys u before after (begun plan) r → IsPublication is_seal keys plan u before after r
      publication after _ (done p next mid end so_far step) = by_end end (talked so_far) step
      publication after _ (cut_off p next mid fault so_far step) = by_fault fault (talked so_far) step
