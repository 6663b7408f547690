-- What a dial tells goes on, exchange by exchange.
use Rattle.std.proofs.Common.{◌≡◌, ◌++◌, ℕ, Bool, List, [], ◌∷◌, append_assoc, append-nil, refl, sym, ap, subst, ◌∙◌}
use Rattle.std.specs.Prelude.{Option, Some, None, Contains, Result, option_map}
use Rattle.std.proofs.lemmas.List.Elements.{Contains-append_left, Contains-append_right, Contains-push}
use Rattle.std.proofs.lemmas.Option.{none-some}
use Rattle.cv_ports.specs.Dial.{Came, Event, Opened, Back, Story, and_opened, and_back}
use Rattle.cv_http.specs.declared.outgoing.Outgoing.{Outgoing}
use Rattle.cv_http.specs.declared.http_reply.HttpReply.{HttpReply}
use Rattle.cv_manifest.specs.declared.manifest.Manifest.{Manifest}
use Rattle.cv_resolver.specs.Resolver.{Client}
use Rattle.cv_resolver.specs.declared.found.Found.{Found}
use Rattle.cv_resolver.specs.declared.question.Question.{Question}
use Rattle.cv_client.specs.Answer.{Given, Comes, stays, goes, Answers, answered, cut}
use Rattle.cv_client.specs.Asking.{CameBack}
use Rattle.cv_client.specs.Exchange.{Links, linked_by, unlinked, Exchanges, linked, undialled}
use Rattle.cv_client.specs.Fetch.{Fetches, said, lost, unasked}
use Rattle.cv_client.specs.Pin.{FetchesManifest, good, bad, absent, lost as manifest_lost, Pins, pinned, unpinned, no_room}
use Rattle.cv_client.specs.Served.{Files, ServedBy}
use Rattle.cv_client.specs.declared.ask_fault.AskFault.{AskFault}
use Rattle.cv_client.specs.declared.url.Url.{Url}
use Rattle.cv_client.specs.declared.exchanging.ExchangeFault.{ExchangeFault}

-- a link was opened, and then came back
pub linked_once : (u : Url) (c : Came) (host : List ℕ) (before mid after : Links) → host ≡ u.host → mid ≡ option_map (and_opened host u.port) before → after ≡ option_map (and_back c) mid
    → after ≡ linked_by u c before
linked_once u c host before mid after same opened back =
    back ∙ ap (option_map (and_back c)) (opened ∙ ap (λ (h : List ℕ). option_map (and_opened h u.port) before) same) ∙ both before
  where
    both : (l : Links) → option_map (and_back c) (option_map (and_opened u.host u.port) l) ≡ linked_by u c l
    both None = refl
    both (Some s) = refl

-- where the dial tells, what it told is a front of what it tells now
pub record More (start : Story) (after : Links) : Type 0 where
  pub end : Story
  pub is : after ≡ Some end
  pub events : List Event
  pub more : end.events ≡ start.events ++ events

abbrev pub Extends : Links → Links → Type 0
Extends before after = (start : Story) → before ≡ Some start → More start after

pub extends_none : {l : Links} → Extends l l
extends_none = λ start was. record { end = start; is = was; events = []; more = sym (append-nil start.events) }

pub extends_then : {a b c : Links} → Extends a b → Extends b c → Extends a c
extends_then first next = λ start was.
    let m = first start was in
    let n = next m.end m.is in
    record {
      end = n.end;
      is = n.is;
      events = m.events ++ n.events;
      more = n.more ∙ ap (λ (l : List Event). l ++ n.events) m.more ∙ append_assoc start.events m.events n.events;
    }

-- what is told behind one exchange
pub told_behind : (u : Url) (c : Came) (before after : Links) (start end : Story) → before ≡ Some start → after ≡ linked_by u c before → after ≡ Some end
    → end.events ≡ start.events ++ Opened u.host u.port ∷ Back c ∷ []
told_behind u c before after start end was by is =
    let e : Some end ≡ linked_by u c (Some start) = sym is ∙ by ∙ ap (linked_by u c) was in
    let same : end ≡ and_back c (and_opened u.host u.port start) = cc in
    ap (λ (s : Story). s.events) same ∙ append_assoc start.events (Opened u.host u.port ∷ []) (Back c ∷ [])

-- the link of an exchange comes back
pub came_back : (u : Url) (link : Came) (before after : Links) → after ≡ linked_by u link before → CameBack link after
came_back u link None after by = λ s told. absurd (none-some s (sym by ∙ told))
came_back u link (Some start) after by = λ s told.
    subst (λ (events : List Event). Contains events (Back link)) (sym (told_behind u link (Some start) after start s refl by told))
    (Contains-append_right start.events (Opened u.host u.port ∷ Back link ∷ []) (Back link) (Contains-push (Opened u.host u.port ∷ []) (Back link)))

exchange_extends : {u : Url} {request : Outgoing} {before after : Links} {r : Result HttpReply ExchangeFault} → Exchanges u request before after r → Extends before after
exchange_extends {u} {request} {before} {after} (linked c r by host port told converses) = λ start was.
    let is : after ≡ linked_by u c (Some start) = by ∙ ap (linked_by u c) was in record {
      end = and_back c (and_opened u.host u.port start);
      is = is;
      events = Opened u.host u.port ∷ Back c ∷ [];
      more = append_assoc start.events (Opened u.host u.port ∷ []) (Back c ∷ []);
    }
exchange_extends {u} {request} {before} {after} (undialled by) = λ start was.
    let is : after ≡ unlinked (Some start) = by ∙ ap unlinked was in record { end = _; is = is; events = []; more = sym (append-nil start.events) }

pub fetch_extends : {u : Url} {file : List ℕ} {before after : Links} {r : Result (Option (List ℕ)) ExchangeFault} → Fetches u file before after r → Extends before after
fetch_extends (said reply r exchanged says) = exchange_extends exchanged
fetch_extends (lost fault exchanged) = exchange_extends exchanged
fetch_extends (unasked same) = λ start was. record { end = start; is = same ∙ was; events = []; more = sym (append-nil start.events) }

manifest_extends : {is_seal : List ℕ → List ℕ → Bool} {u : Url} {before after : Links} {r : Result Manifest AskFault} → FetchesManifest is_seal u before after r → Extends before after
manifest_extends (good text m fetches says) = fetch_extends fetches
manifest_extends (bad text fault fetches shows) = fetch_extends fetches
manifest_extends (absent fetches) = fetch_extends fetches
manifest_extends (manifest_lost fault fetches) = fetch_extends fetches

pub pin_extends : {is_seal : List ℕ → List ℕ → Bool} {u : Url} {before after : Links} {r : Result Client AskFault} → Pins is_seal u before after r → Extends before after
pin_extends (pinned m fetches) = manifest_extends fetches
pin_extends (unpinned fault fetches) = manifest_extends fetches
pin_extends (no_room m fetches) = manifest_extends fetches

comes_extends : {u : Url} {before after : Links} {r r' : Client} {given : Given} → Comes u before r given after r' → Extends before after
comes_extends stays = extends_none
comes_extends (goes a id x asked wants fetches gives more) = extends_then (fetch_extends fetches) (comes_extends more)

pub answer_extends : {u : Url} {q : Question} {before after : Links} {r r' : Client} {answer : Result Found AskFault} → Answers u q before after r r' answer → Extends before after
answer_extends (answered start end given answer asks comes told same on looks) = comes_extends comes
answer_extends (cut start given mid id fault asks comes wants fetches on) = extends_then (comes_extends comes) (fetch_extends fetches)

-- each link sent what the server has: also of those that came back first, and of those that came back behind them
module _ {u : Url} {files : Files} {before mid after : Links} (first : Extends before mid) (next : Extends mid after) (s : ServedBy u files before after) where
  one_end : (end end' : Story) → after ≡ Some end → after ≡ Some end' → end ≡ end'
  one_end end end' is is' = let e : Some end ≡ Some end' = sym is ∙ is' in cc

  pub served_first : ServedBy u files before mid
  served_first =
      let m = first s.start s.was in
      let n = next m.end m.is in
      record {
        start = s.start;
        was = s.was;
        end = m.end;
        is = m.is;
        each = λ events c split there.
            s.each (events ++ n.events) c
            (ap (λ (e : Story). e.events) (one_end s.end n.end s.is n.is) ∙ n.more ∙ ap (λ (l : List Event). l ++ n.events) split ∙ append_assoc s.start.events events n.events)
            (Contains-append_left events n.events (Back c) there);
      }

  pub served_next : ServedBy u files mid after
  served_next =
      let m = first s.start s.was in
      record {
        start = m.end;
        was = m.is;
        end = s.end;
        is = s.is;
        each = λ events c split there.
            s.each (m.events ++ events) c
            (split ∙ ap (λ (l : List Event). l ++ events) m.more ∙ append_assoc s.start.events m.events events)
            (Contains-append_right m.events events (Back c) there);
      }
