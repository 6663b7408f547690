-- What a server sends that has the files of a tree.
use Rattle.std.proofs.Common.{◌≡◌, ◌++◌, ℕ, List, [], ◌∷◌, append-nil, refl, sym, ap, subst, ◌∙◌, inl, inr, arith}
use Rattle.std.specs.Prelude.{⊤, Option, Some, None, IsSome, Result, Ok, Err}
use Rattle.std.proofs.lemmas.List.Elements.{Contains-push}
use Rattle.cv_base.specs.Told.{WhereTold}
use Rattle.cv_base.proofs.Laws.{some_there}
use Rattle.cv_ports.specs.Dial.{Came, Opened, Back}
use Rattle.cv_http.specs.ReplyTexts.{IsBody, IsReply, IsRefusedReply, IsCutReply}
use Rattle.cv_http.specs.Wires.{HasEnded}
use Rattle.cv_http.specs.declared.http_reply.HttpReply.{HttpReply}
use Rattle.cv_http.specs.declared.fault.HttpFault.{HttpFault}
use Rattle.cv_client.specs.Exchange.{Links, IsTold, linked_by, GaveReply, GaveNone, TookAll, Converses, replied, bad, write_failed, read_failed, no_memory, Exchanges, linked, undialled}
use Rattle.cv_client.specs.Fetch.{SaysFile, served, absent, other, Fetches, said, lost, unasked}
use Rattle.cv_client.specs.Requests.{file_request}
use Rattle.cv_client.specs.Served.{Files, SendsFile, ServedBy, IsFetched}
use Rattle.cv_client.specs.declared.url.Url.{Url}
use Rattle.cv_client.specs.declared.exchanging.ExchangeFault.{ExchangeFault}
use Rattle.cv_client.specs.declared.exchanging.ExchangeFault.TheVariants as exchange_fault
use Rattle.cv_client.proofs.Telling.{told_behind}

is_some_of : {X : Type 0} {o : Option X} (x : X) → o ≡ Some x → IsSome o
is_some_of x is = rw is refl

body_ends : {E F : Type 0} → (E → F) → (size : Option ℕ) (b body later : List ℕ) → IsBody E size b body later → IsBody F size b body later
body_ends ends None b body later is = (is.0, is.1, is.2, ends is.3)
body_ends ends (Some size) b body later is = is

reply_ends : {E F : Type 0} {b later : List ℕ} {reply : HttpReply} → (E → F) → IsReply E b reply later → IsReply F b reply later
reply_ends {b = b} {later = later} {reply = reply} ends is = record {
  head = is.head;
  behind = is.behind;
  final = is.final;
  code = is.code;
  body = body_ends ends is.head.length is.behind reply.body later is.body;
}

-- the laws of replies
module _ (one : (b later later' : List ℕ) (reply reply' : HttpReply) → IsReply ⊤ b reply later → IsReply ⊤ b reply' later' → (reply ≡ reply') × (later ≡ later'))
    (unrefused : (b later : List ℕ) (reply : HttpReply) (fault : HttpFault) → IsReply ⊤ b reply later → IsRefusedReply b fault → ⊥)
    (uncut : (b later : List ℕ) (reply : HttpReply) → IsReply ⊤ b reply later → IsCutReply b → ⊥)
    (behind : (b more later : List ℕ) (reply : HttpReply) → IsReply (more ≡ []) b reply later → IsReply ⊤ (b ++ more) reply (later ++ more))
    (refused_behind : (b more : List ℕ) (fault : HttpFault) → IsRefusedReply b fault → IsRefusedReply (b ++ more) fault) where
  -- the reply that was read is the one that was sent
  reply_is : (c : Came) (content : List ℕ) (s : SendsFile content c) (reply : HttpReply) → WhereTold c.given (GaveReply c.left reply) → reply ≡ s.reply
  reply_is c content s reply gave =
      let g = gave s.given s.gave in
      let is : IsReply (s.left ≡ []) s.given reply g.later = reply_ends (λ (ended : HasEnded c.left). ended s.left s.has) g.is in
      (one (s.given ++ s.left) (g.later ++ s.left) s.later reply s.reply (behind s.given s.left g.later reply is) s.is).0

  -- what was read is no reply only where none was sent
  some_sent : (c : Came) (content : List ℕ) (s : SendsFile content c) → WhereTold c.given (GaveNone c.left) → ⊥
  some_sent c content s none = elim (none s.given s.gave) [
    | inl refused ↦ unrefused (s.given ++ s.left) s.later s.reply refused.0 s.is (refused_behind s.given s.left refused.0 refused.1)
    | inr cut ↦ uncut (s.given ++ s.left) s.later s.reply s.is
        (subst IsCutReply (sym (ap (λ (l : List ℕ). s.given ++ l) (cut.1 s.left s.has) ∙ append-nil s.given)) cut.0)
  ]

  said_file : (content : List ℕ) (reply : HttpReply) (r : Result (Option (List ℕ)) ExchangeFault) → SaysFile reply r → reply.code ≡ 200 → reply.body ≡ content → IsFetched content r
  said_file content reply _ (served ok) code body = body
  said_file content reply _ (absent lacks) code body = (let e : 200 ≡ 404 = sym code ∙ lacks in omega (arith, e))
  said_file content reply _ (other not_ok not_absent) code body = absurd (not_ok code)

  module _ {u : Url} {file : List ℕ} {before after : Links} (files : Files) (content : List ℕ) (has : files file ≡ Some content) (s : ServedBy u files before after) where
    sent : (c : Came) → after ≡ linked_by u c before → (IsSome before → IsTold c) → TookAll (file_request u file) c → SendsFile content c
    sent c by told took =
        let t = some_there c.taken (told (is_some_of s.start s.was)).taken in
        s.each (Opened u.host u.port ∷ Back c ∷ []) c (told_behind u c before after s.start s.end s.was by s.is) (Contains-push (Opened u.host u.port ∷ []) (Back c))
        file content has (t.1 ∙ ap (λ (b : List ℕ). Some b) (took.taken t.0 t.1))

    by_reply : (c : Came) (reply : HttpReply) (r : Result (Option (List ℕ)) ExchangeFault) → SendsFile content c → WhereTold c.given (GaveReply c.left reply) → SaysFile reply r → IsFetched content r
    by_reply c reply r sends gave says =
        let same = reply_is c content sends reply gave in
        said_file content reply r says (ap (λ (x : HttpReply). x.code) same ∙ sends.code) (ap (λ (x : HttpReply). x.body) same ∙ sends.body)

    in_reply : (x : Result HttpReply ExchangeFault) (c : Came) (reply : HttpReply) (r : Result (Option (List ℕ)) ExchangeFault) → x ≡ Ok reply → after ≡ linked_by u c before → (IsSome before → IsTold c)
        → Converses (file_request u file) c x → SaysFile reply r → IsFetched content r
    in_reply _ c reply r is by told (replied found took gave) says =
        let same : found ≡ reply = cc in
        by_reply c reply r (sent c by told took) (subst (λ (x : HttpReply). WhereTold c.given (GaveReply c.left x)) same gave) says
    in_reply _ c reply r is by told (bad took none) says = absurd cc
    in_reply _ c reply r is by told (write_failed took none) says = absurd cc
    in_reply _ c reply r is by told (read_failed took waits) says = absurd cc
    in_reply _ c reply r is by told (no_memory took) says = absurd cc

    by_exchange : (x : Result HttpReply ExchangeFault) (reply : HttpReply) (r : Result (Option (List ℕ)) ExchangeFault) → x ≡ Ok reply → Exchanges u (file_request u file) before after x → SaysFile reply r → IsFetched content r
    by_exchange x reply r is (linked c _ by host port told converses) says = in_reply x c reply r is by told converses says
    by_exchange _ reply r is (undialled by) says = absurd cc

    -- or why there is none
    in_fault : (x : Result HttpReply ExchangeFault) (c : Came) (fault : ExchangeFault) → x ≡ Err fault → after ≡ linked_by u c before → (IsSome before → IsTold c)
        → Converses (file_request u file) c x → IsFetched content (Err fault)
    in_fault _ c fault is by told (replied found took gave) = absurd cc
    in_fault _ c fault is by told (bad took none) = absurd (some_sent c content (sent c by told took) none)
    in_fault _ c fault is by told (write_failed took none) = (let same : exchange_fault.LinkFailed ≡ fault = cc in subst (λ (f : ExchangeFault). IsFetched content (Err f)) same tt)
    in_fault _ c fault is by told (read_failed took waits) = (let same : exchange_fault.LinkFailed ≡ fault = cc in subst (λ (f : ExchangeFault). IsFetched content (Err f)) same tt)
    in_fault _ c fault is by told (no_memory took) = (let same : exchange_fault.NoMemory ≡ fault = cc in subst (λ (f : ExchangeFault). IsFetched content (Err f)) same tt)

    by_fault : (x : Result HttpReply ExchangeFault) (fault : ExchangeFault) → x ≡ Err fault → Exchanges u (file_request u file) before after x → IsFetched content (Err fault)
    by_fault x fault is (linked c _ by host port told converses) = in_fault x c fault is by told converses
    by_fault _ fault is (undialled by) = (let same : exchange_fault.LinkFailed ≡ fault = cc in subst (λ (f : ExchangeFault). IsFetched content (Err f)) same tt)

    pub fetched : (r : Result (Option (List ℕ)) ExchangeFault) → Fetches u file before after r → IsFetched content r
    fetched r (said reply _ exchanged says) = by_exchange (Ok reply) reply r refl exchanged says
    fetched _ (lost fault exchanged) = by_fault (Err fault) fault refl exchanged
    fetched _ (unasked same) = tt
