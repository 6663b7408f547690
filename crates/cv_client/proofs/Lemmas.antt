-- What the crates above may cite of links that are read behind their requests.
pub use Rattle.cv_client.proofs.Supplying.{ended_at}
use Rattle.std.proofs.Common.{◌≡◌, [], ◌∷◌, refl, sym, subst, inl, inr, ◌∙◌}
use Rattle.std.proofs.lemmas.List.Elements.{Contains-append_left}
use Rattle.std.proofs.lemmas.Option.{none-some}
use Rattle.std.specs.Prelude.{◌⊎◌, Option, Some, None, IsSome, Contains, Result, option_map}
use Rattle.cv_ports.specs.Dial.{Came, Opened, Back, Story, and_failed, and_opened, and_back}
use Rattle.cv_ports.specs.Streams.{Look}
use Rattle.cv_http.specs.declared.outgoing.Outgoing.{Outgoing}
use Rattle.cv_http.specs.declared.http_reply.HttpReply.{HttpReply}
use Rattle.cv_client.specs.Asking.{CameBack, IsRead, AsksFirst}
use Rattle.cv_client.specs.Exchange.{Links, Exchanges, linked, undialled}
use Rattle.cv_client.specs.declared.exchanging.ExchangeFault.{ExchangeFault}
use Rattle.cv_client.specs.declared.url.Url.{Url}

map_told : {X Y : Type 0} (f : X → Y) (o : Option X) → IsSome o → IsSome (option_map f o)
map_told f None is = is
map_told f (Some x) is = refl

exchange_told : {u : Url} {request : Outgoing} {before after : Links} {r : Result HttpReply ExchangeFault} → Exchanges u request before after r → IsSome before → IsSome after
exchange_told {before = before} (linked c r by host port told converses) is = subst IsSome (sym by) (map_told _ before is)
exchange_told {before = before} (undialled by) is = subst IsSome (sym by) (map_told _ before is)

-- those links that came back before an exchange are told still
map_keeps : (f : Story → Story) (link : Came) (before after : Links) → ((s : Story) → Contains s.events (Back link) → Contains (f s).events (Back link)) → after ≡ option_map f before
    → CameBack link before → CameBack link after
map_keeps f link None after grows by was = λ s told. absurd (none-some s (sym by ∙ told))
map_keeps f link (Some start) after grows by was = λ s told.
    let e : Some (f start) ≡ Some s = sym by ∙ told in
    let same : f start ≡ s = cc in
    subst (λ (x : Story). Contains x.events (Back link)) same (grows start (was start refl))

exchange_keeps : {u : Url} {request : Outgoing} {before after : Links} {r : Result HttpReply ExchangeFault} → Exchanges u request before after r → (link : Came) → CameBack link before → CameBack link after
exchange_keeps {u = u} {before = before} {after = after} (linked c r by host port told converses) link was =
    map_keeps (λ (s : Story). and_back c (and_opened u.host u.port s)) link before after
    (λ s has. Contains-append_left (and_opened u.host u.port s).events (Back c ∷ []) (Back link) (Contains-append_left s.events (Opened u.host u.port ∷ []) (Back link) has)) by was
exchange_keeps {before = before} {after = after} (undialled by) link was = map_keeps and_failed link before after (λ s has. has) by was

module _ {N : Type 0} {came : N → Links} {looks : N → Look → Type 0} where
  -- no link was read
  pub asks_none : {a : N} → AsksFirst came looks a a
  asks_none = record { tells = λ is. is; keeps = λ link is. is; each = λ look is. inl is }

  -- one exchange was made
  pub asks_once : {u : Url} {request : Outgoing} {r : Result HttpReply ExchangeFault} {a b : N} → Exchanges u request (came a) (came b) r
      → ((look : Look) → looks b look → looks a look ⊎ IsRead request (came a) (came b) look) → AsksFirst came looks a b
  asks_once {request = request} exchanged behind = record {
    tells = exchange_told exchanged;
    keeps = exchange_keeps exchanged;
    each = λ look is. elim (behind look is) [ inl noted ↦ inl noted | inr new ↦ inr (request, new) ];
  }

  -- links were read, and then others
  pub asks_then : {a b c : N} → AsksFirst came looks a b → AsksFirst came looks b c → AsksFirst came looks a c
  asks_then first next = record {
    tells = λ is. next.tells (first.tells is);
    keeps = λ link is. next.keeps link (first.keeps link is);
    each = λ look is. elim (next.each look is) [
      | inl noted ↦ elim (first.each look noted) [
        | inl old ↦ inl old
        | inr new ↦ inr (new.0, record { link = new.1.link; back = next.keeps new.1.link new.1.back; behind = new.1.behind })
      ]
      | inr new ↦
          let at = new.1.behind in
          inr (
            new.0,
            record {
              link = new.1.link;
              back = new.1.back;
              behind = record { whole = at.whole; told = λ was. at.told (first.tells was); got = at.got; split = at.split; awaits = at.awaits };
            },
          )
    ];
  }
