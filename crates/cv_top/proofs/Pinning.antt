-- Where no client is pinned, no question is refused.
use Rattle.std.proofs.Common.{◌≡◌, Bool, true, false, List, ℕ, refl, ap}
use Rattle.std.specs.declared.result.Result.{Result}
use Rattle.std.specs.declared.result.Result.TheVariants.{Err}
use Rattle.cv_resolver.specs.Resolver.{Client}
use Rattle.cv_resolver.specs.declared.found.ClientFault.{ClientFault}
use Rattle.cv_client.specs.Exchange.{Links}
use Rattle.cv_client.specs.Pin.{Pins, pinned, unpinned, no_room}
use Rattle.cv_client.specs.declared.ask_fault.AskFault.{AskFault}
use Rattle.cv_client.specs.declared.ask_fault.AskFault.TheVariants.{LinkFailed, BadReply, BadManifest, Refused, NoMemory}
use Rattle.cv_client.specs.declared.url.Url.{Url}
use Rattle.cv_shell.proofs.Lemmas.{not_refused}

-- the answers that tell of the tree
abbrev pub is_refused : AskFault → Bool
is_refused (Refused fault) = true
is_refused other = false

module _ {is_seal : List ℕ → List ℕ → Bool} {u : Url} {before after : Links} where
  unpinned_never : (r : Result Client AskFault) → Pins is_seal u before after r → (f : ClientFault) → r ≡ Err (Refused f) → ⊥
  unpinned_never r (pinned m fetched) f is = absurd cc
  unpinned_never r (unpinned why fetched) f is = (let e : why ≡ Refused f = cc in not_refused (Err why) fetched f (ap (λ x. Err x) e))
  unpinned_never r (no_room m fetched) f is = absurd cc

  pub never_refused : (fault : AskFault) → Pins is_seal u before after (Err fault) → is_refused fault ≡ false
  never_refused LinkFailed pins = refl
  never_refused BadReply pins = refl
  never_refused BadManifest pins = refl
  never_refused NoMemory pins = refl
  never_refused (Refused f) pins = absurd (unpinned_never (Err (Refused f)) pins f refl)
