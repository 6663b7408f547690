-- A publisher's exchanges over a dial.
use Rattle.std.proofs.Common.{◌≡◌, Bool, ℕ, List, [], ◌∷◌, refl, subst}
use Rattle.std.specs.Prelude.{Option, Some, None}
use Rattle.std.specs.declared.result.Result.{Result}
use Rattle.std.specs.declared.result.Result.TheVariants.{Ok, Err}
use Rattle.cv_base.specs.Path.{Path}
use Rattle.cv_ports.specs.Folder.{Folders}
use Rattle.cv_keys.specs.declared.key.Key.{Key}
use Rattle.cv_tree.specs.Changes.{FitsUnder}
use Rattle.cv_overlay.specs.Changes.{AreContents, ChangesView}
use Rattle.cv_publisher.specs.Holding.{PublisherView}
use Rattle.cv_client.specs.Exchange.{Links}
use Rattle.cv_client.specs.declared.exchanging.ExchangeFault.{ExchangeFault}
use Rattle.cv_client.specs.declared.exchanging.ExchangeFault.TheVariants as exchange_fault
use Rattle.cv_client.specs.declared.url.Url.{Url}
use Rattle.cv_session.specs.Standing.{Gives}
use Rattle.cv_top.specs.Publishes.{End, Steps, unwanted, Goes, goes, Exchanged, done, cut_off, ReadsRoot, Sends, start_of}
use Rattle.cv_top.specs.Seal.{is_seal_by}

module _ {is_seal : List ℕ → List ℕ → Bool} {keys : List Key} {u : Url} {before mid after : Links} {start p next : PublisherView} (so_far : Goes is_seal keys u before start mid p) where
  -- one step more, or the last
  pub goes_on : {r : Option End} → r ≡ None → Steps is_seal keys u mid after p next (Ok r) → Goes is_seal keys u before start after next
  goes_on {r} is step = goes so_far (subst (λ (x : Option End). Steps is_seal keys u mid after p next (Ok x)) is step)

  pub ends : {r : Option End} (end : End) → r ≡ Some end → Steps is_seal keys u mid after p next (Ok r) → Exchanged is_seal keys u before after start (Ok end)
  ends {r} end is step = done p next mid end so_far (subst (λ (x : Option End). Steps is_seal keys u mid after p next (Ok x)) is step)

  pub breaks : (fault : ExchangeFault) → Steps is_seal keys u mid after p next (Err fault) → Exchanged is_seal keys u before after start (Err fault)
  breaks fault step = cut_off p next mid fault so_far step

-- memory was wanted
pub no_memory : {is_seal : List ℕ → List ℕ → Bool} {keys : List Key} {u : Url} {before after : Links} {start : PublisherView} (p : PublisherView)
    → Goes is_seal keys u before start after p → Exchanged is_seal keys u before after start (Err exchange_fault.NoMemory)
no_memory p so_far = cut_off p p _ exchange_fault.NoMemory so_far (unwanted refl)

-- what came of a publisher of the changes that were read
module _ {W C F N : Type 0} (taken : W → Option (List ℕ)) (moments : C → Option (ℕ → ℕ)) (holds : F → Option Folders) (named : F → Option (List ℕ)) (came : N → Links) where
  pub sends_by : (keys : List Key) (seal : List ℕ) (u : Url) (path : Path) (root : List ℕ) (clock clock' : C) (f f' : F) (dial dial' : N) (changes : ChangesView) (now : ℕ) (start : PublisherView) (r : Result End ExchangeFault)
      → ReadsRoot holds named path root f f' (Ok changes) → AreContents changes.nodes changes.objects → FitsUnder path changes.nodes → Gives (moments clock) (now ∷ []) (moments clock') → start ≡ start_of u path changes now
      → Exchanged (is_seal_by seal) keys u (came dial) (came dial') start r → Sends taken moments holds named came keys seal u path root clock clock' f f' dial dial' r
  sends_by keys seal u path root clock clock' f f' dial dial' changes now start r reads contents limits moment is exchanged = record {
    changes = changes;
    reads = reads;
    contents = contents;
    limits = limits;
    now = now;
    moment = moment;
    exchanged = subst (λ (p : PublisherView). Exchanged (is_seal_by seal) keys u (came dial) (came dial') p r) is exchanged;
  }
