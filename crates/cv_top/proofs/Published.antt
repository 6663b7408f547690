-- What `publish` sends is one publication, and it tells what that came to.
use Rattle.std.proofs.Common.{◌≡◌, ◌≢◌, ℕ, List, refl, sym, ap, ◌∙◌, inl, inr}
use Rattle.std.specs.declared.option.Option.{Option}
use Rattle.std.specs.declared.result.Result.{Result}
use Rattle.std.specs.declared.result.Result.TheVariants.{Ok, Err}
use Rattle.cv_base.specs.Path.{Path}
use Rattle.cv_ports.specs.Folder.{Folders}
use Rattle.cv_ports.specs.Streams.{Look}
use Rattle.cv_vault.specs.Disk.{Disk, Files}
use Rattle.cv_keys.specs.KeysText.{keys_of}
use Rattle.cv_keys.specs.declared.key.Key.{Key}
use Rattle.cv_overlay.specs.declared.read_fault.ReadFault.{ReadFault}
use Rattle.cv_overlay.specs.declared.read_fault.ReadFault.TheVariants as read_fault
use Rattle.cv_client.specs.Exchange.{Links}
use Rattle.cv_client.specs.declared.exchanging.ExchangeFault.{ExchangeFault}
use Rattle.cv_client.specs.declared.url.Url.{Url}
use Rattle.cv_top.specs.Publishes.{End, IsOrMemory, IsPublisher, read_status, Sends, Publishes, published, unpublished, cut, unread, Says, OnePublication, PublishesAsked, asked, unasked, start_of}
use Rattle.cv_top.specs.PublishesInner.{PublishesOnce}
use Rattle.cv_top.specs.Runs.{Outside, Runs, usage, bad_keys, unsigned, no_seal, unbegun, init, stdio, look, shell, publish}
use Rattle.cv_top.specs.Seal.{is_seal_by}
use Rattle.cv_words.specs.Words.{Asks}
use Rattle.cv_top.specs.declared.status.Status.{Status}
use Rattle.cv_top.specs.declared.status.Status.TheVariants.{Done, OutOfMemory}
use Rattle.cv_words.specs.declared.words.Command.TheVariants.{Publish}
use Rattle.cv_words.proofs.Laws.{no_publish, no_publish_init, no_publish_shell, no_publish_stdio}
use Rattle.cv_top.proofs.Publication.{IsPublishedInOrder, IsEndedOnce, publication}

unread_undone : (fault : ReadFault) → read_status fault ≢ Done
unread_undone (read_fault.Special path) is = absurd cc
unread_undone (read_fault.BadName path) is = absurd cc
unread_undone (read_fault.TooLarge path) is = absurd cc
unread_undone read_fault.Failed is = absurd cc
unread_undone read_fault.NoMemory is = absurd cc

undone : (wanted status : Status) → wanted ≢ Done → IsOrMemory wanted status → status ≢ Done
undone wanted status other (inl is) done = other (sym is ∙ done)
undone wanted status other (inr lacks) done = (let is : OutOfMemory ≡ Done = sym lacks.1 ∙ done in absurd cc)

module _ (in_order : IsPublishedInOrder) (ended_once : IsEndedOnce) where
  module _ {W C F N : Type 0} {taken : W → Option (List ℕ)} {moments : C → Option (ℕ → ℕ)} {holds : F → Option Folders} {named : F → Option (List ℕ)} {came : N → Links}
      {keys : List Key} {seal : List ℕ} {u : Url} {path : Path} {root : List ℕ} {output output' : W} {clock clock' : C} {f f' : F} {dial dial' : N} where
    one : (r : Result End ExchangeFault) (status : Status) → Sends taken moments holds named came keys seal u path root clock clock' f f' dial dial' r
        → Says taken moments holds named came output output' r status → OnePublication taken moments holds named came keys seal u path root output output' clock clock' f f' dial dial' status
    one r status sends says = record {
      r = r;
      sends = sends;
      publication = publication (is_seal_by seal) keys in_order ended_once (start_of u path sends.changes sends.now).plan u (came dial) (came dial') r sends.exchanged;
      says = says;
    }

    pub publishes_once : {status : Status} → Publishes taken moments holds named came keys seal u path root output output' clock clock' f f' dial dial' status
        → PublishesOnce taken moments holds named came keys seal u path root output output' clock clock' f f' dial dial' status
    publishes_once (published revision status sends prints) = inl (one (Ok (Ok revision)) status sends prints)
    publishes_once (unpublished fault status sends how same) = inl (one (Ok (Err fault)) status sends (how, same))
    publishes_once (cut fault sends same) = inl (one (Err fault) _ sends (refl, same))
    publishes_once (unread fault status reads how same still near) = inr (record { untouched = near; undone = undone (read_status fault) status (unread_undone fault) how })

  module _ {V : Type 0} (disk : V → Option Disk) (count : V → ℕ) (left : V → ℕ → Files → Type 0)
      {R W C F N : Type 0} (faults : V → ℕ) (rest given : R → Option (List ℕ)) (looks : R → Look → Type 0) (taken passed : W → Option (List ℕ)) (moments : C → Option (ℕ → ℕ)) (holds : F → Option Folders) (named : F → Option (List ℕ)) (came : N → Links)
      (words : List (List ℕ)) (keys seal : List ℕ) (a b : Outside V R W C F N) where
    abbrev So : Status → Type 0
    So = PublishesAsked taken moments holds named came words keys seal a.output b.output a.clock b.clock a.folder b.folder a.dial b.dial

    sends_nothing : {status : Status} → status ≢ Done → b ≡ a → So status
    sends_nothing other same = unasked (record { untouched = ap (λ (o : Outside V R W C F N). o.dial) same; undone = other })

    as_asked : (u : Url) (path : Path) (root : List ℕ) (table : List Key) (status : Status) → Asks words (Publish u path root) → keys_of keys ≡ Ok table
        → PublishesOnce taken moments holds named came table seal u path root a.output b.output a.clock b.clock a.folder b.folder a.dial b.dial status → So status
    as_asked u path root table status asks are (inl one) = asked u path root table asks are one
    as_asked u path root table status asks are (inr none) = unasked none

    pub publishes_as_asked : (status : Status) → Runs disk count left faults rest given looks taken passed moments holds named came words keys seal a b status → IsPublisher words → So status
    publishes_as_asked status (usage never same) by = absurd (never (record { command = Publish by.url by.path by.root; asks = by.asks }))
    publishes_as_asked status (bad_keys name asks has same) by = absurd (no_publish_stdio by.url by.path by.root name by.asks asks)
    publishes_as_asked status (unsigned u path root asks has same) by = sends_nothing (λ is. absurd cc) same
    publishes_as_asked status (no_seal command asks has empty same) by = sends_nothing (λ is. absurd cc) same
    publishes_as_asked status (unbegun same) by = sends_nothing (λ is. absurd cc) same
    publishes_as_asked status (init name how asks some inits same still near) by = absurd (no_publish_init by.url by.path by.root name by.asks asks)
    publishes_as_asked status (stdio name table how asks are some serves still near) by = absurd (no_publish_stdio by.url by.path by.root name by.asks asks)
    publishes_as_asked status (look u q how asks some looked same) by = absurd (no_publish u by.url q by.path by.root asks by.asks)
    publishes_as_asked status (shell u how asks some said same) by = absurd (no_publish_shell by.url u by.path by.root by.asks asks)
    publishes_as_asked status (publish u path root table how asks are some publishes same near) by =
        as_asked u path root table status asks are (publishes_once publishes)
