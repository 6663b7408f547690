-- What this crate's own functions say of a publication.
use Rattle.std.specs.Prelude.{◌⊎◌, ℕ, List, Option}
use Rattle.cv_base.specs.Path.{Path}
use Rattle.cv_ports.specs.Folder.{Folders}
use Rattle.cv_keys.specs.declared.key.Key.{Key}
use Rattle.cv_client.specs.Exchange.{Links}
use Rattle.cv_client.specs.declared.url.Url.{Url}
use Rattle.cv_top.specs.declared.status.Status.{Status}
use Rattle.cv_top.specs.Publishes.{OnePublication, SendsNothing}

module _ {W C F N : Type 0} (taken : W → Option (List ℕ)) (moments : C → Option (ℕ → ℕ)) (holds : F → Option Folders) (named : F → Option (List ℕ)) (came : N → Links) where
  -- one publication of the changes that were read, or none
  abbrev pub PublishesOnce : List Key → List ℕ → Url → Path → List ℕ → W → W → C → C → F → F → N → N → Status → Type 0
  PublishesOnce keys seal u path root output output' clock clock' f f' dial dial' status =
      OnePublication taken moments holds named came keys seal u path root output output' clock clock' f f' dial dial' status ⊎ SendsNothing taken moments holds named came dial dial' status
