-- A client is pinned at the head of the manifest that a repository's server serves.
use Rattle.std.specs.Prelude.{ℕ, Bool, List, [], Some, None, Result, Ok, Err}
use Rattle.lru.specs.LruCache.{lru_cache}
use Rattle.cv_manifest.specs.Manifest.{Says, manifest_name}
use Rattle.cv_manifest.specs.Fault.{Shows}
use Rattle.cv_manifest.specs.declared.manifest.Manifest.{Manifest}
use Rattle.cv_manifest.specs.declared.manifest_fault.ManifestFault.{ManifestFault}
use Rattle.cv_resolver.specs.Resolver.{Client}
use Rattle.cv_client.specs.Exchange.{Links}
use Rattle.cv_client.specs.Fetch.{Fetches}
use Rattle.cv_client.specs.declared.url.Url.{Url}
use Rattle.cv_client.specs.declared.exchanging.ExchangeFault.{ExchangeFault}
use Rattle.cv_client.specs.declared.pinning.TheConstants.{CATALOGUES}
use Rattle.cv_client.specs.declared.ask_fault.AskFault.{AskFault}
use Rattle.cv_client.specs.declared.ask_fault.AskFault.TheVariants.{BadReply, NoMemory}
use Rattle.cv_client.specs.Faults.{lost_by, bad_by}

-- a client that was pinned at the head of a manifest, and knows nothing else yet; it keeps up to 64 catalogues
abbrev pub client_at : Manifest → Client
client_at m = record { name = m.name; revision = m.head.revision; root = m.head.root; cache = lru_cache [] CATALOGUES; asked = None }

-- the manifest was fetched and says this under a signer, whose seals are these; or it shows a fault; or it wasn't fetched
pub data FetchesManifest (is_seal : List ℕ → List ℕ → Bool) (u : Url) (before after : Links) : Result Manifest AskFault → Type 0 where
  good : (text : List ℕ) (m : Manifest) → Fetches u manifest_name before after (Ok (Some text)) → Says is_seal text m → FetchesManifest is_seal u before after (Ok m)
  bad : (text : List ℕ) (fault : ManifestFault) → Fetches u manifest_name before after (Ok (Some text)) → Shows is_seal text fault
      → FetchesManifest is_seal u before after (Err (bad_by fault))
  absent : Fetches u manifest_name before after (Ok None) → FetchesManifest is_seal u before after (Err BadReply)
  lost : (fault : ExchangeFault) → Fetches u manifest_name before after (Err fault) → FetchesManifest is_seal u before after (Err (lost_by fault))

-- a client was pinned at the manifest that is served, or wasn't
pub data Pins (is_seal : List ℕ → List ℕ → Bool) (u : Url) (before after : Links) : Result Client AskFault → Type 0 where
  pinned : (m : Manifest) → FetchesManifest is_seal u before after (Ok m) → Pins is_seal u before after (Ok (client_at m))
  unpinned : (fault : AskFault) → FetchesManifest is_seal u before after (Err fault) → Pins is_seal u before after (Err fault)
  no_room : (m : Manifest) → FetchesManifest is_seal u before after (Ok m) → Pins is_seal u before after (Err NoMemory)
