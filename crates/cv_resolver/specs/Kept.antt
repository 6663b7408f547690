-- The catalogues that a client keeps.
use Rattle.std.specs.Prelude.{◌≡◌, ℕ, List, map, Some, Contains, bytes_eq}
use Rattle.std.specs.Map.{lookup}
use Rattle.lru.specs.LruCache.{LruCache, lru_cache, promoted, put_entries}
use Rattle.sha1.specs.Sha1.{sha1}
use Rattle.cv_rows.specs.Catalogue.{Contents, IsCatalogue, catalogue_bytes}
use Rattle.cv_cut.specs.Reached.{FitsPlace}
use Rattle.cv_resolver.specs.Spot.{place_of}
use Rattle.cv_resolver.specs.declared.spot.Level.{Level}
pub use Rattle.cv_cut.specs.Own.{AreOwn}

-- the pairs of a digest and its catalogue, the last used first, and how many there may be
abbrev pub Kept : Type 0
Kept = LruCache (List ℕ) Contents

-- the catalogue of a level is there: one of its digest, which stands at its place
pub record Holds (k : Kept) (l : Level) : Type 0 where
  pub found : Contents
  pub there : lookup (bytes_eq l.hash) k.entries ≡ Some found
  pub place : FitsPlace (place_of l) found

-- the catalogue of this digest was used: it comes first
abbrev pub used : Kept → List ℕ → Kept
used k hash = lru_cache (promoted (bytes_eq hash) k.entries) k.cap

-- a catalogue was put in: it comes first
abbrev pub with_catalogue : Kept → List ℕ → Contents → Kept
with_catalogue k hash c = lru_cache (put_entries bytes_eq k hash c) k.cap

-- ---- under which digests

-- a catalogue, under the digest of its bytes
pub record IsKept (hash : List ℕ) (c : Contents) : Type 0 where
  pub is : IsCatalogue c
  pub digest : hash ≡ sha1 (catalogue_bytes c)

pub record AreKept (entries : List (List ℕ × Contents)) : Type 0 where
  pub each : (hash : List ℕ) (c : Contents) → Contains entries (hash, c) → IsKept hash c

-- ---- in a tree

-- the bytes of the catalogues that are kept
abbrev pub kept_bytes : Kept → List (List ℕ)
kept_bytes k = map (λ e. catalogue_bytes e.1) k.entries
