-- SHA-1 digests.
use Rattle.std.specs.Prelude.{◌≡◌, ℕ, List, length}
use Rattle.hex.specs.Hex.{IsBytes}

-- twenty bytes
pub record IsDigest (hash : List ℕ) : Type 0 where
  pub size : length hash ≡ 20
  pub bytes : IsBytes hash
