-- The seal of a repository.
use Rattle.std.specs.Prelude.{ℕ, Bool, List, bytes_eq}
use Rattle.cv_seal.specs.Hmac.{hmac_sha1}

-- a seal is good where it is the HMAC-SHA1 (RFC 2104) of the text under the secret
abbrev pub is_seal_by : List ℕ → List ℕ → List ℕ → Bool
is_seal_by secret text seal = bytes_eq seal (hmac_sha1 secret text)
