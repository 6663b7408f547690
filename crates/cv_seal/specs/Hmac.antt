-- HMAC (RFC 2104, section 2) over SHA-1, whose blocks have 64 bytes.
use Rattle.std.specs.Prelude.{ℕ, ◌-◌, List, ◌++◌, length, map, replicate, bit_xor, nat_lt, if◌then◌else◌}
use Rattle.sha1.specs.Sha1.{sha1}

-- a key longer than a block is hashed
abbrev pub short_key : List ℕ → List ℕ
short_key key = if nat_lt 64 (length key) then sha1 key else key

-- zeros are put behind the key up to a block
abbrev pub block_key : List ℕ → List ℕ
block_key key = short_key key ++ replicate (64 - length (short_key key)) 0

-- each byte of the block, xor the pad
abbrev pub masked : ℕ → List ℕ → List ℕ
masked pad block = map (λ b. bit_xor b pad) block

-- the inner pad is 0x36, and the outer 0x5c
abbrev pub hmac_sha1 : List ℕ → List ℕ → List ℕ
hmac_sha1 key text = sha1 (masked 0x5c (block_key key) ++ sha1 (masked 0x36 (block_key key) ++ text))
