-- Decimals without a sign and without leading zeros.
use Rattle.std.specs.Prelude.{ℕ, ◌≡◌, ◌≢◌, ◌<◌, ◌⊎◌, Bool, true, false, List, length, slice_index}

-- a text that begins with a plus sign, or with a zero before other bytes, or neither
abbrev pub MatchPlain : Bool → List ℕ → Type 0
MatchPlain true text = (slice_index text 0 ≢ 43) × (slice_index text 0 ≡ 48 → length text ≡ 1)
MatchPlain false text = (slice_index text 0 ≡ 43) ⊎ ((slice_index text 0 ≡ 48) × (1 < length text))
