-- What an object holds or has left is told or not told.
use Rattle.std.specs.Prelude.{◌≡◌, Option, Some}

-- the fact holds of what is told, if it is told
abbrev pub WhereTold : {T : Type 0} → Option T → (T → Type 0) → Type 0
WhereTold {T} told P = (x : T) → told ≡ Some x → P x
