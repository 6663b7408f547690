-- Keys, and the table of a gateway's keys. What only this crate's own functions say.
use Rattle.std.specs.Prelude.{ℕ, List, Option, position}
use Rattle.std.specs.Str.{bytes_eq}
use Rattle.cv_keys.specs.declared.key.Key.{Key}

-- its place
abbrev pub place_of : List Key → List ℕ → Option ℕ
place_of keys id = position (λ key. bytes_eq key.id id) keys
