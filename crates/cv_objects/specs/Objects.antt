-- Objects over a vault, as contracts see them.
use Rattle.std.specs.Prelude.{ℕ}

-- the vault, and how many objects were fetched, or asked for in vain, so far as 64 bits can count
pub record ObjectsView (V : Type 0) : Type 0 where
  pub vault : V
  pub taken : ℕ
