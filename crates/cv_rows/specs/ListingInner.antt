-- The rows that stand directly in a directory. What only this crate's own functions say.
use Rattle.std.specs.Prelude.{Bool, not, ◌&&◌, bytes_eq, ℕ, List}
use Rattle.cv_rows.specs.Catalogue.{is_below}
use Rattle.cv_rows.specs.declared.row.Row.{Row}

-- the row has this key as its parent key, and is neither the row of the key nor that of the root's key
abbrev pub is_in : List ℕ → List ℕ → Row → Bool
is_in root key r = is_below r key && not (bytes_eq r.key.0 root)
