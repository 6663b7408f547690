-- Names of files are lists of bytes, in the order of their bytes.
use Rattle.std.specs.Prelude.{ℕ, Bool, List, codes, nat_eq}
use Rattle.std.specs.List.{starts_with}
pub use Rattle.cv_base.specs.Path.{same_name}

abbrev pub Name : Type 0
Name = List ℕ

-- the name is one on the way: files get their final names from there, and what a crash leaves there is never read
abbrev pub on_way : Name → Bool
on_way n = starts_with nat_eq n (codes "txn/")
