-- Bytes that share no digest with the catalogues of a tree.
use Rattle.std.specs.Prelude.{◌≡◌, ℕ, true, List, Contains}
use Rattle.sha1.specs.Sha1.{sha1}
use Rattle.cv_base.specs.Path.{Path}
use Rattle.cv_tree.specs.Tree.{Nodes}
use Rattle.cv_cut.specs.Cuts.{is_cut}
use Rattle.cv_cut.specs.Catalogues.{cat}

-- no other bytes among these have the SHA-1 of a catalogue of the tree
pub record AreOwn (t : Nodes) (strings : List (List ℕ)) : Type 0 where
  pub own : (bytes : List ℕ) (c : Path) → Contains strings bytes → is_cut t c ≡ true → sha1 bytes ≡ sha1 (cat t c) → bytes ≡ cat t c
