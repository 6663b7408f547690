-- Trees of which a subtree is replaced by that of another tree.
use Rattle.std.specs.Prelude.{◌≡◌, true, false}
use Rattle.cv_base.specs.Marker.{marker, ends_in}
use Rattle.cv_base.specs.Path.{Path, overlap}
use Rattle.cv_tree.specs.Tree.{Nodes, IsTree, at, put}
use Rattle.cv_cut.specs.Cuts.{is_cut}
use Rattle.cv_cut.specs.Catalogues.{Fits, SharesKey, IsFull}
use Rattle.cv_cut.specs.Above.{Holds}
use Rattle.cv_cut.specs.Region.{KeysApart, Passes}

-- what is asked of both trees: the cuts that hold the path, and that the keys of their regions are apart
pub record Grafting (t n : Nodes) (p c r d v : Path) : Type 0 where
  pub tree : IsTree t
  pub other : IsTree n
  pub after : IsTree (put t p (at n p))
  pub unmarked : ends_in marker p ≡ false
  pub holds : Holds t p c r
  pub held : Holds n p d v
  pub apart : KeysApart c (at t c)
  pub apart_ : KeysApart d (at n d)

-- the same of a tree of which what stands at p is replaced by s, where the keys of the region of the cut at c are apart
pub record IsPassed (t : Nodes) (p : Path) (s : Nodes) (c r e f : Path) : Type 0 where
  pub tree : IsTree t
  pub after : IsTree (put t p s)
  pub unmarked : ends_in marker p ≡ false
  pub passes : Passes t p c r e f
  pub apart : KeysApart c (at t c)

-- what a region must be, the second where P holds
pub record IsSound (P : Type 0) (t : Nodes) (c : Path) : Type 0 where
  pub keys : KeysApart c (at t c)
  pub fits : P → IsFull t c → ⊥

-- what is asked of both trees, where the cut at c holds the path in the one
pub record Replacing (t n : Nodes) (p c r : Path) : Type 0 where
  pub tree : IsTree t
  pub after : IsTree (put t p (at n p))
  pub fits : Fits t
  pub fits_ : Fits n
  pub unmarked : ends_in marker p ≡ false
  pub holds : Holds t p c r

-- ---- what fits, of the catalogues that are made anew where a part is set at p: those of the cuts at p, above it and below it

-- the keys of each of their regions are apart
abbrev pub AreKeysApart : Nodes → Path → Type 0
AreKeysApart t p = (c : Path) → is_cut t c ≡ true → overlap p c ≡ true → KeysApart c (at t c)

-- and none of them passes a limit
pub record FitsOver (t : Nodes) (p : Path) : Type 0 where
  pub keys : AreKeysApart t p
  pub limits : (c : Path) → is_cut t c ≡ true → overlap p c ≡ true → IsFull t c → ⊥

-- two paths of one of these regions share a key
pub record SharesOver (t : Nodes) (p a b : Path) : Type 0 where
  pub shares : SharesKey t a b
  pub over : overlap p shares.cut ≡ true

-- one of them is full, and no two paths share a key
pub record IsFullOver (t : Nodes) (p c : Path) : Type 0 where
  pub full : IsFull t c
  pub over : overlap p c ≡ true
  pub keys : AreKeysApart t p
