-- What a tree is cut into. What only this crate's own functions say.
use Rattle.std.specs.Prelude.{◌≡◌, ℕ, ◌<◌, ◌≤◌, List, true, not, Some, IsSome, map, slice_get}
use Rattle.std.specs.List.{All, filter}
use Rattle.std.specs.Ordering.{is_lt}
use Rattle.std.specs.FinMap.{is_sorted}
use Rattle.std.specs.BTreeMap.{BTreeMap}
use Rattle.std.specs.BTreeMap as tree
use Rattle.cv_base.specs.Path.{Path, path_cmp, key_of}
use Rattle.cv_base.specs.declared.limits.TheConstants.{OBJECT_LIMIT}
use Rattle.cv_tree.specs.Tree.{Nodes}
use Rattle.cv_tree.specs.declared.node.Node.{Node}
use Rattle.cv_rows.specs.declared.nested.Nested.{Nested}
use Rattle.cv_cut.specs.Cuts.{cuts_of, region}
use Rattle.cv_cut.specs.Catalogues.{SharesKey, IsFull}
use Rattle.cv_cut.specs.declared.cut_fault.CutFault.{CutFault}
use Rattle.cv_cut.specs.declared.cut_fault.CutFault.TheVariants.{PathCollision, CatalogueFull, NoMemory}
use Rattle.cv_cut.specs.Cut.{is_other, nested_in}

-- entries in the order of their paths, of which none stands before p
pub record StandFrom (p : Path) (es : List (Path × Node)) : Type 0 where
  pub rises : is_sorted path_cmp es ≡ true
  pub from : All (λ e. not (is_lt (path_cmp e.0 p)) ≡ true) es

-- the other cuts that the cut at c covers
abbrev pub cuts_below : Nodes → Path → List Path
cuts_below t c = filter (is_other t c) (cuts_of t)

-- what has been made: nested entries of cuts, among them those of all of a list, and none of more than 16 MiB
pub record HasMade (t : Nodes) (cuts : List Path) (made : BTreeMap Path Nested) : Type 0 where
  pub all : All (λ d. IsSome (tree.get path_cmp made d)) cuts
  pub each : (d : Path) (n : Nested) → tree.get path_cmp made d ≡ Some n → n ≡ nested_in t d
  pub sizes : (d : Path) (n : Nested) → tree.get path_cmp made d ≡ Some n → n.size ≤ OBJECT_LIMIT

-- the entry is that of a path which is another cut
pub record IsOtherEntry (t : Nodes) (c p : Path) (n : Nested) : Type 0 where
  pub other : is_other t c p ≡ true
  pub is : n ≡ nested_in t p
  pub size : n.size ≤ OBJECT_LIMIT

-- the fault names two paths that share a key, or a cut whose catalogue is full, or is want of memory
abbrev pub IsCutFault : Nodes → CutFault → Type 0
IsCutFault t (PathCollision first second) = SharesKey t first second
IsCutFault t (CatalogueFull c) = IsFull t c
IsCutFault t NoMemory = Unit {0}

-- and no catalogue is said to be full where two paths share a key
abbrev pub IsFirstFault : Nodes → CutFault → Type 0
IsFirstFault t (PathCollision first second) = SharesKey t first second
IsFirstFault t (CatalogueFull c) = IsFull t c × ((p q : Path) → SharesKey t p q → ⊥)
IsFirstFault t NoMemory = Unit {0}

-- ---- collisions

-- two places of a list with paths of one key
pub record ShareKey (region : List (Path × Node)) (p q : Path) : Type 0 where
  pub first : ℕ
  pub second : ℕ
  pub order : first < second
  pub one : slice_get (map (λ e. e.0) region) first ≡ Some p
  pub other : slice_get (map (λ e. e.0) region) second ≡ Some q
  pub keys : key_of p ≡ key_of q

-- the same key stands at two places
pub record AreSame (keys : List (List ℕ)) (i j : ℕ) : Type 0 where
  pub key : List ℕ
  pub order : i < j
  pub one : slice_get keys i ≡ Some key
  pub other : slice_get keys j ≡ Some key

-- the fault names two such paths, or is want of memory
abbrev pub IsCollision : List (Path × Node) → CutFault → Type 0
IsCollision region (PathCollision first second) = ShareKey region first second
IsCollision region (CatalogueFull c) = ⊥
IsCollision region NoMemory = Unit {0}
