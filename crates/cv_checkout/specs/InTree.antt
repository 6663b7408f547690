-- A checkout in a tree.
use Rattle.std.specs.Prelude.{◌≡◌, ℕ, Bool, true, ◌&&◌, ◌⊎◌, List, [], ◌∷◌, map, filter, length, Some, IfSome, Contains}
use Rattle.std.specs.FinMap.{get}
use Rattle.sha1.specs.Sha1.{sha1}
use Rattle.cv_base.specs.Path.{Path, overlap}
use Rattle.cv_base.specs.ObjectId.{object_id}
use Rattle.cv_base.specs.declared.id.ObjectId.{ObjectId}
use Rattle.cv_base.specs.declared.id.Kind.TheVariants.{Catalogue}
use Rattle.cv_base.specs.declared.object.Object.{Object}
use Rattle.cv_ports.specs.MemoryShelf.{standing}
use Rattle.cv_tree.specs.Tree.{Nodes, IsTree}
use Rattle.cv_tree.specs.Changes.{has_place, nodes_of, subtree_of}
use Rattle.cv_tree.specs.declared.node.Node.{Node}
use Rattle.cv_cut.specs.Cuts.{is_cut, cuts_of}
use Rattle.cv_cut.specs.Cut.{catalogue_object}
use Rattle.cv_cut.specs.Catalogues.{cat, contents_of, root_of, Fits}
use Rattle.cv_cut.specs.Own.{AreOwn}
use Rattle.cv_cut.specs.Reached.{Decodes}
use Rattle.cv_graft.specs.Placed.{HasCuts}
use Rattle.cv_checkout.specs.Wanting.{place_of, is_covered}
use Rattle.cv_checkout.specs.Progress.{Progress}
use Rattle.cv_checkout.specs.declared.wanted.Wanted.{Wanted}
use Rattle.cv_checkout.specs.declared.base.Base.{Base}

-- ---- the cuts on the way to a path, and those at and below it

pub record IsToward (t : Nodes) (p c : Path) : Type 0 where
  pub cut : is_cut t c ≡ true
  pub near : overlap p c ≡ true

abbrev pub cuts_toward : Nodes → Path → List Path
cuts_toward t p = filter (λ c. overlap p c) (cuts_of t)

-- the id is that of the catalogue of such a cut
pub record IsIdToward (t : Nodes) (p : Path) (id : ObjectId) : Type 0 where
  pub cut : Path
  pub toward : IsToward t p cut
  pub is : id ≡ object_id (sha1 (cat t cut)) Catalogue

-- what is wanted is the catalogue of such a cut
pub record IsWanted (t : Nodes) (p : Path) (w : Wanted) : Type 0 where
  pub toward : IsToward t p w.path
  pub hash_is : w.hash ≡ sha1 (cat t w.path)
  pub size_is : IfSome w.size (λ n. length (cat t w.path) ≡ n)
  pub decodes : Decodes (place_of w) (cat t w.path) (contents_of t w.path)

-- no two of them stand at one path or one below the other
abbrev pub AreApart : List Wanted → Type 0
AreApart [] = Unit {0}
AreApart (w ∷ ws) = ((v : Wanted) → Contains ws v → overlap w.path v.path ≡ true → ⊥) × AreApart ws

-- ---- how far a checkout has come in a tree

-- Its root is that of the tree, which fits. All that is wanted and was given are catalogues of such cuts, and each such cut's
-- was given or lies at or below what is wanted. So it is with the nodes on the way to the path and at and below it.
pub record IsOn (t : Nodes) (s : Progress) : Type 0 where
  pub tree : IsTree t
  pub fits : Fits t
  pub wants : (w : Wanted) → Contains s.wanted w → IsWanted t s.path w
  pub apart : AreApart s.wanted
  pub own : AreOwn t (map (λ o. o.bytes) s.objects)
  pub has : (o : Object) → Contains s.objects o → (c : Path) × IsToward t s.path c × (o ≡ catalogue_object t c)
  pub gave : (c : Path) → IsToward t s.path c → Contains s.objects (catalogue_object t c) ⊎ (is_covered s.wanted c ≡ true)
  pub nodes : (q : Path) (n : Node) → get (nodes_of s.tree) q ≡ Some n → get t q ≡ Some n
  pub told : (q : Path) (n : Node) → overlap s.path q ≡ true → get t q ≡ Some n
      → (get (nodes_of s.tree) q ≡ Some n) ⊎ (is_covered s.wanted q ≡ true)

-- how many of the cuts are left: those at and below what is wanted
abbrev pub is_left : Progress → Path → Bool
is_left s c = overlap s.path c && is_covered s.wanted c

abbrev pub left_in : Nodes → Progress → ℕ
left_in t s = length (filter (is_left s) (cuts_of t))

-- ---- what it tells

-- what the tree has at the path, whether the path has a place there, and the catalogues of the cuts properly above it
pub record IsBase (t : Nodes) (p : Path) (b : Base) : Type 0 where
  pub part_is : b.part ≡ subtree_of t p
  pub place_is : b.has_place ≡ has_place t p
  pub cuts : HasCuts (standing b.catalogues) (root_of t) t p
