-- What is offered for what was fetched.
use Rattle.std.specs.Prelude.{◌≡◌, ◌≢◌, ℕ, Bool, true, false, not, List, [], ◌++◌, is_some, IsTrue, Result, Ok, Err}
use Rattle.std.specs.List.{filter}
use Rattle.cv_base.specs.Path.{Path}
use Rattle.cv_base.specs.declared.object.Object.{Object}
use Rattle.cv_ports.specs.Shelf.{Shelf}
use Rattle.cv_tree.specs.Changes.{has_place}
use Rattle.cv_tree.specs.Tree.{Nodes, put}
use Rattle.cv_graft.specs.Placed.{HasCuts, Places}
use Rattle.cv_graft.specs.PlacedWay.{PlacesOnWay}
use Rattle.cv_graft.specs.declared.grafted.Grafted.{Grafted}
use Rattle.cv_graft.specs.declared.graft_fault.GraftFault.{GraftFault}
use Rattle.cv_graft.specs.declared.graft_fault.GraftFault.TheVariants as graft
use Rattle.cv_overlay.specs.Answers.{HasNoBad}
use Rattle.cv_overlay.specs.Overlay.{over}
use Rattle.cv_overlay.specs.Whiteout.{IsLeastBad}
use Rattle.cv_publisher.specs.Packing.{AreInOrder, AreSendable, objects_at}
use Rattle.cv_publisher.specs.declared.assembling.Delivery.{Delivery}
use Rattle.cv_publisher.specs.declared.fault.PublishFault.{PublishFault}
use Rattle.cv_publisher.specs.declared.fault.PublishFault.TheVariants.{BadWhiteout, PathCollision, CatalogueFull, NoParent, NoMemory}
use Rattle.cv_publisher.specs.declared.plan.Plan.{Plan}

-- the catalogues that were made and don't stand on the shelf of those that were fetched
abbrev pub unfetched : Shelf → List Object → List Object
unfetched fetched made = filter (λ o. not (is_some (fetched o.id))) made

-- the root that was made is offered; sent are the contents, and of the catalogues that were made those that weren't fetched
pub record Delivers (contents : List Object) (fetched : Shelf) (g : Grafted) (d : Delivery) : Type 0 where
  pub root : d.root ≡ g.root.hash
  pub catalogues : d.catalogues ≡ unfetched fetched g.added
  pub order : AreInOrder (contents ++ d.catalogues) (objects_at (contents ++ d.catalogues) d.places)
  pub sendable : AreSendable (contents ++ d.catalogues) d.places

-- What is answered of the part set at the path: so it is in each tree whose root is the base and whose catalogues on the way were
-- fetched; below the root it is so by the part and these catalogues, whether or not the base means a tree; and at the root by the part.
pub record IsSet (plan : Plan) (base : List ℕ) (fetched : Shelf) (part : Nodes) (r : Result Grafted GraftFault) : Type 0 where
  pub told : (t : Nodes) → HasCuts fetched base t plan.path → IsTrue (has_place t plan.path) → Places (put t plan.path part) plan.path r
  pub way : plan.path ≢ [] → PlacesOnWay fetched base plan.path part r
  pub whole : plan.path ≡ [] → Places part [] r

-- the part is set at the path, and what is made so is offered; or two paths of one catalogue share a key, or a catalogue is full
pub data Sets (plan : Plan) (base : List ℕ) (fetched : Shelf) (part : Nodes) (r : Result Delivery PublishFault) : Type 0 where
  is_set : (g : Grafted) (d : Delivery) → IsSet plan base fetched part (Ok g) → Delivers plan.changes.objects fetched g d → r ≡ Ok d → Sets plan base fetched part r
  collides : (a b : Path) → IsSet plan base fetched part (Err (graft.PathCollision a b)) → r ≡ Err (PathCollision a b) → Sets plan base fetched part r
  is_full : (c : Path) → IsSet plan base fetched part (Err (graft.CatalogueFull c)) → r ≡ Err (CatalogueFull c) → Sets plan base fetched part r
  unset : r ≡ Err NoMemory → Sets plan base fetched part r

-- what is offered on a base: its root, the catalogues of it that were fetched, and its part at the path; or the first fault
pub data Assembles (plan : Plan) (base : List ℕ) (fetched : Shelf) (b : Nodes) (place : Bool) (r : Result Delivery PublishFault) : Type 0 where
  is_bad : (q : List (List ℕ)) → IsLeastBad plan.changes.nodes q → r ≡ Err (BadWhiteout q) → Assembles plan base fetched b place r
  is_orphan : HasNoBad plan.changes.nodes → place ≡ false → r ≡ Err NoParent → Assembles plan base fetched b place r
  is_laid : HasNoBad plan.changes.nodes → place ≡ true → Sets plan base fetched (over b plan.changes.nodes plan.moment) r → Assembles plan base fetched b place r
  unlaid : r ≡ Err NoMemory → Assembles plan base fetched b place r
