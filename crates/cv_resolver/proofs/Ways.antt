-- What is wanted is on the way.
use Rattle.std.proofs.Common.{◌≡◌, ℕ, Bool, true, false, ◌&&◌, cond, List, [], ◌∷◌, ◌++◌, refl, sym, ap, subst, ◌∙◌}
use Rattle.std.specs.Prelude.{Contains, IfSome}
use Rattle.std.specs.Option.{option_map}
use Rattle.std.specs.declared.option.Option.{Option}
use Rattle.std.specs.declared.option.Option.TheVariants.{None, Some}
use Rattle.std.specs.FinMap.{get}
use Rattle.std.proofs.lemmas.List.Elements.{Contains-push, Contains-append_left}
use Rattle.cv_base.specs.Path.{Path, covers}
use Rattle.cv_base.specs.ObjectId.{object_id}
use Rattle.cv_base.specs.declared.id.Kind.TheVariants as id_kind
use Rattle.cv_base.specs.declared.id.ObjectId.{ObjectId}
use Rattle.cv_tree.specs.Tree.{Nodes, is_directory}
use Rattle.cv_tree.specs.declared.node.Node.{Node}
use Rattle.cv_tree.specs.declared.node.Node.TheVariants as node
use Rattle.cv_cut.proofs.Lemmas.{covers_append}
use Rattle.cv_resolver.specs.Walk.{Name, Trail, arrives, from, is_idle, is_up, is_last, walk}
use Rattle.cv_resolver.specs.Asking.{is_stat}
use Rattle.cv_resolver.specs.Spot.{IsSpot}
use Rattle.cv_resolver.specs.Pass.{Continues}
use Rattle.cv_resolver.specs.PassInner.{behind_link}
use Rattle.cv_resolver.specs.Step.{trail_from}
use Rattle.cv_resolver.specs.Look.{trail, OnWay, catalogue, file as file_way}
use Rattle.cv_resolver.specs.Stage.{IsStage, wanted_by}
use Rattle.cv_resolver.specs.Resolver.{Client, IsOn, IsAskedOn, question_of, wanted_in}
use Rattle.cv_resolver.specs.declared.stage.Stage.{Stage}
use Rattle.cv_resolver.specs.declared.stage.Stage.TheVariants.{Walks, Reads, Ends}
use Rattle.cv_resolver.specs.declared.resolver.Asked.{Asked}
use Rattle.cv_resolver.specs.declared.question.Question.{Question}
use Rattle.cv_resolver.specs.declared.walk.Walk.{Walk}
use Rattle.cv_resolver.proofs.Steps as go
use Rattle.cv_resolver.proofs.Spots.{nearest_level}

first : (p : Path) (ps : List Path) → Contains (p ∷ ps) p
first p ps = Contains-append_left (p ∷ []) ps p (Contains-push [] p)

stands : (p : Path) (x y : Trail) → x ≡ y → Contains y.visits p → Contains x.visits p
stands p x y is has = subst (λ (w : Trail). Contains w.visits p) (sym is) has

module _ (repository : List ℕ) (t : Nodes) (stays : Bool) where
  by_node : (links : ℕ) (name : Name) (names : List Name) (p : Path) → is_idle name ≡ false → is_directory (get t p) ≡ true → is_up name ≡ false → (o : Option Node) → get t (p ++ name ∷ []) ≡ o
      → Contains (walk repository t stays links (name ∷ names) p).visits p
  by_node links name names p h d u None is = stands p _ _ (go.nothing repository t stays links name names p h d u is) (first p [])
  by_node links name names p h d u (Some (node.Dir attr)) is = stands p _ _ (go.directory repository t stays links name names p attr h d u is) (first p _)
  by_node links name names p h d u (Some (node.File attr file)) is = stands p _ _ (go.file repository t stays links name names p attr file h d u is) (first p _)
  by_node links name names p h d u (Some (node.Link attr target)) is =
      stands p _ _ (go.meets repository t stays links name names p attr target h d u is)
      (elim (is_last names && stays) as (λ b. Contains (cond b (from p (arrives (p ++ name ∷ []))) (from p (behind_link repository t stays links p target names))).visits p) [
        | true ↦ first p (arrives (p ++ name ∷ [])).visits
        | false ↦ first p (behind_link repository t stays links p target names).visits
      ])

  by_up : (links : ℕ) (name : Name) (names : List Name) (p : Path) → is_idle name ≡ false → is_directory (get t p) ≡ true → (u : Bool) → is_up name ≡ u → Contains (walk repository t stays links (name ∷ names) p).visits p
  by_up links name names p h d true u = stands p _ _ (go.up repository t stays links name names p h d u) (first p _)
  by_up links name names p h d false u = by_node links name names p h d u (get t (p ++ name ∷ [])) refl

  by_directory : (links : ℕ) (name : Name) (names : List Name) (p : Path) → is_idle name ≡ false → (d : Bool) → is_directory (get t p) ≡ d → Contains (walk repository t stays links (name ∷ names) p).visits p
  by_directory links name names p h true d = by_up links name names p h d (is_up name) refl
  by_directory links name names p h false d = stands p _ _ (go.below_file repository t stays links name names p h d) (first p [])

  by_idle : (links : ℕ) (name : Name) (names : List Name) (p : Path) → Contains (walk repository t stays links names p).visits p → (b : Bool) → is_idle name ≡ b → Contains (walk repository t stays links (name ∷ names) p).visits p
  by_idle links name names p rest true h = stands p _ _ (go.idle repository t stays links name names p h) rest
  by_idle links name names p rest false h = by_directory links name names p h (is_directory (get t p)) refl

  -- a walk visits the place where it stands
  pub visits_here : (links : ℕ) (names : List Name) (p : Path) → Contains (walk repository t stays links names p).visits p
  visits_here links [] p = stands p _ _ (go.done repository t stays links p) (first p [])
  visits_here links (name ∷ names) p = by_idle links name names p (visits_here links names p) (is_idle name) refl

-- the catalogue of the nearest cut is on the way
pub wanted_on_way : (repository : List ℕ) (t : Nodes) (q : Question) (w : Walk) → IsSpot t w.spot → Continues (trail repository t q) (trail_from repository t (is_stat q) w) → OnWay repository t q (object_id w.spot.level.hash id_kind.Catalogue)
wanted_on_way repository t q w s goes =
    let n = nearest_level t w.spot.at w.spot.is_directory w.spot.outer.items w.spot.level s in
    let visited = goes.visits w.spot.at (visits_here repository t (is_stat q) w.links w.names.items w.spot.at) in
    let covered : covers w.spot.level.path w.spot.at ≡ true = ap (covers w.spot.level.path) n.0.is ∙ covers_append w.spot.level.path n.0.rest in
    subst (λ (h : List ℕ). OnWay repository t q (object_id h id_kind.Catalogue)) (sym n.1.hash) (catalogue w.spot.at w.spot.level.path visited n.0.cut covered)

pub way_of : (repository : List ℕ) (t : Nodes) (q : Question) (s : Stage) → IsStage repository t q s → IfSome (wanted_by s) (OnWay repository t q)
way_of repository t q (Walks w) on = wanted_on_way repository t q w on.0 on.1
way_of repository t q (Reads hash) on = subst (λ (h : List ℕ). OnWay repository t q (object_id h id_kind.Plain)) on.2 (file_way on.0 on.1)
way_of repository t q (Ends answer) on = tt

-- so is what a resolver wants
pub wanted_way : (r : Client) (t : Nodes) (q : Question) (id : Option ObjectId) → id ≡ wanted_in r.asked → IsOn t r → question_of r ≡ Some q → IfSome id (OnWay r.name t q)
wanted_way r t q id is on asks = subst (λ (o : Option ObjectId). IfSome o (OnWay r.name t q)) (sym is) (by r.asked on.asked asks)
  where
    by : (a : Option Asked) → IsAskedOn r.name t a → option_map (λ x. x.question) a ≡ Some q → IfSome (wanted_in a) (OnWay r.name t q)
    by None there same = tt
    by (Some a) there same =
        let one : a.question ≡ q = cc in
        subst (λ (x : Question). IfSome (wanted_by a.stage) (OnWay r.name t x)) one (way_of r.name t a.question a.stage there)
