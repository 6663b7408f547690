-- The tree that was loaded is the one that the root means.
use Rattle.std.proofs.Common.{◌≡◌, true, false, cond, [], Ok, Err, None, Some, refl, sym, ap, subst, ◌∙◌}
use Rattle.std.specs.Ordering.{eq_by_cmp}
use Rattle.std.specs.FinMap.{get, empty, get-insert, get-empty}
use Rattle.cv_base.specs.Path.{Path, path_cmp}
use Rattle.cv_base.proofs.Laws.{path_total, same_path_is}
use Rattle.cv_base.specs.declared.id.ObjectId.{ObjectId}
use Rattle.cv_base.specs.declared.id.Kind.TheVariants as id_kind
use Rattle.cv_ports.specs.Shelf.{Shelf}
use Rattle.cv_tree.specs.Tree.{Nodes, IsTree, single}
use Rattle.cv_tree.specs.declared.node.Node.{Node}
use Rattle.cv_tree.specs.declared.node.Node.TheVariants.{Dir}
use Rattle.cv_rows.specs.Catalogue.{Contents}
use Rattle.cv_rows.specs.Places.{StandsAt, root}
use Rattle.cv_load.specs.Answers.{IsMeasured}
use Rattle.cv_cut.specs.Reached.{Place, ReachesCatalogue, itself, root_place, HasCatalogue}
use Rattle.cv_cut.specs.declared.load_fault.LoadFault.{LoadFault}
use Rattle.cv_load.specs.Growth.{IsRootOf}
use Rattle.cv_load.specs.GrowthInner.{IsOfRows, FillsFrom}
use Rattle.cv_cut.proofs.Lemmas.{unopened}
use Rattle.cv_load.proofs.Assembly.{IsWhole}
use Rattle.cv_load.proofs.Standing.{root_dir}
use Rattle.cv_load.proofs.Means.{measured}
use Rattle.cv_cut.specs.Opening.{MayFail, Opens}

abbrev pub place_at : Path → Place
place_at p = record { path = p; row = None }

pub at_root_place : (shelf : Shelf) (id : ObjectId) (p : Path) (c : Contents) → p ≡ [] → HasCatalogue shelf id.hash (place_at p) c → HasCatalogue shelf id.hash root_place c
at_root_place shelf id p c e h = subst (λ (q : Path). HasCatalogue shelf id.hash (place_at q) c) e h

pub loads_unopened : (shelf : Shelf) (id : ObjectId) (p : Path) (f : LoadFault) → id.kind ≡ id_kind.Catalogue → p ≡ [] → Opens shelf id (place_at p) (Err f) → MayFail shelf id.hash f
loads_unopened shelf id p f kind e h = unopened shelf id.hash root_place id (place_at p) f kind (subst (λ (q : Path). ReachesCatalogue shelf id.hash id.hash (place_at q)) (sym e) itself) h

-- a single node at the root of the repository
pub single_entry : (m : Node) (q : Path) (n : Node) → get (single m) q ≡ Some n → (q ≡ []) × (n ≡ m)
single_entry m q n e =
    elim (eq_by_cmp path_cmp q []) as (λ b. eq_by_cmp path_cmp q [] ≡ b → cond b (Some m) None ≡ Some n → (q ≡ []) × (n ≡ m)) [
      | true ↦ λ same f. (same_path_is q [] same, sym cc)
      | false ↦ λ other f. absurd cc
    ] refl (sym (get-insert path_total empty [] m q ∙ ap (cond (eq_by_cmp path_cmp q []) (Some m)) (get-empty path_cmp q)) ∙ e)

-- the root row alone is of rows that are reached
root_of_rows : (shelf : Shelf) (id : ObjectId) (c : Contents) (t : Nodes) → HasCatalogue shelf id.hash root_place c → IsRootOf c t → IsOfRows shelf id.hash t
root_of_rows shelf id c t stands is = λ q n e.
    let s = single_entry (Dir is.0.attr) q n (ap (λ (u : Nodes). get u q) (sym is.3) ∙ e) in
    let place : c.at ≡ [] = stands.decodes.at in
    record {
      hash = id.hash;
      place = root_place;
      contents = c;
      reached = itself;
      has = stands;
      node_ = record { row = is.0; stands = subst (StandsAt c.at c.rows is.0) (place ∙ sym s.0) (root is.1 is.2); is = s.1 ∙ sym (root_dir c.at is.0 is.2.kind) };
    }

pub loads_unfilled : (shelf : Shelf) (id : ObjectId) (p : Path) (c : Contents) (old new : Nodes) (f : LoadFault) → p ≡ [] → HasCatalogue shelf id.hash (place_at p) c → IsRootOf c old
    → FillsFrom shelf id c old new {X = Unit {0}} (Err f) → MayFail shelf id.hash f
loads_unfilled shelf id p c old new f e stands is h =
    let at = at_root_place shelf id p c e stands in
    h id.hash root_place itself at (root_of_rows shelf id c old at is)

pub loads_whole : (shelf : Shelf) (id : ObjectId) (p : Path) (c : Contents) (old new : Nodes) → p ≡ [] → HasCatalogue shelf id.hash (place_at p) c → IsRootOf c old
    → FillsFrom shelf id c old new {X = Unit {0}} (Ok (tt {0})) → IsTree new → IsWhole shelf id.hash new
loads_whole shelf id p c old new e stands is h tree =
    let at = at_root_place shelf id p c e stands in
    let f = h id.hash root_place itself at (root_of_rows shelf id c old at is) in
    record { tree = tree; filled = f.filled; rows = f.rows }

pub loads_all : (shelf : Shelf) (id : ObjectId) (p : Path) (c : Contents) (old new : Nodes) → p ≡ [] → HasCatalogue shelf id.hash (place_at p) c → IsRootOf c old
    → FillsFrom shelf id c old new {X = Unit {0}} (Ok (tt {0})) → IsTree new → IsMeasured shelf id.hash new
loads_all shelf id p c old new e stands is h tree = measured (loads_whole shelf id p c old new e stands is h tree)
