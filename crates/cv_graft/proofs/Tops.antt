-- The catalogue at the root of a tree, on the way to a path.
use Rattle.std.proofs.Common.{◌≡◌, ◌≢◌, ℕ, suc, ◌+◌, ◌≤◌, [], length, None, refl, sym, ap, subst, ◌∙◌, arith}
use Rattle.cv_base.specs.Path.{Path}
use Rattle.cv_base.specs.declared.id.ObjectId.{ObjectId}
use Rattle.cv_base.specs.Counts.{raised}
use Rattle.cv_ports.specs.Calls.{raised_by, RaisedAtMost}
use Rattle.cv_ports.specs.Shelf.{Shelf}
use Rattle.cv_tree.specs.Tree.{Nodes, at}
use Rattle.cv_rows.specs.Catalogue.{Contents}
use Rattle.cv_cut.specs.Above.{cuts_above, OnWay}
use Rattle.cv_cut.specs.Catalogues.{contents_of}
use Rattle.cv_cut.specs.Reached.{HasCatalogue}
use Rattle.cv_cut.proofs.Lemmas.{at-root}
use Rattle.cv_graft.specs.Placed.{HasCuts}
use Rattle.cv_graft.proofs.Finding.{opened_is, raised_more}

root_way : (t : Nodes) (p : Path) → p ≢ [] → OnWay t p [] p
root_way t p some = record { is = refl; some = some; cut = refl }

-- the catalogue at the root
pub record IsTop (t : Nodes) (p : Path) (k : Contents) : Type 0 where
  pub place : k.at ≡ []
  pub on : OnWay t p k.at p
  pub is : k ≡ contents_of t k.at

pub top_is : (shelf : Shelf) (root : ObjectId) (t : Nodes) (p top : Path) (k : Contents) → HasCuts shelf root.hash t p → p ≢ [] → HasCatalogue shelf root.hash (record { path = top; row = None }) k → top ≡ [] → IsTop t p k
top_is shelf root t p top k way some has none =
    let place : k.at ≡ [] = has.decodes.at ∙ none in
    let w = root_way t p some in
    let same = opened_is shelf root.hash t p [] p root.hash (record { path = top; row = None }) k way w way.root none has in
    record { place = place; on = subst (λ (x : Path). OnWay t p x p) (sym place) w; is = same ∙ ap (contents_of t) (sym place) }

pub top_count : (t : Nodes) (p : Path) (k : Contents) → IsTop t p k → length (cuts_above (at t k.at) p) ≡ length (cuts_above t p)
top_count t p k h = ap (λ (x : Path). length (cuts_above (at t x) p)) h.place ∙ ap (λ (u : Nodes). length (cuts_above u p)) (at-root t)

-- and what is fetched below it comes to the one that was fetched
pub top_taken : (t : Nodes) (p : Path) (k : Contents) → IsTop t p k → (before between after : ℕ) → between ≡ raised before
    → (OnWay t p k.at p → k ≡ contents_of t k.at → (n : ℕ) × (n + 1 ≤ length (cuts_above (at t k.at) p)) × (after ≡ raised_by n between)) → RaisedAtMost (length (cuts_above t p)) before after
top_taken t p k top before between after one deep =
    let count = top_count t p k top in
    let d = deep top.on top.is in
    let le = d.1 in
    (suc d.0, omega (arith, le, count), d.2 ∙ ap (raised_by d.0) one ∙ raised_more d.0 before)
