-- Where a tree lacks the directory in which a path stands, nothing is made.
use Rattle.std.proofs.Common.{◌≡◌, ◌≢◌, true, false, List, ℕ, [], Result, Ok, Err, inl, inr, sym, ap, subst, ◌∙◌}
use Rattle.cv_base.specs.Path.{Path}
use Rattle.cv_base.specs.declared.object.Object.{Object}
use Rattle.cv_ports.specs.Shelf.{Shelf}
use Rattle.cv_tree.specs.Tree.{Nodes, IsTree, at, is_directory}
use Rattle.cv_tree.specs.Changes.{has_place}
use Rattle.cv_tree.proofs.Laws.{has_place-append}
use Rattle.cv_rows.specs.Catalogue.{Contents}
use Rattle.cv_rows.specs.Places.{StandsAt}
use Rattle.cv_cut.specs.Catalogues.{contents_of}
use Rattle.cv_cut.specs.Cuts.{is_cut}
use Rattle.cv_cut.specs.Region.{KeysApart}
use Rattle.cv_cut.proofs.Lemmas.{row_tells, holder_directory}
use Rattle.cv_graft.specs.Both.{GraftsBoth, MakesNothing}
use Rattle.cv_graft.specs.Directories.{IsHolder}
use Rattle.cv_graft.specs.Joins.{IsJoined}
use Rattle.cv_graft.specs.Makes.{Makes, joins, names}
use Rattle.cv_graft.specs.Placed.{HasCuts, PlacesNothing}
use Rattle.cv_graft.specs.PlacedWay.{IsFullThere, IsPlaced, PlacesOnWay, of_part, of_cut_}
use Rattle.cv_graft.specs.Places.{HasPlace}
use Rattle.cv_graft.specs.Way.{top}
use Rattle.cv_graft.specs.declared.grafted.Grafted.{Grafted}
use Rattle.cv_graft.specs.declared.graft_fault.GraftFault.{GraftFault}
use Rattle.cv_graft.specs.declared.graft_fault.GraftFault.TheVariants as fault
use Rattle.cv_graft.proofs.Finding.{some_of, step_down, way_covers}
use Rattle.cv_graft.proofs.Rebuilds.{IsOfCut, of_cut_there}

-- a path with a place in the catalogue of a cut has one in the tree
place_there : (t : Nodes) (p c : Path) (k : Contents) → IsTree t → is_cut t c ≡ true → KeysApart c (at t c) → k ≡ contents_of t c → HasPlace k p → has_place t p ≡ true
place_there t p c k tree cut apart is h =
    let stands : StandsAt c (contents_of t c).rows h.row h.front = subst (λ (x : Contents). StandsAt x.at x.rows h.row h.front) is h.stands in
    ap (has_place t) h.is ∙ has_place-append t h.front h.name ∙ ap is_directory (row_tells t tree c cut apart h.row h.front stands) ∙ holder_directory h.row.kind h.row h.holds

pub some_below : (t : Nodes) (p : Path) → has_place t p ≡ false → p ≢ []
some_below t p none root = (let wrong : true ≡ false = ap (has_place t) (sym root) ∙ none in cc)

module _ (shelf : Shelf) (root : List ℕ) (t : Nodes) (p : Path) (way : HasCuts shelf root t p) where
  place_held : (c : Contents) → IsOfCut t p c → HasPlace c p → has_place t p ≡ true
  place_held c x h = place_there t p c.at c way.tree x.on.cut (way.fits c.at x.on.cut (way_covers t p c.at x.rest x.on) (some_of t p c.at x.rest x.on)).apart x.is h

  holder_place : (c : Contents) → IsHolder shelf root p c → HasPlace c p → has_place t p ≡ true
  holder_place c h place = place_held c (of_cut_there shelf root t p way c h.on h.has) place

  makes_place : (Last : Contents → Contents → Type 0) → ((c made : Contents) → Last c made → HasPlace c p) → (c made : Contents) (objects : List Object) → IsOfCut t p c → Makes shelf Last p c made objects → has_place t p ≡ true
  makes_place Last place c made objects x (joins none last) = place_held c x (place c made last)
  makes_place Last place c made objects x (names {below = below} {made = made_} {n = n} {objects = objects_} after opened m) =
      let s = step_down shelf root t p x.rest c n way x.on x.is after below opened in
      makes_place Last place below made_ objects_ (record { rest = s.f; on = s.on; is = s.is_ }) m

  no_place : has_place t p ≡ false → has_place t p ≡ true → ⊥
  no_place none place = (let wrong : true ≡ false = sym place ∙ none in cc)

  pub nothing_made : (offered : List ℕ) (r : Result Grafted GraftFault) → has_place t p ≡ false → GraftsBoth shelf root offered p r → MakesNothing r
  nothing_made offered (Ok g) none h = no_place none (makes_place (λ k x. IsJoined k h.other p x) (λ k x last. last.parts.place) h.top h.made g.added (of_cut_there shelf root t p way h.top (top (some_below t p none)) h.there) h.makes)
  nothing_made offered (Err (fault.PathCollision a b)) none h = no_place none (holder_place h.0 h.2.holds h.3.parts.place)
  nothing_made offered (Err (fault.CatalogueFull d)) none h = no_place none (holder_place h.0 h.2.holds h.3.parts.place)
  nothing_made offered (Err fault.Failed) none h = tt
  nothing_made offered (Err (fault.Damaged id found)) none h = tt
  nothing_made offered (Err fault.NoMemory) none h = tt

  full_place : (c : Contents) (m : Nodes) (d : Path) → IsFullThere c p m d → HasPlace c p
  full_place c m d (of_part x full inside) = x.place
  full_place c m d (of_cut_ x same passes) = x.place

  pub nothing_placed : (s : Nodes) (r : Result Grafted GraftFault) → has_place t p ≡ false → PlacesOnWay shelf root p s r → PlacesNothing s p r
  nothing_placed s (Ok g) none h =
      no_place none (makes_place (λ k x. IsPlaced k p h.around x) (λ k x last. last.rests.place) h.top h.made h.objects (of_cut_there shelf root t p way h.top (top (some_below t p none)) h.there) h.makes)
  nothing_placed s (Err (fault.PathCollision a b)) none (inl own) = own
  nothing_placed s (Err (fault.PathCollision a b)) none (inr h) = absurd (no_place none (holder_place h.0 h.2.holds h.3.place))
  nothing_placed s (Err (fault.CatalogueFull d)) none h = no_place none (holder_place h.0 h.2.holds (full_place h.0 h.1 d h.3))
  nothing_placed s (Err fault.Failed) none h = tt
  nothing_placed s (Err (fault.Damaged id found)) none h = tt
  nothing_placed s (Err fault.NoMemory) none h = tt
