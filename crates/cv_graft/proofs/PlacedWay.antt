-- What is answered by the part and the catalogues on the way to a path at which it is set.
use Rattle.std.proofs.Common.{◌≡◌, ◌≢◌, ℕ, true, false, List, [], ◌∷◌, ◌++◌, map, reverse, length, Result, Ok, Err, inl, inr, ap, subst, ◌∙◌}
use Rattle.sha1.specs.Sha1.{sha1}
use Rattle.cv_base.specs.Marker.{marker, ends_in}
use Rattle.cv_base.specs.Path.{Path}
use Rattle.cv_base.specs.ObjectId.{object_id}
use Rattle.cv_base.specs.declared.id.Kind.TheVariants.{Catalogue}
use Rattle.cv_ports.specs.Shelf.{Shelf}
use Rattle.cv_tree.specs.Changes.{has_place}
use Rattle.cv_tree.specs.Tree.{Nodes, IsTree, at, put}
use Rattle.cv_tree.proofs.Laws.{IsTree-put_at}
use Rattle.cv_rows.specs.Catalogue.{Contents}
use Rattle.cv_cut.specs.Cut.{catalogue_object}
use Rattle.cv_cut.specs.Piece.{HasOnly, IsPiece, IsSharedWithin, cuts_within}
use Rattle.cv_cut.specs.declared.pieces.Piece.{Piece}
use Rattle.cv_cut.specs.declared.cut_fault.CutFault.{CutFault}
use Rattle.cv_cut.specs.declared.cut_fault.CutFault.TheVariants as cut
use Rattle.cv_cut.specs.Replaced.{FitsOver, IsFullOver, SharesOver}
use Rattle.cv_cut.proofs.Lemmas.{holder_of, made_all, own_only, own_piece, part_objects, shares_over}
use Rattle.cv_graft.specs.Makes.{as_object}
use Rattle.cv_graft.specs.MakesInner.{Regrafts}
use Rattle.cv_graft.specs.Placed.{HasCuts, Places, SharesOwn, of_cut}
use Rattle.cv_graft.specs.PlacedInner.{from_part}
use Rattle.cv_graft.specs.PlacedWay.{HasHolder, IsFullThere, IsPlaced, IsSetOnWay, MeetsAt, PlacesOnWay, StandsAlone}
use Rattle.cv_graft.specs.Way.{IsOfWay, TellsDamage}
use Rattle.cv_graft.specs.declared.grafted.Grafted.{Grafted}
use Rattle.cv_graft.specs.declared.graft_fault.GraftFault.{GraftFault}
use Rattle.cv_graft.specs.declared.graft_fault.GraftFault.TheVariants as fault
use Rattle.cv_graft.proofs.PlacedMade.{placed_full, placed_shares, placed_tree, placing}
use Rattle.cv_graft.proofs.Rebuilds.{IsOfHolder, IsOfTree, holder_there, top_tree, undamaged}

pub stands_alone : (x : Piece) (t s : Nodes) (p : Path) → IsPiece x t p → HasOnly t p s → StandsAlone s p x.tree
stands_alone x t s p is only =
    let own = own_piece x t p is in
    record { tree = own.whole; only = own_only x t p s is only; apart = own.apart; keys = own.keys }

-- ---- from the root on

pub places_way : (shelf : Shelf) (base : List ℕ) (p : Path) (s m : Nodes) (cuts : List Path) (r : Result Grafted GraftFault) → StandsAlone s p m → cuts ≡ reverse (cuts_within m p) → Regrafts shelf base (from_part m p) p (map (catalogue_object m) cuts) r
    → PlacesOnWay shelf base p s r
places_way shelf base p s m cuts (Ok g) alone same h = record {
  around = m;
  alone = alone;
  top = h.top;
  there = h.there;
  made = h.made;
  objects = h.objects;
  makes = h.makes;
  added = h.added ∙ ap (λ (ds : List Path). map (catalogue_object m) ds ++ h.objects) same;
  root = h.root;
  size = h.size;
}
places_way shelf base p s m cuts (Err (fault.PathCollision a b)) alone same h = inr (h.0, m, record { holds = h.1; alone = alone }, h.2)
places_way shelf base p s m cuts (Err (fault.CatalogueFull d)) alone same h = (h.0, m, record { holds = h.1; alone = alone }, h.2)
places_way shelf base p s m cuts (Err fault.Failed) alone same h = tt
places_way shelf base p s m cuts (Err (fault.Damaged id found)) alone same h = tt
places_way shelf base p s m cuts (Err fault.NoMemory) alone same h = tt

-- paths of the part that share a key
pub early_way : (shelf : Shelf) (base : List ℕ) (p : Path) (s m : Nodes) (f : CutFault) → HasOnly m p s → IsTree m → IsSharedWithin m p f → PlacesOnWay shelf base p s (Err (of_cut f))
early_way shelf base p s m (cut.PathCollision a b) only whole h = inl (record { around = m; tree = whole; alone = only; shares = h })
early_way shelf base p s m (cut.CatalogueFull c) only whole h = absurd h
early_way shelf base p s m cut.NoMemory only whole h = tt

-- ---- where the root means a tree, it is what is answered of the tree with the part

module _ (shelf : Shelf) (base : List ℕ) (t : Nodes) (p : Path) (s : Nodes) (way : HasCuts shelf base t p) (some : p ≢ []) (place : has_place t p ≡ true) (unmarked : ends_in marker p ≡ false) where
  after : (m : Nodes) → IsTree m → IsTree (put t p (at m p))
  after m whole = IsTree-put_at t m p way.tree whole place

  last_tree : (m : Nodes) (alone : StandsAlone s p m) (c made : Contents) (x : IsOfHolder t p c) → IsPlaced c p m made → IsOfTree (FitsOver (put t p (at m p)) p) (put t p (at m p)) c.at x.rest made (as_object made ∷ [])
  last_tree m alone c made x h = placed_tree shelf base t m p c.at x.rest s way some alone (after m alone.tree) unmarked x.holds made (subst (λ (k : Contents). IsPlaced k p m made) x.is h)

  set_tree : (g : Grafted) (h : IsSetOnWay shelf base p s g) → Places (put t p (at h.around p)) p (Ok g)
  set_tree g h =
      let m = h.around in
      let t' = put t p (at m p) in
      let whole = after m h.alone.tree in
      let x = top_tree shelf base t p way m whole unmarked (FitsOver t' p) (λ c k. IsPlaced c p m k) (last_tree m h.alone) h.top h.made h.objects some h.there h.makes in (
        x.known,
        λ i. record {
          root = (h.root ∙ ap (λ (b : List ℕ). object_id (sha1 b) Catalogue) x.bytes) i;
          size = (h.size ∙ ap (λ (b : List ℕ). length b) x.bytes) i;
          added = (h.added ∙ λ j. part_objects t m p h.alone.tree whole j ++ (x.objects_are ∙ made_all t' p) j) i;
        },
      )

  own_shares : (a b : Path) (h : SharesOwn s p a b) → SharesOver (put t p (at h.around p)) p a b
  own_shares a b h =
      let x = holder_of t p some in
      shares_over t h.around p x.0 x.1 (placing shelf base t h.around p x.0 x.1 s way some h.tree h.alone (after h.around h.tree) unmarked x.2) s a b h.alone h.shares

  meets : (a b : Path) (c : Contents) (m : Nodes) → HasHolder shelf base p s c m → MeetsAt c p m a b → SharesOver (put t p (at m p)) p a b
  meets a b c m h at_ =
      let x = holder_there shelf base t p way c h.holds in
      placed_shares shelf base t m p c.at x.rest s way some h.alone (after m h.alone.tree) unmarked x.holds a b (subst (λ (k : Contents). MeetsAt k p m a b) x.is at_)

  full : (d : Path) (c : Contents) (m : Nodes) → HasHolder shelf base p s c m → IsFullThere c p m d → IsFullOver (put t p (at m p)) p d
  full d c m h at_ =
      let x = holder_there shelf base t p way c h.holds in
      placed_full shelf base t m p c.at x.rest s way some h.alone (after m h.alone.tree) unmarked x.holds d (subst (λ (k : Contents). IsFullThere k p m d) x.is at_)

  pub places_tree : (r : Result Grafted GraftFault) → PlacesOnWay shelf base p s r → TellsDamage shelf (IsOfWay shelf base p) r → Places (put t p s) p r
  places_tree (Ok g) h tells = subst (λ (u : Nodes). Places (put t p u) p (Ok g)) h.alone.only.part (set_tree g h)
  places_tree (Err (fault.PathCollision a b)) (inl h) tells = subst (λ (u : Nodes). SharesOver (put t p u) p a b) h.alone.part (own_shares a b h)
  places_tree (Err (fault.PathCollision a b)) (inr (c, m, h, at_)) tells = subst (λ (u : Nodes). SharesOver (put t p u) p a b) h.alone.only.part (meets a b c m h at_)
  places_tree (Err (fault.CatalogueFull d)) (c, m, h, at_) tells = subst (λ (u : Nodes). IsFullOver (put t p u) p d) h.alone.only.part (full d c m h at_)
  places_tree (Err fault.Failed) h tells = tt
  places_tree (Err (fault.Damaged id found)) h tells = undamaged shelf base t p way id found tells.0 tells.1
  places_tree (Err fault.NoMemory) h tells = tt
