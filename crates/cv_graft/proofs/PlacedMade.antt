-- What comes of the catalogue that directly holds a path at which a part is set, by a tree m that has the part there.
use Rattle.std.proofs.Common.{◌≡◌, ◌≢◌, ℕ, true, false, List, [], ◌∷◌, ◌++◌, is_some, refl, sym, ap, subst, ◌∙◌}
use Rattle.std.specs.Prelude.{Contains}
use Rattle.std.proofs.lemmas.Bool.{not-true}
use Rattle.sha1.specs.Sha1.{sha1}
use Rattle.cv_base.specs.Marker.{marker, ends_in}
use Rattle.cv_base.specs.Path.{Path, covers, overlap, key_of}
use Rattle.cv_base.specs.ObjectId.{object_id}
use Rattle.cv_base.specs.declared.id.Kind.TheVariants.{Catalogue}
use Rattle.cv_ports.specs.Shelf.{Shelf}
use Rattle.cv_tree.specs.Tree.{Nodes, IsTree, at, put}
use Rattle.cv_tree.specs.declared.node.Node.{Node}
use Rattle.cv_rows.specs.Catalogue.{Contents, catalogue_bytes}
use Rattle.cv_rows.specs.Places.{StandsAt}
use Rattle.cv_rows.specs.declared.row.Row.{Row}
use Rattle.cv_rows.proofs.Lemmas.{stands_among, stands_contained}
use Rattle.cv_cut.specs.Above.{Holds, made_from}
use Rattle.cv_cut.specs.Cuts.{is_near}
use Rattle.cv_cut.specs.Catalogues.{rows_of, cat, contents_of, IsFull}
use Rattle.cv_cut.specs.Cut.{catalogue_object}
use Rattle.cv_cut.specs.Piece.{HasOnly}
use Rattle.cv_cut.specs.Region.{IsNear, KeysApart}
use Rattle.cv_cut.specs.Replaced.{AreKeysApart, FitsOver, IsFullOver, SharesOver}
use Rattle.cv_cut.proofs.Lemmas.{alone_holds, come_apart, fits_over, full_below, keys_over, passes, row_key, stands_only, covers_append, longer_covers_not, near-here, path-in, is_near-out, is_near-in, rows_are, stands_at_cut, holder_way, made_here}
use Rattle.cv_cut.proofs.Lemmas.{Placing, placed_holders as holders, placed_at_cut as at_cut, placed_covers_p as covers_p, placed_stays_at as stays_at, placed_keys_after as keys_after, placed_cat_after as cat_after, placed_full_after as full_after, placed_not_full_after as not_full_after, placed_inside_each as inside_each, placed_cut_after as cut_after}
use Rattle.cv_graft.specs.Makes.{as_object}
use Rattle.cv_graft.specs.Placed.{HasCuts}
use Rattle.cv_graft.specs.PlacedWay.{Rests, IsPlaced, IsFullThere, MeetsAt, StandsAlone, of_part, of_cut_}
use Rattle.cv_graft.proofs.Finding.{on_way, some_of, way_covers}
use Rattle.cv_graft.proofs.PlacedParts.{all_keys, all_texts}
use Rattle.cv_graft.proofs.Rebuilds.{IsOfTree}

pub placing : (shelf : Shelf) (hash : List ℕ) (t m : Nodes) (p c r : Path) (s : Nodes) → HasCuts shelf hash t p → p ≢ [] → IsTree m → HasOnly m p s → IsTree (put t p (at m p)) → ends_in marker p ≡ false → Holds t p c r → Placing t m p c r
placing shelf hash t m p c r s way some whole only after unmarked holds =
    let w = on_way t p c r holds in
    let fits = way.fits c holds.cut (way_covers t p c r w) (some_of t p c r w) in
    record { tree = way.tree; other = whole; after = after; unmarked = unmarked; holds = holds; held = alone_holds m p s some only; apart = fits.apart }

module _ (shelf : Shelf) (hash : List ℕ) (t m : Nodes) (p c r : Path) (s : Nodes) (way : HasCuts shelf hash t p) (some : p ≢ []) (alone : StandsAlone s p m) (after : IsTree (put t p (at m p))) (unmarked : ends_in marker p ≡ false)
    (holds : Holds t p c r) where
  abbrev placing_ : Placing t m p c r
  placing_ = placing shelf hash t m p c r s way some alone.tree alone.only after unmarked holds

  rests_keys : (x : Rests (contents_of t c) p m) → KeysApart c (at (put t p (at m p)) c)
  rests_keys x = keys_after t m p c r placing_ x.rest x.without x.crossed (come_apart m p alone.keys)

  out_of : covers p c ≡ false
  out_of = subst (λ (x : Path). covers x c ≡ false) (sym holds.is) (longer_covers_not c r holds.some)

  over : overlap p c ≡ true
  over = let out = out_of in let in' : covers c p ≡ true = ap (covers c) holds.is ∙ covers_append c r in rw (out, in') refl

  placed_cat : (k : Contents) → IsPlaced (contents_of t c) p m k → cat (put t p (at m p)) c ≡ catalogue_bytes k
  placed_cat k j =
      let x = j.rests in
      cat_after t m p c r placing_ x.rest x.without (all_keys x.rest m p alone.tree x.is_ x.crossed alone.keys) (all_texts (contents_of t c) x.rest m p alone.tree x.is_ x.without) (rests_keys x) ∙ ap catalogue_bytes (sym j.is)

  placed_fits : (k : Contents) → IsPlaced (contents_of t c) p m k → FitsOver (put t p (at m p)) p
  placed_fits k j =
      let x = j.rests in
      fits_over t m p c r way.tree after unmarked way.fits alone.apart j.limits holds (rests_keys x)
      (λ full. not_full_after t m p c r placing_ x.rest x.without (all_keys x.rest m p alone.tree x.is_ x.crossed alone.keys) (all_texts (contents_of t c) x.rest m p alone.tree x.is_ x.without) (rests_keys x) j.fits full)

  here_made : made_from (put t p (at m p)) c r ≡ catalogue_object (put t p (at m p)) c ∷ []
  here_made =
      let hs = holders t m p c r placing_ in
      let near : is_near (at (put t p (at m p)) c) r ≡ true = ap (λ (u : Nodes). is_near u r) (at_cut t m p c r placing_) ∙ near-here (at t c) r (at (at m []) p) hs.unmarked ∙ holds.near in
      made_here (put t p (at m p)) c r (holder_way (at (put t p (at m p)) c) r holds.some near)

  -- it is the catalogue of the tree afterwards
  pub placed_tree : (k : Contents) → IsPlaced (contents_of t c) p m k → IsOfTree (FitsOver (put t p (at m p)) p) (put t p (at m p)) c r k (as_object k ∷ [])
  placed_tree k j =
      let bytes = sym (placed_cat k j) in
      record { bytes = bytes; objects_are = (λ i. record { id = object_id (sha1 (bytes i)) Catalogue; bytes = bytes i } ∷ []) ∙ sym here_made; known = placed_fits k j }

  -- ---- faults

  stays_there : (q : Path) (n : Node) → IsNear (at t c) q n → covers r q ≡ false → IsNear (at (put t p (at m p)) c) q n
  stays_there q n near out = subst (λ (u : Nodes). IsNear u q n) (sym (at_cut t m p c r placing_)) (is_near-out c (at t c) r (at (at m []) p) (holders t m p c r placing_).unmarked q n out near)

  pub placed_shares : (x y : Path) → MeetsAt (contents_of t c) p m x y → SharesOver (put t p (at m p)) p x y
  placed_shares x y h =
      let w = h.meets in
      let was = λ (z : Row) (had : Contains h.rest.rows z). passes h.without.stays (rows_of c (at t c)) z (subst (λ (l : List Row). Contains l z) h.without.rows had) in
      let top = stands_contained w.stands in
      let moved : StandsAt c (rows_of c (at t c)) w.row x = stands_among (λ z had. (was z had).0) (subst (λ (q : Path). StandsAt q h.rest.rows w.row x) h.without.at w.stands) in
      let cut = stands_at_cut t c way.tree holds.cut in
      let own = stands_only c (at t c) (rows_of c (at t c)) cut.part placing_.apart (rows_are c (at t c) placing_.apart) moved in
      let out : covers r own.rest ≡ false = not-true (covers r own.rest) (sym (stays_at t m p c r placing_ h.rest h.without own.rest own.node_ own.there) ∙ ap h.without.stays (sym own.row) ∙ (was w.row top).1) in
      let e = inside_each m p (y, w.node_) w.comes in
      let one = stays_there own.rest own.node_ own.there out in
      let other = subst (λ (u : Nodes). IsNear u (r ++ e.rest) w.node_) (sym (at_cut t m p c r placing_)) (is_near-in c (at t c) r [] (at m []) p (holders t m p c r placing_) e.rest w.node_ e.near) in
      let place : y ≡ c ++ (r ++ e.rest) = e.is ∙ path-in c (at t c) r [] (at m []) p (holders t m p c r placing_) e.rest in
      record {
        shares = record {
          cut = c;
          is_cut_ = cut_after t m p c r placing_ h.rest h.without;
          first = (own.rest, own.place, ap is_some one.there, one.near);
          second = (r ++ e.rest, place, ap is_some other.there, other.near);
          differ = λ same. (let in' : covers p y ≡ true = ap (covers p) e.is ∙ covers_append p e.rest in
              let away : covers p x ≡ false = ap (covers p) own.place ∙ covers_p t m p c r placing_ own.rest ∙ out in
              let wrong : true ≡ false = sym in' ∙ ap (covers p) (sym same) ∙ away in cc);
          keys = sym (ap (λ (z : Row). z.key.0) own.row ∙ row_key _ (c ++ own.rest) own.node_ ∙ ap key_of (sym own.place)) ∙ w.keys;
        };
        over = over;
      }

  keys : Rests (contents_of t c) p m → AreKeysApart (put t p (at m p)) p
  keys x = keys_over t m p c r way.tree after unmarked way.fits alone.apart holds (rests_keys x)

  pub placed_full : (d : Path) → IsFullThere (contents_of t c) p m d → IsFullOver (put t p (at m p)) p d
  placed_full d (of_part x full inside) = record { full = full_below t m p d way.tree after inside full; over = rw inside refl; keys = keys x }
  placed_full d (of_cut_ x same passes) = record {
    full = subst (IsFull (put t p (at m p))) (sym same)
        (full_after t m p c r placing_ x.rest x.without (all_keys x.rest m p alone.tree x.is_ x.crossed alone.keys) (all_texts (contents_of t c) x.rest m p alone.tree x.is_ x.without) (rests_keys x) passes);
    over = ap (overlap p) same ∙ over;
    keys = keys x;
  }
