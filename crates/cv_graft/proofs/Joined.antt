-- What comes of the catalogue that directly holds a path, where what another tree has there comes to it.
use Rattle.std.proofs.Common.{◌≡◌, true, false, List, [], ◌∷◌, ◌++◌, sym, ap, subst, ◌∙◌, is_some}
use Rattle.std.specs.Prelude.{Contains}
use Rattle.std.proofs.lemmas.Bool.{not-true}
use Rattle.sha1.specs.Sha1.{sha1}
use Rattle.cv_base.specs.Path.{Path, covers, key_of}
use Rattle.cv_base.specs.ObjectId.{object_id}
use Rattle.cv_base.specs.declared.id.Kind.TheVariants.{Catalogue}
use Rattle.cv_tree.specs.Tree.{Nodes, at, put}
use Rattle.cv_rows.specs.Catalogue.{Contents, catalogue_bytes}
use Rattle.cv_rows.specs.Places.{StandsAt}
use Rattle.cv_rows.specs.declared.row.Row.{Row}
use Rattle.cv_rows.proofs.Lemmas.{stands_among}
use Rattle.cv_cut.specs.Above.{made_from}
use Rattle.cv_cut.specs.Catalogues.{rows_of, cat, contents_of, Fits, SharesKey, IsFull}
use Rattle.cv_cut.specs.Cut.{catalogue_object}
use Rattle.cv_cut.specs.Cuts.{is_near}
use Rattle.cv_cut.specs.Region.{IsNear}
use Rattle.cv_cut.specs.Replaced.{Grafting, Replacing}
use Rattle.cv_cut.proofs.Lemmas.{passes, row_key, stands_only, covers_append, near-here, rest_behind, path-in, is_near-out, is_near-in, rows_are, at_cut, covers_p, holders, here, there, stays_at, goes_at, cut_after, keys_after, cat_after, full_after, not_full_after, fits_after, apart_after, holder_way, made_here}
use Rattle.cv_graft.specs.Joins.{Parts, IsJoined, CollidesAt, IsFullAt}
use Rattle.cv_graft.specs.Makes.{as_object}
use Rattle.cv_graft.proofs.Rebuilds.{IsOfTree}

module _ (t n : Nodes) (p c r d v : Path) (g : Grafting t n p c r d v) (fits : Fits t) (fits_ : Fits n) where
  replacing : Replacing t n p c r
  replacing = record { tree = g.tree; after = g.after; fits = fits; fits_ = fits_; unmarked = g.unmarked; holds = g.holds }

  -- with no key in both, what is put together is the catalogue afterwards, and the tree fits
  joined_fits : (k : Contents) → IsJoined (contents_of t c) (contents_of n d) p k → Fits (put t p (at n p))
  joined_fits k j =
      let x = j.parts in
      fits_after t n p c r replacing (record {
        keys = keys_after t n p c r d v g x.rest x.rows x.nested x.without x.within j.crossed;
        fits = λ _ full. not_full_after t n p c r d v g x.rest x.rows x.nested x.without x.within j.crossed j.fits full;
      })

  joined_cat : (k : Contents) → IsJoined (contents_of t c) (contents_of n d) p k → cat (put t p (at n p)) c ≡ catalogue_bytes k
  joined_cat k j =
      let x = j.parts in
      cat_after t n p c r d v g x.rest x.rows x.nested x.without x.within j.crossed ∙ ap catalogue_bytes (sym j.is)

  pub joined_full : (at_ : Path) → IsFullAt (contents_of t c) (contents_of n d) p at_ → IsFull (put t p (at n p)) at_ × ((x y : Path) → SharesKey (put t p (at n p)) x y → ⊥)
  joined_full at_ f =
      let x = f.parts in (
        subst (IsFull (put t p (at n p))) (sym f.place) (full_after t n p c r d v g x.rest x.rows x.nested x.without x.within f.crossed f.full),
        apart_after t n p c r replacing (keys_after t n p c r d v g x.rest x.rows x.nested x.without x.within f.crossed),
      )

  -- a row that stays stands outside
  record StaysAt (first : Row) (x : Path) : Type 0 where
    rest : Path
    node_ : _
    near : IsNear (at t c) rest node_
    out : covers r rest ≡ false
    path : x ≡ c ++ rest
    key : first.key.0 ≡ key_of x

  stays_there : (x : Parts (contents_of t c) (contents_of n d) p) (first : Row) (q : Path) → Contains x.rest.rows first → StandsAt x.rest.at x.rest.rows first q → StaysAt first q
  stays_there x first q has s =
      let was = passes x.without.stays (rows_of c (at t c)) first (subst (λ (l : List Row). Contains l first) x.without.rows has) in
      let moved : StandsAt c (rows_of c (at t c)) first q = stands_among (λ y had. (passes x.without.stays (rows_of c (at t c)) y (subst (λ (l : List Row). Contains l y) x.without.rows had)).0)
      (subst (λ (y : Path). StandsAt y x.rest.rows first q) x.without.at s) in
      let w = stands_only c (at t c) (rows_of c (at t c)) (here t n p c r d v g).part g.apart (rows_are c (at t c) g.apart) moved in
      let stays = stays_at t n p c r d v g x.rest x.rows x.nested x.without x.within w.rest w.node_ w.there in
      record {
        rest = w.rest;
        node_ = w.node_;
        near = w.there;
        out = not-true (covers r w.rest) (sym stays ∙ ap x.without.stays (sym w.row) ∙ was.1);
        path = w.place;
        key = ap (λ (y : Row). y.key.0) w.row ∙ row_key _ (c ++ w.rest) w.node_ ∙ ap key_of (sym w.place);
      }

  -- and one that comes inside
  record ComesAt (second : Row) (x : Path) : Type 0 where
    rest : Path
    node_ : _
    near : IsNear (at n d) (v ++ rest) node_
    path : x ≡ c ++ (r ++ rest)
    key : second.key.0 ≡ key_of x

  comes_there : (x : Parts (contents_of t c) (contents_of n d) p) (second : Row) (q : Path) → Contains x.rows second → StandsAt d (rows_of d (at n d)) second q → ComesAt second q
  comes_there x second q has s =
      let was = passes x.within.goes (rows_of d (at n d)) second (subst (λ (l : List Row). Contains l second) x.within.rows_are has) in
      let w = stands_only d (at n d) (rows_of d (at n d)) (there t n p c r d v g).part g.apart_ (rows_are d (at n d) g.apart_) s in
      let goes = goes_at t n p c r d v g x.rest x.rows x.nested x.without x.within w.rest w.node_ w.there in
      let b = rest_behind v w.rest (sym goes ∙ ap x.within.goes (sym w.row) ∙ was.1) in
      record {
        rest = b.0;
        node_ = w.node_;
        near = subst (λ (y : Path). IsNear (at n d) y w.node_) b.1 w.there;
        path = w.place ∙ ap (λ (y : Path). d ++ y) b.1 ∙ path-in c (at t c) r d (at n d) v (holders t n p c r d v g) b.0;
        key = ap (λ (y : Row). y.key.0) w.row ∙ row_key _ (d ++ w.rest) w.node_ ∙ ap key_of (sym w.place);
      }

  -- two such rows with one key stand at paths of one region afterwards
  pub joined_shares : (x y : Path) → CollidesAt (contents_of t c) (contents_of n d) p x y → SharesKey (put t p (at n p)) x y
  joined_shares x y h =
      let w = h.collides in
      let hs = holders t n p c r d v g in
      let s = stays_there h.parts w.first x w.stays w.stands in
      let o = comes_there h.parts w.second y w.comes w.stood in
      let same = sym (at_cut t n p c r d v g) in
      let one = subst (λ (u : Nodes). IsNear u s.rest s.node_) same (is_near-out c (at t c) r (at (at n d) v) hs.unmarked s.rest s.node_ s.out s.near) in
      let other = subst (λ (u : Nodes). IsNear u (r ++ o.rest) o.node_) same (is_near-in c (at t c) r d (at n d) v hs o.rest o.node_ o.near) in
      record {
        cut = c;
        is_cut_ = cut_after t n p c r d v g h.parts.rest h.parts.rows h.parts.nested h.parts.without h.parts.within;
        first = (s.rest, s.path, ap is_some one.there, one.near);
        second = (r ++ o.rest, o.path, ap is_some other.there, other.near);
        differ = λ e. (let in' : covers p y ≡ true = ap (covers p) o.path ∙ covers_p t n p c r d v g (r ++ o.rest) ∙ covers_append r o.rest in
            let out : covers p x ≡ false = ap (covers p) s.path ∙ covers_p t n p c r d v g s.rest ∙ s.out in
            let wrong : true ≡ false = sym in' ∙ ap (covers p) (sym e) ∙ out in cc);
        keys = sym s.key ∙ w.keys ∙ o.key;
      }

  here_made : made_from (put t p (at n p)) c r ≡ catalogue_object (put t p (at n p)) c ∷ []
  here_made =
      let hs = holders t n p c r d v g in
      let near : is_near (at (put t p (at n p)) c) r ≡ true = ap (λ (u : Nodes). is_near u r) (at_cut t n p c r d v g) ∙ near-here (at t c) r (at (at n d) v) hs.unmarked ∙ g.holds.near in
      made_here (put t p (at n p)) c r (holder_way (at (put t p (at n p)) c) r g.holds.some near)

  -- it is the catalogue of the tree afterwards
  pub joined_tree : (k : Contents) → IsJoined (contents_of t c) (contents_of n d) p k → IsOfTree (Fits (put t p (at n p))) (put t p (at n p)) c r k (as_object k ∷ [])
  joined_tree k j =
      let bytes = sym (joined_cat k j) in
      record { bytes = bytes; objects_are = (λ i. record { id = object_id (sha1 (bytes i)) Catalogue; bytes = bytes i } ∷ []) ∙ sym here_made; known = joined_fits k j }
