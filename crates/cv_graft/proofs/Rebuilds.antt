-- What comes of the catalogues on the way to a path, where the root means a tree: those of the tree in which another one's subtree
-- stands at the path.
use Rattle.std.proofs.Common.{◌≡◌, ◌≢◌, ℕ, true, false, List, [], ◌∷◌, ◌++◌, map, length, Some, refl, sym, ap, subst, ◌∙◌}
use Rattle.sha1.specs.Sha1.{sha1}
use Rattle.cv_base.specs.Marker.{marker, ends_in}
use Rattle.cv_base.specs.Path.{Path, covers}
use Rattle.cv_base.specs.ObjectId.{object_id}
use Rattle.cv_base.specs.declared.id.Kind.{Kind}
use Rattle.cv_base.specs.declared.id.Kind.TheVariants.{Catalogue}
use Rattle.cv_base.specs.declared.id.ObjectId.{ObjectId}
use Rattle.cv_base.specs.declared.object.Object.{Object}
use Rattle.cv_ports.specs.Shelf.{Shelf, HasOtherDigest}
use Rattle.cv_tree.specs.Tree.{Nodes, at, put, IsTree}
use Rattle.cv_rows.specs.Catalogue.{Contents, catalogue_bytes}
use Rattle.cv_rows.specs.Renewed as rows
use Rattle.cv_cut.specs.Above.{Holds, OnWay, made_from}
use Rattle.cv_cut.specs.Catalogues.{cat, contents_of}
use Rattle.cv_cut.specs.Cut.{catalogue_object}
use Rattle.cv_cut.specs.Cuts.{is_marked, is_near}
use Rattle.cv_cut.specs.Reached.{Place, HasCatalogue, root_place}
use Rattle.cv_cut.specs.Region.{StandsOnWay}
use Rattle.cv_cut.specs.Replaced.{IsPassed}
use Rattle.cv_cut.proofs.Lemmas.{cat_is, cut_some, longer_covers_not, marked-out, near-out, above_cut, above_contents, pass_way, made_deeper, upper_at_cut, upper_unmarked_r}
use Rattle.cv_graft.specs.Directories.{IsHolder}
use Rattle.cv_graft.specs.Makes.{Makes, as_object, joins, names, naming}
use Rattle.cv_graft.specs.Placed.{HasCuts}
use Rattle.cv_graft.specs.Way.{HasNone, IsOfWay, IsOnWay, top, next}
use Rattle.cv_graft.proofs.Finding.{none_holds, next_there, same_some, some_of, step_down, step_to, way_covers}
use Rattle.cv_graft.proofs.Tops.{top_is}

-- the catalogue is that of a cut on the way
pub record IsOfCut (t : Nodes) (p : Path) (c : Contents) : Type 0 where
  pub rest : Path
  pub on : OnWay t p c.at rest
  pub is : c ≡ contents_of t c.at

-- and the cut directly holds the path
pub record IsOfHolder (t : Nodes) (p : Path) (c : Contents) : Type 0 where
  pub rest : Path
  pub holds : Holds t p c.at rest
  pub is : c ≡ contents_of t c.at

-- what came of a catalogue is that of the cut at c, and the objects that were made are those from there on; and P is known of the tree
pub record IsOfTree (P : Type 0) (t : Nodes) (c r : Path) (made : Contents) (objects : List Object) : Type 0 where
  pub bytes : catalogue_bytes made ≡ cat t c
  pub objects_are : objects ≡ made_from t c r
  pub known : P

-- ---- a catalogue that names what came of the next one

module _ (t n : Nodes) (p c r e f : Path) (a : IsPassed t p (at n p) c r e f) where
  -- the cuts on the way afterwards
  passes_after : made_from (put t p (at n p)) c r ≡ made_from (put t p (at n p)) (c ++ e) f ++ catalogue_object (put t p (at n p)) c ∷ []
  passes_after =
      let w = a.passes.way in
      let same = upper_at_cut t p (at n p) c r e f a in
      let unmarked = upper_unmarked_r t p (at n p) c r e f a in
      let out : covers r e ≡ false = subst (λ (x : Path). covers x e ≡ false) (sym w.is) (longer_covers_not e f w.more) in
      let way : StandsOnWay (at (put t p (at n p)) c) r e f = record { is = w.is; some = w.some; more = w.more; marked = ap (λ (u : Nodes). is_marked u e) same ∙ marked-out (at t c) r (at n p) e unmarked out ∙ w.marked } in
      let near : is_near (at (put t p (at n p)) c) e ≡ true = ap (λ (u : Nodes). is_near u e) same ∙ near-out (at t c) r (at n p) e unmarked out ∙ a.passes.near in
      made_deeper (put t p (at n p)) c r e f (pass_way (at (put t p (at n p)) c) r e f way near)

  naming_is : (k below : Contents) (q : Path) → k ≡ contents_of t c → q ≡ c ++ e → catalogue_bytes below ≡ cat (put t p (at n p)) (c ++ e) → naming k q below ≡ contents_of (put t p (at n p)) c
  naming_is k below q is path bytes = (λ i. record (is i) { nested = map (rows.renewed (path i) (sha1 (bytes i)) (length (bytes i))) (is i).nested }) ∙ sym (above_contents t p (at n p) c r e f a)

  named_tree : (P : Type 0) (k below : Contents) (q : Path) (objects : List Object) → k ≡ contents_of t c → q ≡ c ++ e → IsOfTree P (put t p (at n p)) (c ++ e) f below objects
      → IsOfTree P (put t p (at n p)) c r (naming k q below) (objects ++ as_object (naming k q below) ∷ [])
  named_tree P k below q objects is path deep =
      let cut = above_cut t p (at n p) c r e f a in
      let bytes : catalogue_bytes (naming k q below) ≡ cat (put t p (at n p)) c =
      ap catalogue_bytes (naming_is k below q is path deep.bytes) ∙ sym (cat_is (put t p (at n p)) c a.after (cut_some (put t p (at n p)) c a.after cut)) in
      record { bytes = bytes; objects_are = (λ i. deep.objects_are i ++ record { id = object_id (sha1 (bytes i)) Catalogue; bytes = bytes i } ∷ []) ∙ sym passes_after; known = deep.known }

-- ---- on the way, by what stands on the shelf

module _ (shelf : Shelf) (root : List ℕ) (t : Nodes) (p : Path) (way : HasCuts shelf root t p) where
  pub of_cut_there : (c : Contents) {hash : List ℕ} {place : Place} → IsOnWay shelf root p hash place → HasCatalogue shelf hash place c → IsOfCut t p c
  of_cut_there c (top some) has =
      let x = top_is shelf (object_id root Catalogue) t p [] c way some has refl in
      record { rest = p; on = x.on; is = x.is }
  of_cut_there c (next {c = above} {n = n} {r = r} on there below t_) has =
      let a = of_cut_there above on there in
      let s = step_to shelf root t p a.rest above n way a.on a.is below c r has in
      record { rest = s.f; on = s.on; is = s.is_ }

  abbrev holder_is : (c : Contents) → IsOfCut t p c → HasNone c p → IsOfHolder t p c
  holder_is c x none = record { rest = x.rest; holds = none_holds t p c.at x.rest way.tree x.on (subst (λ (k : Contents). HasNone k p) x.is none); is = x.is }

  pub holder_there : (c : Contents) → IsHolder shelf root p c → IsOfHolder t p c
  holder_there c h = holder_is c (of_cut_there c h.on h.has) h.none

  -- the bytes under the id of a catalogue on the way have its hash
  has_digest : {hash : List ℕ} {place : Place} → IsOnWay shelf root p hash place → (bytes : List ℕ) × (shelf (object_id hash Catalogue) ≡ Some bytes) × (sha1 bytes ≡ hash)
  has_digest (top some) = (cat t [], ap (λ (x : List ℕ). shelf (object_id x Catalogue)) way.root ∙ way.catalogues [] refl refl some, sym way.root)
  has_digest (next {c = above} {n = n} on there below t_) =
      let a = of_cut_there above on there in
      let x = next_there shelf root t p a.rest above n way a.on a.is below in
      (x.bytes, x.there, x.hash)

  pub undamaged : (id : ObjectId) (found : List ℕ) → IsOfWay shelf root p id → HasOtherDigest shelf id found → ⊥
  undamaged id found of h =
      let d = has_digest of.on in
      let there = ap (λ (k : Kind). shelf (record { hash = id.hash; kind = k })) of.kind ∙ d.1 in
      h.other (h.digest ∙ ap sha1 (same_some h.bytes d.0 (shelf id) h.there there) ∙ d.2)

  module _ (n : Nodes) (after : IsTree (put t p (at n p))) (unmarked : ends_in marker p ≡ false) (P : Type 0) (Last : Contents → Contents → Type 0)
      (last : (c made : Contents) (x : IsOfHolder t p c) → Last c made → IsOfTree P (put t p (at n p)) c.at x.rest made (as_object made ∷ [])) where
    makes_tree : (c made : Contents) (objects : List Object) (x : IsOfCut t p c) → Makes shelf Last p c made objects → IsOfTree P (put t p (at n p)) c.at x.rest made objects
    makes_tree c made objects x (joins none h) = last c made (holder_is c x none) h
    makes_tree c made objects x (names {below = below} {made = made_} {n = entry} {objects = objects_} after_ opened more) =
        let s = step_down shelf root t p x.rest c entry way x.on x.is after_ below opened in
        let deep = makes_tree below made_ objects_ (record { rest = s.f; on = s.on; is = s.is_ }) more in
        let apart = (way.fits c.at x.on.cut (way_covers t p c.at x.rest x.on) (some_of t p c.at x.rest x.on)).apart in
        named_tree t n p c.at x.rest s.e s.f (record { tree = way.tree; after = after; unmarked = unmarked; passes = s.passes; apart = apart }) P c made_ entry.path objects_ x.is s.path
        (subst (λ (q : Path). IsOfTree P (put t p (at n p)) q s.f made_ objects_) s.place deep)

    -- from the root on
    pub top_tree : (c made : Contents) (objects : List Object) → p ≢ [] → HasCatalogue shelf root root_place c → Makes shelf Last p c made objects → IsOfTree P (put t p (at n p)) [] p made objects
    top_tree c made objects some has more =
        let x = top_is shelf (object_id root Catalogue) t p [] c way some has refl in
        subst (λ (q : Path). IsOfTree P (put t p (at n p)) q p made objects) x.place (makes_tree c made objects (record { rest = p; on = x.on; is = x.is }) more)
