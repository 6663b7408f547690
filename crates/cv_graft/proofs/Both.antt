-- What comes of the catalogues on the way to a path in both trees.
use Rattle.std.proofs.Common.{◌≡◌, ◌≢◌, ℕ, true, false, List, [], ◌∷◌, ◌++◌, length, Some, None, Result, Ok, Err, inl, inr, sym, ap, subst, ◌∙◌}
use Rattle.std.specs.Option.{option_map}
use Rattle.std.specs.Prelude.{IsSomeAnd}
use Rattle.std.specs.declared.option.Option.{Option}
use Rattle.sha1.specs.Sha1.{sha1}
use Rattle.cv_base.specs.Marker.{marker, ends_in}
use Rattle.cv_base.specs.Path.{Path}
use Rattle.cv_base.specs.ObjectId.{object_id}
use Rattle.cv_base.specs.declared.id.ObjectId.{ObjectId}
use Rattle.cv_base.specs.declared.id.Kind.{Kind}
use Rattle.cv_base.specs.declared.id.Kind.TheVariants.{Catalogue}
use Rattle.cv_base.specs.declared.object.Object.{Object}
use Rattle.cv_ports.specs.Shelf.{Shelf}
use Rattle.cv_tree.specs.Changes.{has_place}
use Rattle.cv_tree.specs.Tree.{Nodes, IsTree, at, put}
use Rattle.cv_tree.proofs.Laws.{IsTree-put_at}
use Rattle.cv_rows.specs.Catalogue.{Contents}
use Rattle.cv_cut.specs.Catalogues.{cat, contents_of, root_of, Fits}
use Rattle.cv_cut.specs.declared.load_fault.LoadFault.{LoadFault}
use Rattle.cv_cut.specs.declared.load_fault.LoadFault.TheVariants as load
use Rattle.cv_cut.specs.Replaced.{Grafting}
use Rattle.cv_cut.proofs.Lemmas.{made_all, put-root, region_apart}
use Rattle.cv_graft.specs.Both.{GraftsBoth, GivesOffered}
use Rattle.cv_graft.specs.Directories.{IsHolder}
use Rattle.cv_graft.specs.Faults.{of_load}
use Rattle.cv_graft.specs.Graft.{Grafts, HasWay, HasWays}
use Rattle.cv_graft.specs.Joins.{IsJoined, CollidesAt, IsFullAt}
use Rattle.cv_graft.specs.JoinsInner.{from_tree}
use Rattle.cv_graft.specs.Makes.{Makes, as_object}
use Rattle.cv_graft.specs.MakesInner.{Regrafts}
use Rattle.cv_graft.specs.Way.{IsOfEither, TellsDamage}
use Rattle.cv_graft.specs.declared.grafted.Grafted.{Grafted}
use Rattle.cv_graft.specs.declared.graft_fault.GraftFault.{GraftFault}
use Rattle.cv_graft.specs.declared.graft_fault.GraftFault.TheVariants as fault
use Rattle.cv_graft.proofs.Finding.{cuts_way}
use Rattle.cv_graft.proofs.Joined.{joined_full, joined_shares, joined_tree}
use Rattle.cv_graft.proofs.Rebuilds.{IsOfHolder, IsOfTree, holder_there, top_tree, undamaged}

-- ---- from the root on

pub grafts_way : (shelf : Shelf) (newest offered : List ℕ) (p : Path) (o : Contents) (r : Result Grafted GraftFault) → IsHolder shelf offered p o → Regrafts shelf newest (from_tree o p) p [] r → GraftsBoth shelf newest offered p r
grafts_way shelf newest offered p o (Ok g) held h = record {
  top = h.top;
  there = h.there;
  other = o;
  held = held;
  made = h.made;
  makes = subst (λ (l : List Object). Makes shelf (λ c k. IsJoined c o p k) p h.top h.made l) (sym h.added) h.makes;
  root = h.root;
  size = h.size;
}
grafts_way shelf newest offered p o (Err (fault.PathCollision a b)) held h = (h.0, o, record { holds = h.1; held = held }, h.2)
grafts_way shelf newest offered p o (Err (fault.CatalogueFull d)) held h = (h.0, o, record { holds = h.1; held = held }, h.2)
grafts_way shelf newest offered p o (Err fault.Failed) held h = tt
grafts_way shelf newest offered p o (Err (fault.Damaged id found)) held h = tt
grafts_way shelf newest offered p o (Err fault.NoMemory) held h = tt

pub unread_both : (shelf : Shelf) (newest offered : List ℕ) (p : Path) (f : LoadFault) → GraftsBoth shelf newest offered p (Err (of_load f))
unread_both shelf newest offered p (load.Missing x) = tt
unread_both shelf newest offered p (load.Bad x) = tt
unread_both shelf newest offered p load.Failed = tt
unread_both shelf newest offered p (load.Damaged id found) = tt
unread_both shelf newest offered p load.NoMemory = tt

-- where both roots mean trees, it is what is answered of the tree with the other one's subtree
module _ (shelf : Shelf) (newest offered : List ℕ) (t n : Nodes) (p : Path) (way : HasWay shelf newest t p) (other : HasWay shelf offered n p) (some : p ≢ []) (place : has_place t p ≡ true) (unmarked : ends_in marker p ≡ false) where
  after : IsTree (put t p (at n p))
  after = IsTree-put_at t n p way.tree other.tree place

  holds : (c : Contents) → IsHolder shelf newest p c → IsOfHolder t p c
  holds c h = holder_there shelf newest t p (cuts_way way) c h

  held : (o : Contents) → IsHolder shelf offered p o → IsOfHolder n p o
  held o h = holder_there shelf offered n p (cuts_way other) o h

  grafting : (c o : Contents) (x : IsOfHolder t p c) (y : IsOfHolder n p o) → Grafting t n p c.at x.rest o.at y.rest
  grafting c o x y = record {
    tree = way.tree;
    other = other.tree;
    after = after;
    unmarked = unmarked;
    holds = x.holds;
    held = y.holds;
    apart = region_apart t c.at x.holds.cut way.fits.apart;
    apart_ = region_apart n o.at y.holds.cut other.fits.apart;
  }

  of_both : (Q : Contents → Contents → Type 0) (c o : Contents) (x : IsOfHolder t p c) (y : IsOfHolder n p o) → Q c o → Q (contents_of t c.at) (contents_of n o.at)
  of_both Q c o x y h = subst (λ (k : Contents). Q (contents_of t c.at) k) y.is (subst (λ (k : Contents). Q k o) x.is h)

  last_tree : (o : Contents) (y : IsOfHolder n p o) (c made : Contents) (x : IsOfHolder t p c) → IsJoined c o p made → IsOfTree (Fits (put t p (at n p))) (put t p (at n p)) c.at x.rest made (as_object made ∷ [])
  last_tree o y c made x h = joined_tree t n p c.at x.rest o.at y.rest (grafting c o x y) way.fits other.fits made (of_both (λ k m. IsJoined k m p made) c o x y h)

  pub grafts_tree : (r : Result Grafted GraftFault) → GraftsBoth shelf newest offered p r → TellsDamage shelf (IsOfEither shelf newest offered p) r → Grafts (put t p (at n p)) p r
  grafts_tree (Ok g) h tells =
      let m = top_tree shelf newest t p (cuts_way way) n after unmarked (Fits (put t p (at n p))) (λ c k. IsJoined c h.other p k) (last_tree h.other (held h.other h.held)) h.top h.made g.added some h.there h.makes in (
        m.known,
        λ i. record {
          root = (h.root ∙ ap (λ (b : List ℕ). object_id (sha1 b) Catalogue) m.bytes) i;
          size = (h.size ∙ ap (λ (b : List ℕ). length b) m.bytes) i;
          added = (m.objects_are ∙ made_all (put t p (at n p)) p) i;
        },
      )
  grafts_tree (Err (fault.PathCollision a b)) (c, o, both, h) tells =
      let x = holds c both.holds in
      let y = held o both.held in
      joined_shares t n p c.at x.rest o.at y.rest (grafting c o x y) way.fits other.fits a b (of_both (λ k m. CollidesAt k m p a b) c o x y h)
  grafts_tree (Err (fault.CatalogueFull d)) (c, o, both, h) tells =
      let x = holds c both.holds in
      let y = held o both.held in
      joined_full t n p c.at x.rest o.at y.rest (grafting c o x y) way.fits other.fits d (of_both (λ k m. IsFullAt k m p d) c o x y h)
  grafts_tree (Err fault.Failed) h tells = tt
  grafts_tree (Err (fault.Damaged id found)) h tells = elim tells.0 [
    | inl of ↦ undamaged shelf newest t p (cuts_way way) id found of tells.1
    | inr of ↦ undamaged shelf offered n p (cuts_way other) id found of tells.1
  ]
  grafts_tree (Err fault.NoMemory) h tells = tt

-- ---- at the root

pub offered_there : (o : Option (List ℕ)) (offered : ObjectId) (size : ℕ) (g : Grafted) → Some size ≡ option_map length o → g ≡ record { root = offered; size = size; added = [] } → IsSomeAnd o (λ bytes. g ≡ record { root = offered; size = length bytes; added = [] })
offered_there None offered size g len is = (let none : Some size ≡ None = len in absurd cc)
offered_there (Some bytes) offered size g len is = (let some : Some size ≡ Some (length bytes) = len in let same : size ≡ length bytes = cc in is ∙ ap (λ (k : ℕ). record { root = offered; size = k; added = [] }) same)

offered_grafts : (shelf : Shelf) (newest : List ℕ) (offered : ObjectId) (t n : Nodes) (r : Result Grafted GraftFault) → offered.kind ≡ Catalogue → HasWays shelf newest offered.hash t n [] → GivesOffered shelf offered r → Grafts (put t [] (at n [])) [] r
offered_grafts shelf newest offered t n (Ok g) kind ways h =
    let same = put-root t n in
    let id : offered ≡ object_id (root_of n) Catalogue = λ i. record { hash = ways.other.root i; kind = kind i } in
    let there : shelf offered ≡ Some (cat n []) = ap (λ (k : Kind). shelf (record { hash = offered.hash; kind = k })) kind ∙ ways.top in
    let is : g ≡ record { root = offered; size = length (cat n []); added = [] } = subst (λ (x : Option (List ℕ)). IsSomeAnd x (λ bytes. g ≡ record { root = offered; size = length bytes; added = [] })) there h in (
      subst Fits (sym same) ways.other.fits,
      is ∙ (λ i. record { root = id i; size = length (cat n []); added = [] }) ∙ ap (λ (u : Nodes). record { root = object_id (root_of u) Catalogue; size = length (cat u []); added = [] }) (sym same),
    )
offered_grafts shelf newest offered t n (Err (fault.PathCollision a b)) kind ways h = absurd h
offered_grafts shelf newest offered t n (Err (fault.CatalogueFull c)) kind ways h = absurd h
offered_grafts shelf newest offered t n (Err fault.Failed) kind ways h = tt
offered_grafts shelf newest offered t n (Err (fault.Damaged id found)) kind ways h = h
offered_grafts shelf newest offered t n (Err fault.NoMemory) kind ways h = tt

pub at_root : (shelf : Shelf) (newest : List ℕ) (offered : ObjectId) (t n : Nodes) (p : Path) (r : Result Grafted GraftFault) → p ≡ [] → offered.kind ≡ Catalogue → HasWays shelf newest offered.hash t n p → GivesOffered shelf offered r → Grafts (put t p (at n p)) p r
at_root shelf newest offered t n p r none kind ways h =
    subst (λ (x : Path). Grafts (put t x (at n x)) x r) (sym none) (offered_grafts shelf newest offered t n r kind (subst (HasWays shelf newest offered.hash t n) none ways) h)
