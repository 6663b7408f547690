-- What a hash means on a shelf that grows, and for a tree of which a part was replaced.
use Rattle.std.proofs.Common.{◌≡◌, ◌≢◌, ◌&&◌, ℕ, true, false, List, [], ◌∷◌, ◌++◌, refl, sym, ap, subst, ◌∙◌, append-nil, Some, None, is_some}
use Rattle.std.specs.Prelude.{IsSomeAnd, Contains}
use Rattle.std.specs.declared.option.Option.{Option}
use Rattle.std.specs.FinMap.{get}
use Rattle.sha1.specs.Sha1.{sha1}
use Rattle.cv_base.specs.Path.{Path, behind, covers, overlap}
use Rattle.cv_base.specs.Marker.{marker}
use Rattle.cv_base.specs.ObjectId.{object_id}
use Rattle.cv_base.specs.declared.id.Kind.TheVariants.{Plain, Catalogue}
use Rattle.cv_base.proofs.Laws.{behind-Some}
use Rattle.cv_ports.specs.Shelf.{Shelf, HasMore}
use Rattle.cv_tree.specs.Tree.{Nodes, is_directory, at, put, is_file}
use Rattle.cv_tree.specs.Changes.{has_place}
use Rattle.cv_tree.specs.declared.node.Node.TheVariants.{File}
use Rattle.cv_tree.proofs.Laws.{at_rest, get-at, get-put, at-put, at-put_apart, at-at, IsTree-put_at}
use Rattle.cv_cut.specs.Cuts.{is_cut, is_marked, between}
use Rattle.cv_cut.specs.Above.{above, cuts_above}
use Rattle.cv_cut.specs.Catalogues.{catalogue_of, cat, root_of, Fits}
use Rattle.cv_cut.specs.Means.{Means, HasContentOf}
use Rattle.cv_cut.proofs.Members.{first_there, later_there, passing}
use Rattle.cv_cut.proofs.Between.{between_has, behind_it}

-- ---- on a shelf that grows

some_still : (o o' : Option (List ℕ)) (P : List ℕ → Type 0) → ((bytes : List ℕ) → o ≡ Some bytes → o' ≡ Some bytes) → IsSomeAnd o P → IsSomeAnd o' P
some_still None o' P keeps h = absurd h
some_still (Some bytes) o' P keeps h = subst (λ (x : Option (List ℕ)). IsSomeAnd x P) (sym (keeps bytes refl)) h

-- a hash means what it meant
pub Means-more : (s s' : Shelf) (hash : List ℕ) (t : Nodes) → HasMore s s' → Means s hash t → Means s' hash t
Means-more s s' hash t keeps m = record {
  tree = m.tree;
  fits = m.fits;
  root = m.root;
  catalogues = λ c cut. keeps (object_id (sha1 (cat t c)) Catalogue) (cat t c) (m.catalogues c cut);
  files = λ q attr file is. some_still (s (object_id file.hash Plain)) (s' (object_id file.hash Plain)) _ (keeps (object_id file.hash Plain)) (m.files q attr file is);
}

-- ---- where the same stands at a path

get_same : (t n : Nodes) (c q : Path) → at t c ≡ at n c → get t (c ++ q) ≡ get n (c ++ q)
get_same t n c q same = sym (get-at t c q) ∙ ap (λ (m : Nodes). get m q) same ∙ get-at n c q

marked_same : (t n : Nodes) (c : Path) → at t c ≡ at n c → is_marked t c ≡ is_marked n c
marked_same t n c same =
    let here : get t c ≡ get n c = ap (get t) (sym (append-nil c)) ∙ get_same t n c [] same ∙ ap (get n) (append-nil c) in
    let below : get t (c ++ marker ∷ []) ≡ get n (c ++ marker ∷ []) = get_same t n c (marker ∷ []) same in
    (λ i. is_directory (here i) && is_file (below i))

-- it is a cut of both trees or of none, and its catalogue is the same
pub cut_same : (t n : Nodes) (c : Path) → at t c ≡ at n c → is_cut t c ≡ is_cut n c
cut_same t n [] same = refl
cut_same t n (name ∷ names) same = marked_same t n (name ∷ names) same

pub cat_same : (t n : Nodes) (c : Path) → at t c ≡ at n c → cat t c ≡ cat n c
cat_same t n c same = ap (catalogue_of c) same

-- ---- where a part was replaced

-- what p covers is that of the other tree
pub at-put_inside : (t n : Nodes) (p c : Path) → covers p c ≡ true → at (put t p (at n p)) c ≡ at n c
at-put_inside t n p c h =
    elim (behind p c) as (λ o. behind p c ≡ o → is_some o ≡ true → at (put t p (at n p)) c ≡ at n c) [
      | None ↦ λ _ some. cc
      | Some r ↦ λ is _.
          let c-is : c ≡ p ++ r = behind-Some p c r is in
          ap (at (put t p (at n p))) c-is ∙ sym (at-at (put t p (at n p)) p r) ∙ ap (λ (m : Nodes). at m r) (at-put t p (at n p)) ∙ at-at n p r ∙ ap (at n) (sym c-is)
    ] refl h

-- where a cut stands against p
data Side (p c : Path) : Type 0 where
  inside : covers p c ≡ true → Side p c
  apart : overlap p c ≡ false → Side p c
  is_above : covers p c ≡ false → covers c p ≡ true → Side p c

side : (p c : Path) → Side p c
side p c =
    elim (covers p c) as (λ b. covers p c ≡ b → Side p c) [
      | true ↦ λ e. inside e
      | false ↦ λ e. elim (covers c p) as (λ b. covers c p ≡ b → Side p c) [
        | true ↦ λ f. is_above e f
        | false ↦ λ f. apart (rw (e, f) refl)
      ] refl
    ] refl

-- a shelf that has the catalogue has it of a tree at whose cut the same stands
pub there_too : (s : Shelf) (t n : Nodes) (c : Path) → at n c ≡ at t c → ((x : Path) → is_cut t x ≡ true → s (object_id (sha1 (cat t x)) Catalogue) ≡ Some (cat t x)) → is_cut n c ≡ true
    → s (object_id (sha1 (cat n c)) Catalogue) ≡ Some (cat n c)
there_too s t n c same all cut = subst (λ (bytes : List ℕ). s (object_id (sha1 bytes) Catalogue) ≡ Some bytes) (sym (cat_same n t c same)) (all c (sym (cut_same n t c same) ∙ cut))

-- the tree of one root with what stands at p in that of another: where it fits and the shelf has its catalogues properly
-- above p, its own root means it
pub Means-put : (s : Shelf) (h g : List ℕ) (t n : Nodes) (p : Path) → Means s h t → Means s g n → has_place t p ≡ true → Fits (put t p (at n p))
    → ((c : Path) → is_cut (put t p (at n p)) c ≡ true → covers c p ≡ true → covers p c ≡ false → s (object_id (sha1 (cat (put t p (at n p)) c)) Catalogue) ≡ Some (cat (put t p (at n p)) c))
    → Means s (root_of (put t p (at n p))) (put t p (at n p))
Means-put s h g t n p ht hn place fits made =
    let new : Nodes = put t p (at n p) in
    record {
      tree = IsTree-put_at t n p ht.tree hn.tree place;
      fits = fits;
      root = refl;
      catalogues = λ c cut. elim (side p c) [
        | inside e ↦ there_too s n new c (at-put_inside t n p c e) hn.catalogues cut
        | apart e ↦ there_too s t new c (at-put_apart t p c (at n p) e) ht.catalogues cut
        | is_above e f ↦ made c cut f e
      ];
      files = λ q attr file is.
          elim (behind p q) as (λ o. at_rest o (get (at n p)) (get t q) ≡ Some (File attr file) → HasContentOf s file) [
            | None ↦ λ there. ht.files q attr file there
            | Some r ↦ λ there. hn.files (p ++ r) attr file (sym (get-at n p r) ∙ there)
          ] (sym (get-put t p (at n p) q) ∙ is);
    }

-- ---- the cuts above a path

-- a path properly above another is among those above it
above_has : (c s : Path) → s ≢ [] → Contains (above (c ++ s)) c
above_has [] [] more = absurd (more refl)
above_has [] (a ∷ s) more = first_there [] (between (a ∷ s))
above_has (a ∷ c) s more = later_there [] (between (a ∷ c ++ s)) (a ∷ c) (between_has (a ∷ c) s (λ e. cc) more)

pub cut_above : (t : Nodes) (c s : Path) → s ≢ [] → is_cut t c ≡ true → Contains (cuts_above t (c ++ s)) c
cut_above t c s more cut = passing (is_cut t) (above (c ++ s)) c (above_has c s more) cut

-- a cut that covers a path and that the path doesn't cover is one of them
pub cut_covers : (t : Nodes) (c p : Path) → is_cut t c ≡ true → covers c p ≡ true → covers p c ≡ false → Contains (cuts_above t p) c
cut_covers t c p cut covered out =
    let r = behind_it c p covered in
    let is : p ≡ c ++ r.0 = behind-Some c p r.0 r.1 in
    let more : r.0 ≢ [] = λ none.
    let same : p ≡ c = is ∙ ap (λ (x : Path). c ++ x) none ∙ append-nil c in
    let wrong : true ≡ false = sym covered ∙ ap (covers c) same ∙ ap (λ (x : Path). covers x c) (sym same) ∙ out in
    absurd (let w = wrong in cc) in
    subst (λ (x : Path). Contains (cuts_above t x) c) (sym is) (cut_above t c r.0 more cut)
