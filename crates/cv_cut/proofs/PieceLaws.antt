-- A part that is to be set at a path, and its cuts.
use Rattle.std.proofs.Common.{◌≡◌, ◌≢◌, ℕ, Bool, true, false, cond, ◌&&◌, List, [], ◌∷◌, ◌++◌, filter, map, reverse, Some, None, IsSome, is_some, refl, sym, ap, subst, ◌∙◌, append-nil}
use Rattle.std.proofs.lemmas.List.{reverse-append}
use Rattle.std.specs.Prelude.{slice_get, get_or, IfOk, IfSome, Result, Ok, Err}
use Rattle.std.specs.declared.option.Option.{Option}
use Rattle.std.specs.List.{All}
use Rattle.std.specs.BTreeMap.{BTreeMap}
use Rattle.std.specs.BTreeMap as tree
use Rattle.std.specs.FinMap.{get, empty, insert, entries, from_entries, is_sorted, get-empty, get-insert, get-from_entries, get-entries, same_map}
use Rattle.std.specs.Ordering.{eq_by_cmp}
use Rattle.std.proofs.lemmas.List.Elements.{All-contains, Contains-get_or, filter-append}
use Rattle.cv_base.specs.Marker.{marker, ends_in}
use Rattle.cv_base.specs.Path.{Path, IsPath, covers, key_of, path_cmp}
use Rattle.cv_base.specs.declared.attr.Attr.{Attr}
use Rattle.cv_base.proofs.Laws.{some_there, image_at, stands_there, covers_below, path_total, path_exact}
use Rattle.cv_tree.specs.Tree.{Nodes, IsTree, at, put, is_directory, single, is_file}
use Rattle.cv_tree.specs.Changes.{FitsUnder, nodes_of, subtree_of}
use Rattle.cv_tree.specs.declared.node.Node.{Node}
use Rattle.cv_tree.specs.declared.node.Node.TheVariants as node
use Rattle.cv_tree.proofs.Laws.{at-put, get-at}
use Rattle.cv_rows.specs.declared.nested.Nested.{Nested}
use Rattle.cv_cut.specs.Cuts.{is_cut, is_marked, cuts_of, region}
use Rattle.cv_cut.specs.Catalogues.{SharesKey, IsInRegion}
use Rattle.cv_cut.specs.Cut.{is_other, region_at}
use Rattle.cv_cut.specs.CutInner.{HasMade, IsCollision, cuts_below}
use Rattle.cv_cut.specs.Piece.{HasOnly, IsPiece, IsReady, IsFullAmong, IsSharedWithin, cuts_within, region_within}
use Rattle.cv_cut.specs.PieceInner.{HasNoFiles, IsFaultAmong, IsSharedAmong}
use Rattle.cv_cut.specs.Region.{KeysApart}
use Rattle.cv_cut.specs.declared.pieces.Piece.{Piece}
use Rattle.cv_cut.specs.declared.cut_fault.CutFault.{CutFault}
use Rattle.cv_cut.specs.declared.cut_fault.CutFault.TheVariants.{PathCollision, CatalogueFull, NoMemory}
use Rattle.cv_cut.proofs.Between.{stands_below}
use Rattle.cv_cut.proofs.Collisions.{among_within, within_among}
use Rattle.cv_cut.proofs.MarkLaws.{marked-out}
use Rattle.cv_cut.proofs.Members.{comes_from, passes}
use Rattle.cv_cut.proofs.RegionLists.{region_near, region_rises, keys_once}
use Rattle.cv_cut.proofs.Sides.{sorted_filter}
use Rattle.cv_cut.proofs.Fitting.{put-root}
use Rattle.cv_cut.proofs.WayCuts.{at-root}

-- ---- copies

-- a map is made of its entries
pub made_of_entries : (s : Nodes) → from_entries (entries s) ≡ s
made_of_entries s = same_map path_total path_exact _ _ (λ q. get-from_entries path_total (entries s) q ∙ sym (get-entries s q))

pub same_ok : {X E : Type 0} (r : Result X E) (a b : X) → IfOk r (λ m. m ≡ a) → a ≡ b → IfOk r (λ m. m ≡ b)
same_ok (Ok x) a b h is = h ∙ is
same_ok (Err e) a b h is = tt

-- what a test keeps of a list in reverse
pub filter_reverse : {X : Type 0} (f : X → Bool) (xs : List X) → filter f (reverse xs) ≡ reverse (filter f xs)
filter_reverse f [] = refl
filter_reverse f (x ∷ xs) =
    ap (filter f) (reverse-append (x ∷ []) xs) ∙ filter-append f (reverse xs) (x ∷ []) ∙ ap (λ l. l ++ filter f (x ∷ [])) (filter_reverse f xs)
    ∙ elim (f x) as (λ b. reverse (filter f xs) ++ cond b (x ∷ []) [] ≡ reverse (cond b (x ∷ filter f xs) (filter f xs))) [
      | true ↦ sym (reverse-append (x ∷ []) (filter f xs))
      | false ↦ append-nil (reverse (filter f xs))
    ]

-- ---- a tree of directories

either : (b : Bool) (attr : Attr) (o : Option Node) → is_file o ≡ false → is_file (cond b (Some (node.Dir attr)) o) ≡ false
either true attr o h = refl
either false attr o h = h

pub no_files_more : (t t' : Nodes) (p : Path) (attr : Attr) → HasNoFiles t → t' ≡ insert t p (node.Dir attr) → HasNoFiles t'
no_files_more t t' p attr none is q =
    ap (λ (m : Nodes). is_file (get m q)) is ∙ ap is_file (get-insert path_total t p (node.Dir attr) q) ∙ either (eq_by_cmp path_cmp q p) attr (get t q) (none q)

pub no_files_single : (t : Nodes) (attr : Attr) → t ≡ single (node.Dir attr) → HasNoFiles t
no_files_single t attr is = no_files_more empty t [] attr (λ q. ap is_file (get-empty path_cmp q)) is

-- ---- with the part in it

unmarked_by : (a b : Bool) → b ≡ false → (a && b) ≡ true → ⊥
unmarked_by true b none h = let wrong : true ≡ false = sym h ∙ none in cc
unmarked_by false b none h = cc

pub only_there : (w t : Nodes) (p : Path) (s : Nodes) → HasNoFiles w → ends_in marker p ≡ false → t ≡ put w p s → HasOnly t p s
only_there w t p s none unmarked is = record {
  part = ap (λ (m : Nodes). at m p) is ∙ at-put w p s;
  only = λ d cut some.
      elim (covers p d) as (λ b. covers p d ≡ b → b ≡ true) [
        | true ↦ λ e. refl
        | false ↦ λ out. absurd (marked_outside d out (nonroot d cut some))
      ] refl;
}
  where
    nonroot : (d : Path) → is_cut t d ≡ true → d ≢ [] → is_marked t d ≡ true
    nonroot [] cut some = absurd (some refl)
    nonroot (a ∷ d) cut some = cut

    marked_outside : (d : Path) → covers p d ≡ false → is_marked t d ≡ true → ⊥
    marked_outside d out marked =
        unmarked_by (is_directory (get w d)) (is_file (get w (d ++ marker ∷ []))) (none (d ++ marker ∷ [])) (sym (ap (λ (m : Nodes). is_marked m d) is ∙ marked-out w p s d unmarked out) ∙ marked)

pub fits_some : (o c : Option Nodes) (p : Path) → c ≡ o → FitsUnder p (nodes_of o) → IfSome c (FitsUnder p)
fits_some o None p is fits = tt
fits_some o (Some s) p is fits = subst (λ (x : Option Nodes). FitsUnder p (nodes_of x)) (sym is) fits

-- ---- the region above

all_same : (es : List (Path × Node)) → map {B = Path × Node} (λ e. ([] ++ e.0, e.1)) es ≡ es
all_same [] = refl
all_same (e ∷ es) = ap (λ (w : List (Path × Node)). e ∷ w) (all_same es)

pub within_rises : (t : Nodes) (p : Path) → is_sorted path_cmp (region_within t p) ≡ true
within_rises t p = sorted_filter (covers p) (region_at t []) (ap (is_sorted path_cmp) (all_same (region (at t []))) ∙ region_rises (at t []))

pub within_there : (t : Nodes) (p a : Path) (i : ℕ) → slice_get (map (λ e. e.0) (region_within t p)) i ≡ Some a → IsInRegion t [] a × (covers p a ≡ true)
within_there t p a i h =
    let e = image_at (λ e. e.0) (region_within t p) i a h in
    let has = passes (λ e. covers p e.0) (region_at t []) e.0 (stands_there (region_within t p) i e.0 e.1) in
    let f = comes_from {Y = Path × Node} (λ e. ([] ++ e.0, e.1)) (region (at t [])) e.0 has.0 in
    let near = region_near (at t []) f.0.0 f.0.1 f.1 in
    ((f.0.0, sym e.2 ∙ ap (λ x. x.0) (sym f.2), ap is_some near.there, near.near), ap (covers p) (sym e.2) ∙ has.1)

-- two of its places with one key are two paths that share it
pub region_shares : (t : Nodes) (p : Path) (es : List (Path × Node)) (fault : CutFault) → es ≡ region_within t p → IsCollision es fault → IsSharedWithin t p fault
region_shares t p es (PathCollision a b) is h =
    let same = subst (λ (xs : List (Path × Node)). IsCollision xs (PathCollision a b)) is h in
    let one = within_there t p a same.first same.one in
    let other = within_there t p b same.second same.other in
    record {
      shares = record {
        cut = [];
        is_cut_ = refl;
        first = one.0;
        second = other.0;
        differ = λ e. (keys_once (region_within t p) (within_rises t p)).each same.first same.second a same.order same.one (same.other ∙ ap Some (sym e));
        keys = same.keys;
      };
      first = one.1;
      second = other.1;
    }
region_shares t p es (CatalogueFull d) is h = absurd h
region_shares t p es NoMemory is h = tt

-- ---- the regions of the part's cuts

pub among_shares : (t : Nodes) (p : Path) (cuts : List Path) (fault : CutFault) → cuts ≡ reverse (cuts_within t p) → IsSharedAmong t cuts fault → IsSharedWithin t p fault
among_shares t p cuts (PathCollision a b) is h =
    let s = h.0 in
    let inside = (among_within t p cuts s.cut is h.1).1 in
    record {
      shares = s;
      first = ap (covers p) s.first.1 ∙ covers_below p s.cut s.first.0 inside;
      second = ap (covers p) s.second.1 ∙ covers_below p s.cut s.second.0 inside;
    }
among_shares t p cuts (CatalogueFull d) is h = absurd h
among_shares t p cuts NoMemory is h = tt

pub each_within : (t : Nodes) (p : Path) (cuts : List Path) → IsTree t → cuts ≡ reverse (cuts_within t p) → All (λ c. KeysApart c (at t c)) cuts → (c : Path) → is_cut t c ≡ true → covers p c ≡ true → KeysApart c (at t c)
each_within t p cuts whole is all c cut inside = All-contains (λ c. KeysApart c (at t c)) cuts c all (within_among t p cuts c whole is cut inside)

-- ---- cutting

-- all cuts but the root's are made
pub made_below : (piece : Piece) (root : Path) (made : BTreeMap Path Nested) → IsReady piece → root ≡ [] → HasMade piece.tree piece.cuts made → HasMade piece.tree (cuts_below piece.tree root) made
made_below piece root made ready none has = record {
  all = λ k d within.
      let t = piece.tree in
      let x = get_or (cuts_below t root) k d in
      let was = passes (is_other t root) (cuts_of t) x (Contains-get_or (cuts_below t root) k d within) in
      let below = stands_below t root x was.1 in
      let some : x ≢ [] = λ e. below.some (empty_rest below.rest (sym e ∙ below.is ∙ ap (λ (r : Path). r ++ below.rest) none)) in
      let cut = marked_cut x some below.marked in
      All-contains (λ d. IsSome (tree.get path_cmp made d)) piece.cuts x has.all (within_among t ready.path piece.cuts x ready.is.whole ready.is.cuts_are cut (ready.only x cut some));
  each = has.each;
  sizes = has.sizes;
}
  where
    empty_rest : (r : Path) → [] ≡ r → r ≡ []
    empty_rest r e = sym e

    marked_cut : (x : Path) → x ≢ [] → is_marked piece.tree x ≡ true → is_cut piece.tree x ≡ true
    marked_cut [] some marked = absurd (some refl)
    marked_cut (a ∷ x) some marked = marked

-- where the keys of its region are apart, no two of its paths share one
not_sharing : (t : Nodes) (a b : Path) (s : SharesKey t a b) → KeysApart s.cut (at t s.cut) → ⊥
not_sharing t a b s keys =
    let m = some_there (get (at t s.cut) s.first.0) s.first.2 in
    let n = some_there (get (at t s.cut) s.second.0) s.second.2 in
    let same = keys.each s.first.0 s.second.0 m.0 n.0 (record { there = m.1; near = s.first.3 }) (record { there = n.1; near = s.second.3 }) (ap key_of (sym s.first.1) ∙ s.keys ∙ ap key_of s.second.1) in
    s.differ (s.first.1 ∙ ap (λ (x : Path). s.cut ++ x) same ∙ sym s.second.1)

pub only_full : (piece : Piece) (fault : CutFault) → IsReady piece → IsFaultAmong piece.tree piece.cuts fault → IsFullAmong piece.tree piece.cuts fault
only_full piece (PathCollision a b) ready h =
    let s = h.0 in
    let there = among_within piece.tree ready.path piece.cuts s.cut ready.is.cuts_are h.1 in
    not_sharing piece.tree a b s (ready.is.apart s.cut there.0 there.1)
only_full piece (CatalogueFull c) ready h = h
only_full piece NoMemory ready h = tt

-- at the root a part is the whole
pub put_whole : (t s : Nodes) → put t [] s ≡ s
put_whole t s = ap (put t []) (sym (at-root s)) ∙ put-root t s

-- ---- what is ready

pub own_piece : (x : Piece) (t : Nodes) (p : Path) → IsPiece x t p → IsPiece x x.tree p
own_piece x t p h = subst (λ (u : Nodes). IsPiece x u p) (sym h.tree) h

pub own_only : (x : Piece) (t : Nodes) (p : Path) (s : Nodes) → IsPiece x t p → HasOnly t p s → HasOnly x.tree p s
own_only x t p s h only = subst (λ (u : Nodes). HasOnly u p s) (sym h.tree) only

pub ready_of : (x : Piece) (t : Nodes) (p : Path) (s : Nodes) → IsPiece x t p → HasOnly t p s → IsReady x
ready_of x t p s h only = record { path = p; is = own_piece x t p h; only = (own_only x t p s h only).only }

-- what a tree has at a path fits there
pub fits_subtree : (t : Nodes) (p : Path) → IsTree t → FitsUnder p (nodes_of (subtree_of t p))
fits_subtree t p tree q =
    elim (is_some (get t p)) as (λ b. IsSome (get (nodes_of (cond b (Some (at t p)) None)) q) → IsPath (p ++ q)) [
      | true ↦ λ h. tree.part.paths (p ++ q) (subst IsSome (get-at t p q) h)
      | false ↦ λ h. absurd (none_there_ (get empty q) (get-empty path_cmp q) h)
    ]
  where
    none_there_ : (o : Option Node) → o ≡ None → IsSome o → ⊥
    none_there_ None is h = cc
    none_there_ (Some x) is h = cc
