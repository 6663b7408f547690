-- Paths of a region that share a key, by their places in it.
use Rattle.std.proofs.Common.{◌≡◌, ℕ, ◌<◌, ◌≤◌, ◌+◌, true, Some, List, [], ◌∷◌, ◌++◌, filter, map, reverse, refl, inl, inr, length, get_or, sym, ap, subst, ◌∙◌, arith, is_some, Result, Ok, Err}
use Rattle.std.specs.Prelude.{Contains, slice_get, take, IfErr, IsErrAnd}
use Rattle.std.specs.List.{All}
use Rattle.std.specs.BTreeMap.{BTreeMap}
use Rattle.std.specs.FinMap.{get, entries, keys}
use Rattle.std.proofs.lemmas.List.{length-map, take_all}
use Rattle.std.proofs.lemmas.List.Elements.{All-more, All-contains}
use Rattle.std.proofs.lemmas.List.Sorted.{IsPermutation-reverse, IsPermutation-sym, Contains-permutation}
use Rattle.std.proofs.lemmas.Option.{slice_get-get_or, slice_get_within, same_Some}
use Rattle.cv_base.specs.Path.{Path, covers, key_of}
use Rattle.cv_base.proofs.Laws.{some_there, image_at, stands_there, path_exact}
use Rattle.cv_tree.specs.Tree.{Nodes, IsTree, at}
use Rattle.cv_tree.specs.declared.node.Node.{Node}
use Rattle.cv_rows.specs.Made.{AreApart}
use Rattle.cv_cut.specs.Cuts.{cuts_of, is_cut, region}
use Rattle.cv_cut.specs.Catalogues.{IsInRegion, SharesKey}
use Rattle.cv_cut.specs.Cut.{keys_at, region_at}
use Rattle.cv_cut.specs.CutInner.{AreSame, ShareKey, IsCollision, IsCutFault}
use Rattle.cv_cut.specs.Piece.{cuts_within}
use Rattle.cv_cut.specs.PieceInner.{AreCutsWithin, IsFaultAmong, IsSharedAmong}
use Rattle.cv_cut.specs.Region.{KeysApart}
use Rattle.cv_cut.specs.declared.cut_fault.CutFault.{CutFault}
use Rattle.cv_cut.specs.declared.cut_fault.CutFault.TheVariants.{PathCollision, CatalogueFull, NoMemory}
use Rattle.cv_cut.proofs.Members.{comes_from, first_or_later, first_there, goes_to, none_there, passes, passing}
use Rattle.cv_cut.proofs.Entries.{has_entry}
use Rattle.cv_cut.proofs.Seen.{HasSeen, all_seen}
use Rattle.cv_cut.proofs.Twice.{image_there, StandOnce, once_image}
use Rattle.cv_cut.proofs.CanonicalRules.{cut_some}
use Rattle.cv_cut.proofs.RegionLists.{region_near, region_once, rows_tell_keys, keys_at_are}
use Rattle.cv_cut.proofs.Ends.{same_rest}

-- the key of the entry that was read
pub key_there : (region : List (Path × Node)) (i : ℕ) (d : Path × Node) (key : List ℕ) → i < length region → key ≡ key_of (get_or region i d).0 → slice_get (keys_at region) i ≡ Some key
key_there region i d key lt key-is = image_there (λ e. key_of e.0) region i (get_or region i d) (slice_get-get_or region i d lt) ∙ ap Some (sym key-is)

-- two places of one key, with the paths that were read there
pub shares : (region : List (Path × Node)) (i j : ℕ) (a b : Path × Node) (p q : Path) → AreSame (keys_at region) i j → p ≡ (get_or region i a).0 → q ≡ (get_or region j b).0 → ShareKey region p q
shares region i j a b p q same p-is q-is =
    let li = inside region i same.key same.one in
    let lj = inside region j same.key same.other in
    let one = slice_get-get_or region i a li in
    let other = slice_get-get_or region j b lj in
    let keys = sym (image_there (λ e. key_of e.0) region i (get_or region i a) one) ∙ same.one in
    let more = sym (image_there (λ e. key_of e.0) region j (get_or region j b) other) ∙ same.other in
    record {
      first = i;
      second = j;
      order = same.order;
      one = image_there (λ e. e.0) region i (get_or region i a) one ∙ ap Some (sym p-is);
      other = image_there (λ e. e.0) region j (get_or region j b) other ∙ ap Some (sym q-is);
      keys = ap key_of p-is ∙ same_Some (key_of (get_or region i a).0) (key_of (get_or region j b).0) (keys ∙ sym more) ∙ ap key_of (sym q-is);
    }
  where
    inside : (region : List (Path × Node)) (i : ℕ) (key : List ℕ) → slice_get (keys_at region) i ≡ Some key → i < length region
    inside region i key h = let lt = slice_get_within (keys_at region) i key h in omega (arith, lt, length-map region (λ e. key_of e.0))

-- all keys were seen
pub all_keys : (region : List (Path × Node)) (n : ℕ) (seen : BTreeMap (List ℕ) ℕ) → HasSeen (keys_at region) n seen → length region ≤ n → AreApart (keys_at region)
all_keys region n seen has all = all_seen (keys_at region) n seen has (omega (arith, all, length-map region (λ e. key_of e.0)))

-- ---- in a tree

-- the cuts that a list in reverse has
pub among_within : (t : Nodes) (p : Path) (cuts : List Path) (c : Path) → cuts ≡ reverse (cuts_within t p) → Contains cuts c → (is_cut t c ≡ true) × (covers p c ≡ true)
among_within t p cuts c is has =
    let there = Contains-permutation (reverse (cuts_within t p)) (cuts_within t p) c (IsPermutation-sym (cuts_within t p) (reverse (cuts_within t p)) (IsPermutation-reverse (cuts_within t p))) (subst (λ xs. Contains xs c) is has) in
    let inside = passes (λ x. covers p x) (cuts_of t) c there in
    ((passes (is_cut t) (keys t) c inside.0).1, inside.1)

pub cut_of_tree : (t : Nodes) (c : Path) → IsTree t → is_cut t c ≡ true → Contains (cuts_of t) c
cut_of_tree t c tree cut =
    let n = some_there (get t c) (cut_some t c tree cut) in
    passing (is_cut t) (keys t) c (goes_to (λ e. e.0) (entries t) (c, n.0) (has_entry path_exact t c n.0 n.1)) cut

pub within_among : (t : Nodes) (p : Path) (cuts : List Path) (c : Path) → IsTree t → cuts ≡ reverse (cuts_within t p) → is_cut t c ≡ true → covers p c ≡ true → Contains cuts c
within_among t p cuts c tree is cut covered =
    subst (λ xs. Contains xs c) (sym is) (Contains-permutation (cuts_within t p) (reverse (cuts_within t p)) c (IsPermutation-reverse (cuts_within t p)) (passing (λ x. covers p x) (cuts_of t) c (cut_of_tree t c tree cut) covered))

-- the root covers all
pub within_root : (t : Nodes) → cuts_within t [] ≡ cuts_of t
within_root t = all_kept (cuts_of t)
  where
    all_kept : (ps : List Path) → filter (λ c. covers [] c) ps ≡ ps
    all_kept [] = refl
    all_kept (c ∷ ps) = ap (λ (w : List Path). c ∷ w) (all_kept ps)

pub all_cuts : (t : Nodes) (cuts : List Path) → cuts ≡ reverse (cuts_of t) → AreCutsWithin t cuts
all_cuts t cuts is = record { path = []; is = is ∙ ap reverse (sym (within_root t)) }

pub cut_among : (t : Nodes) (cuts : List Path) (c : Path) → IsTree t → cuts ≡ reverse (cuts_of t) → is_cut t c ≡ true → Contains cuts c
cut_among t cuts c tree is cut =
    subst (λ xs. Contains xs c) (sym is) (Contains-permutation (cuts_of t) (reverse (cuts_of t)) c (IsPermutation-reverse (cuts_of t)) (cut_of_tree t c tree cut))

-- the region's paths by their places
place_of : (t : Nodes) (c p : Path) (i : ℕ) → slice_get (map (λ e. e.0) (region_at t c)) i ≡ Some p → IsInRegion t c p
place_of t c p i h =
    let e = image_at (λ e. e.0) (region_at t c) i p h in
    let f = image_at {Y = Path × Node} (λ e. (c ++ e.0, e.1)) (region (at t c)) i e.0 e.1 in
    let near = region_near (at t c) f.0.0 f.0.1 (stands_there (region (at t c)) i f.0 f.1) in
    (f.0.0, sym e.2 ∙ ap (λ x. x.0) (sym f.2), ap is_some near.there, near.near)

region_paths_once : (t : Nodes) (c : Path) → StandOnce (map (λ e. e.0) (region_at t c))
region_paths_once t c = once_image (λ e. e.0) (region_at t c)
    (once_image (λ e. (c ++ e.0, e.1)) (region (at t c)) (region_once (at t c)) (λ a b has had is. same_entry a b has had (same_rest c a.0 b.0 (ap (λ x. x.0) is))))
    (λ a b has had is.
    let e = comes_from (λ e. (c ++ e.0, e.1)) (region (at t c)) a has in
    let f = comes_from (λ e. (c ++ e.0, e.1)) (region (at t c)) b had in
    let pair = same_entry e.0 f.0 e.1 f.1 (same_rest c e.0.0 f.0.0 (ap (λ x. x.0) e.2 ∙ is ∙ sym (ap (λ x. x.0) f.2))) in
    sym e.2 ∙ ap (λ (x : Path × Node). (c ++ x.0, x.1)) pair ∙ f.2)
  where
    same_entry : (a b : Path × Node) → Contains (region (at t c)) a → Contains (region (at t c)) b → a.0 ≡ b.0 → a ≡ b
    same_entry a b has had is =
        let one = (region_near (at t c) a.0 a.1 has).there in
        let two = (region_near (at t c) b.0 b.1 had).there in
        let value : a.1 ≡ b.1 = same_Some a.1 b.1 (sym one ∙ ap (get (at t c)) is ∙ two) in
        λ i. (is i, value i)

-- all of a list that was gone through
pub all_apart : (t : Nodes) (cuts : List Path) (n : ℕ) → length cuts ≤ n → All (λ c. KeysApart c (at t c)) (take n cuts) → All (λ c. KeysApart c (at t c)) cuts
all_apart t cuts n all h = subst (λ (cs : List Path). All (λ c. KeysApart c (at t c)) cs) (take_all n cuts all) h

-- two places of one key are two paths that share it
pub sharing : (t : Nodes) (c : Path) (fault : CutFault) → is_cut t c ≡ true → IsCollision (region_at t c) fault → IsSharedAmong t (c ∷ []) fault
sharing t c (PathCollision p q) cut same = (
  record {
    cut = c;
    is_cut_ = cut;
    first = place_of t c p same.first same.one;
    second = place_of t c q same.second same.other;
    differ = λ is. (region_paths_once t c).each same.first same.second p same.order same.one (same.other ∙ ap Some (sym is));
    keys = same.keys;
  },
  first_there c [],
)
sharing t c (CatalogueFull d) cut same = absurd same
sharing t c NoMemory cut same = tt

-- where the keys of each region are apart no two paths share one
pub no_sharing : (t : Nodes) → ((c : Path) → is_cut t c ≡ true → KeysApart c (at t c)) → (p q : Path) → SharesKey t p q → ⊥
no_sharing t apart p q s =
    let m = some_there (get (at t s.cut) s.first.0) s.first.2 in
    let n = some_there (get (at t s.cut) s.second.0) s.second.2 in
    let same = (apart s.cut s.is_cut_).each s.first.0 s.second.0 m.0 n.0 (record { there = m.1; near = s.first.3 }) (record { there = n.1; near = s.second.3 }) (ap key_of (sym s.first.1) ∙ s.keys ∙ ap key_of s.second.1) in
    s.differ (s.first.1 ∙ ap (λ (x : Path). s.cut ++ x) same ∙ sym s.second.1)

-- those of each cut of a list that has all
pub each_apart : (t : Nodes) (cuts : List Path) → IsTree t → cuts ≡ reverse (cuts_of t) → All (λ c. KeysApart c (at t c)) cuts → (p q : Path) → SharesKey t p q → ⊥
each_apart t cuts tree is apart = no_sharing t (λ c cut. All-contains (λ c. KeysApart c (at t c)) cuts c apart (cut_among t cuts c tree is cut))

-- the keys of the region of a cut that was read
pub region_keys : (t : Nodes) (c : Path) (region : List (Path × Node)) → region ≡ region_at t c → AreApart (keys_at region) → KeysApart c (at t c)
region_keys t c region is apart = rows_tell_keys c (at t c) (subst AreApart (ap keys_at is ∙ keys_at_are t c) apart)

-- one more cut
pub one_apart : (t : Nodes) (cuts : List Path) (i : ℕ) (c : Path) → All (λ c. KeysApart c (at t c)) (take i cuts) → i < length cuts → c ≡ get_or cuts i c → KeysApart c (at t c) → All (λ c. KeysApart c (at t c)) (take (i + 1) cuts)
one_apart t cuts i c before lt c-is apart =
    All-more (λ c. KeysApart c (at t c)) cuts i c lt before (subst (λ (x : Path). KeysApart x (at t x)) c-is apart)

-- the fault of the region of a cut
pub sharing_of : (t : Nodes) (c : Path) (region : List (Path × Node)) (fault : CutFault) → is_cut t c ≡ true → region ≡ region_at t c → IsCollision region fault → IsFaultAmong t (c ∷ []) fault
sharing_of t c region fault cut is h = weaker fault (sharing t c fault cut (subst (λ es. IsCollision es fault) is h))
  where
    weaker : (fault : CutFault) → IsSharedAmong t (c ∷ []) fault → IsFaultAmong t (c ∷ []) fault
    weaker (PathCollision p q) h = h
    weaker (CatalogueFull d) h = absurd h
    weaker NoMemory h = tt

-- what is among one cut is among all
among_all : (cuts : List Path) (c x : Path) → Contains cuts c → Contains (c ∷ []) x → Contains cuts x
among_all cuts c x there has = elim (first_or_later c [] x has) [
  | inl same ↦ subst (Contains cuts) same there
  | inr none ↦ absurd (none_there x none)
]

pub wider_fault : (t : Nodes) (cuts : List Path) (i : ℕ) (c : Path) (fault : CutFault) → i < length cuts → c ≡ get_or cuts i c → IsFaultAmong t (c ∷ []) fault → IsFaultAmong t cuts fault
wider_fault t cuts i c (PathCollision p q) lt c-is h = (h.0, among_all cuts c h.0.cut (i, lt, sym c-is) h.1)
wider_fault t cuts i c (CatalogueFull d) lt c-is h = (h.0, among_all cuts c d (i, lt, sym c-is) h.1)
wider_fault t cuts i c NoMemory lt c-is h = tt

wider_shared : (t : Nodes) (cuts : List Path) (c : Path) (fault : CutFault) → Contains cuts c → IsSharedAmong t (c ∷ []) fault → IsSharedAmong t cuts fault
wider_shared t cuts c (PathCollision p q) there h = (h.0, among_all cuts c h.0.cut there h.1)
wider_shared t cuts c (CatalogueFull d) there h = absurd h
wider_shared t cuts c NoMemory there h = tt

-- the fault of the region of a cut that was read
pub sharing_there : (t : Nodes) (p : Path) (cuts : List Path) (i : ℕ) (c : Path) (region : List (Path × Node)) (fault : CutFault) → cuts ≡ reverse (cuts_within t p) → i < length cuts → c ≡ get_or cuts i c → region ≡ region_at t c → IsCollision region fault → IsSharedAmong t cuts fault
sharing_there t p cuts i c region fault is lt c-is region-is h =
    wider_shared t cuts c fault (i, lt, sym c-is) (sharing t c fault (among_within t p cuts c is (i, lt, sym c-is)).0 (subst (λ es. IsCollision es fault) region-is h))

-- faults of all cuts of a tree
pub cut_fault : (t : Nodes) (cuts : List Path) (fault : CutFault) → IsFaultAmong t cuts fault → IsCutFault t fault
cut_fault t cuts (PathCollision p q) h = h.0
cut_fault t cuts (CatalogueFull d) h = h.0
cut_fault t cuts NoMemory h = tt

-- a fault that is handed on
pub handed_on : {X : Type 0} (P : CutFault → Type 0) (r : Result X CutFault) (fault : CutFault) → IsErrAnd r (λ f. f ≡ fault) → P fault → IfErr r P
handed_on P (Ok x) fault is h = tt
handed_on P (Err f) fault is h = subst P (sym is) h
