-- Nested entries of cuts that were made.
use Rattle.std.proofs.Common.{◌≡◌, ◌≢◌, ℕ, ◌+◌, ◌<◌, ◌≤◌, ◌^◌, Bool, true, false, cond, None, Some, IsSome, List, [], ◌∷◌, ◌++◌, map, take, length, get_or, length-append, refl, sym, ap, subst, ◌∙◌, append-nil, arith, Result, Ok, Err}
use Rattle.std.specs.Prelude.{IfOk, Contains}
use Rattle.std.specs.Ordering.{is_eq}
use Rattle.std.specs.Cmp.{tied_itself}
use Rattle.std.specs.List.{All, filter}
use Rattle.std.specs.BTreeMap.{BTreeMap, Updates}
use Rattle.std.specs.BTreeMap as tree
use Rattle.std.proofs.lemmas.List.Elements.{All-contains, All-more, All-weaker}
use Rattle.cv_base.specs.Path.{Path, path_cmp, covers}
use Rattle.cv_base.proofs.Laws.{not_there, behind-append, path_total, same_path_is}
use Rattle.cv_tree.specs.Tree.{Nodes, at}
use Rattle.cv_tree.specs.declared.node.Node.{Node}
use Rattle.cv_rows.specs.declared.nested.Nested.{Nested}
use Rattle.cv_cut.specs.Cuts.{cuts_of, is_marked, is_inner, region}
use Rattle.cv_cut.specs.Catalogues.{entry_of, cat}
use Rattle.cv_cut.specs.Cut.{rest_of, is_other, nested_in, region_at}
use Rattle.cv_cut.specs.CutInner.{HasMade, IsOtherEntry, cuts_below}
use Rattle.cv_cut.proofs.Members.{passing}
use Rattle.cv_cut.proofs.Between.{marked-at, other_cut}
use Rattle.cv_cut.proofs.KindLaws.{rest_is}
use Rattle.cv_cut.proofs.RegionLists.{nested_list, nested_list_are}
use Rattle.cv_cut.specs.Region.{IsOther}

-- ---- other cuts

pub other_here : (t : Nodes) (c p cs ps : Path) → covers c p ≡ true → ps ≡ p → cs ≡ c → length ps ≡ length cs → false ≡ is_other t c p
other_here t c p cs ps h ps-is cs-is same =
    ap (is_inner (at t c)) (sym (empty (rest_of c p) (ap length (rest_is c p h) ∙ length-append c (rest_of c p)) (ap length (sym ps-is) ∙ same ∙ ap length cs-is)))
  where
    empty : (q : Path) → length p ≡ length c + length q → length p ≡ length c → q ≡ []
    empty [] long short = refl
    empty (a ∷ q) long short = absurd (omega arith)

inner_marked : (t : Nodes) (c p q : Path) → p ≡ c ++ q → q ≢ [] → is_marked t p ≡ is_inner (at t c) q
inner_marked t c p [] is some = absurd (some refl)
inner_marked t c p (a ∷ q) is some = ap (is_marked t) is ∙ marked-at t c (a ∷ q)

pub other_below : {E : Type 0} (t : Nodes) (c p cs ps : Path) (r : Result Bool E) → covers c p ≡ true → ps ≡ p → cs ≡ c → length ps ≢ length cs → IfOk r (λ b. b ≡ is_marked t p) → IfOk r (λ b. b ≡ is_other t c p)
other_below t c p cs ps (Ok b) h ps-is cs-is other is =
    is ∙ inner_marked t c p (rest_of c p) (rest_is c p h) (λ none. other (ap length (ps-is ∙ rest_is c p h ∙ ap (λ (q : Path). c ++ q) none ∙ append-nil c ∙ sym cs-is)))
other_below t c p cs ps (Err e) h ps-is cs-is other is = tt

-- ---- entries

-- what is found of a cut that was made
pub entry_made : (t : Nodes) (cuts : List Path) (made : BTreeMap Path Nested) (c p : Path) (n m : Nested) → HasMade t cuts made → tree.get path_cmp made p ≡ Some n → m ≡ n → is_other t c p ≡ true → IsOtherEntry t c p m
entry_made t cuts made c p n m has is same other = record {
  other = other;
  is = same ∙ has.each p n is;
  size = subst (λ (x : Nested). x.size ≤ 16777216) (sym same) (has.sizes p n is);
}

-- the other cuts below one are found
pub not_unmade : (t : Nodes) (made : BTreeMap Path Nested) (c p : Path) → HasMade t (cuts_below t c) made → tree.get path_cmp made p ≡ None → is_other t c p ≡ true → ⊥
not_unmade t made c p has none other =
    let there = All-contains (λ d. IsSome (tree.get path_cmp made d)) (cuts_below t c) p has.all (passing (is_other t c) (cuts_of t) p (other_cut t c p other) other) in
    not_there (tree.get path_cmp made p) none there

-- one more entry was made, of the next cut
pub one_made : (t : Nodes) (cuts : List Path) (i : ℕ) (old new : BTreeMap Path Nested) (c : Path) (n : Nested) → HasMade t (take i cuts) old → i < length cuts → c ≡ get_or cuts i c
    → Updates path_cmp old new c (Some n) → n ≡ nested_in t c → n.size ≤ 16777216 → HasMade t (take (i + 1) cuts) new
one_made t cuts i old new c n has lt c-is u is small = record {
  all = All-more (λ d. IsSome (tree.get path_cmp new d)) cuts i c lt
      (All-weaker (λ d. IsSome (tree.get path_cmp old d)) (λ d. IsSome (tree.get path_cmp new d)) (λ d there. subst IsSome (sym (u.0 d)) (elim (is_eq (path_cmp c d)) as (λ b. IsSome (cond b (Some n) (tree.get path_cmp old d))) [ true ↦ refl | false ↦ there ])) (take i cuts) has.all)
      (subst (λ (x : Path). IsSome (tree.get path_cmp new x)) c-is (subst IsSome (sym (u.0 c ∙ ap (λ o. cond (is_eq o) (Some n) (tree.get path_cmp old c)) (tied_itself path_total c))) refl));
  each = λ d m found. elim (is_eq (path_cmp c d)) as (λ b. is_eq (path_cmp c d) ≡ b → cond b (Some n) (tree.get path_cmp old d) ≡ Some m → m ≡ nested_in t d) [
    | true ↦ λ same it. (let m-is : n ≡ m = cc in sym m-is ∙ is ∙ ap (nested_in t) (same_path_is c d same))
    | false ↦ λ other it. has.each d m it
  ] refl (sym (u.0 d) ∙ found);
  sizes = λ d m found. elim (is_eq (path_cmp c d)) as (λ b. cond b (Some n) (tree.get path_cmp old d) ≡ Some m → m.size ≤ 16777216) [
    | true ↦ λ it. (let m-is : n ≡ m = cc in subst (λ (x : Nested). x.size ≤ 16777216) m-is small)
    | false ↦ λ it. has.sizes d m it
  ] (sym (u.0 d) ∙ found);
}

-- ---- the nested entries of the region

entries_behind : (t : Nodes) (c : Path) (es : List (Path × Node)) → map (λ e. nested_in t e.0) (filter (λ e. is_other t c e.0) (map {B = Path × Node} (λ e. (c ++ e.0, e.1)) es))
    ≡ map (λ d. entry_of (c ++ d) (cat t (c ++ d))) (filter (is_inner (at t c)) (map (λ e. e.0) es))
entries_behind t c [] = refl
entries_behind t c (e ∷ es) =
    rw (behind-append c e.0)
    (elim (is_inner (at t c) e.0) as (λ b. map (λ e. nested_in t e.0) (cond b ((c ++ e.0, e.1) ∷ filter (λ e. is_other t c e.0) (map {B = Path × Node} (λ e. (c ++ e.0, e.1)) es)) (filter (λ e. is_other t c e.0) (map {B = Path × Node} (λ e. (c ++ e.0, e.1)) es)))
    ≡ map (λ d. entry_of (c ++ d) (cat t (c ++ d))) (cond b (e.0 ∷ filter (is_inner (at t c)) (map (λ e. e.0) es)) (filter (is_inner (at t c)) (map (λ e. e.0) es)))) [
      | true ↦ ap (λ w. nested_in t (c ++ e.0) ∷ w) (entries_behind t c es)
      | false ↦ entries_behind t c es
    ])

pub entries_are : (t : Nodes) (c : Path) (es : List (Path × Node)) (nested : List Nested) → es ≡ region_at t c → nested ≡ map (λ e. nested_in t e.0) (filter (λ e. is_other t c e.0) es) → nested ≡ nested_list c (at t c) (λ d. cat t (c ++ d))
entries_are t c es nested es-is is = is ∙ ap (λ es. map (λ e. nested_in t e.0) (filter (λ e. is_other t c e.0) es)) es-is ∙ entries_behind t c (region (at t c))

-- they are short
pub entries_small : (t : Nodes) (c : Path) (nested : List Nested) → nested ≡ nested_list c (at t c) (λ d. cat t (c ++ d)) → All (λ n. n.size ≤ 16777216) nested → (d : Path) → IsOther (at t c) d → length (cat t (c ++ d)) < 2 ^ 64
entries_small t c nested is small d o =
    let has = (nested_list_are c (at t c) (λ d. cat t (c ++ d))).all d o in
    let le = All-contains (λ n. n.size ≤ 16777216) nested _ small (subst (λ xs. Contains xs (entry_of (c ++ d) (cat t (c ++ d)))) (sym is) has) in
    below_limit (length (cat t (c ++ d))) le
  where
    below_limit : (n : ℕ) → n ≤ 16777216 → n < 2 ^ 64
    below_limit n h = omega arith
