-- A catalogue is the row file of its region, with the catalogues of the other cuts there.
use Rattle.std.proofs.Common.{◌≡◌, ℕ, zero, suc, ◌<◌, Bool, true, false, cond, ◌&&◌, List, [], ◌∷◌, ◌++◌, map, length, IsSome, refl, sym, ap, subst, ◌∙◌, append-nil, arith, length-append}
use Rattle.std.specs.declared.option.Option.{Option}
use Rattle.std.specs.declared.option.Option.TheVariants.{None, Some}
use Rattle.std.specs.List.{AllByRecursion, filter}
use Rattle.std.specs.FinMap.{get, from_entries, values}
use Rattle.cv_base.specs.BytesOrder.{bytes_cmp}
use Rattle.cv_base.specs.Path.{Path, overlap, text_of}
use Rattle.cv_tree.specs.Tree.{Nodes, IsTree, at, put, is_directory, is_file}
use Rattle.cv_tree.specs.declared.node.Node.{Node}
use Rattle.cv_tree.proofs.Laws.{get-at, at-put, at-put_apart, at-at}
use Rattle.cv_base.specs.Marker.{marker}
use Rattle.cv_rows.specs.Catalogue.{catalogue_bytes}
use Rattle.cv_cut.specs.Cuts.{is_inner, inner, region}
use Rattle.cv_cut.specs.Catalogues.{row_file, rows_of, entry_of, catalogue, catalogue_of, cat}

all_pass : {X : Type 0} (f : X → Bool) (xs : List X) → AllByRecursion (λ x. f x ≡ true) (filter f xs)
all_pass f [] = tt
all_pass f (x ∷ xs) = elim (f x) as (λ b. f x ≡ b → AllByRecursion (λ y. f y ≡ true) (cond b (x ∷ filter f xs) (filter f xs))) [ true ↦ λ e. (e, all_pass f xs) | false ↦ λ e. all_pass f xs ] refl

map_same : {X Y : Type 0} (P : X → Type 0) (f g : X → Y) → ((x : X) → P x → f x ≡ g x) → (xs : List X) → AllByRecursion P xs → map f xs ≡ map g xs
map_same P f g h [] a = refl
map_same P f g h (x ∷ xs) a = let e = h x a.0 in let r = map_same P f g h xs a.1 in λ i. e i ∷ r i

-- the same bytes at each other cut make the same file
row_file_same : (c : Path) (u : Nodes) (f g : Path → List ℕ) → ((d : Path) → is_inner u d ≡ true → f d ≡ g d) → row_file c u f ≡ row_file c u g
row_file_same c u f g h =
    let same = map_same (λ d. is_inner u d ≡ true) (λ d. (text_of (c ++ d), entry_of (c ++ d) (f d))) (λ d. (text_of (c ++ d), entry_of (c ++ d) (g d)))
    (λ d i. ap (λ bytes. (text_of (c ++ d), entry_of (c ++ d) bytes)) (h d i)) (inner u) (all_pass (is_inner u) (map (λ e. e.0) (region u))) in
    ap (λ es. catalogue_bytes (record { at = c; rows = rows_of c u; nested = values (from_entries {R = bytes_cmp} es) })) same

-- each path has fewer names
record IsBelow (n : ℕ) (u : Nodes) : Type 0 where
  names : (q : Path) → IsSome (get u q) → length q < n

inner_some : (u : Nodes) (d : Path) → is_inner u d ≡ true → IsSome (get u d) × (0 < length d)
inner_some u [] i = cc
inner_some u (a ∷ d) i = (of (get u (a ∷ d)) (is_file (get u ((a ∷ d) ++ marker ∷ []))) i, (let l : length (a ∷ d) ≡ suc (length d) = refl in omega (arith, l)))
  where
    of : (o : Option Node) (b : Bool) → (is_directory o && b) ≡ true → IsSome o
    of None b e = cc
    of (Some x) b e = refl

below_at : (n : ℕ) (u : Nodes) (d : Path) → 0 < length d → IsBelow (suc n) u → IsBelow n (at u d)
below_at n u d pos b = record {
  names = λ q some.
      let k = b.names (d ++ q) (subst IsSome (get-at u d q) some) in
      let l = length-append d q in
      omega (arith, k, l, pos);
}

-- the bound doesn't matter where it is none
catalogue_more : (n : ℕ) (c : Path) (u : Nodes) → IsSome (get u []) → IsBelow n u → catalogue n c u ≡ catalogue (suc n) c u
unfolding catalogue
catalogue_more zero c u some b = absurd (let k = b.names [] some in omega (arith, k))
catalogue_more (suc n) c u some b = row_file_same c u _ _ (λ d i.
    let s = inner_some u d i in
    catalogue_more n (c ++ d) (at u d) (subst IsSome (sym (get-at u d [] ∙ ap (get u) (append-nil d))) s.0) (below_at n u d s.1 b))

below_tree : (t : Nodes) (c : Path) → IsTree t → IsBelow 65 (at t c)
below_tree t c tree = record {
  names = λ q some.
      let k = (tree.part.paths (c ++ q) (subst IsSome (get-at t c q) some)).depth in
      let l = length-append c q in
      omega (arith, k, l);
}

-- a catalogue, by those of the other cuts of its region
pub cat_is : (t : Nodes) (c : Path) → IsTree t → IsSome (get t c) → cat t c ≡ row_file c (at t c) (λ d. cat t (c ++ d))
unfolding catalogue
cat_is t c tree some = row_file_same c (at t c) _ _ (λ d i.
    let s = inner_some (at t c) d i in
    let there : IsSome (get (at (at t c) d) []) = subst IsSome (sym (get-at (at t c) d [] ∙ ap (get (at t c)) (append-nil d))) s.0 in
    catalogue_more 64 (c ++ d) (at (at t c) d) there (below_at 64 (at t c) d s.1 (below_tree t c tree)) ∙ ap (catalogue_of (c ++ d)) (at-at t c d))

-- what a replacement leaves: each catalogue at a place apart
pub cat-put_apart : (t s : Nodes) (p c : Path) → overlap p c ≡ false → cat (put t p s) c ≡ cat t c
cat-put_apart t s p c h = ap (catalogue_of c) (at-put_apart t p c s h)

-- each catalogue at the place or below it is that of the tree from which the part came
pub cat-put_below : (t n : Nodes) (p d : Path) → cat (put t p (at n p)) (p ++ d) ≡ cat n (p ++ d)
cat-put_below t n p d = ap (catalogue_of (p ++ d)) (sym (at-at (put t p (at n p)) p d) ∙ ap (λ u. at u d) (at-put t p (at n p)) ∙ at-at n p d)
