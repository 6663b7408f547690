-- The tree of a single directory fits its catalogue.
use Rattle.std.proofs.Common.{◌≡◌, ◌+◌, ℕ, true, false, cond, List, [], ◌∷◌, ◌++◌, map, codes, length, length-append, refl, sym, ap, subst, ◌∙◌, append-nil, arith, inl, inr, IsSome}
use Rattle.std.specs.declared.option.Option.TheVariants.{None, Some}
use Rattle.std.specs.Ordering.{eq_by_cmp}
use Rattle.std.specs.Cmp.Lexicographic.{nat_list_cmp_total}
use Rattle.std.specs.Int.{w32, w64, to_be_bytes}
use Rattle.std.specs.List.{filter}
use Rattle.std.specs.List.Sorted.{IsStrictlySortedBy}
use Rattle.std.specs.FinMap.{empty, get, entries, values, from_entries, get-insert, get-empty, same_map}
use Rattle.cv_base.specs.BytesOrder.{bytes_cmp}
use Rattle.cv_base.specs.Path.{Path, path_cmp, text_of, key_of, no_key}
use Rattle.cv_base.proofs.Laws.{path_total, path_exact, same_path_is}
use Rattle.cv_base.specs.declared.attr.Attr.{Attr}
use Rattle.cv_tree.specs.declared.node.Node.{Node}
use Rattle.cv_tree.specs.declared.node.Node.TheVariants.{Dir}
use Rattle.cv_base.specs.Attr.{IsAttr}
use Rattle.cv_tree.specs.Tree.{Nodes, IsTree, single, at}
use Rattle.cv_tree.proofs.Laws.{entries-from_entries, get-at, IsTree-single}
use Rattle.cv_rows.specs.Catalogue.{file_of}
use Rattle.cv_base.specs.Fields.{text_field}
use Rattle.cv_rows.specs.Row.{row_bytes}
use Rattle.cv_rows.specs.declared.row.Row.{Row}
use Rattle.cv_rows.specs.declared.nested.Nested.{Nested}
use Rattle.cv_cut.specs.Cuts.{is_cut, is_near, region, is_inner}
use Rattle.cv_cut.specs.Catalogues.{kind_of, row_of, rows_of, nested_of, entry_of, row_file, cat, IsInRegion, Fits}
use Rattle.cv_cut.proofs.Canonical.{cat_is}
use Rattle.cv_cut.proofs.CanonicalRules.{cut_some}
use Rattle.cv_cut.proofs.Keys.{key_is}

pub entries_single : (m : Node) → entries (single m) ≡ ([], m) ∷ []
unfolding IsStrictlySortedBy
entries_single m = entries-from_entries path_total (([], m) ∷ []) (tt, tt)

at_single : (m : Node) → at (single m) [] ≡ single m
at_single m = same_map path_total path_exact _ _ (λ q. get-at (single m) [] q)

region_single : (m : Node) → region (single m) ≡ ([], m) ∷ []
region_single m = ap (filter (λ e. is_near (single m) e.0)) (entries_single m)

-- the row of the root
abbrev root_row : Node → Row
root_row m = row_of (kind_of [] (single m) [] m) [] m

pub rows_single : (m : Node) → rows_of [] (single m) ≡ root_row m ∷ []
unfolding IsStrictlySortedBy
rows_single m =
    ap (λ (es : List (Path × Node)). values (from_entries {R = bytes_cmp} (map (λ e. (key_of ([] ++ e.0), row_of (kind_of [] (single m) e.0 e.1) ([] ++ e.0) e.1)) es))) (region_single m)
    ∙ ap (map (λ (e : List ℕ × Row). e.1)) (entries-from_entries nat_list_cmp_total ((key_of [], root_row m) ∷ []) (tt, tt))

pub nested_single : (m : Node) (file : Path → List ℕ) → nested_of [] (single m) file ≡ []
unfolding IsStrictlySortedBy
nested_single m file =
    ap (λ (es : List (Path × Node)). values (from_entries {R = bytes_cmp} (map (λ d. (text_of ([] ++ d), entry_of ([] ++ d) (file d))) (filter (is_inner (single m)) (map (λ e. e.0) es))))) (region_single m)
    ∙ ap (map (λ (e : List ℕ × Nested). e.1)) (entries-from_entries nat_list_cmp_total [] tt)

parts_length : (a b c d e f g h i j k : List ℕ) → length a ≡ 16 → length b ≡ 16 → length c ≡ 4 → length d ≡ 4 → length e ≡ 8 → length f ≡ 4 → length g ≡ 4 → length h ≡ 8 → length i ≡ 1 → length j ≡ 2 → length k ≡ 2
    → length (a ++ b ++ c ++ d ++ e ++ f ++ g ++ h ++ i ++ j ++ k) ≡ 69
parts_length a b c d e f g h i j k la lb lc ld le lf lg lh li lj lk =
    omega (arith, la, lb, lc, ld, le, lf, lg, lh, li, lj, lk, length-append a b, length-append (a ++ b) c, length-append (a ++ b ++ c) d, length-append (a ++ b ++ c ++ d) e, length-append (a ++ b ++ c ++ d ++ e) f, length-append (a ++ b ++ c ++ d ++ e ++ f) g, length-append (a ++ b ++ c ++ d ++ e ++ f ++ g) h, length-append (a ++ b ++ c ++ d ++ e ++ f ++ g ++ h) i, length-append (a ++ b ++ c ++ d ++ e ++ f ++ g ++ h ++ i) j, length-append (a ++ b ++ c ++ d ++ e ++ f ++ g ++ h ++ i ++ j) k)

row_length : (attr : Attr) → length (row_bytes (root_row (Dir attr))) ≡ 69
row_length attr =
    parts_length (key_of []) no_key (to_be_bytes w32 1) (to_be_bytes w32 (16384 + attr.mode)) (to_be_bytes w64 attr.mtime) (to_be_bytes w32 attr.uid) (to_be_bytes w32 attr.gid) (to_be_bytes w64 0) (0 ∷ [])
    (text_field []) (text_field []) (key_is []).size refl refl refl refl refl refl refl refl refl refl

head_first : (head rest : List ℕ) → length head ≡ 12 → length rest ≡ 69 → length (head ++ rest) ≡ 81
head_first head rest h r = omega (arith, length-append head rest, h, r)

file_length : (r : Row) → length (row_bytes r) ≡ 69 → length (file_of (r ∷ []) []) ≡ 81
file_length r size =
    head_first (codes "CVR1" ++ to_be_bytes w32 1 ++ to_be_bytes w32 0) ((row_bytes r ++ []) ++ []) refl
    (ap length (append-nil (row_bytes r ++ [])) ∙ ap length (append-nil (row_bytes r)) ∙ size)

-- its catalogue has 81 bytes
pub cat_single : (attr : Attr) → IsAttr attr → length (cat (single (Dir attr)) []) ≡ 81
cat_single attr good =
    let m : Node = Dir attr in
    let t : Nodes = single m in
    let tree : IsTree t = IsTree-single attr good in
    ap length (cat_is t [] tree tree.part.root)
    ∙ ap (λ (u : Nodes). length (row_file [] u (λ d. cat t ([] ++ d)))) (at_single m)
    ∙ ap (λ (rows : List Row). length (file_of rows (nested_of [] t (λ d. cat t ([] ++ d))))) (rows_single m)
    ∙ ap (λ (nested : List Nested). length (file_of (root_row m ∷ []) nested)) (nested_single m (λ d. cat t ([] ++ d)))
    ∙ file_length (root_row m) (row_length attr)

-- it has no path but the root
only_root : (m : Node) (q : Path) → IsSome (get (single m) q) → q ≡ []
only_root m q some =
    elim (eq_by_cmp path_cmp q []) as (λ b. eq_by_cmp path_cmp q [] ≡ b → IsSome (cond b (Some m) None) → q ≡ []) [
      | true ↦ λ same _. same_path_is q [] same
      | false ↦ λ other none. cc
    ] refl (subst IsSome (get-insert path_total empty [] m q ∙ ap (cond (eq_by_cmp path_cmp q []) (Some m)) (get-empty path_cmp q)) some)

in_region : (m : Node) (c p : Path) → IsInRegion (single m) c p → p ≡ []
in_region m c p h = h.1 ∙ only_root m (c ++ h.0) (subst IsSome (get-at (single m) c h.0) h.2)

pub Fits-single : (attr : Attr) → IsAttr attr → Fits (single (Dir attr))
Fits-single attr good =
    let m : Node = Dir attr in
    let t : Nodes = single m in
    let tree : IsTree t = IsTree-single attr good in
    record {
      apart = λ p q shares. shares.differ (in_region m shares.cut p shares.first ∙ sym (in_region m shares.cut q shares.second));
      limits = λ c full.
          let top : c ≡ [] = only_root m c (cut_some t c tree full.is_cut_) in
          elim full.passes [
            | inl many ↦ (
                let rows : length (region (at t c)) ≡ 1 = ap (λ (x : Path). length (region (at t x))) top ∙ ap (λ (u : Nodes). length (region u)) (at_single m) ∙ ap length (region_single m) in
                omega (arith, many, rows))
            | inr long ↦ (let size : length (cat t c) ≡ 81 = ap (λ (x : Path). length (cat t x)) top ∙ cat_single attr good in omega (arith, long, size))
          ];
    }

-- its cuts
pub cut_single : (attr : Attr) (c : Path) → IsAttr attr → is_cut (single (Dir attr)) c ≡ true → c ≡ []
cut_single attr c good cut = only_root (Dir attr) c (cut_some (single (Dir attr)) c (IsTree-single attr good) cut)
