-- What a folder in memory holds, and the test of its order.
use Rattle.std.proofs.Common.{◌≡◌, ℕ, ◌-◌, ◌≤◌, ◌<◌, true, false, ◌&&◌, List, [], ◌∷◌, drop, length, get_or, length-drop, cond, Some, drop-cons, suc, refl, sym, ap, ◌∙◌, arith}
use Rattle.std.specs.Prelude.{unwrap_or}
use Rattle.std.proofs.lemmas.Bool.{and_parts}
use Rattle.std.specs.declared.cmp.Ordering.TheVariants.{Less}
use Rattle.std.specs.Ordering.{is_lt, eq_by_cmp}
use Rattle.std.specs.Cmp.{IsTotalOrder}
use Rattle.std.specs.Cmp.Lexicographic.{nat_list_cmp_total}
use Rattle.std.specs.FinMap.{find}
use Rattle.std.specs.List.{AllByRecursion}
use Rattle.std.specs.List.Sorted.{IsStrictlySortedBy}
use Rattle.cv_base.specs.Path.{Path, path_cmp}
use Rattle.cv_base.specs.BytesOrder.{bytes_cmp}
use Rattle.cv_base.proofs.Laws.{is_less}
use Rattle.cv_ports.specs.declared.folder.FolderItem.{FolderItem}
use Rattle.cv_ports.specs.Folder.{Ascend, IsOrdered, ascends, names_of}
use Rattle.cv_ports.specs.MemoryFolder.{MemoryFolderView, AllAscend, holding}
use Rattle.cv_ports.specs.MemoryFolderInner.{all_ascend}

-- below the first of them is below all
below_all : (a : List ℕ) (items : List FolderItem) (item : FolderItem) → bytes_cmp a item.name ≡ Less → AllByRecursion (λ n. bytes_cmp item.name n ≡ Less) (names_of items)
    → AllByRecursion (λ n. bytes_cmp a n ≡ Less) (names_of items)
below_all a [] item h all = tt
below_all a (next ∷ items) item h all = let o : IsTotalOrder bytes_cmp = nat_list_cmp_total in (o.trans a item.name next.name h all.0, below_all a items item h all.1)

-- items that pass the test ascend, and those that ascend pass it
pub passed : (items : List FolderItem) → ascends items ≡ true → Ascend items
unfolding IsStrictlySortedBy
passed [] h = tt
passed (last ∷ []) h = (tt, tt)
passed (item ∷ next ∷ items) h =
    let both = and_parts (is_lt (bytes_cmp item.name next.name)) (ascends (next ∷ items)) h in
    let rest = passed (next ∷ items) both.1 in
    let first = is_less (bytes_cmp item.name next.name) both.0 in
    ((first, below_all item.name items next first rest.0), rest)

pub passes : (items : List FolderItem) → Ascend items → ascends items ≡ true
unfolding IsStrictlySortedBy
passes [] h = refl
passes (last ∷ []) h = refl
passes (item ∷ next ∷ items) h = rw ((h.0).0, passes (next ∷ items) h.1) refl

pub all_passed : (ds : List (Path × List FolderItem)) → all_ascend ds ≡ true → AllAscend ds
all_passed [] h = tt
all_passed (d ∷ ds) h = let both = and_parts (ascends d.1) (all_ascend ds) h in (passed d.1 both.0, all_passed ds both.1)

pub all_pass : (ds : List (Path × List FolderItem)) → AllAscend ds → all_ascend ds ≡ true
all_pass [] h = refl
all_pass (d ∷ ds) h = rw (passes d.1 h.0, all_pass ds h.1) refl

none_ascend : Ascend []
unfolding IsStrictlySortedBy
none_ascend = tt

pub found_ascend : (ds : List (Path × List FolderItem)) (path : Path) → AllAscend ds → Ascend (unwrap_or (find path_cmp path ds) [])
found_ascend [] path h = none_ascend
found_ascend (d ∷ ds) path h = elim (eq_by_cmp path_cmp path d.0) as (λ b. Ascend (unwrap_or (cond b (Some d.1) (find path_cmp path ds)) [])) [ true ↦ h.0 | false ↦ found_ascend ds path h.1 ]

-- each directory of the folder ascends
pub ordered : (m : MemoryFolderView) → AllAscend m.directories → IsOrdered (holding m)
ordered m h = λ path. found_ascend m.directories path h

-- one item more is tested
pub next_tested : (items : List FolderItem) (i : ℕ) (a b : FolderItem) → 1 ≤ i → i < length items → a ≡ get_or items (i - 1) a → b ≡ get_or items i b
    → ascends (drop (i - 1) items) ≡ (is_lt (bytes_cmp a.name b.name) && ascends (drop i items))
next_tested items i a b one more a-is b-is =
    let here : suc (i - 1) ≡ i = omega arith in
    let first : drop (i - 1) items ≡ a ∷ drop i items = drop-cons items (i - 1) a (omega arith) ∙ (λ k. sym a-is k ∷ drop (here k) items) in
    let second : drop i items ≡ b ∷ drop (suc i) items = drop-cons items i b more ∙ ap (λ x. x ∷ drop (suc i) items) (sym b-is) in
    ap ascends first ∙ ap (λ w. ascends (a ∷ w)) second ∙ ap (λ w. is_lt (bytes_cmp a.name b.name) && ascends w) (sym second)

pub all_tested : (items : List FolderItem) (i : ℕ) → 1 ≤ i → length items ≤ i → ascends (drop (i - 1) items) ≡ true
all_tested items i one end = short (drop (i - 1) items) (omega (arith, length-drop (i - 1) items))
  where
    short : (rest : List FolderItem) → length rest ≤ 1 → ascends rest ≡ true
    short [] h = refl
    short (a ∷ []) h = refl
    short (a ∷ b ∷ rest) h = absurd (omega arith)
