-- The visits of a folder whose listings ascend are in the order of the walk.
use Rattle.std.proofs.Common.{◌≡◌, ◌≢◌, ℕ, zero, suc, Bool, true, false, cond, List, [], ◌∷◌, ◌++◌, map, refl, sym, ap, ◌∙◌, append_assoc}
use Rattle.std.specs.declared.cmp.Ordering.{Ordering}
use Rattle.std.specs.declared.cmp.Ordering.TheVariants.{Less, Equal, Greater}
use Rattle.std.specs.Ordering.{is_lt, ordering_then, nat_cmp}
use Rattle.std.specs.Cmp.{IsTotalOrder, tied_itself}
use Rattle.std.specs.Cmp.Lexicographic.{nat_list_cmp_total}
use Rattle.std.specs.List.{AllByRecursion}
use Rattle.std.specs.List.Sorted.{IsStrictlySortedBy}
use Rattle.cv_base.specs.Path.{Path, path_cmp, with_slash}
use Rattle.cv_base.specs.BytesOrder.{bytes_cmp}
use Rattle.cv_base.proofs.Laws.{all_append, all_weaker, cmp-behind, path_total, name_exact}
use Rattle.cv_ports.specs.declared.folder.FolderItem.{FolderItem}
use Rattle.cv_ports.specs.Folder.{FolderView, Ascend, IsOrdered, names_of}
use Rattle.cv_overlay.specs.declared.event.Event.{Event}
use Rattle.cv_overlay.specs.declared.event.Event.TheVariants.{Item, Below}
use Rattle.cv_overlay.specs.Walk.{Visit, path_of, paths_of, with_slashes, walk_cmp, takes, is_dir}
use Rattle.cv_overlay.specs.EventsInner.{goes_before, put_below, placed_all, visits_of, visits_deep}

-- ---- the order of events
-- an event as the names that its visits begin with
abbrev pub names_at : Event → Path
names_at (Item item) = item.name ∷ []
names_at (Below name) = with_slash name ∷ [] ∷ []

abbrev pub Earlier : Event → Event → Type 0
Earlier d e = path_cmp (names_at d) (names_at e) ≡ Less

abbrev pub AreInOrder : List Event → Type 0
AreInOrder [] = Unit {0}
AreInOrder (e ∷ es) = AllByRecursion (λ x. Earlier e x) es × AreInOrder es

earlier_trans : (a b c : Event) → Earlier a b → Earlier b c → Earlier a c
earlier_trans a b c ab bc = let o : IsTotalOrder path_cmp = path_total in o.trans (names_at a) (names_at b) (names_at c) ab bc

all_earlier : (a b : Event) (es : List Event) → Earlier a b → AllByRecursion (λ x. Earlier b x) es → AllByRecursion (λ x. Earlier a x) es
all_earlier a b [] ab all = tt
all_earlier a b (e ∷ es) ab all = (earlier_trans a b e ab all.0, all_earlier a b es ab all.1)

-- a name is below itself with a slash, and below each greater name with one
less_longer : (a b : List ℕ) (c : ℕ) → bytes_cmp a b ≢ Greater → bytes_cmp a (b ++ c ∷ []) ≡ Less
less_longer [] [] c h = refl
less_longer [] (y ∷ b) c h = refl
less_longer (x ∷ a) [] c h = absurd (h refl)
less_longer (x ∷ a) (y ∷ b) c h =
    elim (nat_cmp x y) as (λ r. ordering_then r (bytes_cmp a b) ≢ Greater → ordering_then r (bytes_cmp a (b ++ c ∷ [])) ≡ Less) [
      | Less ↦ λ k. refl
      | Equal ↦ λ k. less_longer a b c k
      | Greater ↦ λ k. absurd (k refl)
    ] h

not_greater : (r : Ordering) → r ≡ Less → r ≢ Greater
not_greater r h g = let no : Less ≡ Greater = sym h ∙ g in cc

itself : (a : List ℕ) → bytes_cmp a a ≢ Greater
itself a g = let no : Equal ≡ Greater = sym (tied_itself nat_list_cmp_total a) ∙ g in cc

-- the name of an event's item
abbrev pub name_of : Event → List ℕ
name_of (Item item) = item.name
name_of (Below name) = name

abbrev AreAbove : List ℕ → List Event → Type 0
AreAbove name es = AllByRecursion (λ e. bytes_cmp name (name_of e) ≡ Less) es

item_earlier : (item : FolderItem) (e : Event) → bytes_cmp item.name (name_of e) ≡ Less → Earlier (Item item) e
item_earlier item (Item other) h = rw h refl
item_earlier item (Below name) h = rw (less_longer item.name name 47 (not_greater _ h)) refl

own_earlier : (item : FolderItem) → Earlier (Item item) (Below item.name)
own_earlier item = rw (less_longer item.name item.name 47 (itself item.name)) refl

-- where a directory's walk doesn't go before an event, the event is earlier
goes_is : (name : List ℕ) (e : Event) → goes_before (with_slash name) e ≡ true → Earlier (Below name) e
goes_is name (Item item) h = elim (bytes_cmp (with_slash name) item.name) as (λ r. is_lt r ≡ true → ordering_then r Greater ≡ Less) [ Less ↦ λ _. refl | Equal ↦ λ k. cc | Greater ↦ λ k. cc ] h
goes_is name (Below other) h = elim (bytes_cmp (with_slash name) (with_slash other)) as (λ r. is_lt r ≡ true → ordering_then r Equal ≡ Less) [ Less ↦ λ _. refl | Equal ↦ λ k. cc | Greater ↦ λ k. cc ] h

slash_apart : (a b : List ℕ) → with_slash a ≡ with_slash b → a ≡ b
slash_apart [] [] h = refl
slash_apart [] (y ∷ []) h = cc
slash_apart [] (y ∷ z ∷ b) h = cc
slash_apart (x ∷ []) [] h = cc
slash_apart (x ∷ z ∷ a) [] h = cc
slash_apart (x ∷ a) (y ∷ b) h = let first : x ≡ y = cc in let rest : with_slash a ≡ with_slash b = cc in λ i. first i ∷ slash_apart a b rest i

stays_is : (name : List ℕ) (e : Event) → bytes_cmp name (name_of e) ≡ Less → goes_before (with_slash name) e ≡ false → Earlier e (Below name)
stays_is name (Item item) above h =
    let o : IsTotalOrder bytes_cmp = nat_list_cmp_total in
    elim (bytes_cmp (with_slash name) item.name) as (λ r. bytes_cmp (with_slash name) item.name ≡ r → is_lt r ≡ false → Earlier (Item item) (Below name)) [
      | Less ↦ λ _ k. cc
      | Equal ↦ λ e _. rw (o.antisymm item.name (with_slash name), e) refl
      | Greater ↦ λ e _. rw (o.antisymm item.name (with_slash name), e) refl
    ] refl h
stays_is name (Below other) above h =
    let o : IsTotalOrder bytes_cmp = nat_list_cmp_total in
    elim (bytes_cmp (with_slash name) (with_slash other)) as (λ r. bytes_cmp (with_slash name) (with_slash other) ≡ r → is_lt r ≡ false → Earlier (Below other) (Below name)) [
      | Less ↦ λ _ k. cc
      | Equal ↦ λ e _. absurd (same e)
      | Greater ↦ λ e _. rw (o.antisymm (with_slash other) (with_slash name), e) refl
    ] refl h
  where
    same : bytes_cmp (with_slash name) (with_slash other) ≡ Equal → ⊥
    same e = let is : name ≡ other = slash_apart name other (name_exact (with_slash name) (with_slash other) e) in
        let no : Equal ≡ Less = sym (tied_itself nat_list_cmp_total name) ∙ ap (bytes_cmp name) is ∙ above in cc

-- ---- events stay in order
put_all : (P : Event → Type 0) (name : List ℕ) (es : List Event) → P (Below name) → AllByRecursion P es → AllByRecursion P (put_below name es)
put_all P name [] own all = (own, tt)
put_all P name (e ∷ es) own all = elim (goes_before (with_slash name) e) as (λ b. AllByRecursion P (cond b (Below name ∷ e ∷ es) (e ∷ put_below name es))) [
  | true ↦ (own, all)
  | false ↦ (all.0, put_all P name es own all.1)
]

put_in_order : (name : List ℕ) (es : List Event) → AreAbove name es → AreInOrder es → AreInOrder (put_below name es)
put_in_order name [] above order = (tt, tt)
put_in_order name (e ∷ es) above order =
    elim (goes_before (with_slash name) e) as (λ b. goes_before (with_slash name) e ≡ b → AreInOrder (cond b (Below name ∷ e ∷ es) (e ∷ put_below name es))) [
      | true ↦ λ is. ((goes_is name e is, all_earlier (Below name) e es (goes_is name e is) order.0), order)
      | false ↦ λ is. (put_all (λ x. Earlier e x) name es (stays_is name e above.0 is) order.0, put_in_order name es above.1 order.1)
    ] refl

above_placed : (name : List ℕ) (items : List FolderItem) → AllByRecursion (λ n. bytes_cmp name n ≡ Less) (names_of items) → AreAbove name (placed_all items [])
above_placed name [] h = tt
above_placed name (item ∷ items) h =
    elim (is_dir item.kind) as (λ b. AreAbove name (Item item ∷ cond b (put_below item.name (placed_all items [])) (placed_all items []))) [
      | true ↦ (h.0, put_all (λ e. bytes_cmp name (name_of e) ≡ Less) item.name (placed_all items []) h.0 (above_placed name items h.1))
      | false ↦ (h.0, above_placed name items h.1)
    ]

all_behind : (item : FolderItem) (es : List Event) → AreAbove item.name es → AllByRecursion (λ e. Earlier (Item item) e) es
all_behind item [] above = tt
all_behind item (e ∷ es) above = (item_earlier item e above.0, all_behind item es above.1)

pub placed_in_order : (items : List FolderItem) → Ascend items → AreInOrder (placed_all items [])
unfolding IsStrictlySortedBy
placed_in_order [] h = tt
placed_in_order (item ∷ items) h =
    let es = placed_all items [] in
    let above : AreAbove item.name es = above_placed item.name items h.0 in
    let order : AreInOrder es = placed_in_order items h.1 in
    elim (is_dir item.kind) as (λ b. AreInOrder (Item item ∷ cond b (put_below item.name es) es)) [
      | true ↦ (put_all (λ e. Earlier (Item item) e) item.name es (own_earlier item) (all_behind item es above), put_in_order item.name es above order)
      | false ↦ (all_behind item es above, order)
    ]

-- ---- paths of visits
with_slashes-append : (p : Path) (a : List ℕ) (r : Path) → with_slashes (p ++ a ∷ r) ≡ map with_slash p ++ with_slashes (a ∷ r)
with_slashes-append [] a r = refl
with_slashes-append (b ∷ []) a r = refl
with_slashes-append (b ∷ c ∷ p) a r = ap (λ (w : Path). with_slash b ∷ w) (with_slashes-append (c ∷ p) a r)

walk_cmp-append : (p : Path) (a : List ℕ) (r : Path) (b : List ℕ) (s : Path) → walk_cmp (p ++ a ∷ r) (p ++ b ∷ s) ≡ path_cmp (with_slashes (a ∷ r)) (with_slashes (b ∷ s))
walk_cmp-append p a r b s = (λ i. path_cmp (with_slashes-append p a r i) (with_slashes-append p b s i)) ∙ cmp-behind (map with_slash p) (with_slashes (a ∷ r)) (with_slashes (b ∷ s))

-- a path behind another
abbrev pub IsBehind : Path → Path → Type 0
IsBehind p q = (b : List ℕ) × (r : Path) × (q ≡ p ++ b ∷ r)

-- a path that an event of the directory p visits
abbrev pub IsOf : Path → Event → Path → Type 0
IsOf p (Item item) q = q ≡ p ++ item.name ∷ []
IsOf p (Below name) q = (b : List ℕ) × (r : Path) × (q ≡ p ++ name ∷ b ∷ r)

pub none_less : (b : List ℕ) (r : Path) → path_cmp [] (with_slashes (b ∷ r)) ≡ Less
none_less b [] = refl
none_less b (c ∷ r) = refl

pub some_greater : (b : List ℕ) (r : Path) → path_cmp (with_slashes (b ∷ r)) [] ≡ Greater
some_greater b [] = refl
some_greater b (c ∷ r) = refl

less_first : (x y : Ordering) → ordering_then x Equal ≡ Less → ordering_then x y ≡ Less
less_first Less y h = refl
less_first Equal y h = cc
less_first Greater y h = cc

-- the visits of an earlier event are below those of a later one
apart : (p : Path) (d e : Event) (q r : Path) → Earlier d e → IsOf p d q → IsOf p e r → walk_cmp q r ≡ Less
apart p (Item a) (Item b) q r h qs rs = rw (qs, rs) (walk_cmp-append p a.name [] b.name [] ∙ h)
apart p (Item a) (Below n) q r h qs (b, more, rs) = rw (qs, rs) (walk_cmp-append p a.name [] n (b ∷ more) ∙ rw (none_less b more) h)
apart p (Below n) (Item a) q r h (b, more, qs) rs = rw (qs, rs) (walk_cmp-append p n (b ∷ more) a.name [] ∙ rw (some_greater b more) h)
apart p (Below n) (Below m) q r h (b, more, qs) (c, others, rs) =
    rw (qs, rs) (walk_cmp-append p n (b ∷ more) m (c ∷ others) ∙ less_first (bytes_cmp (with_slash n) (with_slash m)) (path_cmp (with_slashes (b ∷ more)) (with_slashes (c ∷ others))) h)

paths_of-append : (vs ws : List Visit) → paths_of (vs ++ ws) ≡ paths_of vs ++ paths_of ws
paths_of-append [] ws = refl
paths_of-append (v ∷ vs) ws = ap (λ (l : List Path). path_of v ∷ l) (paths_of-append vs ws)

sorted_append : (xs ys : List Path) → IsStrictlySortedBy walk_cmp xs → IsStrictlySortedBy walk_cmp ys → AllByRecursion (λ x. AllByRecursion (λ y. walk_cmp x y ≡ Less) ys) xs → IsStrictlySortedBy walk_cmp (xs ++ ys)
unfolding IsStrictlySortedBy
sorted_append [] ys h k all = k
sorted_append (x ∷ xs) ys h k all = (all_append (λ y. walk_cmp x y ≡ Less) xs ys h.0 all.0, sorted_append xs ys h.1 k all.1)

-- what holds of the directories in a directory: their visits are behind them, and in order
pub record AreDeeper (deeper : Path → List Visit) : Type 0 where
  pub behind : (q : Path) → AllByRecursion (IsBehind q) (paths_of (deeper q))
  pub order : (q : Path) → IsStrictlySortedBy walk_cmp (paths_of (deeper q))

none_sorted : IsStrictlySortedBy walk_cmp []
unfolding IsStrictlySortedBy
none_sorted = tt

pub taken_all : (P : Path → Type 0) (b : Bool) (vs : List Visit) → AllByRecursion P (paths_of vs) → AllByRecursion P (paths_of (cond b vs []))
taken_all P true vs h = h
taken_all P false vs h = tt

taken_sorted : (b : Bool) (vs : List Visit) → IsStrictlySortedBy walk_cmp (paths_of vs) → IsStrictlySortedBy walk_cmp (paths_of (cond b vs []))
taken_sorted true vs h = h
taken_sorted false vs h = none_sorted

nested : (p : Path) (name : List ℕ) (q : Path) → IsBehind (p ++ name ∷ []) q → IsOf p (Below name) q
nested p name q (b, r, is) = (b, r, is ∙ append_assoc p (name ∷ []) (b ∷ r))

pub of_below : (deeper : Path → List Visit) (at p : Path) (name : List ℕ) → AreDeeper deeper
    → AllByRecursion (IsOf p (Below name)) (paths_of (cond (takes (at ++ p) name) (deeper (p ++ name ∷ [])) []))
of_below deeper at p name h =
    taken_all (IsOf p (Below name)) (takes (at ++ p) name) (deeper (p ++ name ∷ []))
    (all_weaker (IsBehind (p ++ name ∷ [])) (IsOf p (Below name)) (paths_of (deeper (p ++ name ∷ []))) (nested p name) (h.behind (p ++ name ∷ [])))

-- a visit of an earlier event is below all of these
before_all : (deeper : Path → List Visit) (at p : Path) (e : Event) (q : Path) (es : List Event) → AreDeeper deeper → IsOf p e q → AllByRecursion (λ x. Earlier e x) es
    → AllByRecursion (λ r. walk_cmp q r ≡ Less) (paths_of (visits_of deeper at p es))
before_all deeper at p e q [] h of all = tt
before_all deeper at p e q (Item item ∷ es) h of all = (apart p e (Item item) q (p ++ item.name ∷ []) all.0 of refl, before_all deeper at p e q es h of all.1)
before_all deeper at p e q (Below name ∷ es) h of all =
    let below = cond (takes (at ++ p) name) (deeper (p ++ name ∷ [])) [] in
    rw (paths_of-append below (visits_of deeper at p es))
    (all_append (λ r. walk_cmp q r ≡ Less) (paths_of below) (paths_of (visits_of deeper at p es))
    (all_weaker (IsOf p (Below name)) (λ r. walk_cmp q r ≡ Less) (paths_of below) (λ r is. apart p e (Below name) q r all.0 of is) (of_below deeper at p name h))
    (before_all deeper at p e q es h of all.1))

sorted_of : (deeper : Path → List Visit) (at p : Path) (es : List Event) → AreDeeper deeper → AreInOrder es → IsStrictlySortedBy walk_cmp (paths_of (visits_of deeper at p es))
unfolding IsStrictlySortedBy
sorted_of deeper at p [] h order = tt
sorted_of deeper at p (Item item ∷ es) h order = (before_all deeper at p (Item item) (p ++ item.name ∷ []) es h refl order.0, sorted_of deeper at p es h order.1)
sorted_of deeper at p (Below name ∷ es) h order =
    let below = cond (takes (at ++ p) name) (deeper (p ++ name ∷ [])) [] in
    rw (paths_of-append below (visits_of deeper at p es))
    (sorted_append (paths_of below) (paths_of (visits_of deeper at p es)) (taken_sorted (takes (at ++ p) name) (deeper (p ++ name ∷ [])) (h.order (p ++ name ∷ []))) (sorted_of deeper at p es h order.1)
    (all_weaker (IsOf p (Below name)) (λ x. AllByRecursion (λ y. walk_cmp x y ≡ Less) (paths_of (visits_of deeper at p es))) (paths_of below)
    (λ q is. before_all deeper at p (Below name) q es h is order.0) (of_below deeper at p name h)))

behind_of : (deeper : Path → List Visit) (at p : Path) (es : List Event) → AreDeeper deeper → AllByRecursion (IsBehind p) (paths_of (visits_of deeper at p es))
behind_of deeper at p [] h = tt
behind_of deeper at p (Item item ∷ es) h = ((item.name, [], refl), behind_of deeper at p es h)
behind_of deeper at p (Below name ∷ es) h =
    let below = cond (takes (at ++ p) name) (deeper (p ++ name ∷ [])) [] in
    rw (paths_of-append below (visits_of deeper at p es))
    (all_append (IsBehind p) (paths_of below) (paths_of (visits_of deeper at p es))
    (all_weaker (IsOf p (Below name)) (IsBehind p) (paths_of below) (λ q is. (name, is.0 ∷ is.1, is.2)) (of_below deeper at p name h))
    (behind_of deeper at p es h))

pub are_deeper : (depth : ℕ) (f : FolderView) (at : Path) → IsOrdered f → AreDeeper (visits_deep depth f at)
unfolding visits_deep
are_deeper zero f at h = record { behind = λ q. tt; order = λ q. none_sorted }
are_deeper (suc depth) f at h = record {
  behind = λ q. behind_of (visits_deep depth f at) at q (placed_all (f.items q) []) (are_deeper depth f at h);
  order = λ q. sorted_of (visits_deep depth f at) at q (placed_all (f.items q) []) (are_deeper depth f at h) (placed_in_order (f.items q) (h q));
}

-- the visits below a directory ascend
pub ascend_deep : (depth : ℕ) (f : FolderView) (at p : Path) → IsOrdered f → IsStrictlySortedBy walk_cmp (paths_of (visits_deep depth f at p))
ascend_deep depth f at p h = (are_deeper depth f at h).order p
