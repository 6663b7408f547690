-- The visits of a folder are the items that its paths find.
use Rattle.std.proofs.Common.{◌≡◌, ℕ, zero, suc, ◌+◌, Bool, true, false, cond, ◌&&◌, ◌||◌, List, [], ◌∷◌, ◌++◌, length, refl, sym, ap, subst, ◌∙◌, append_assoc, append-nil, arith, length-append}
use Rattle.std.specs.Prelude.{Option, Some, None}
use Rattle.std.specs.declared.cmp.Ordering.{Ordering}
use Rattle.std.specs.declared.cmp.Ordering.TheVariants.{Less, Equal, Greater}
use Rattle.std.specs.Option.{option_or}
use Rattle.std.specs.Ordering.{is_eq, ordering_then}
use Rattle.std.specs.Cmp.Lexicographic.{nat_list_cmp_total}
use Rattle.std.specs.List.{AllByRecursion}
use Rattle.std.specs.List.Sorted.{IsStrictlySortedBy}
use Rattle.cv_base.specs.Path.{Path, IsPath, same_name, same_path, with_slash}
use Rattle.cv_base.specs.BytesOrder.{bytes_cmp}
use Rattle.cv_base.proofs.Laws.{all_weaker, cmp-behind, or_swap, same_path_is, same_name_is, same_name_itself}
use Rattle.cv_ports.specs.declared.folder.FolderItem.{FolderItem}
use Rattle.cv_ports.specs.Folder.{FolderView, Ascend, IsOrdered, names_of}
use Rattle.cv_overlay.specs.declared.event.Event.{Event}
use Rattle.cv_overlay.specs.declared.event.Event.TheVariants.{Item, Below}
use Rattle.cv_overlay.specs.Walk.{Visit, path_of, paths_of, takes, is_dir, is_way, item_named, item_from, found_at, IsWalk}
use Rattle.cv_overlay.specs.EventsInner.{goes_before, put_below, placed_all, visits_of, visits_deep}
use Rattle.cv_overlay.proofs.Limits.{takes_depth, takes_path, depth_with}
use Rattle.cv_overlay.proofs.WalkOrder.{AreDeeper, are_deeper, ascend_deep, IsBehind, IsOf, of_below}

-- ---- paths that are others
no_path : (p : Path) (b : List ℕ) (r : Path) → p ≡ p ++ b ∷ r → ⊥
no_path p b r h = let e : length p ≡ length p + length (b ∷ r) = ap length h ∙ length-append p (b ∷ r) in omega (arith, e)

other : (q r : Path) → (r ≡ q → ⊥) → same_path r q ≡ false
other q r differs = elim (same_path r q) as (λ b. same_path r q ≡ b → b ≡ false) [ true ↦ λ e. absurd (differs (same_path_is r q e)) | false ↦ λ _. refl ] refl

pub none_found : (q : Path) (vs : List Visit) → AllByRecursion (λ r. same_path r q ≡ false) (paths_of vs) → found_at q vs ≡ None
none_found q [] h = refl
none_found q (v ∷ vs) h = rw h.0 (none_found q vs h.1)

found_at-append : (q : Path) (vs ws : List Visit) → found_at q (vs ++ ws) ≡ option_or (found_at q vs) (found_at q ws)
found_at-append q [] ws = refl
found_at-append q (v ∷ vs) ws = elim (same_path (path_of v) q) as (λ b. cond b (Some v.item) (found_at q (vs ++ ws)) ≡ option_or (cond b (Some v.item) (found_at q vs)) (found_at q ws)) [ true ↦ refl | false ↦ found_at-append q vs ws ]

eq_first : (r : Ordering) → is_eq (ordering_then r Equal) ≡ is_eq r
eq_first Less = refl
eq_first Equal = refl
eq_first Greater = refl

same_last : (p : Path) (a n : List ℕ) → same_path (p ++ a ∷ []) (p ++ n ∷ []) ≡ same_name a n
same_last p a n = ap is_eq (cmp-behind p (a ∷ []) (n ∷ [])) ∙ eq_first (bytes_cmp a n)

apart_front : (p s t : Path) → (s ≡ t → ⊥) → same_path (p ++ s) (p ++ t) ≡ false
apart_front p s t differs = ap is_eq (cmp-behind p s t) ∙ other t s differs

-- ---- one name
-- the item of a name among events
abbrev item_in : List ℕ → List Event → Option FolderItem
item_in n [] = None
item_in n (Item item ∷ es) = cond (same_name item.name n) (Some item) (item_in n es)
item_in n (Below name ∷ es) = item_in n es

item_in-put : (n name : List ℕ) (es : List Event) → item_in n (put_below name es) ≡ item_in n es
item_in-put n name [] = refl
item_in-put n name (Item item ∷ es) = elim (goes_before (with_slash name) (Item item)) as (λ b. item_in n (cond b (Below name ∷ Item item ∷ es) (Item item ∷ put_below name es)) ≡ item_in n (Item item ∷ es)) [
  | true ↦ refl
  | false ↦ ap (λ (o : Option FolderItem). cond (same_name item.name n) (Some item) o) (item_in-put n name es)
]
item_in-put n name (Below m ∷ es) = elim (goes_before (with_slash name) (Below m)) as (λ b. item_in n (cond b (Below name ∷ Below m ∷ es) (Below m ∷ put_below name es)) ≡ item_in n (Below m ∷ es)) [
  | true ↦ refl
  | false ↦ item_in-put n name es
]

item_in-placed : (n : List ℕ) (items : List FolderItem) → item_in n (placed_all items []) ≡ item_named n items
item_in-placed n [] = refl
item_in-placed n (item ∷ items) =
    ap (λ (o : Option FolderItem). cond (same_name item.name n) (Some item) o)
    (elim (is_dir item.kind) as (λ b. item_in n (cond b (put_below item.name (placed_all items [])) (placed_all items [])) ≡ item_named n items) [
      | true ↦ item_in-put n item.name (placed_all items []) ∙ item_in-placed n items
      | false ↦ item_in-placed n items
    ])

found_one : (deeper : Path → List Visit) (at p : Path) (n : List ℕ) (es : List Event) → AreDeeper deeper → found_at (p ++ n ∷ []) (visits_of deeper at p es) ≡ item_in n es
found_one deeper at p n [] h = refl
found_one deeper at p n (Item item ∷ es) h = rw (same_last p item.name n, found_one deeper at p n es h) refl
found_one deeper at p n (Below name ∷ es) h =
    let below = cond (takes (at ++ p) name) (deeper (p ++ name ∷ [])) [] in
    found_at-append (p ++ n ∷ []) below (visits_of deeper at p es)
    ∙ rw (none_found (p ++ n ∷ []) below (all_weaker (IsOf p (Below name)) (λ r. same_path r (p ++ n ∷ []) ≡ false) (paths_of below)
    (λ r is. subst (λ (w : Path). same_path w (p ++ n ∷ []) ≡ false) (sym is.2) (apart_front p (name ∷ is.0 ∷ is.1) (n ∷ []) (λ e. cc))) (of_below deeper at p name h)))
    (found_one deeper at p n es h)

-- ---- more names
abbrev has_below : List ℕ → List Event → Bool
has_below n [] = false
has_below n (Item item ∷ es) = has_below n es
has_below n (Below name ∷ es) = same_name name n || has_below n es

has_below-put : (n name : List ℕ) (es : List Event) → has_below n (put_below name es) ≡ (same_name name n || has_below n es)
has_below-put n name [] = refl
has_below-put n name (Item item ∷ es) = elim (goes_before (with_slash name) (Item item)) as (λ b. has_below n (cond b (Below name ∷ Item item ∷ es) (Item item ∷ put_below name es)) ≡ (same_name name n || has_below n es)) [
  | true ↦ refl
  | false ↦ has_below-put n name es
]
has_below-put n name (Below m ∷ es) = elim (goes_before (with_slash name) (Below m)) as (λ b. has_below n (cond b (Below name ∷ Below m ∷ es) (Below m ∷ put_below name es)) ≡ (same_name name n || (same_name m n || has_below n es))) [
  | true ↦ refl
  | false ↦ ap (λ (t : Bool). same_name m n || t) (has_below-put n name es) ∙ or_swap (same_name m n) (same_name name n) (has_below n es)
]

less_apart : (a b : List ℕ) → bytes_cmp a b ≡ Less → same_name b a ≡ false
less_apart a b h = rw (nat_list_cmp_total.antisymm b a, h) refl

none_named : (n : List ℕ) (items : List FolderItem) → AllByRecursion (λ m. bytes_cmp n m ≡ Less) (names_of items) → item_named n items ≡ None
none_named n [] h = refl
none_named n (item ∷ items) h = rw (less_apart n item.name h.0) (none_named n items h.1)

has_below-placed : (n : List ℕ) (items : List FolderItem) → Ascend items → has_below n (placed_all items []) ≡ is_way (item_named n items)
unfolding IsStrictlySortedBy
has_below-placed n [] h = refl
has_below-placed n (item ∷ items) h =
    let es = placed_all items [] in
    let rest : has_below n es ≡ is_way (item_named n items) = has_below-placed n items h.1 in
    elim (same_name item.name n) as (λ s. same_name item.name n ≡ s → has_below n (cond (is_dir item.kind) (put_below item.name es) es) ≡ is_way (cond s (Some item) (item_named n items))) [
      | true ↦ λ same. let none : item_named n items ≡ None = none_named n items (subst (λ (m : List ℕ). AllByRecursion (λ k. bytes_cmp m k ≡ Less) (names_of items)) (same_name_is item.name n same) h.0) in
          elim (is_dir item.kind) as (λ d. has_below n (cond d (put_below item.name es) es) ≡ d) [
            | true ↦ has_below-put n item.name es ∙ rw same refl
            | false ↦ rest ∙ ap is_way none
          ]
      | false ↦ λ same. elim (is_dir item.kind) as (λ d. has_below n (cond d (put_below item.name es) es) ≡ is_way (item_named n items)) [
        | true ↦ has_below-put n item.name es ∙ rw same rest
        | false ↦ rest
      ]
    ] refl

or_again : (b : Bool) (o : Option FolderItem) → option_or o (cond b o None) ≡ o
or_again b (Some item) = refl
or_again true None = refl
or_again false None = refl

found_cond : (q : Path) (b : Bool) (vs : List Visit) → found_at q (cond b vs []) ≡ cond b (found_at q vs) None
found_cond q true vs = refl
found_cond q false vs = refl

found_more : (deeper : Path → List Visit) (at p : Path) (n m : List ℕ) (names : Path) (es : List Event) → AreDeeper deeper
    → found_at (p ++ n ∷ m ∷ names) (visits_of deeper at p es) ≡ cond (has_below n es) (cond (takes (at ++ p) n) (found_at (p ++ n ∷ m ∷ names) (deeper (p ++ n ∷ []))) None) None
found_more deeper at p n m names [] h = refl
found_more deeper at p n m names (Item item ∷ es) h = rw (apart_front p (item.name ∷ []) (n ∷ m ∷ names) (λ e. cc)) (found_more deeper at p n m names es h)
found_more deeper at p n m names (Below name ∷ es) h =
    let q : Path = p ++ n ∷ m ∷ names in
    let below = cond (takes (at ++ p) name) (deeper (p ++ name ∷ [])) [] in
    let there : Option FolderItem = cond (takes (at ++ p) n) (found_at q (deeper (p ++ n ∷ []))) None in
    found_at-append q below (visits_of deeper at p es) ∙ ap (option_or (found_at q below)) (found_more deeper at p n m names es h)
    ∙ elim (same_name name n) as (λ s. same_name name n ≡ s → option_or (found_at q below) (cond (has_below n es) there None) ≡ cond (s || has_below n es) there None) [
      | true ↦ λ same. let is : found_at q below ≡ there = ap (λ (k : List ℕ). found_at q (cond (takes (at ++ p) k) (deeper (p ++ k ∷ [])) [])) (same_name_is name n same) ∙ found_cond q (takes (at ++ p) n) (deeper (p ++ n ∷ [])) in
          ap (λ (o : Option FolderItem). option_or o (cond (has_below n es) there None)) is ∙ or_again (has_below n es) there
      | false ↦ λ same. ap (λ (o : Option FolderItem). option_or o (cond (has_below n es) there None)) (none_found q below (all_weaker (IsOf p (Below name)) (λ r. same_path r q ≡ false) (paths_of below)
          (λ r is. subst (λ (w : Path). same_path w q ≡ false) (sym is.2) (apart_front p (name ∷ is.0 ∷ is.1) (n ∷ m ∷ names) (differ name n is.0 is.1 m names same))) (of_below deeper at p name h)))
    ] refl
  where
    differ : (a b : List ℕ) (c : List ℕ) (r : Path) (d : List ℕ) (s : Path) → same_name a b ≡ false → a ∷ c ∷ r ≡ b ∷ d ∷ s → ⊥
    differ a b c r d s apart e = let first : a ≡ b = cc in let wrong : true ≡ false = sym (same_name_itself b) ∙ ap (λ (k : List ℕ). same_name k b) (sym first) ∙ apart in cc

-- ---- all names
both : (w t : Bool) (x y : Option FolderItem) → (t ≡ true → x ≡ y) → cond w (cond t x None) None ≡ cond (w && t) y None
both true true x y h = h refl
both true false x y h = refl
both false t x y h = refl

assoc : (at p : Path) (n : List ℕ) → (at ++ p) ++ n ∷ [] ≡ at ++ (p ++ n ∷ [])
assoc at p n = append_assoc at p (n ∷ [])

items_deep : (left : ℕ) (f : FolderView) (at p rest : Path) → IsOrdered f → IsPath (at ++ p) → left + length (at ++ p) ≡ 64
    → found_at (p ++ rest) (visits_deep (suc left) f at p) ≡ item_from f at p rest
unfolding visits_deep
items_deep left f at p [] h is fuel =
    none_found (p ++ []) (visits_deep (suc left) f at p)
    (all_weaker (IsBehind p) (λ r. same_path r (p ++ []) ≡ false) (paths_of (visits_deep (suc left) f at p))
    (λ r is. other (p ++ []) r (λ e. no_path p is.0 is.1 (sym (append-nil p) ∙ sym e ∙ is.2))) ((are_deeper (suc left) f at h).behind p))
items_deep left f at p (n ∷ []) h is fuel =
    found_one (visits_deep left f at) at p n (placed_all (f.items p) []) (are_deeper left f at h) ∙ item_in-placed n (f.items p)
items_deep zero f at p (n ∷ m ∷ names) h is fuel =
    found_more (visits_deep zero f at) at p n m names (placed_all (f.items p) []) (are_deeper zero f at h)
    ∙ rw (has_below-placed n (f.items p) (h p)) (both (is_way (item_named n (f.items p))) (takes (at ++ p) n) _ _ (λ t. absurd (let d = takes_depth (at ++ p) n t in omega (arith, d, fuel))))
items_deep (suc left) f at p (n ∷ m ∷ names) h is fuel =
    found_more (visits_deep (suc left) f at) at p n m names (placed_all (f.items p) []) (are_deeper (suc left) f at h)
    ∙ rw (has_below-placed n (f.items p) (h p)) (both (is_way (item_named n (f.items p))) (takes (at ++ p) n) _ _ (λ t.
    ap (λ (q : Path). found_at q (visits_deep (suc left) f at (p ++ n ∷ []))) (sym (append_assoc p (n ∷ []) (m ∷ names)))
    ∙ items_deep left f at (p ++ n ∷ []) (m ∷ names) h (subst IsPath (assoc at p n) (takes_path (at ++ p) n is t))
    (let d = depth_with (at ++ p) n in let e = ap length (assoc at p n) in omega (arith, d, e, fuel))))

-- the visits from the folder on are its walk
pub is_walk : (left : ℕ) (f : FolderView) (at : Path) → IsOrdered f → IsPath at → left + length at ≡ 64 → IsWalk f at (visits_deep (suc left) f at [])
is_walk left f at h is fuel = record {
  ascend = ascend_deep (suc left) f at [] h;
  items = λ q. items_deep left f at [] q h (subst IsPath (sym (append-nil at)) is) (let e = ap length (append-nil at) in omega (arith, e, fuel));
}
