-- What comes of visits, one after another.
use Rattle.std.proofs.Common.{◌≡◌, ◌≢◌, ℕ, zero, suc, ◌+◌, Bool, true, false, cond, ◌&&◌, List, [], ◌∷◌, ◌++◌, length, refl, sym, ap, subst, ◌∙◌, append-nil, arith}
use Rattle.std.specs.Prelude.{Option, Some, None, Result, Ok, Err, slice_get, IsSome}
use Rattle.std.specs.declared.cmp.Ordering.TheVariants.{Less, Equal}
use Rattle.std.specs.Option.{option_or}
use Rattle.std.specs.Ordering.{eq_by_cmp}
use Rattle.std.specs.Cmp.{tied_itself}
use Rattle.std.specs.FinMap.{get, get-insert}
use Rattle.std.specs.List.{AllByRecursion}
use Rattle.std.specs.List.Sorted.{IsStrictlySortedBy}
use Rattle.sha1.specs.Sha1.{sha1}
use Rattle.cv_base.specs.Path.{Path, IsPath, path_cmp, same_path, last_name_of}
use Rattle.cv_base.specs.declared.id.Kind.TheVariants.{Plain}
use Rattle.cv_base.specs.declared.object.Object.{Object}
use Rattle.cv_base.specs.ObjectId.{object_id}
use Rattle.cv_base.specs.Sequence.{◌>>=◌}
use Rattle.cv_base.proofs.Laws.{all_weaker, path_total, same_path_is}
use Rattle.cv_ports.specs.declared.folder.FolderItem.{FolderItem}
use Rattle.cv_ports.specs.declared.folder.FoundKind.{FoundKind}
use Rattle.cv_ports.specs.declared.folder.FoundKind.TheVariants as kind
use Rattle.cv_ports.specs.Folder.{FolderView, IsOrdered}
use Rattle.cv_tree.specs.declared.node.Node.{Node}
use Rattle.cv_tree.specs.declared.node.Node.TheVariants.{Dir}
use Rattle.cv_tree.specs.Tree.{single}
use Rattle.cv_tree.specs.Changes.{FitsUnder}
use Rattle.cv_tree.proofs.Laws.{single_at}
use Rattle.cv_overlay.specs.Whiteout.{is_whiteout}
use Rattle.cv_overlay.specs.Walk.{Visit, path_of, paths_of, walk_cmp, with_slashes, takes, has_target, is_file, size_of, attr_of, node_of, node_at, fault_of, kind_fault, first_fault, found_at, item_from, root_attr, IsContent, IsWalk, AreChanges, Reads}
use Rattle.cv_overlay.specs.Changes.{ChangesView}
use Rattle.cv_overlay.specs.FoundInner.{FoundView, has_hash, with_content, kept_content, with_item, or_fault, step, run, Ends}
use Rattle.cv_overlay.specs.EventsInner.{visits_deep}
use Rattle.cv_overlay.specs.declared.read_fault.ReadFault.{ReadFault}
use Rattle.cv_overlay.specs.declared.read_fault.ReadFault.TheVariants as faults
use Rattle.cv_overlay.proofs.WalkItems.{none_found, is_walk}

pub run-append : (f : FolderView) (at : Path) (vs ws : List Visit) (s : FoundView) → run f at (vs ++ ws) s ≡ (run f at vs s >>= run f at ws)
run-append f at [] ws s = refl
run-append f at (v ∷ vs) ws s = elim (step f at v s) as (λ r. (r >>= run f at (vs ++ ws)) ≡ ((r >>= run f at vs) >>= run f at ws)) [
  | Ok t ↦ run-append f at vs ws t
  | Err fault ↦ refl
]

-- ---- faults
sum_with : (s : FoundView) (q : Path) (k : FoundKind) (item : FolderItem) (content : List ℕ) → (with_item s q k (attr_of item) content).sum ≡ s.sum + cond (is_file k) (length content) 0
sum_with s q kind.Dir item content = omega arith
sum_with s q kind.File item content = refl
sum_with s q (kind.Link target) item content = omega arith
sum_with s q kind.Special item content = omega arith

abbrev fault_in : Result FoundView ReadFault → Option ReadFault
fault_in (Ok s) = None
fault_in (Err fault) = Some fault

-- what a visit that has no fault leaves
abbrev after : FolderView → Visit → FoundView → FoundView
after f v s = with_item s (path_of v) v.item.kind (attr_of v.item) (f.content (path_of v))

pub run_fault : (f : FolderView) (at : Path) (vs : List Visit) (s : FoundView) → first_fault f at s.sum vs ≡ fault_in (run f at vs s)
run_fault f at [] s = refl
run_fault f at (v ∷ vs) s =
    elim (fault_of f at (s.sum + size_of f v) v) as (λ o. option_or o (first_fault f at (s.sum + size_of f v) vs) ≡ fault_in (or_fault o (after f v s) >>= run f at vs)) [
      | Some fault ↦ refl
      | None ↦ ap (λ (n : ℕ). first_fault f at n vs) (sym (sum_with s (path_of v) v.item.kind v.item (f.content (path_of v)))) ∙ run_fault f at vs (after f v s)
    ]

-- ---- nodes
-- the node of an item where there is one, and else what was there
abbrev node_or : Option FolderItem → List ℕ → Option Node → Option Node
node_or None content here = here
node_or (Some item) content here = node_of (attr_of item) item.kind content

-- what no fault says of a visit
no_special : (q : Path) (k : FoundKind) (size sum : ℕ) → kind_fault q k size sum ≡ None → k ≢ kind.Special
no_special q kind.Dir size sum h e = cc
no_special q kind.File size sum h e = cc
no_special q (kind.Link target) size sum h e = cc
no_special q kind.Special size sum h e = cc

visit_kind : (f : FolderView) (at : Path) (sum : ℕ) (v : Visit) → fault_of f at sum v ≡ None → v.item.kind ≢ kind.Special
visit_kind f at sum v h = elim (takes (at ++ v.above) v.item.name && has_target v.item.kind) as (λ b. cond b (kind_fault (path_of v) v.item.kind (size_of f v) sum) (Some (faults.BadName v.above)) ≡ None → v.item.kind ≢ kind.Special) [
  | true ↦ λ k. no_special (path_of v) v.item.kind (size_of f v) sum k
  | false ↦ λ k. cc
] h

get_with : (s : FoundView) (q p : Path) (k : FoundKind) (item : FolderItem) (content : List ℕ) → k ≢ kind.Special
    → get (with_item s p k (attr_of item) content).nodes q ≡ cond (eq_by_cmp path_cmp q p) (node_of (attr_of item) k content) (get s.nodes q)
get_with s q p kind.Dir item content h = get-insert path_total s.nodes p _ q
get_with s q p kind.File item content h = get-insert path_total s.nodes p _ q
get_with s q p (kind.Link target) item content h = get-insert path_total s.nodes p _ q
get_with s q p kind.Special item content h = absurd (h refl)

eq_itself : (q : Path) → eq_by_cmp path_cmp q q ≡ true
eq_itself q = rw (tied_itself path_total q) refl

eq_other : (q p : Path) → same_path p q ≡ false → eq_by_cmp path_cmp q p ≡ false
eq_other q p h = elim (eq_by_cmp path_cmp q p) as (λ b. eq_by_cmp path_cmp q p ≡ b → b ≡ false) [
  | true ↦ λ e. let is : q ≡ p = same_path_is q p e in let wrong : true ≡ false = sym (eq_itself q) ∙ ap (λ (w : Path). same_path w q) is ∙ h in cc
  | false ↦ λ _. refl
] refl

-- a path is at no place behind it
later_apart : (q : Path) (rs : List Path) → AllByRecursion (λ r. walk_cmp q r ≡ Less) rs → AllByRecursion (λ r. same_path r q ≡ false) rs
later_apart q [] h = tt
later_apart q (r ∷ rs) h = (
  elim (same_path r q) as (λ b. same_path r q ≡ b → b ≡ false) [
    | true ↦ λ e. let is : r ≡ q = same_path_is r q e in let wrong : Equal ≡ Less = sym (tied_itself path_total (with_slashes q)) ∙ ap (walk_cmp q) (sym is) ∙ h.0 in cc
    | false ↦ λ _. refl
  ] refl,
  later_apart q rs h.1,
)

run_nodes : (f : FolderView) (at : Path) (vs : List Visit) (s t : FoundView) (q : Path) → IsStrictlySortedBy walk_cmp (paths_of vs) → run f at vs s ≡ Ok t
    → get t.nodes q ≡ node_or (found_at q vs) (f.content q) (get s.nodes q)
unfolding IsStrictlySortedBy
run_nodes f at [] s t q order h = let same : s ≡ t = cc in ap (λ (w : FoundView). get w.nodes q) (sym same)
run_nodes f at (v ∷ vs) s t q order h =
    elim (fault_of f at (s.sum + size_of f v) v) as (λ o. fault_of f at (s.sum + size_of f v) v ≡ o → (or_fault o (after f v s) >>= run f at vs) ≡ Ok t
    → get t.nodes q ≡ node_or (cond (same_path (path_of v) q) (Some v.item) (found_at q vs)) (f.content q) (get s.nodes q)) [
      | Some fault ↦ λ _ k. cc
      | None ↦ λ good k.
          let rest = run_nodes f at vs (after f v s) t q order.1 k in
          let one = get_with s q (path_of v) v.item.kind v.item (f.content (path_of v)) (visit_kind f at (s.sum + size_of f v) v good) in
          elim (same_path (path_of v) q) as (λ b. same_path (path_of v) q ≡ b → get t.nodes q ≡ node_or (cond b (Some v.item) (found_at q vs)) (f.content q) (get s.nodes q)) [
            | true ↦ λ e.
                let is : path_of v ≡ q = same_path_is (path_of v) q e in
                let none : found_at q vs ≡ None = none_found q vs (subst (λ (w : Path). AllByRecursion (λ r. same_path r w ≡ false) (paths_of vs)) is (later_apart (path_of v) (paths_of vs) order.0)) in
                rest ∙ ap (λ (o : Option FolderItem). node_or o (f.content q) (get (after f v s).nodes q)) none ∙ one
                ∙ ap (λ (w : Path). cond (eq_by_cmp path_cmp q w) (node_of (attr_of v.item) v.item.kind (f.content w)) (get s.nodes q)) is
                ∙ ap (λ (b : Bool). cond b (node_of (attr_of v.item) v.item.kind (f.content q)) (get s.nodes q)) (eq_itself q)
            | false ↦ λ e. rest ∙ ap (node_or (found_at q vs) (f.content q)) (one ∙ rw (eq_other q (path_of v) e) refl)
          ] refl
    ] refl h

-- ---- contents
all_push : (P : List ℕ → Type 0) (os : List Object) (o : Object) → AllByRecursion (λ x. P x.bytes) os → P o.bytes → AllByRecursion (λ x. P x.bytes) (os ++ o ∷ [])
all_push P [] o h k = (k, tt)
all_push P (x ∷ os) o h k = (h.0, all_push P os o h.1 k)

all_with : (P : List ℕ → Type 0) (os : List Object) (content : List ℕ) → AllByRecursion (λ x. P x.bytes) os → P content → AllByRecursion (λ x. P x.bytes) (with_content os content)
all_with P os content h k =
    let o : Object = record { id = object_id (sha1 content) Plain; bytes = content } in
    elim (has_hash os (sha1 content)) as (λ b. AllByRecursion (λ x. P x.bytes) (cond b os (os ++ o ∷ []))) [ true ↦ h | false ↦ all_push P os o h k ]

all_kept : (P : List ℕ → Type 0) (os : List Object) (q : Path) (content : List ℕ) → AllByRecursion (λ x. P x.bytes) os → (is_whiteout (last_name_of q) ≡ false → P content)
    → AllByRecursion (λ x. P x.bytes) (kept_content os q content)
all_kept P os q content h k = elim (is_whiteout (last_name_of q)) as (λ b. is_whiteout (last_name_of q) ≡ b → AllByRecursion (λ x. P x.bytes) (cond b os (with_content os content))) [
  | true ↦ λ _. h
  | false ↦ λ e. all_with P os content h (k e)
] refl

-- a visit's content, where it is kept
abbrev Holds : FolderView → (List ℕ → Type 0) → Visit → Type 0
Holds f P v = is_file v.item.kind ≡ true → is_whiteout (last_name_of (path_of v)) ≡ false → P (f.content (path_of v))

item_objects : (P : List ℕ → Type 0) (s : FoundView) (q : Path) (k : FoundKind) (item : FolderItem) (content : List ℕ) → AllByRecursion (λ x. P x.bytes) s.objects
    → (is_file k ≡ true → is_whiteout (last_name_of q) ≡ false → P content) → AllByRecursion (λ x. P x.bytes) (with_item s q k (attr_of item) content).objects
item_objects P s q kind.Dir item content h k = h
item_objects P s q kind.File item content h k = all_kept P s.objects q content h (k refl)
item_objects P s q (kind.Link target) item content h k = h
item_objects P s q kind.Special item content h k = h

run_objects : (f : FolderView) (at : Path) (P : List ℕ → Type 0) (vs : List Visit) (s t : FoundView) → AllByRecursion (Holds f P) vs → AllByRecursion (λ x. P x.bytes) s.objects
    → run f at vs s ≡ Ok t → AllByRecursion (λ x. P x.bytes) t.objects
run_objects f at P [] s t hv h e = let same : s ≡ t = cc in subst (λ (w : FoundView). AllByRecursion (λ x. P x.bytes) w.objects) same h
run_objects f at P (v ∷ vs) s t hv h e =
    elim (fault_of f at (s.sum + size_of f v) v) as (λ o. (or_fault o (after f v s) >>= run f at vs) ≡ Ok t → AllByRecursion (λ x. P x.bytes) t.objects) [
      | Some fault ↦ λ k. cc
      | None ↦ λ k. run_objects f at P vs (after f v s) t hv.1 (item_objects P s (path_of v) v.item.kind v.item (f.content (path_of v)) h hv.0) k
    ] e

-- each visit is found at its path
found_own : (vs : List Visit) → IsStrictlySortedBy walk_cmp (paths_of vs) → AllByRecursion (λ v. found_at (path_of v) vs ≡ Some v.item) vs
unfolding IsStrictlySortedBy
found_own [] order = tt
found_own (v ∷ vs) order = (rw (eq_itself (path_of v)) refl, behind vs order.0 (found_own vs order.1))
  where
    first_apart : (r : Path) → walk_cmp (path_of v) r ≡ Less → same_path (path_of v) r ≡ false
    first_apart r h = elim (same_path (path_of v) r) as (λ b. same_path (path_of v) r ≡ b → b ≡ false) [
      | true ↦ λ e. let is : path_of v ≡ r = same_path_is (path_of v) r e in let wrong : Equal ≡ Less = sym (tied_itself path_total (with_slashes (path_of v))) ∙ ap (walk_cmp (path_of v)) is ∙ h in cc
      | false ↦ λ _. refl
    ] refl

    behind : (ws : List Visit) → AllByRecursion (λ r. walk_cmp (path_of v) r ≡ Less) (paths_of ws) → AllByRecursion (λ w. found_at (path_of w) vs ≡ Some w.item) ws
        → AllByRecursion (λ w. cond (same_path (path_of v) (path_of w)) (Some v.item) (found_at (path_of w) vs) ≡ Some w.item) ws
    behind [] less own = tt
    behind (w ∷ ws) less own = (rw (first_apart (path_of w) less.0) own.0, behind ws less.1 own.1)

all_at : (P : Object → Type 0) (os : List Object) (i : ℕ) (o : Object) → AllByRecursion P os → slice_get os i ≡ Some o → P o
all_at P [] i o h e = cc
all_at P (x ∷ os) zero o h e = let same : x ≡ o = cc in subst P same h.0
all_at P (x ∷ os) (suc i) o h e = all_at P os i o h.1 e

-- ---- the changes
node_or-None : (o : Option FolderItem) (content : List ℕ) → node_or o content None ≡ node_at o content
node_or-None None content = refl
node_or-None (Some item) content = refl

-- the folder itself, and nothing in it
abbrev pub nothing_found : FoundView
nothing_found = record { nodes = single (Dir root_attr); objects = []; sum = 0 }

pub run_changes : (f : FolderView) (at : Path) (vs : List Visit) (t : FoundView) → IsWalk f at vs → run f at vs nothing_found ≡ Ok t → AreChanges f at (record { nodes = t.nodes; objects = t.objects })
run_changes f at vs t walk h = record {
  root = run_nodes f at vs nothing_found t [] walk.ascend h ∙ ap (λ (o : Option FolderItem). node_or o (f.content []) (get (single (Dir root_attr)) [])) (walk.items []) ∙ single_at (Dir root_attr) [];
  nodes = λ name names.
      run_nodes f at vs nothing_found t (name ∷ names) walk.ascend h
      ∙ (λ i. node_or (walk.items (name ∷ names) i) (f.content (name ∷ names)) (single_at (Dir root_attr) (name ∷ names) i))
      ∙ node_or-None (item_from f at [] (name ∷ names)) (f.content (name ∷ names));
  contents = λ i o there. all_at (λ (x : Object). IsContent f at x.bytes) t.objects i o
      (run_objects f at (IsContent f at) vs nothing_found t
      (all_weaker (λ v. found_at (path_of v) vs ≡ Some v.item) (Holds f (IsContent f at)) vs
      (λ v own file named. record { path = path_of v; item = v.item; there = sym (walk.items (path_of v)) ∙ own; file = file; named = named; is = refl }) (found_own vs walk.ascend))
      tt h) there;
}

-- ---- the answer
pub all_read : (left : ℕ) (f : FolderView) (at : Path) (s t : FoundView) (c : ChangesView) → s ≡ nothing_found → IsOrdered f → IsPath at → left + length at ≡ 64
    → Ends (Ok t) (run f at (visits_deep (suc left) f at []) s) → c.nodes ≡ t.nodes → c.objects ≡ t.objects → Reads at (Ok c) f
all_read left f at s t c start h is fuel ends nodes objects =
    let vs = visits_deep (suc left) f at [] in
    let walk = is_walk left f at h is fuel in
    let ended : run f at vs nothing_found ≡ Ok t = ap (run f at vs) (sym start) ∙ ends in
    let same : ◌≡◌ {A = ChangesView} (record { nodes = t.nodes; objects = t.objects }) c = λ i. record { nodes = sym nodes i; objects = sym objects i } in
    (vs, walk, run_fault f at vs nothing_found ∙ ap fault_in ended, subst (AreChanges f at) same (run_changes f at vs t walk ended))

pub first_read : (left : ℕ) (f : FolderView) (at : Path) (fault : ReadFault) (s : FoundView) → s ≡ nothing_found → IsOrdered f → IsPath at → left + length at ≡ 64
    → Ends (Err fault) (run f at (visits_deep (suc left) f at []) s) → Reads at (Err fault) f
first_read left f at faults.Failed s start h is fuel ends = tt
first_read left f at faults.NoMemory s start h is fuel ends = tt
first_read left f at (faults.Special q) s start h is fuel ends = (_, is_walk left f at h is fuel, run_fault f at _ nothing_found ∙ ap fault_in (ap (run f at _) (sym start) ∙ ends))
first_read left f at (faults.BadName q) s start h is fuel ends = (_, is_walk left f at h is fuel, run_fault f at _ nothing_found ∙ ap fault_in (ap (run f at _) (sym start) ∙ ends))
first_read left f at (faults.TooLarge q) s start h is fuel ends = (_, is_walk left f at h is fuel, run_fault f at _ nothing_found ∙ ap fault_in (ap (run f at _) (sym start) ∙ ends))

-- the folder itself keeps the limits
pub fits_first : (at : Path) (s : FoundView) → IsPath at → s ≡ nothing_found → FitsUnder at s.nodes
fits_first at s is start = subst (λ (v : FoundView). FitsUnder at v.nodes) (sym start) (λ q some.
    elim (eq_by_cmp path_cmp q []) as (λ b. eq_by_cmp path_cmp q [] ≡ b → IsSome (cond b (Some (Dir root_attr)) None) → IsPath (at ++ q)) [
      | true ↦ λ e _. let root : q ≡ [] = same_path_is q [] e in subst IsPath (sym (append-nil at) ∙ ap (λ (w : Path). at ++ w) (sym root)) is
      | false ↦ λ _ k. cc
    ] refl (subst IsSome (single_at (Dir root_attr) q) some))
