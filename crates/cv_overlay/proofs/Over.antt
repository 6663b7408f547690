-- What the overlay has at each path, and that it is a part.
use Rattle.std.proofs.Common.{◌≡◌, Bool, true, false, cond, not, ◌||◌, List, ℕ, [], ◌∷◌, ◌++◌, IsSome, is_some, refl, sym, ap, subst, ◌∙◌, append_assoc, append-nil}
use Rattle.std.specs.declared.option.Option.{Option}
use Rattle.std.specs.declared.option.Option.TheVariants.{None, Some}
use Rattle.std.specs.Ordering.{eq_by_cmp}
use Rattle.std.specs.List.{filter}
use Rattle.std.specs.FinMap.{find, get, entries, get-from_entries, get-entries}
use Rattle.cv_base.specs.Path.{Path, path_cmp, last_name_of}
use Rattle.cv_base.proofs.Laws.{path_total, same_path_is}
use Rattle.cv_tree.specs.declared.node.Node.{Node}
use Rattle.cv_base.specs.Path.{IsPath}
use Rattle.cv_tree.specs.declared.node.Node.TheVariants.{Dir, File, Link}
use Rattle.cv_tree.specs.Node.{IsNode}
use Rattle.cv_tree.specs.Tree.{Nodes, is_directory, HasParents, IsPart, IsTree}
use Rattle.std.proofs.Common.{◌<◌, ◌^◌, arith}
use Rattle.std.proofs.lemmas.Bool.{or_parts}
use Rattle.std.proofs.Math.Bool.{or-true}
use Rattle.cv_tree.proofs.Laws.{find-append}
use Rattle.cv_overlay.specs.Whiteout.{whiteout, opaque, is_whiteout, is_bad_at}
use Rattle.cv_overlay.specs.Overlay.{named, hidden, or_else, root_of, over_at, is_leaf, hides, hidden_from, named_entries, kept_entries, over_entries, over}
use Rattle.cv_overlay.specs.OverlayInner.{IsBase}

either_way : (b : Bool) (x : Option Node) → x ≡ cond b x x
either_way true x = refl
either_way false x = refl

-- what the entries of some paths have at a path
pub find-filter : (f : Path → Bool) (q : Path) (es : List (Path × Node)) → find path_cmp q (filter (λ e. f e.0) es) ≡ cond (f q) (find path_cmp q es) None
find-filter f q [] = either_way (f q) None
find-filter f q (e ∷ es) =
    elim (eq_by_cmp path_cmp q e.0) as (λ t. eq_by_cmp path_cmp q e.0 ≡ t → find path_cmp q (cond (f e.0) (e ∷ filter (λ x. f x.0) es) (filter (λ x. f x.0) es)) ≡ cond (f q) (cond t (Some e.1) (find path_cmp q es)) None) [
      | true ↦ λ same. let k : q ≡ e.0 = same_path_is q e.0 same in
          elim (f e.0) as (λ b. f e.0 ≡ b → find path_cmp q (cond b (e ∷ filter (λ x. f x.0) es) (filter (λ x. f x.0) es)) ≡ cond (f q) (Some e.1) None) [
            | true ↦ λ c. rw (ap f k ∙ c, same) refl
            | false ↦ λ c. rw (ap f k ∙ c) (find-filter f q es ∙ rw (ap f k ∙ c) refl)
          ] refl
      | false ↦ λ other.
          elim (f e.0) as (λ b. find path_cmp q (cond b (e ∷ filter (λ x. f x.0) es) (filter (λ x. f x.0) es)) ≡ cond (f q) (find path_cmp q es) None) [
            | true ↦ rw other (find-filter f q es)
            | false ↦ find-filter f q es
          ]
    ] refl

find-named : (c : Nodes) (q : Path) → find path_cmp q (named_entries (entries c)) ≡ named c q
find-named c q = find-filter (λ (p : Path). not (is_whiteout (last_name_of p))) q (entries c)
    ∙ elim (is_whiteout (last_name_of q)) as (λ b. cond (not b) (find path_cmp q (entries c)) None ≡ cond b None (get c q)) [
      | true ↦ refl
      | false ↦ sym (get-entries c q)
    ]

find-kept : (c b : Nodes) (q : Path) → find path_cmp q (kept_entries c (entries b)) ≡ cond (hidden c q) None (get b q)
find-kept c b q = find-filter (λ (p : Path). not (hidden c p)) q (entries b)
    ∙ elim (hidden c q) as (λ t. cond (not t) (find path_cmp q (entries b)) None ≡ cond t None (get b q)) [
      | true ↦ refl
      | false ↦ sym (get-entries b q)
    ]

-- the overlay by cases on each path
pub get-over : (b c : Nodes) (now : ℕ) (q : Path) → get (over b c now) q ≡ over_at b c now q
unfolding over
get-over b c now [] = get-from_entries path_total (over_entries b c now) []
get-over b c now (name ∷ names) = get-from_entries path_total (over_entries b c now) (name ∷ names)
    ∙ find-append (name ∷ names) (named_entries (entries c)) (kept_entries c (entries b))
    ∙ rw (find-named c (name ∷ names), find-kept c b (name ∷ names)) refl

-- ---- hidden along a path

pub hidden-append : (c : Nodes) (p q : Path) (a : List ℕ) → hidden_from c p (q ++ a ∷ []) ≡ (hidden_from c p q || hides c (p ++ q) a)
hidden-append c p [] a = elim (hides c p a) as (λ (b : Bool). (b || false) ≡ b) [ true ↦ refl | false ↦ refl ] ∙ ap (λ (w : Path). hides c w a) (sym (append-nil p))
hidden-append c p (n ∷ q) a =
    rw (hidden-append c (p ++ n ∷ []) q a, append_assoc p (n ∷ []) q)
    (elim (hides c p n) as (λ (b : Bool). (b || (hidden_from c (p ++ n ∷ []) q || hides c (p ++ n ∷ q) a)) ≡ ((b || hidden_from c (p ++ n ∷ []) q) || hides c (p ++ n ∷ q) a)) [ true ↦ refl | false ↦ refl ])

-- a file or link of the folder hides its own path
leaf_hides : (c : Nodes) (p : Path) (n : List ℕ) → hides c p n ≡ false → is_leaf (named c (p ++ n ∷ [])) ≡ false
leaf_hides c p n h = (or_parts _ _ ((or_parts _ _ h).1)).1

pub not_leaf : (c : Nodes) (p : Path) (n : List ℕ) (q : Path) → hidden_from c p (n ∷ q) ≡ false → is_leaf (named c (p ++ n ∷ q)) ≡ false
not_leaf c p n [] h = leaf_hides c p n ((or_parts _ _ h).0)
not_leaf c p n (m ∷ q) h = subst (λ (w : Path). is_leaf (named c w) ≡ false) (append_assoc p (n ∷ []) (m ∷ q)) (not_leaf c (p ++ n ∷ []) m q ((or_parts _ _ h).1))

-- ---- the overlay is a part
root_is_directory : (o : Option Node) (now : ℕ) → is_directory (Some (root_of o now)) ≡ true
root_is_directory None now = refl
root_is_directory (Some (Dir attr)) now = refl
root_is_directory (Some (File attr file)) now = refl
root_is_directory (Some (Link attr target)) now = refl

root_is_node : (o : Option Node) (now : ℕ) → now < 2 ^ 64 → ((node : Node) → o ≡ Some node → IsNode node) → IsNode (root_of o now)
root_is_node None now fits good = record { mode = omega arith; mtime = fits; uid = omega arith; gid = omega arith }
root_is_node (Some (Dir attr)) now fits good = good (Dir attr) refl
root_is_node (Some (File attr file)) now fits good = record { mode = omega arith; mtime = fits; uid = omega arith; gid = omega arith }
root_is_node (Some (Link attr target)) now fits good = record { mode = omega arith; mtime = fits; uid = omega arith; gid = omega arith }

-- a directory of the folder is named, since a whiteout that is none is bad
directory_named : (c : Nodes) (q : Path) → is_bad_at c q ≡ false → is_directory (get c q) ≡ true → is_directory (named c q) ≡ true
directory_named c q good h =
    elim (is_whiteout (last_name_of q)) as (λ w. is_whiteout (last_name_of q) ≡ w → is_directory (cond w None (get c q)) ≡ true) [
      | true ↦ λ w. elim (get c q) as (λ o. get c q ≡ o → is_directory o ≡ true → is_directory None ≡ true) [
        | None ↦ λ _ e. cc
        | Some (Dir attr) ↦ λ e _. let bad : true ≡ false = rw (e, w) at good in cc
        | Some (File attr file) ↦ λ _ e. cc
        | Some (Link attr target) ↦ λ _ e. cc
      ] refl h
      | false ↦ λ w. h
    ] refl

-- what stands over a directory that isn't hidden is a directory
stays : (named here : Option Node) → is_leaf named ≡ false → is_directory here ≡ true → is_directory (or_else named here) ≡ true
stays None here leaf h = h
stays (Some (Dir attr)) here leaf h = refl
stays (Some (File attr file)) here leaf h = cc
stays (Some (Link attr target)) here leaf h = cc

named_first : (o here : Option Node) → is_directory o ≡ true → is_directory (or_else o here) ≡ true
named_first None here h = cc
named_first (Some node) here h = h

-- what stands at a path is named or kept
pub data From (b c : Nodes) (q : Path) (node : Node) : Type 0 where
  by_name : get c q ≡ Some node → From b c q node
  by_base : named c q ≡ None → hidden c q ≡ false → get b q ≡ Some node → From b c q node

from : (b c : Nodes) (q : Path) (node : Node) → or_else (named c q) (cond (hidden c q) None (get b q)) ≡ Some node → From b c q node
from b c q node h =
    elim (named c q) as (λ o. named c q ≡ o → or_else o (cond (hidden c q) None (get b q)) ≡ Some node → From b c q node) [
      | None ↦ λ n. elim (hidden c q) as (λ w. hidden c q ≡ w → cond w None (get b q) ≡ Some node → From b c q node) [
        | true ↦ λ w e. cc
        | false ↦ λ w e. by_base n w e
      ] refl
      | Some found ↦ λ n e. elim (is_whiteout (last_name_of q)) as (λ w. cond w None (get c q) ≡ Some found → From b c q node) [
        | true ↦ λ m. cc
        | false ↦ λ m. by_name (m ∙ e)
      ] n
    ] refl h

over_parents : (b c : Nodes) (now : ℕ) → HasParents b → HasParents c → ((q : Path) → is_bad_at c q ≡ false) → (q : Path) (a : List ℕ)
    → IsSome (over_at b c now (q ++ a ∷ [])) → is_directory (over_at b c now q) ≡ true
over_parents b c now hb hc good [] a some = root_is_directory (get b []) now
over_parents b c now hb hc good (n ∷ q) a some =
    let x : Path = n ∷ q ++ a ∷ [] in
    elim (over_at b c now x) as (λ o. over_at b c now x ≡ o → IsSome o → is_directory (over_at b c now (n ∷ q)) ≡ true) [
      | None ↦ λ _ e. cc
      | Some node ↦ λ is _. elim (from b c x node is) [
        | by_name there ↦ named_first _ _ (directory_named c (n ∷ q) (good (n ∷ q)) (hc (n ∷ q) a (ap is_some there)))
        | by_base _ seen there ↦
            let both = or_parts _ _ (sym (hidden-append c [] (n ∷ q) a) ∙ seen) in
            stays (named c (n ∷ q)) _ (not_leaf c [] n q both.0) (rw both.0 (hb (n ∷ q) a (ap is_some there)))
      ]
    ] refl some

pub IsPart-over : (b c : Nodes) (now : ℕ) → IsBase b → IsTree c → now < 2 ^ 64 → ((q : Path) → is_bad_at c q ≡ false) → IsPart (over b c now)
IsPart-over b c now hb hc fits good = record {
  root = rw (get-over b c now []) refl;
  parents = λ q a some. rw (get-over b c now q) (over_parents b c now hb.parents hc.part.parents good q a (rw (get-over b c now (q ++ a ∷ [])) at some));
  paths = λ q some. path q (rw (get-over b c now q) at some);
  nodes = λ q node e. node_at q node (sym (get-over b c now q) ∙ e);
} where
  path : (q : Path) → IsSome (over_at b c now q) → IsPath q
  path [] some = record { names = refl; depth = omega arith; size = omega arith }
  path (n ∷ q) some = elim (over_at b c now (n ∷ q)) as (λ o. over_at b c now (n ∷ q) ≡ o → IsSome o → IsPath (n ∷ q)) [
    | None ↦ λ _ e. cc
    | Some node ↦ λ is _. elim (from b c (n ∷ q) node is) [
      | by_name there ↦ hc.part.paths (n ∷ q) (ap is_some there)
      | by_base _ _ there ↦ hb.paths (n ∷ q) (ap is_some there)
    ]
  ] refl some

  node_at : (q : Path) (node : Node) → over_at b c now q ≡ Some node → IsNode node
  node_at [] node e = let same : root_of (get b []) now ≡ node = cc in subst IsNode same (root_is_node (get b []) now fits (hb.nodes []))
  node_at (n ∷ q) node e = elim (from b c (n ∷ q) node e) [
    | by_name there ↦ hc.part.nodes (n ∷ q) node there
    | by_base _ _ there ↦ hb.nodes (n ∷ q) node there
  ]

-- what is hidden of a path in two pieces
pub hidden-split : (c : Nodes) (p q r : Path) → hidden_from c p (q ++ r) ≡ (hidden_from c p q || hidden_from c (p ++ q) r)
hidden-split c p [] r = ap (λ (w : Path). hidden_from c w r) (sym (append-nil p))
hidden-split c p (n ∷ q) r =
    rw (hidden-split c (p ++ n ∷ []) q r, append_assoc p (n ∷ []) q)
    (elim (hides c p n) as (λ (b : Bool). (b || (hidden_from c (p ++ n ∷ []) q || hidden_from c (p ++ n ∷ q) r)) ≡ ((b || hidden_from c (p ++ n ∷ []) q) || hidden_from c (p ++ n ∷ q) r)) [ true ↦ refl | false ↦ refl ])

-- ---- case by case

-- what the folder names
pub at_named : (b c : Nodes) (now : ℕ) (name : List ℕ) (names : Path) (n : Node) → named c (name ∷ names) ≡ Some n → over_at b c now (name ∷ names) ≡ Some n
at_named b c now name names n is = ap (λ (o : Option Node). or_else o (cond (hidden c (name ∷ names)) None (get b (name ∷ names)))) is

-- what the changes hide, or don't
base_at : (b c : Nodes) (now : ℕ) (name : List ℕ) (names : Path) (gone : Bool) → named c (name ∷ names) ≡ None → hidden c (name ∷ names) ≡ gone → over_at b c now (name ∷ names) ≡ cond gone None (get b (name ∷ names))
base_at b c now name names gone none is =
    ap (λ (o : Option Node). or_else o (cond (hidden c (name ∷ names)) None (get b (name ∷ names)))) none ∙ ap (λ (h : Bool). cond h None (get b (name ∷ names))) is

pub at_hidden : (b c : Nodes) (now : ℕ) (name : List ℕ) (names : Path) → named c (name ∷ names) ≡ None → hidden c (name ∷ names) ≡ true → over_at b c now (name ∷ names) ≡ None
at_hidden b c now name names = base_at b c now name names true

pub at_kept : (b c : Nodes) (now : ℕ) (name : List ℕ) (names : Path) → named c (name ∷ names) ≡ None → hidden c (name ∷ names) ≡ false → over_at b c now (name ∷ names) ≡ get b (name ∷ names)
at_kept b c now name names = base_at b c now name names false

-- what hides a name of a directory hides all below it
pub hidden_below : (c : Nodes) (p : Path) (name : List ℕ) (names : Path) → hides c p name ≡ true → hidden c (p ++ name ∷ names) ≡ true
hidden_below c p name names is =
    hidden-split c [] p (name ∷ names) ∙ ap (λ (h : Bool). hidden_from c [] p || (h || hidden_from c (p ++ name ∷ []) names)) is ∙ or-true (hidden_from c [] p)

pub hides_all : (c : Nodes) (p : Path) (name : List ℕ) → is_some (get c (p ++ opaque ∷ [])) ≡ true → hides c p name ≡ true
hides_all c p name is = ap (λ (h : Bool). h || (is_some (get c (p ++ (whiteout ++ name) ∷ [])) || is_leaf (named c (p ++ name ∷ [])))) is

pub hides_removed : (c : Nodes) (p : Path) (name : List ℕ) → is_some (get c (p ++ (whiteout ++ name) ∷ [])) ≡ true → hides c p name ≡ true
hides_removed c p name is =
    ap (λ (h : Bool). is_some (get c (p ++ opaque ∷ [])) || (h || is_leaf (named c (p ++ name ∷ [])))) is ∙ or-true (is_some (get c (p ++ opaque ∷ [])))

pub hides_replaced : (c : Nodes) (p : Path) (name : List ℕ) → is_leaf (named c (p ++ name ∷ [])) ≡ true → hides c p name ≡ true
hides_replaced c p name is =
    ap (λ (h : Bool). is_some (get c (p ++ opaque ∷ [])) || (is_some (get c (p ++ (whiteout ++ name) ∷ [])) || h)) is
    ∙ ap (λ (h : Bool). is_some (get c (p ++ opaque ∷ [])) || h) (or-true (is_some (get c (p ++ (whiteout ++ name) ∷ []))))
    ∙ or-true (is_some (get c (p ++ opaque ∷ [])))
