-- Parts and trees stay parts and trees.
use Rattle.std.proofs.Common.{◌≡◌, true, false, cond, not, List, ℕ, [], ◌∷◌, ◌++◌, IsSome, IsTrue, is_some, refl, sym, ap, subst, ◌∙◌, append_assoc, append-nil, arith}
use Rattle.std.specs.Prelude.{Result, Ok, Err, IfSome, OnOk, OnErr}
use Rattle.std.specs.declared.option.Option.{Option}
use Rattle.std.specs.declared.option.Option.TheVariants.{None, Some}
use Rattle.std.specs.Ordering.{eq_by_cmp}
use Rattle.std.specs.FinMap.{empty, insert, get, get-empty, get-insert, same_map}
use Rattle.cv_base.specs.Path.{Path, path_cmp, same_name, behind, parent, IsPath}
use Rattle.cv_base.specs.Unless.{IsUnless}
use Rattle.cv_base.specs.declared.memory.NoMemory.{NoMemory as Lack}
use Rattle.cv_base.proofs.Laws.{behind-Some, parent-append, path_total, path_exact, same_name_is, same_path_is}
use Rattle.cv_tree.specs.declared.node.Node.{Node}
use Rattle.cv_tree.specs.declared.node.Node.TheVariants.{Dir}
use Rattle.cv_tree.specs.declared.tree_fault.TreeFault.{TreeFault}
use Rattle.cv_tree.specs.declared.tree_fault.TreeFault.TheVariants.{NoParent, Exists, NoMemory}
use Rattle.cv_base.specs.declared.attr.Attr.{Attr}
use Rattle.cv_base.specs.Attr.{IsAttr}
use Rattle.cv_tree.specs.Node.{IsNode}
use Rattle.cv_tree.specs.Tree.{Nodes, is_directory, HasParents, IsPart, IsTree, single, at, put}
use Rattle.cv_tree.specs.Changes.{has_place, insertion, replacement, nodes_of, FitsUnder, IsTreeAtRoot}
use Rattle.cv_tree.proofs.PathLimits.{IsPath-back}
use Rattle.cv_tree.proofs.Replacements.{at_rest, get-at, get-put}

-- ---- where a path with one more name stands against p
pub data Longer (p q : Path) (a : List ℕ) : Type 0 where
  inside : (r : Path) → behind p q ≡ Some r → behind p (q ++ a ∷ []) ≡ Some (r ++ a ∷ []) → Longer p q a
  here : behind p q ≡ None → p ≡ q ++ a ∷ [] → behind p (q ++ a ∷ []) ≡ Some [] → Longer p q a
  outside : behind p q ≡ None → behind p (q ++ a ∷ []) ≡ None → Longer p q a

longer : (p q : Path) (a : List ℕ) → Longer p q a
longer [] q a = inside q refl refl
longer (b ∷ []) [] a =
    elim (same_name b a) as (λ t. same_name b a ≡ t → Longer (b ∷ []) [] a) [
      | true ↦ λ e. let n = same_name_is b a e in here refl (ap (λ (x : List ℕ). x ∷ []) n) (rw e refl)
      | false ↦ λ e. outside refl (rw e refl)
    ] refl
longer (b ∷ d ∷ p) [] a =
    elim (same_name b a) as (λ t. same_name b a ≡ t → Longer (b ∷ d ∷ p) [] a) [
      | true ↦ λ e. outside refl (rw e refl)
      | false ↦ λ e. outside refl (rw e refl)
    ] refl
longer (b ∷ p) (d ∷ q) a =
    elim (same_name b d) as (λ t. same_name b d ≡ t → Longer (b ∷ p) (d ∷ q) a) [
      | true ↦ λ e. elim (longer p q a) [
        | inside r x y ↦ inside r (rw e x) (rw e y)
        | here x y z ↦ here (rw e x) (let n : b ≡ d = same_name_is b d e in cc) (rw e z)
        | outside x y ↦ outside (rw e x) (rw e y)
      ]
      | false ↦ λ e. outside (rw e refl) (rw e refl)
    ] refl

-- a replacement by what has directories for parents, where the path's parent is a directory, leaves each parent a directory
pub HasParents-put : (t : Nodes) (p : Path) (s : Nodes) → HasParents t → HasParents s
    → ((q : Path) (a : List ℕ) → p ≡ q ++ a ∷ [] → IsTrue (is_directory (get t q))) → HasParents (put t p s)
HasParents-put t p s ht hs parent q a some =
    elim (longer p q a) [
      | inside r x y ↦
          let f : IsSome (get s (r ++ a ∷ [])) = subst IsSome (get-put t p s (q ++ a ∷ []) ∙ ap (λ o. at_rest o (get s) (get t (q ++ a ∷ []))) y) some in
          subst (λ o. IsTrue (is_directory o)) (sym (get-put t p s q ∙ ap (λ o. at_rest o (get s) (get t q)) x)) (hs r a f)
      | here x y z ↦ subst (λ o. IsTrue (is_directory o)) (sym (get-put t p s q ∙ ap (λ o. at_rest o (get s) (get t q)) x)) (parent q a y)
      | outside x y ↦
          let f : IsSome (get t (q ++ a ∷ [])) = subst IsSome (get-put t p s (q ++ a ∷ []) ∙ ap (λ o. at_rest o (get s) (get t (q ++ a ∷ []))) y) some in
          subst (λ o. IsTrue (is_directory o)) (sym (get-put t p s q ∙ ap (λ o. at_rest o (get s) (get t q)) x)) (ht q a f)
    ]

-- ---- the parent of a path with one more name
pub has_place-append : (t : Nodes) (q : Path) (a : List ℕ) → has_place t (q ++ a ∷ []) ≡ is_directory (get t q)
has_place-append t [] a = refl
has_place-append t (b ∷ q) a = ap (λ w. is_directory (get t w)) (parent-append (b ∷ q) a)

-- ---- insertions
record Free (t : Nodes) (p : Path) : Type 0 where
  place : has_place t p ≡ true
  absent : get t p ≡ None

not_Ok : (fault : TreeFault) → ◌≡◌ {A = Result (Unit {0}) TreeFault} (Err fault) (Ok tt) → ⊥
not_Ok fault h = cc

free : (t : Nodes) (p : Path) → insertion t p ≡ Ok tt → Free t p
free t p h =
    elim (has_place t p) as (λ b. has_place t p ≡ b → cond (not b) (Err NoParent) (cond (is_some (get t p)) (Err Exists) (Ok tt)) ≡ Ok tt → Free t p) [
      | true ↦ λ place rest. elim (get t p) as (λ o. get t p ≡ o → cond (is_some o) (Err Exists) (Ok tt) ≡ Ok tt → Free t p) [
        | None ↦ λ absent _. record { place = place; absent = absent }
        | Some node ↦ λ _ refused. absurd (not_Ok Exists refused)
      ] refl rest
      | false ↦ λ _ refused. absurd (not_Ok NoParent refused)
    ] refl h

still_directory : (t : Nodes) (p q : Path) (node : Node) → get t p ≡ None → is_directory (get t q) ≡ true → is_directory (get (insert t p node) q) ≡ true
still_directory t p q node absent h = rw (get-insert path_total t p node q)
    (elim (eq_by_cmp path_cmp q p) as (λ b. eq_by_cmp path_cmp q p ≡ b → is_directory (cond b (Some node) (get t q)) ≡ true) [
      | true ↦ λ same. let e : get t q ≡ None = ap (get t) (same_path_is q p same) ∙ absent in let f : false ≡ true = rw e at h in cc
      | false ↦ λ _. h
    ] refl)

HasParents-insert : (t : Nodes) (p : Path) (node : Node) → HasParents t → Free t p → HasParents (insert t p node)
HasParents-insert t p node h f q a some =
    elim (eq_by_cmp path_cmp (q ++ a ∷ []) p) as (λ b. eq_by_cmp path_cmp (q ++ a ∷ []) p ≡ b → IsSome (cond b (Some node) (get t (q ++ a ∷ []))) → IsTrue (is_directory (get (insert t p node) q))) [
      | true ↦ λ same _. still_directory t p q node f.absent (sym (has_place-append t q a) ∙ ap (has_place t) (same_path_is _ p same) ∙ f.place)
      | false ↦ λ _ there. still_directory t p q node f.absent (h q a there)
    ] refl (rw (get-insert path_total t p node (q ++ a ∷ [])) at some)

pub IsPart-insert : (t : Nodes) (p : Path) (node : Node) → IsPart t → insertion t p ≡ Ok tt → IsPath p → IsNode node → IsPart (insert t p node)
IsPart-insert t p node h is path good =
    let at : (q : Path) → get (insert t p node) q ≡ cond (eq_by_cmp path_cmp q p) (Some node) (get t q) = get-insert path_total t p node in
    record {
      root = rw (at []) (elim (eq_by_cmp path_cmp [] p) as (λ b. IsSome (cond b (Some node) (get t []))) [ true ↦ refl | false ↦ h.root ]);
      parents = HasParents-insert t p node h.parents (free t p is);
      paths = λ q some. elim (eq_by_cmp path_cmp q p) as (λ b. eq_by_cmp path_cmp q p ≡ b → IsSome (cond b (Some node) (get t q)) → IsPath q) [
        | true ↦ λ same _. subst IsPath (sym (same_path_is q p same)) path
        | false ↦ λ _ there. h.paths q there
      ] refl (rw (at q) at some);
      nodes = λ q found e. elim (eq_by_cmp path_cmp q p) as (λ b. cond b (Some node) (get t q) ≡ Some found → IsNode found) [
        | true ↦ λ same. let n : node ≡ found = cc in subst IsNode n good
        | false ↦ λ there. h.nodes q found there
      ] (sym (at q) ∙ e);
    }

pub IsTree-insert : (t : Nodes) (p : Path) (node : Node) → IsTree t → insertion t p ≡ Ok tt → IsPath p → IsNode node → IsTree (insert t p node)
IsTree-insert t p node h is path good = record {
  root = still_directory t p [] node ((free t p is).absent) h.root;
  part = IsPart-insert t p node h.part is path good;
}

-- ---- a node that is set where no other stands
same_again : (t : Nodes) (p : Path) (node : Node) → get t p ≡ Some node → insert t p node ≡ t
same_again t p node there = same_map path_total path_exact (insert t p node) t (λ q. get-insert path_total t p node q
    ∙ elim (eq_by_cmp path_cmp q p) as (λ b. eq_by_cmp path_cmp q p ≡ b → cond b (Some node) (get t q) ≡ get t q) [
      | true ↦ λ same. sym (ap (get t) (same_path_is q p same) ∙ there)
      | false ↦ λ _. refl
    ] refl)

IsTree-set : (t : Nodes) (p : Path) (node : Node) → IsTree t → has_place t p ≡ true → IfSome (get t p) (λ there. there ≡ node) → IsPath p → IsNode node → IsTree (insert t p node)
IsTree-set t p node h place alone path good = elim (get t p) as (λ o. get t p ≡ o → IfSome o (λ there. there ≡ node) → IsTree (insert t p node)) [
  | None ↦ λ absent _. IsTree-insert t p node h (rw place (rw absent refl)) path good
  | Some there ↦ λ is same. rw (same_again t p node (is ∙ ap Some same)) h
] refl alone

pub IsTree-placed : (r : Result (Unit {0}) Lack) (old new : Nodes) (p : Path) (node : Node) → IsTree old → has_place old p ≡ true → IfSome (get old p) (λ there. there ≡ node)
    → OnOk r (new ≡ insert old p node) → OnErr r (new ≡ old) → IsPath p → IsNode node → IsTree new
IsTree-placed (Ok x) old new p node h place alone ok err path good = rw ok (IsTree-set old p node h place alone path good)
IsTree-placed (Err lack) old new p node h place alone ok err path good = rw err h

-- ---- single nodes
pub single_at : (node : Node) (q : Path) → get (single node) q ≡ cond (eq_by_cmp path_cmp q []) (Some node) None
single_at node q = get-insert path_total empty [] node q ∙ ap (cond (eq_by_cmp path_cmp q []) (Some node)) (get-empty path_cmp q)

pub IsPart-single : (node : Node) → IsNode node → IsPart (single node)
IsPart-single node good = record {
  root = rw (single_at node []) refl;
  parents = λ q a some. elim q as (λ r. IsSome (cond (eq_by_cmp path_cmp (r ++ a ∷ []) []) (Some node) None) → IsTrue (is_directory (get (single node) r))) [
    | [] ↦ λ e. cc
    | (b ∷ r) ↦ λ e. cc
  ] (rw (single_at node (q ++ a ∷ [])) at some);
  paths = λ q some. elim (eq_by_cmp path_cmp q []) as (λ b. eq_by_cmp path_cmp q [] ≡ b → IsSome (cond b (Some node) None) → IsPath q) [
    | true ↦ λ same _. subst IsPath (sym (same_path_is q [] same)) (record { names = refl; depth = omega arith; size = omega arith })
    | false ↦ λ _ e. cc
  ] refl (rw (single_at node q) at some);
  nodes = λ q found e. elim (eq_by_cmp path_cmp q []) as (λ b. cond b (Some node) None ≡ Some found → IsNode found) [
    | true ↦ λ same. let n : node ≡ found = cc in subst IsNode n good
    | false ↦ λ same. cc
  ] (sym (single_at node q) ∙ e);
}

pub IsTree-single : (attr : Attr) → IsAttr attr → IsTree (single (Dir attr))
IsTree-single attr good = record { root = rw (single_at (Dir attr) []) refl; part = IsPart-single (Dir attr) good }

-- ---- what stands at a path of a part
pub IsPart-at : (t : Nodes) (p : Path) → IsPart t → IsSome (get t p) → IsPart (at t p)
IsPart-at t p h some = record {
  root = rw (get-at t p [], append-nil p) some;
  parents = λ q a there. rw (get-at t p q) (h.parents (p ++ q) a (rw (get-at t p (q ++ a ∷ []), ← append_assoc p q (a ∷ [])) at there));
  paths = λ q there. IsPath-back p q (h.paths (p ++ q) (rw (get-at t p q) at there));
  nodes = λ q node e. h.nodes (p ++ q) node (sym (get-at t p q) ∙ e);
}

-- ---- replacements
record Settable (s : Nodes) : Type 0 where
  parents : HasParents s
  nodes : (q : Path) (node : Node) → get s q ≡ Some node → IsNode node

pub nothing_at : (q : Path) → IsSome (get (empty {X = Node} {R = path_cmp}) q) → ⊥
nothing_at q some = let no : is_some (get (empty {X = Node} {R = path_cmp}) q) ≡ false = rw (get-empty path_cmp q) refl in cc

settable : (part : Option Nodes) → IfSome part IsPart → Settable (nodes_of part)
settable None h = record {
  parents = λ q a some. absurd (nothing_at (q ++ a ∷ []) some);
  nodes = λ q node e. absurd (nothing_at q (ap is_some e));
}
settable (Some s) h = record { parents = h.parents; nodes = h.nodes }

pub some_directory : (o : Option Node) → is_directory o ≡ true → IsSome o
some_directory None h = cc
some_directory (Some node) h = refl

root_is_directory : (t : Nodes) (p : Path) (s : Nodes) → is_directory (get t []) ≡ true → IsTreeAtRoot p s → is_directory (get (put t p s) []) ≡ true
root_is_directory t [] s h root = rw (get-put t [] s []) (root refl)
root_is_directory t (b ∷ p) s h root = rw (get-put t (b ∷ p) s []) h

pub IsTree-put : (t : Nodes) (p : Path) (part : Option Nodes) → IsTree t → IfSome part IsPart → has_place t p ≡ true
    → FitsUnder p (nodes_of part) → IsTreeAtRoot p (nodes_of part) → IsTree (put t p (nodes_of part))
IsTree-put t p part h good place fits root =
    let s = nodes_of part in
    let set : Settable s = settable part good in
    let directory = root_is_directory t p s h.root root in
    record {
      root = directory;
      part = record {
        root = some_directory _ directory;
        parents = HasParents-put t p s h.part.parents set.parents (λ q a e. sym (has_place-append t q a) ∙ ap (has_place t) (sym e) ∙ place);
        paths = λ q some. elim (behind p q) as (λ o. behind p q ≡ o → IsSome (at_rest o (get s) (get t q)) → IsPath q) [
          | None ↦ λ _ there. h.part.paths q there
          | Some r ↦ λ e there. subst IsPath (sym (behind-Some p q r e)) (fits r there)
        ] refl (rw (get-put t p s q) at some);
        nodes = λ q node e. elim (behind p q) as (λ o. at_rest o (get s) (get t q) ≡ Some node → IsNode node) [
          | None ↦ λ there. h.part.nodes q node there
          | Some r ↦ λ there. set.nodes r node there
        ] (sym (get-put t p s q) ∙ e);
      };
    }

-- ---- by the answers of the calls
pub IsPart-inserted : (r : Result (Unit {0}) TreeFault) (old new : Nodes) (p : Path) (node : Node) → IsPart old → IsUnless NoMemory r (insertion old p)
    → OnOk r (new ≡ insert old p node) → OnErr r (new ≡ old) → IsPath p → IsNode node → IsPart new
IsPart-inserted (Ok x) old new p node h answer ok err path good = rw ok (IsPart-insert old p node h (sym answer) path good)
IsPart-inserted (Err fault) old new p node h answer ok err path good = rw err h

pub IsTree-inserted : (r : Result (Unit {0}) TreeFault) (old new : Nodes) (p : Path) (node : Node) → IsTree old → IsUnless NoMemory r (insertion old p)
    → OnOk r (new ≡ insert old p node) → OnErr r (new ≡ old) → IsPath p → IsNode node → IsTree new
IsTree-inserted (Ok x) old new p node h answer ok err path good = rw ok (IsTree-insert old p node h (sym answer) path good)
IsTree-inserted (Err fault) old new p node h answer ok err path good = rw err h

placed : (t : Nodes) (p : Path) → replacement t p ≡ Ok tt → has_place t p ≡ true
placed t p h = elim (has_place t p) as (λ b. cond b (Ok tt) (Err NoParent) ≡ Ok tt → b ≡ true) [ true ↦ λ _. refl | false ↦ λ refused. absurd (not_Ok NoParent refused) ] h

pub IsTree-replaced : (r : Result (Unit {0}) TreeFault) (old new : Nodes) (p : Path) (part : Option Nodes) → IsTree old → IfSome part IsPart → IsUnless NoMemory r (replacement old p)
    → OnOk r (new ≡ put old p (nodes_of part)) → OnErr r (new ≡ old) → FitsUnder p (nodes_of part) → IsTreeAtRoot p (nodes_of part) → IsTree new
IsTree-replaced (Ok x) old new p part h good answer ok err fits root = rw ok (IsTree-put old p part h good (placed old p (sym answer)) fits root)
IsTree-replaced (Err fault) old new p part h good answer ok err fits root = rw err h
