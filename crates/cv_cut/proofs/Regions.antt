-- Where the rows of a region stand: the row of each path there, and nowhere else.
use Rattle.std.proofs.Common.{◌≡◌, ◌≢◌, ℕ, zero, suc, ◌≤◌, true, false, List, [], ◌∷◌, ◌++◌, length, length-append, refl, sym, ap, subst, ◌∙◌, append-nil, append_assoc, arith, IsSome}
use Rattle.std.specs.declared.option.Option.{Option}
use Rattle.std.specs.declared.option.Option.TheVariants.{None, Some}
use Rattle.std.specs.FinMap.{get}
use Rattle.cv_base.specs.Path.{Path, key_of}
use Rattle.cv_base.proofs.Laws.{some_there}
use Rattle.cv_tree.specs.Tree.{Nodes, is_directory, IsPart}
use Rattle.cv_tree.specs.declared.node.Node.{Node}
use Rattle.cv_rows.specs.Row.{holds_rows}
use Rattle.cv_rows.specs.Places.{IsRoot, IsChild, StandsAt, root, below}
use Rattle.cv_rows.specs.declared.row.Row.{Row}
use Rattle.cv_cut.specs.Cuts.{is_marked}
use Rattle.cv_cut.proofs.Ends.{some_last, last_some, near_parent, parent_unmarked}
use Rattle.cv_cut.proofs.RowFacts.{row_key, row_kind, parent_at, name_at, root_row, not_nested_root, directory_holds}
use Rattle.cv_cut.specs.Region.{row_at, IsNear, KeysApart, AreRowsOf}

-- In what follows u is what stands at a cut c, and its paths begin there.

-- the root of what stands at the cut
pub root_node : (u : Nodes) → IsPart u → (n : Node) × IsNear u [] n
root_node u part = let found = some_there (get u []) part.root in (found.0, record { there = found.1; near = refl })

pub directory_node : (o : Option Node) → is_directory o ≡ true → (n : Node) × (o ≡ Some n) × (is_directory (Some n) ≡ true)
directory_node None directory = absurd cc
directory_node (Some n) directory = (n, refl, directory)

-- a directory of the region in which a path of it stands
pub record IsAbove (u : Nodes) (q : Path) : Type 0 where
  pub node_ : Node
  pub there : IsNear u q node_
  pub directory : is_directory (Some node_) ≡ true
  pub free : q ≢ [] → is_marked u q ≡ false

pub above : (u : Nodes) → IsPart u → (front : Path) (name : List _) (n : Node) → IsNear u (front ++ name ∷ []) n → IsAbove u front
above u part front name n has =
    let some : IsSome (get u (front ++ name ∷ [])) = rw (has.there) refl in
    let found = directory_node (get u front) (part.parents front name some) in
    record { node_ = found.0; there = record { there = found.1; near = near_parent u front name has.near }; directory = found.2; free = parent_unmarked u front name has.near }

not_longer : (q : Path) (a : List _) → q ++ a ∷ [] ≢ q
not_longer q a h = omega (arith, ap length h, length-append q (a ∷ []))

-- only the row of the cut itself is the root row
pub only_root : (c : Path) (u : Nodes) → IsPart u → KeysApart c u → (q : Path) (n : Node) → IsNear u q n → IsRoot c (row_at c u q n) → q ≡ []
only_root c u part apart q n has is =
    let r = root_node u part in
    apart.each q [] n r.0 has r.1 (sym (row_key _ (c ++ q) n) ∙ is.key ∙ ap key_of (sym (append-nil c)))

child : (c : Path) (u : Nodes) → KeysApart c u → (front : Path) (name : List _) (n : Node) → IsNear u (front ++ name ∷ []) n → (a : IsAbove u front)
    → IsChild (row_at c u (front ++ name ∷ []) n) (row_at c u front a.node_)
child c u apart front name n has a = record {
  kind = λ e. not_nested_root c u (front ++ name ∷ []) n (last_some front name) (sym (row_kind _ (c ++ (front ++ name ∷ [])) n) ∙ e);
  holds = ap holds_rows (row_kind _ (c ++ front) a.node_) ∙ directory_holds c u front a.node_ a.directory a.free;
  parent = parent_at c u front name n ∙ sym (row_key _ (c ++ front) a.node_);
  other = λ e. not_longer front name (apart.each (front ++ name ∷ []) front n a.node_ has a.there (sym (row_key _ (c ++ (front ++ name ∷ [])) n) ∙ e ∙ row_key _ (c ++ front) a.node_));
}

stands_from : (c : Path) (u : Nodes) (rows : List Row) → IsPart u → KeysApart c u → AreRowsOf c u rows
    → (k : ℕ) (q : Path) (n : Node) → length q ≤ k → IsNear u q n → StandsAt c rows (row_at c u q n) (c ++ q)
stands_from c u rows part apart are k [] n le has =
    subst (λ (p : Path). StandsAt c rows (row_at c u [] n) p) (sym (append-nil c)) (root (are.all [] n has) (root_row c u n))
stands_from c u rows part apart are zero (b ∷ q) n le has = absurd (omega arith)
stands_from c u rows part apart are (suc k) (b ∷ q) n le has =
    let l = some_last (b ∷ q) (λ e. cc) in
    let has_l : IsNear u (l.front ++ l.name ∷ []) n = subst (λ (p : Path). IsNear u p n) l.is has in
    let a = above u part l.front l.name n has_l in
    let up = stands_from c u rows part apart are k l.front a.node_ (omega (arith, ap length l.is, length-append l.front (l.name ∷ []))) a.there in
    let here = below (are.all (l.front ++ l.name ∷ []) n has_l) (λ is. last_some l.front l.name (only_root c u part apart _ n has_l is)) up (child c u apart l.front l.name n has_l a) in
    let place : (c ++ l.front) ++ (row_at c u (l.front ++ l.name ∷ []) n).name ∷ [] ≡ c ++ (l.front ++ l.name ∷ []) =
    ap (λ (x : List _). (c ++ l.front) ++ x ∷ []) (name_at c u l.front l.name n) ∙ append_assoc c l.front (l.name ∷ []) in
    subst (λ (p : Path). StandsAt c rows (row_at c u p n) (c ++ p)) (sym l.is) (subst (λ (p : Path). StandsAt c rows (row_at c u (l.front ++ l.name ∷ []) n) p) place here)

-- the row of a path of the region stands at that path
pub stands : (c : Path) (u : Nodes) (rows : List Row) → IsPart u → KeysApart c u → AreRowsOf c u rows → (q : Path) (n : Node) → IsNear u q n → StandsAt c rows (row_at c u q n) (c ++ q)
stands c u rows part apart are q n has = stands_from c u rows part apart are (length q) q n (omega arith) has

-- where a row stands, it is the row of that path of the region
pub record IsRowThere (c : Path) (u : Nodes) (r : Row) (p : Path) : Type 0 where
  pub rest : Path
  pub node_ : Node
  pub there : IsNear u rest node_
  pub row : r ≡ row_at c u rest node_
  pub place : p ≡ c ++ rest

pub stands_only : (c : Path) (u : Nodes) (rows : List Row) → IsPart u → KeysApart c u → AreRowsOf c u rows → {r : Row} {p : Path} → StandsAt c rows r p → IsRowThere c u r p
stands_only c u rows part apart are {r} (root has is) =
    let e = are.each r has in
    let none : e.0 ≡ [] = only_root c u part apart e.0 e.1 e.2 (subst (λ (x : Row). IsRoot c x) e.3 is) in
    record { rest = e.0; node_ = e.1; there = e.2; row = e.3; place = sym (append-nil c) ∙ ap (λ (x : Path). c ++ x) (sym none) }
stands_only c u rows part apart are {r} (below {p = p} {q = q} has other up kid) =
    let e = are.each r has in
    let above_it = stands_only c u rows part apart are up in
    let some : e.0 ≢ [] = λ none. other (subst (λ (x : Row). IsRoot c x) (sym (e.3 ∙ ap (λ (x : Path). row_at c u x e.1) none)) (root_row c u e.1)) in
    let l = some_last e.0 some in
    let has_l : IsNear u (l.front ++ l.name ∷ []) e.1 = subst (λ (x : Path). IsNear u x e.1) l.is e.2 in
    let r-is : r ≡ row_at c u (l.front ++ l.name ∷ []) e.1 = e.3 ∙ ap (λ (x : Path). row_at c u x e.1) l.is in
    let a = above u part l.front l.name e.1 has_l in
    let keys : key_of (c ++ l.front) ≡ key_of (c ++ above_it.rest) =
    sym (parent_at c u l.front l.name e.1) ∙ ap (λ (x : Row). x.parent.0) (sym r-is) ∙ kid.parent ∙ ap (λ (x : Row). x.key.0) above_it.row ∙ row_key _ (c ++ above_it.rest) above_it.node_ in
    let same : l.front ≡ above_it.rest = apart.each l.front above_it.rest a.node_ above_it.node_ a.there above_it.there keys in
    record {
      rest = e.0;
      node_ = e.1;
      there = e.2;
      row = e.3;
      place =
          ap (λ (x : Path). x ++ r.name ∷ []) (above_it.place ∙ ap (λ (x : Path). c ++ x) (sym same))
          ∙ ap (λ (x : List _). (c ++ l.front) ++ x ∷ []) (ap (λ (x : Row). x.name) r-is ∙ name_at c u l.front l.name e.1)
          ∙ append_assoc c l.front (l.name ∷ []) ∙ ap (λ (x : Path). c ++ x) (sym l.is);
    }
