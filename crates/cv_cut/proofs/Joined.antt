-- The catalogue that directly holds a path, after a replacement there: it loses the rows at and below the path and the nested
-- entries there, and gains those of the other tree.
--
-- u is what stands at the cut c, and r the path behind c; w is what stands at the cut d of the other tree, and v the path
-- behind d. No cut stands between c and r in the one, nor between d and v in the other.
use Rattle.std.proofs.Common.{◌≡◌, ◌≢◌, Bool, true, false, cond, not, List, ℕ, [], ◌∷◌, ◌++◌, Some, None, filter, refl, sym, ap, subst, ◌∙◌, append_assoc, is_some, inl, inr}
use Rattle.std.specs.Prelude.{Contains}
use Rattle.std.specs.declared.option.Option.{Option}
use Rattle.std.specs.FinMap.{get}
use Rattle.std.proofs.lemmas.Bool.{not-true}
use Rattle.std.proofs.lemmas.List.Elements.{Contains-append_left, Contains-append_right, Contains-append_cases}
use Rattle.cv_base.specs.Marker.{marker, ends_in}
use Rattle.cv_base.specs.Path.{Path, covers, behind}
use Rattle.cv_base.proofs.Laws.{behind-Some, same_name_itself}
use Rattle.cv_tree.specs.Tree.{Nodes, at, put}
use Rattle.cv_tree.specs.declared.node.Node.{Node}
use Rattle.cv_tree.specs.declared.node.Node.TheVariants as node
use Rattle.cv_tree.proofs.Laws.{get-at, kept-put}
use Rattle.cv_rows.specs.declared.row.Row.{Row}
use Rattle.cv_rows.specs.declared.nested.Nested.{Nested}
use Rattle.cv_rows.specs.declared.row_kind.RowKind.TheVariants.{Directory, Transition}
use Rattle.cv_cut.specs.Cuts.{is_marked, is_near}
use Rattle.cv_cut.specs.Catalogues.{kind_of, row_of, entry_of}
use Rattle.cv_cut.proofs.Members.{passes, passing}
use Rattle.cv_cut.proofs.Between.{marked-at}
use Rattle.cv_cut.proofs.MarkLaws.{covers_append, get-in, marked-out, marked-in, near-out, near-in, near-at}
use Rattle.cv_cut.specs.Region.{row_at, IsNear, IsOther, AreRowsOf, AreEntriesOf}

-- ---- paths

pub behind-shift : (c r q : Path) → behind (c ++ r) (c ++ q) ≡ behind r q
behind-shift [] r q = refl
behind-shift (a ∷ c) r q = ap (λ b. cond b (behind (c ++ r) (c ++ q)) None) (same_name_itself a) ∙ behind-shift c r q

pub covers-shift : (c r q : Path) → covers (c ++ r) (c ++ q) ≡ covers r q
covers-shift c r q = ap is_some (behind-shift c r q)

pub rest_behind : (r q : Path) → covers r q ≡ true → (x : Path) × (q ≡ r ++ x)
rest_behind r q h = of (behind r q) refl h
  where
    of : (o : Option Path) → behind r q ≡ o → is_some o ≡ true → (x : Path) × (q ≡ r ++ x)
    of None e h = absurd cc
    of (Some x) e h = (x, behind-Some r q x e)

some_more : (r q : Path) → r ≢ [] → (r ++ q) ≢ []
some_more [] q some = λ _. some refl
some_more (a ∷ r) q some = λ e. cc

-- ---- kinds

-- the kind of a row below a cut is that of its node, and of its mark
kind_by : (c d : Path) (u w : Nodes) (p q : Path) (n : Node) → p ≢ [] → q ≢ [] → is_marked u p ≡ is_marked w q → kind_of c u p n ≡ kind_of d w q n
kind_by c d u w [] q n some other same = absurd (some refl)
kind_by c d u w (a ∷ p) [] n some other same = absurd (other refl)
kind_by c d u w (a ∷ p) (b ∷ q) (node.Dir attr) some other same = ap (λ m. cond m Transition Directory) same
kind_by c d u w (a ∷ p) (b ∷ q) (node.File attr file) some other same = refl
kind_by c d u w (a ∷ p) (b ∷ q) (node.Link attr target) some other same = refl

kind_here : (c : Path) (u w : Nodes) (q : Path) (n : Node) → is_marked u q ≡ is_marked w q → kind_of c u q n ≡ kind_of c w q n
kind_here c u w [] n same = refl
kind_here c u w (a ∷ q) (node.Dir attr) same = ap (λ m. cond m Transition Directory) same
kind_here c u w (a ∷ q) (node.File attr file) same = refl
kind_here c u w (a ∷ q) (node.Link attr target) same = refl

-- ---- what stands outside

module _ (c : Path) (u : Nodes) (r : Path) (s : Nodes) (unmarked : ends_in marker r ≡ false) where
  pub row-out : (q : Path) (n : Node) → covers r q ≡ false → row_at c u q n ≡ row_at c (put u r s) q n
  row-out q n out = ap (λ k. row_of k (c ++ q) n) (sym (kind_here c (put u r s) u q n (marked-out u r s q unmarked out)))

  pub is_near-out : (q : Path) (n : Node) → covers r q ≡ false → IsNear u q n → IsNear (put u r s) q n
  is_near-out q n out has = record { there = kept-put u r s q out ∙ has.there; near = near-out u r s q unmarked out ∙ has.near }

  pub was_near-out : (q : Path) (n : Node) → covers r q ≡ false → IsNear (put u r s) q n → IsNear u q n
  was_near-out q n out has = record { there = sym (kept-put u r s q out) ∙ has.there; near = sym (near-out u r s q unmarked out) ∙ has.near }

  pub other-out : (q : Path) → covers r q ≡ false → IsOther u q → IsOther (put u r s) q
  other-out q out o = record { node_ = o.node_; there = is_near-out q o.node_ out o.there; below = o.below; marked = marked-out u r s q unmarked out ∙ o.marked }

  pub was_other-out : (q : Path) → covers r q ≡ false → IsOther (put u r s) q → IsOther u q
  was_other-out q out o = record { node_ = o.node_; there = was_near-out q o.node_ out o.there; below = o.below; marked = sym (marked-out u r s q unmarked out) ∙ o.marked }

-- ---- what stands inside

-- the paths are the same: that of the replacement
pub record AreHolders (c : Path) (u : Nodes) (r d : Path) (w : Nodes) (v : Path) : Type 0 where
  pub path : c ++ r ≡ d ++ v
  pub unmarked : ends_in marker r ≡ false
  pub unmarked_ : ends_in marker v ≡ false
  pub some : r ≢ []
  pub some_ : v ≢ []
  pub near : is_near u r ≡ true
  pub near_ : is_near w v ≡ true

module _ (c : Path) (u : Nodes) (r d : Path) (w : Nodes) (v : Path) (h : AreHolders c u r d w v) where
  -- after the replacement
  abbrev pub joined : Nodes
  joined = put u r (at w v)

  pub path-in : (q : Path) → d ++ (v ++ q) ≡ c ++ (r ++ q)
  path-in q = sym (append_assoc d v q) ∙ ap (λ (x : Path). x ++ q) (sym h.path) ∙ append_assoc c r q

  pub marked-in_both : (q : Path) → is_marked joined (r ++ q) ≡ is_marked w (v ++ q)
  marked-in_both q = marked-in u r (at w v) q ∙ sym (marked-at w v q)

  pub row-in : (q : Path) (n : Node) → row_at d w (v ++ q) n ≡ row_at c joined (r ++ q) n
  row-in q n =
      let kind = kind_by d c w joined (v ++ q) (r ++ q) n (some_more v q h.some_) (some_more r q h.some) (sym (marked-in_both q)) in
      let path = path-in q in
      λ i. row_of (kind i) (path i) n

  get-in_both : (q : Path) → get joined (r ++ q) ≡ get w (v ++ q)
  get-in_both q = get-in u r (at w v) q ∙ get-at w v q

  near-in_both : (q : Path) → is_near joined (r ++ q) ≡ is_near w (v ++ q)
  near-in_both q = near-in u r (at w v) q h.unmarked h.some h.near ∙ sym (near-at w v q h.unmarked_ h.some_ h.near_)

  pub is_near-in : (q : Path) (n : Node) → IsNear w (v ++ q) n → IsNear joined (r ++ q) n
  is_near-in q n has = record { there = get-in_both q ∙ has.there; near = near-in_both q ∙ has.near }

  pub was_near-in : (q : Path) (n : Node) → IsNear joined (r ++ q) n → IsNear w (v ++ q) n
  was_near-in q n has = record { there = sym (get-in_both q) ∙ has.there; near = sym (near-in_both q) ∙ has.near }

  pub other-in : (q : Path) → IsOther w (v ++ q) → IsOther joined (r ++ q)
  other-in q o = record { node_ = o.node_; there = is_near-in q o.node_ o.there; below = some_more r q h.some; marked = marked-in_both q ∙ o.marked }

  pub was_other-in : (q : Path) → IsOther joined (r ++ q) → IsOther w (v ++ q)
  was_other-in q o = record { node_ = o.node_; there = was_near-in q o.node_ o.there; below = some_more v q h.some_; marked = sym (marked-in_both q) ∙ o.marked }

  -- ---- the rows

  -- the rows of the one cut that stand outside, and those of the other that stand inside, are the rows of the cut afterwards
  pub rows_joined : (rows others : List Row) (stays goes : Row → Bool) → AreRowsOf c u rows → AreRowsOf d w others
      → ((q : Path) (n : Node) → IsNear u q n → stays (row_at c u q n) ≡ not (covers r q))
      → ((q : Path) (n : Node) → IsNear w q n → goes (row_at d w q n) ≡ covers v q)
      → AreRowsOf c joined (filter stays rows ++ filter goes others)
  rows_joined rows others stays goes are were stays_is goes_is = record {
    each = λ x has. elim (Contains-append_cases (filter stays rows) (filter goes others) x has) [
      | inl left ↦
          let p = passes stays rows x left in
          let e = are.each x p.0 in
          let out : covers r e.0 ≡ false = not-true (covers r e.0) (sym (stays_is e.0 e.1 e.2) ∙ ap stays (sym e.3) ∙ p.1) in
          (e.0, e.1, is_near-out c u r (at w v) h.unmarked e.0 e.1 out e.2, e.3 ∙ row-out c u r (at w v) h.unmarked e.0 e.1 out)
      | inr right ↦
          let p = passes goes others x right in
          let e = were.each x p.0 in
          let in' = rest_behind v e.0 (sym (goes_is e.0 e.1 e.2) ∙ ap goes (sym e.3) ∙ p.1) in
          let near : IsNear w (v ++ in'.0) e.1 = subst (λ (y : Path). IsNear w y e.1) in'.1 e.2 in
          (r ++ in'.0, e.1, is_near-in in'.0 e.1 near, e.3 ∙ ap (λ (y : Path). row_at d w y e.1) in'.1 ∙ row-in in'.0 e.1)
    ];
    all = λ q n has.
        elim (covers r q) as (λ b. covers r q ≡ b → Contains (filter stays rows ++ filter goes others) (row_at c joined q n)) [
          | true ↦ λ e.
              let in' = rest_behind r q e in
              let near = was_near-in in'.0 n (subst (λ (y : Path). IsNear joined y n) in'.1 has) in
              let there = passing goes others (row_at d w (v ++ in'.0) n) (were.all (v ++ in'.0) n near) (goes_is (v ++ in'.0) n near ∙ covers_append v in'.0) in
              subst (Contains (filter stays rows ++ filter goes others)) (row-in in'.0 n ∙ ap (λ (y : Path). row_at c joined y n) (sym in'.1))
              (Contains-append_right (filter stays rows) (filter goes others) (row_at d w (v ++ in'.0) n) there)
          | false ↦ λ e.
              let near = was_near-out c u r (at w v) h.unmarked q n e has in
              let there = passing stays rows (row_at c u q n) (are.all q n near) (stays_is q n near ∙ ap not e) in
              subst (Contains (filter stays rows ++ filter goes others)) (row-out c u r (at w v) h.unmarked q n e)
              (Contains-append_left (filter stays rows) (filter goes others) (row_at c u q n) there)
        ] refl;
  }

  -- ---- the nested entries

  -- likewise, where catalogues outside stay as they were and those inside are those of the other tree
  pub entries_joined : (file other made : Path → List ℕ) (nested others : List Nested) → AreEntriesOf c u file nested → AreEntriesOf d w other others
      → ((q : Path) → IsOther u q → covers r q ≡ false → made q ≡ file q)
      → ((q : Path) → IsOther w (v ++ q) → made (r ++ q) ≡ other (v ++ q))
      → AreEntriesOf c joined made (filter (λ n. not (covers (c ++ r) n.path)) nested ++ filter (λ n. covers (c ++ r) n.path) others)
  entries_joined file other made nested others are were outside inside =
      let stays = λ (n : Nested). not (covers (c ++ r) n.path) in
      let goes = λ (n : Nested). covers (c ++ r) n.path in
      record {
        each = λ x has. elim (Contains-append_cases (filter stays nested) (filter goes others) x has) [
          | inl left ↦
              let p = passes stays nested x left in
              let e = are.each x p.0 in
              let out : covers r e.0 ≡ false = not-true (covers r e.0) (ap not (sym (covers-shift c r e.0) ∙ ap (λ (y : Nested). covers (c ++ r) y.path) (sym e.2)) ∙ p.1) in
              (e.0, other-out c u r (at w v) h.unmarked e.0 out e.1, e.2 ∙ ap (entry_of (c ++ e.0)) (sym (outside e.0 e.1 out)))
          | inr right ↦
              let p = passes goes others x right in
              let e = were.each x p.0 in
              let in' = rest_behind v e.0 (sym (covers-shift d v e.0) ∙ ap (λ (y : Path). covers y (d ++ e.0)) (sym h.path) ∙ ap (λ (y : Nested). covers (c ++ r) y.path) (sym e.2) ∙ p.1) in
              let o : IsOther w (v ++ in'.0) = subst (IsOther w) in'.1 e.1 in
              let file_is = sym (inside in'.0 o) in
              let path = path-in in'.0 in
              (r ++ in'.0, other-in in'.0 o, e.2 ∙ ap (λ (y : Path). entry_of (d ++ y) (other y)) in'.1 ∙ (λ i. entry_of (path i) (file_is i)))
        ];
        all = λ q o.
            elim (covers r q) as (λ b. covers r q ≡ b → Contains (filter stays nested ++ filter goes others) (entry_of (c ++ q) (made q))) [
              | true ↦ λ e.
                  let in' = rest_behind r q e in
                  let was = was_other-in in'.0 (subst (IsOther joined) in'.1 o) in
                  let path = path-in in'.0 in
                  let file_is = sym (inside in'.0 was) in
                  let there = passing goes others (entry_of (d ++ (v ++ in'.0)) (other (v ++ in'.0))) (were.all (v ++ in'.0) was)
                  (ap (covers (c ++ r)) path ∙ covers-shift c r (r ++ in'.0) ∙ covers_append r in'.0) in
                  subst (Contains (filter stays nested ++ filter goes others)) ((λ i. entry_of (path i) (file_is i)) ∙ ap (λ (y : Path). entry_of (c ++ y) (made y)) (sym in'.1))
                  (Contains-append_right (filter stays nested) (filter goes others) (entry_of (d ++ (v ++ in'.0)) (other (v ++ in'.0))) there)
              | false ↦ λ e.
                  let was = was_other-out c u r (at w v) h.unmarked q e o in
                  let there = passing stays nested (entry_of (c ++ q) (file q)) (are.all q was) (ap not (covers-shift c r q ∙ e)) in
                  subst (Contains (filter stays nested ++ filter goes others)) (ap (entry_of (c ++ q)) (sym (outside q was e)))
                  (Contains-append_left (filter stays nested) (filter goes others) (entry_of (c ++ q) (file q)) there)
            ] refl;
      }
