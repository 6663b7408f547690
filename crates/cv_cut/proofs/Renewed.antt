-- A catalogue further above a replacement: its rows stay, and of its nested entries one changes.
--
-- u is what stands at the cut c, and r the path behind c at which s is set; another cut e stands between: r is e and then f.
use Rattle.std.proofs.Common.{◌≡◌, ◌≢◌, true, false, cond, not, List, ℕ, [], ◌∷◌, ◌++◌, map, length, refl, sym, ap, subst, ◌∙◌, append_assoc}
use Rattle.std.specs.Prelude.{Contains}
use Rattle.std.proofs.lemmas.List.Folds.{list_all_at}
use Rattle.cv_base.specs.Marker.{marker, ends_in}
use Rattle.cv_base.specs.Path.{Path, covers, same_path}
use Rattle.cv_base.proofs.Laws.{same_path-itself, same_path_is}
use Rattle.cv_tree.specs.Tree.{Nodes, put}
use Rattle.sha1.specs.Sha1.{sha1}
use Rattle.cv_rows.specs.Renewed as rows
use Rattle.cv_rows.specs.declared.row.Row.{Row}
use Rattle.cv_rows.specs.declared.nested.Nested.{Nested}
use Rattle.cv_cut.specs.Cuts.{is_marked, is_near, between}
use Rattle.cv_cut.specs.Catalogues.{entry_of}
use Rattle.cv_cut.proofs.Members.{comes_from, goes_to}
use Rattle.cv_cut.proofs.MarkLaws.{marked-out, longer_covers_not}
use Rattle.cv_cut.proofs.Between.{between_has}
use Rattle.cv_cut.proofs.Joined.{rest_behind, row-out, is_near-out, was_near-out, other-out, was_other-out}
use Rattle.cv_cut.specs.Region.{IsOther, StandsOnWay, AreRowsOf, AreEntriesOf}
use Rattle.cv_cut.proofs.Ends.{same_rest}

-- the nested entry of a path is another one, and the others stay
abbrev pub renewed : Path → List ℕ → Nested → Nested
renewed p bytes n = rows.renewed p (sha1 bytes) (length bytes) n

pub differs : (a b : Path) → a ≡ b → same_path a b ≡ false → ⊥
differs a b is h = let yes : same_path a b ≡ true = ap (same_path a) (sym is) ∙ same_path-itself a in let wrong : true ≡ false = sym yes ∙ h in cc

module _ (c : Path) (u : Nodes) (r : Path) (s : Nodes) (e f : Path) (way : StandsOnWay u r e f) (unmarked : ends_in marker r ≡ false) where
  -- r doesn't cover the cut between
  cut_out : covers r e ≡ false
  cut_out = subst (λ (x : Path). covers x e ≡ false) (sym way.is) (longer_covers_not e f way.more)

  -- nothing that r covers is near, before or after
  pub none_near : (w : Nodes) → is_marked w e ≡ true → (q : Path) → is_near w q ≡ true → covers r q ≡ false
  none_near w marked q near =
      elim (covers r q) as (λ b. covers r q ≡ b → b ≡ false) [
        | true ↦ λ h.
            let in' = rest_behind r q h in
            let q-is : q ≡ e ++ (f ++ in'.0) = in'.1 ∙ ap (λ (x : Path). x ++ in'.0) way.is ∙ append_assoc e f in'.0 in
            let here : Contains (between q) e = subst (λ (x : Path). Contains (between x) e) (sym q-is) (between_has e (f ++ in'.0) way.some (still f in'.0 way.more)) in
            let far : is_near w q ≡ false = list_all_at (λ x. not (is_marked w x)) (between q) here.0 e here.1 (ap (λ x. not (is_marked w x)) here.2 ∙ ap not marked) in
            absurd (let wrong : true ≡ false = sym near ∙ far in cc)
        | false ↦ λ h. refl
      ] refl
    where
      still : (f x : Path) → f ≢ [] → (f ++ x) ≢ []
      still [] x some = λ _. some refl
      still (a ∷ f) x some = λ h. cc

  marked_after : is_marked (put u r s) e ≡ true
  marked_after = marked-out u r s e unmarked cut_out ∙ way.marked

  -- the rows of the cut stay as they are
  pub rows_kept : (rows : List Row) → AreRowsOf c u rows → AreRowsOf c (put u r s) rows
  rows_kept rows are = record {
    each = λ x has.
        let i = are.each x has in
        let out = none_near u way.marked i.0 i.2.near in
        (i.0, i.1, is_near-out c u r s unmarked i.0 i.1 out i.2, i.3 ∙ row-out c u r s unmarked i.0 i.1 out);
    all = λ q n has.
        let out = none_near (put u r s) marked_after q has.near in
        let was = was_near-out c u r s unmarked q n out has in
        subst (Contains rows) (row-out c u r s unmarked q n out) (are.all q n was);
  }

  -- and of the nested entries that of the cut between changes
  pub entries_renewed : (file made : Path → List ℕ) (nested : List Nested) → AreEntriesOf c u file nested → ((q : Path) → IsOther u q → q ≢ e → made q ≡ file q)
      → AreEntriesOf c (put u r s) made (map (renewed (c ++ e) (made e)) nested)
  entries_renewed file made nested are same =
      let renews = λ (q : Path) (o : IsOther u q).
      elim (same_path (c ++ q) (c ++ e)) as (λ b. same_path (c ++ q) (c ++ e) ≡ b → cond b (entry_of (c ++ q) (made e)) (entry_of (c ++ q) (file q)) ≡ entry_of (c ++ q) (made q)) [
        | true ↦ λ h. let q-is : q ≡ e = same_rest c q e (same_path_is (c ++ q) (c ++ e) h) in ap (λ (x : Path). entry_of (c ++ q) (made x)) (sym q-is)
        | false ↦ λ h. ap (entry_of (c ++ q)) (sym (same q o (λ is. differs (c ++ q) (c ++ e) (ap (λ (x : Path). c ++ x) is) h)))
      ] refl in
      record {
        each = λ x has.
            let from = comes_from (renewed (c ++ e) (made e)) nested x has in
            let i = are.each from.0 from.1 in
            (i.0, other-out c u r s unmarked i.0 (none_near u way.marked i.0 i.1.there.near) i.1, sym from.2 ∙ ap (renewed (c ++ e) (made e)) i.2 ∙ renews i.0 i.1);
        all = λ q o.
            let out = none_near (put u r s) marked_after q o.there.near in
            let was = was_other-out c u r s unmarked q out o in
            subst (Contains (map (renewed (c ++ e) (made e)) nested)) (renews q was) (goes_to (renewed (c ++ e) (made e)) nested (entry_of (c ++ q) (file q)) (are.all q was));
      }
