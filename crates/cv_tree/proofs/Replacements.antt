-- What a path covers in a map, and what takes its place: the laws of `at` and `put`.
use Rattle.std.proofs.Common.{◌≡◌, Bool, true, false, cond, not, List, [], ◌∷◌, ◌++◌, is_some, refl, sym, ap, ◌∙◌, append_assoc}
use Rattle.std.specs.declared.option.Option.{Option}
use Rattle.std.specs.declared.option.Option.TheVariants.{None, Some}
use Rattle.std.specs.Ordering.{is_eq, eq_by_cmp}
use Rattle.std.specs.Cmp.{eq_by_cmp_equiv}
use Rattle.std.specs.FinMap.{FinMap, find, get, entries, get-from_entries, get-entries, same_map}
use Rattle.cv_base.specs.Path.{Path, path_cmp, behind, covers, overlap}
use Rattle.cv_base.proofs.Laws.{is_behind, eq_by_cmp-append, behind-Some, behind-append, overlap-from_covers, path_total, path_exact, same_path_is}
use Rattle.cv_tree.specs.Tree.{cons_behind, entries_behind, entries_under, entries_outside, at, under, outside_with, put}

symm : (a b : Path) → eq_by_cmp path_cmp a b ≡ eq_by_cmp path_cmp b a
symm a b = (eq_by_cmp_equiv path_total).symm a b

not_covered : (p q r : Path) → overlap p q ≡ false → covers p (q ++ r) ≡ false
not_covered p q r h = elim (covers p (q ++ r)) as (λ b. covers p (q ++ r) ≡ b → b ≡ false) [ true ↦ λ e. let o = overlap-from_covers q p r e in cc | false ↦ λ e. refl ] refl

-- what is behind a path is another, by the law of it
is_behind-None : (q : Path) → is_behind None q ≡ false
is_behind-None q = sym (eq_by_cmp-append ([] ∷ []) q [])

is_behind-Some : (r q : Path) → is_behind (Some r) q ≡ is_eq (path_cmp q r)
is_behind-Some r q = sym (eq_by_cmp-append [] q r)

either_way : {A : Type 0} (b : Bool) (x : A) → x ≡ cond b x x
either_way true x = refl
either_way false x = refl

module _ {X : Type 0} where
  -- what f has at a path, or else d
  abbrev pub at_rest : Option Path → (Path → Option X) → Option X → Option X
  at_rest None f d = d
  at_rest (Some r) f d = f r

  abbrev pub or_else : Option X → Option X → Option X
  or_else None y = y
  or_else (Some x) y = Some x

  pub or_else-None : (o : Option X) → or_else o None ≡ o
  or_else-None None = refl
  or_else-None (Some x) = refl

  pub find-entries_behind : (p q : Path) (es : List (Path × X)) → find path_cmp q (entries_behind p es) ≡ find path_cmp (p ++ q) es
  find-entries_behind p q [] = refl
  find-entries_behind p q (e ∷ es) =
      rw (eq_by_cmp-append p q e.0)
      (elim (behind p e.0) as (λ o. find path_cmp q (cons_behind o e.1 (entries_behind p es)) ≡ cond (is_behind o q) (Some e.1) (find path_cmp (p ++ q) es)) [
        | None ↦ rw (is_behind-None q) (find-entries_behind p q es)
        | Some r ↦ rw (is_behind-Some r q) (ap (cond (is_eq (path_cmp q r)) (Some e.1)) (find-entries_behind p q es))
      ])

  -- what `at` has at a path: the node behind p
  pub get-at : (t : FinMap path_cmp X) (p q : Path) → get (at t p) q ≡ get t (p ++ q)
  unfolding at
  get-at t p q = get-from_entries path_total _ q ∙ find-entries_behind p q (entries t) ∙ sym (get-entries t (p ++ q))

  pub find-entries_under : (p q : Path) (es : List (Path × X)) → find path_cmp q (entries_under p es) ≡ at_rest (behind p q) (λ r. find path_cmp r es) None
  find-entries_under p q [] = elim (behind p q) as (λ o. None ≡ at_rest o (λ r. find path_cmp r []) None) [ None ↦ refl | Some r ↦ refl ]
  find-entries_under p q (e ∷ es) =
      rw (symm q (p ++ e.0), eq_by_cmp-append p e.0 q, find-entries_under p q es)
      (elim (behind p q) as (λ o. cond (is_behind o e.0) (Some e.1) (at_rest o (λ r. find path_cmp r es) None) ≡ at_rest o (λ r. find path_cmp r (e ∷ es)) None) [
        | None ↦ rw (is_behind-None e.0) refl
        | Some r ↦ rw (is_behind-Some r e.0) (ap (λ b. cond b (Some e.1) (find path_cmp r es)) (symm e.0 r))
      ])

  pub find-append : (q : Path) (es fs : List (Path × X)) → find path_cmp q (es ++ fs) ≡ or_else (find path_cmp q es) (find path_cmp q fs)
  find-append q [] fs = refl
  find-append q (e ∷ es) fs =
      elim (eq_by_cmp path_cmp q e.0) as (λ b. cond b (Some e.1) (find path_cmp q (es ++ fs)) ≡ or_else (cond b (Some e.1) (find path_cmp q es)) (find path_cmp q fs)) [
        | true ↦ refl
        | false ↦ find-append q es fs
      ]

  -- what `under` has at a path
  pub get-under : (p : Path) (s : FinMap path_cmp X) (q : Path) → get (under p s) q ≡ at_rest (behind p q) (get s) None
  unfolding under
  get-under p s q = get-from_entries path_total _ q ∙ find-entries_under p q (entries s)
      ∙ elim (behind p q) as (λ o. at_rest o (λ r. find path_cmp r (entries s)) None ≡ at_rest o (get s) None) [
        | None ↦ refl
        | Some r ↦ sym (get-entries s r)
      ]

  pub find-entries_outside : (p q : Path) (es : List (Path × X)) → find path_cmp q (entries_outside p es) ≡ cond (not (covers p q)) (find path_cmp q es) None
  find-entries_outside p q [] = either_way (not (covers p q)) None
  find-entries_outside p q (e ∷ es) =
      elim (eq_by_cmp path_cmp q e.0) as (λ t. eq_by_cmp path_cmp q e.0 ≡ t → find path_cmp q (cond (not (covers p e.0)) (e ∷ entries_outside p es) (entries_outside p es)) ≡ cond (not (covers p q)) (cond t (Some e.1) (find path_cmp q es)) None) [
        | true ↦ λ same. let k : q ≡ e.0 = same_path_is q e.0 same in
            elim (covers p e.0) as (λ b. covers p e.0 ≡ b → find path_cmp q (cond (not b) (e ∷ entries_outside p es) (entries_outside p es)) ≡ cond (not (covers p q)) (Some e.1) None) [
              | true ↦ λ c. rw (ap (covers p) k ∙ c) (find-entries_outside p q es ∙ rw (ap (covers p) k ∙ c) refl)
              | false ↦ λ c. rw (ap (covers p) k ∙ c, same) refl
            ] refl
        | false ↦ λ other.
            elim (covers p e.0) as (λ b. find path_cmp q (cond (not b) (e ∷ entries_outside p es) (entries_outside p es)) ≡ cond (not (covers p q)) (find path_cmp q es) None) [
              | true ↦ find-entries_outside p q es
              | false ↦ rw other (find-entries_outside p q es)
            ]
      ] refl

  -- what stands outside p, or else in s
  pub get-outside_with : (t : FinMap path_cmp X) (p : Path) (s : FinMap path_cmp X) (q : Path)
      → get (outside_with t p s) q ≡ or_else (cond (not (covers p q)) (get t q) None) (get s q)
  unfolding outside_with
  get-outside_with t p s q = get-from_entries path_total _ q ∙ find-append q (entries_outside p (entries t)) (entries s)
      ∙ ap (λ o. or_else o (find path_cmp q (entries s))) (find-entries_outside p q (entries t))
      ∙ rw (← get-entries t q, ← get-entries s q) refl

  -- what `put` has at a path: the node of s behind p, and that of t elsewhere
  pub get-put : (t : FinMap path_cmp X) (p : Path) (s : FinMap path_cmp X) (q : Path) → get (put t p s) q ≡ at_rest (behind p q) (get s) (get t q)
  get-put t p s q = get-outside_with t p (under p s) q ∙ ap (or_else (cond (not (covers p q)) (get t q) None)) (get-under p s q)
      ∙ elim (behind p q) as (λ o. or_else (cond (not (is_some o)) (get t q) None) (at_rest o (get s) None) ≡ at_rest o (get s) (get t q)) [
        | None ↦ or_else-None (get t q)
        | Some r ↦ refl
      ]

  -- what was put at a path is there
  pub at-put : (t : FinMap path_cmp X) (p : Path) (s : FinMap path_cmp X) → at (put t p s) p ≡ s
  at-put t p s = same_map path_total path_exact _ _ (λ q. get-at (put t p s) p q ∙ get-put t p s (p ++ q) ∙ ap (λ o. at_rest o (get s) (get t (p ++ q))) (behind-append p q))

  -- to put what is there changes nothing
  pub put-at : (t : FinMap path_cmp X) (p : Path) → put t p (at t p) ≡ t
  put-at t p = same_map path_total path_exact _ _ (λ q. get-put t p (at t p) q ∙
      elim (behind p q) as (λ o. behind p q ≡ o → at_rest o (get (at t p)) (get t q) ≡ get t q) [
        | None ↦ λ e. refl
        | Some r ↦ λ e. get-at t p r ∙ ap (get t) (sym (behind-Some p q r e))
      ] refl)

  -- every path that p doesn't cover keeps its node
  pub kept-put : (t : FinMap path_cmp X) (p : Path) (s : FinMap path_cmp X) (q : Path) → covers p q ≡ false → get (put t p s) q ≡ get t q
  kept-put t p s q h = get-put t p s q ∙ elim (behind p q) as (λ o. is_some o ≡ false → at_rest o (get s) (get t q) ≡ get t q) [ None ↦ λ _. refl | Some r ↦ λ e. cc ] h

  -- a replacement at p leaves what stands at a path that doesn't overlap it
  pub at-put_apart : (t : FinMap path_cmp X) (p q : Path) (s : FinMap path_cmp X) → overlap p q ≡ false → at (put t p s) q ≡ at t q
  at-put_apart t p q s h = same_map path_total path_exact _ _ (λ r. get-at (put t p s) q r ∙ kept-put t p s (q ++ r) (not_covered p q r h) ∙ sym (get-at t q r))

  -- what q covers of what p covers is what p and then q covers
  pub at-at : (t : FinMap path_cmp X) (p q : Path) → at (at t p) q ≡ at t (p ++ q)
  at-at t p q = same_map path_total path_exact _ _ (λ r. get-at (at t p) q r ∙ get-at t p (q ++ r) ∙ ap (get t) (sym (append_assoc p q r)) ∙ sym (get-at t (p ++ q) r))
