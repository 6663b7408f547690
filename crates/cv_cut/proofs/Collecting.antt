-- The region of a cut, collected from the entries that it covers.
use Rattle.std.proofs.Common.{◌≡◌, ◌<◌, ◌≤◌, true, false, cond, not, List, [], ◌∷◌, ◌++◌, length, get_or, Some, refl, sym, ap, subst, ◌∙◌, append-nil, append_assoc, arith, inl, inr}
use Rattle.std.specs.Prelude.{Contains}
use Rattle.std.specs.declared.cmp.Ordering.{Ordering}
use Rattle.std.specs.declared.cmp.Ordering.TheVariants.{Less, Equal}
use Rattle.std.specs.Ordering.{is_lt, ordering_reverse}
use Rattle.std.specs.Cmp.{tied_itself}
use Rattle.std.specs.List.{filter}
use Rattle.std.specs.FinMap.{get, entries, is_sorted, entries_sorted}
use Rattle.std.specs.FinMap.Entries.{below_all}
use Rattle.std.proofs.lemmas.Bool.{not-false}
use Rattle.std.proofs.lemmas.List.{nil_from_length}
use Rattle.std.proofs.lemmas.List.Elements.{All-contains, Contains-append_left, Contains-append_right, Contains-get_or}
use Rattle.std.proofs.lemmas.List.Filters.{length-filter_both}
use Rattle.cv_base.specs.Path.{Path, path_cmp, covers}
use Rattle.cv_base.proofs.Laws.{first_true, second_true, covers_through, path_total}
use Rattle.cv_tree.proofs.Laws.{covers_before}
use Rattle.cv_tree.specs.Tree.{Nodes}
use Rattle.cv_tree.specs.declared.node.Node.{Node}
use Rattle.cv_cut.specs.Cut.{is_other, region_at}
use Rattle.cv_cut.specs.CutInner.{StandFrom}
use Rattle.cv_cut.proofs.Members.{first_there, later_there, first_or_later, passes, passing}
use Rattle.cv_cut.proofs.Entries.{below_each}
use Rattle.cv_cut.proofs.Between.{below_covered, other_stands, not_in_region, in_region, outside}
use Rattle.cv_cut.proofs.RegionPaths.{is_in_region, region_is}
use Rattle.cv_cut.proofs.Standing.{region_stands}
use Rattle.cv_cut.proofs.Sides.{filter_within, sorted_filter}
use Rattle.cv_cut.proofs.Bools.{false_not, so}

-- what was found, and what is left of the entries that the cut covers: each other cut that covers one of those is still
-- among them
pub record Collects (t : Nodes) (c : Path) (found rest : List (Path × Node)) : Type 0 where
  pub all : found ++ filter (λ e. is_in_region t c e.0) rest ≡ region_at t c
  pub covered : (e : Path × Node) → Contains rest e → covers c e.0 ≡ true
  pub rises : is_sorted path_cmp rest ≡ true
  pub others : (e : Path × Node) → Contains rest e → (d : Path) → is_other t c d ≡ true → covers d e.0 ≡ true → (n : Node) × Contains rest (d, n)

-- what is left behind an entry of the region
abbrev pub left_of : Nodes → Path → Path × Node → List (Path × Node) → List (Path × Node)
left_of t c e more = cond (is_other t c e.0) (filter (λ x. not (covers e.0 x.0)) more) more

pub sorted_entries : (t : Nodes) (es : List (Path × Node)) → es ≡ entries t → is_sorted path_cmp es ≡ true
sorted_entries t es is = ap (is_sorted path_cmp) is ∙ so _ (entries_sorted t)

pub none_found : (t : Nodes) (c : Path) (es found rest : List (Path × Node)) → found ≡ [] → es ≡ entries t → rest ≡ filter (λ e. covers c e.0) es → Collects t c found rest
none_found t c es found rest none es-is is = subst (λ fs. Collects t c fs rest) (sym none) (subst (Collects t c []) (sym (is ∙ ap (filter (λ e. covers c e.0)) es-is)) (record {
  all = filter_within (λ e. is_in_region t c e.0) (λ e. covers c e.0) (entries t) (λ e has. outside t c e.0) ∙ region_is t c;
  covered = λ e has. (passes (λ e. covers c e.0) (entries t) e has).1;
  rises = sorted_filter (covers c) (entries t) (so _ (entries_sorted t));
  others = λ e has d other covered. let n = other_stands t c d other in (n.0, passing (λ e. covers c e.0) (entries t) (d, n.0) n.1 (below_covered t c d other));
}))

module _ (t : Nodes) (c : Path) (found : List (Path × Node)) (e : Path × Node) (more : List (Path × Node)) (has : Collects t c found (e ∷ more)) where
  -- the others stand behind the first
  behind : (x : Path × Node) → Contains more x → path_cmp e.0 x.0 ≡ Less
  behind x there = below_each path_cmp e.0 more x.0 x.1 (first_true (below_all path_cmp e.0 more) (is_sorted path_cmp more) has.rises) there

  stands_first : StandFrom e.0 more
  stands_first = record {
    rises = second_true (below_all path_cmp e.0 more) (is_sorted path_cmp more) has.rises;
    from = λ k d lt. (let x = get_or more k d in ap (λ o. not (is_lt o)) (path_total.antisymm x.0 e.0 ∙ ap ordering_reverse (behind x (Contains-get_or more k d lt))));
  }

  covers_first : covers c e.0 ≡ true
  covers_first = has.covered e (first_there e more)

  -- the first is in the region: another cut that covers it would stand before it
  first_in : is_in_region t c e.0 ≡ true
  first_in = in_region t c e.0 covers_first (λ d other covered differs.
      let there = has.others e (first_there e more) d other covered in
      elim (first_or_later e more (d, there.0) there.1) [
        | inl same ↦ differs (ap (λ (x : Path × Node). x.0) (sym same))
        | inr later ↦ let no_way : true ≡ false = sym (ap is_lt (behind (d, there.0) later)) ∙ covers_before d e.0 covered in cc
      ])

  one_more : (rest : List (Path × Node)) → filter (λ x. is_in_region t c x.0) rest ≡ filter (λ x. is_in_region t c x.0) more → (found ++ e ∷ []) ++ filter (λ x. is_in_region t c x.0) rest ≡ region_at t c
  one_more rest same =
      append_assoc found (e ∷ []) (filter (λ x. is_in_region t c x.0) rest)
      ∙ ap (λ w. found ++ e ∷ w) same
      ∙ ap (λ w. found ++ w) (sym (ap (λ b. cond b (e ∷ filter (λ x. is_in_region t c x.0) more) (filter (λ x. is_in_region t c x.0) more)) first_in))
      ∙ has.all

  -- its node stands in the tree
  stands_there : get t e.0 ≡ Some e.1
  stands_there =
      let found_it = Contains-append_left (found ++ e ∷ []) (filter (λ x. is_in_region t c x.0) more) e (Contains-append_right found (e ∷ []) e (first_there e [])) in
      All-contains (λ (x : Path × Node). get t x.0 ≡ Some x.1) (region_at t c) e (region_stands t c (region_at t c) refl) (subst (λ es. Contains es e) (one_more more refl) found_it)

  -- where it is no other cut, all others are left
  without_one : is_other t c e.0 ≡ false → Collects t c (found ++ e ∷ []) more
  without_one unmarked = record {
    all = one_more more refl;
    covered = λ x there. has.covered x (later_there e more x there);
    rises = stands_first.rises;
    others = λ x there d other covered.
        let o = has.others x (later_there e more x there) d other covered in (
          o.0,
          elim (first_or_later e more (d, o.0) o.1) [
            | inl same ↦ let no_way : true ≡ false = sym other ∙ ap (λ (x : Path × Node). is_other t c x.0) (sym same) ∙ unmarked in cc
            | inr later ↦ later
          ],
        );
  }

  covered_one : (x : Path × Node) → not (covers e.0 x.0) ≡ true → covers e.0 x.0 ≡ true → ⊥
  covered_one x free below = let no_way : false ≡ true = ap not (sym below) ∙ free in cc

  -- where it is one, those that it doesn't cover
  without_all : is_other t c e.0 ≡ true → Collects t c (found ++ e ∷ []) (filter (λ x. not (covers e.0 x.0)) more)
  without_all other_one = record {
    all = one_more (filter (λ x. not (covers e.0 x.0)) more) (filter_within (λ x. is_in_region t c x.0) (λ x. not (covers e.0 x.0)) more (λ x there below.
        not_in_region t c e.0 x.0 (has.covered x (later_there e more x there)) other_one (not-false (covers e.0 x.0) below) (λ same. not_same _ (behind x there) (ap (path_cmp e.0) (sym same) ∙ tied_itself path_total e.0))));
    covered = λ x there. has.covered x (later_there e more x (passes (λ x. not (covers e.0 x.0)) more x there).0);
    rises = sorted_filter (λ q. not (covers e.0 q)) more stands_first.rises;
    others = λ x there d other covered.
        let p = passes (λ x. not (covers e.0 x.0)) more x there in
        let o = has.others x (later_there e more x p.0) d other covered in (
          o.0,
          elim (first_or_later e more (d, o.0) o.1) [
            | inl same ↦ absurd (covered_one x p.1 (ap (λ (y : Path × Node). covers y.0 x.0) same ∙ covered))
            | inr later ↦ passing (λ x. not (covers e.0 x.0)) more (d, o.0) later (false_not (covers e.0 d) (λ h. covered_one x p.1 (covers_through e.0 d x.0 h covered)))
          ],
        );
  }
    where
      not_same : (o : Ordering) → o ≡ Less → o ≡ Equal → ⊥
      not_same o h k = let no_way : Less ≡ Equal = sym h ∙ k in cc

  step : Collects t c (found ++ e ∷ []) (left_of t c e more)
  step = elim (is_other t c e.0) as (λ b. is_other t c e.0 ≡ b → Collects t c (found ++ e ∷ []) (cond b (filter (λ x. not (covers e.0 x.0)) more) more)) [
    | true ↦ without_all
    | false ↦ without_one
  ] refl

-- ---- by what the loop reads

module _ (t : Nodes) (c : Path) (found rest : List (Path × Node)) (e : Path × Node) (more : List (Path × Node)) where
  pub first_covered : Collects t c found rest → rest ≡ e ∷ more → covers c e.0 ≡ true
  first_covered has is = covers_first t c found e more (subst (Collects t c found) is has)

  pub first_stands : Collects t c found rest → rest ≡ e ∷ more → get t e.0 ≡ Some e.1
  first_stands has is = stands_there t c found e more (subst (Collects t c found) is has)

  pub stand_behind : Collects t c found rest → rest ≡ e ∷ more → StandFrom e.0 more
  stand_behind has is = stands_first t c found e more (subst (Collects t c found) is has)

  pub next_found : (now left : List (Path × Node)) → Collects t c found rest → rest ≡ e ∷ more → now ≡ found ++ e ∷ [] → left ≡ left_of t c e more → Collects t c now left
  next_found now left has is now-is left-is = subst (λ fs. Collects t c fs left) (sym now-is) (subst (Collects t c (found ++ e ∷ [])) (sym left-is) (step t c found e more (subst (Collects t c found) is has)))

-- fewer are left
pub fewer : (t : Nodes) (c : Path) (rest left : List (Path × Node)) (e : Path × Node) (more : List (Path × Node)) → rest ≡ e ∷ more → left ≡ left_of t c e more → length left < length rest
fewer t c rest left e more is left-is =
    let short : length (left_of t c e more) ≤ length more = elim (is_other t c e.0) as (λ b. length (cond b (filter (λ x. not (covers e.0 x.0)) more) more) ≤ length more) [
      | true ↦ omega (arith, length-filter_both (λ x. covers e.0 x.0) (λ x. not (covers e.0 x.0)) (λ x. refl) more)
      | false ↦ omega arith
    ] in
    omega (arith, short, ap length is, ap length left-is)

-- nothing is left
pub all_found : (t : Nodes) (c : Path) (found rest : List (Path × Node)) → Collects t c found rest → length rest ≡ 0 → found ≡ region_at t c
all_found t c found rest has none = sym (append-nil found) ∙ ap (λ es. found ++ filter (λ e. is_in_region t c e.0) es) (sym (nil_from_length rest none)) ∙ has.all
