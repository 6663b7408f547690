-- Which paths below a cut are near it: those with no other cut between.
use Rattle.std.proofs.Common.{◌≡◌, ◌≢◌, Bool, true, false, not, ◌&&◌, Option, None, Some, List, [], ◌∷◌, ◌++◌, map, refl, sym, ap, subst, ◌∙◌, append-nil, append_assoc, is_some, inl, inr}
use Rattle.std.specs.Prelude.{Contains, unwrap_or}
use Rattle.std.specs.List.{list_all}
use Rattle.std.specs.FinMap.{get, entries, keys}
use Rattle.std.proofs.lemmas.List.Folds.{list_all_at}
use Rattle.cv_base.specs.Marker.{marker}
use Rattle.cv_base.specs.Path.{Path, covers, behind}
use Rattle.cv_base.proofs.Laws.{behind-Some, behind-append, first_true, some_there, path_exact}
use Rattle.cv_tree.specs.Tree.{Nodes, at, is_directory, is_file}
use Rattle.cv_tree.specs.declared.node.Node.{Node}
use Rattle.cv_tree.proofs.Laws.{get-at, some_directory}
use Rattle.cv_cut.specs.Cuts.{is_marked, is_cut, is_inner, is_near, cuts_of, between}
use Rattle.cv_cut.specs.Cut.{is_other}
use Rattle.cv_cut.proofs.Members.{none_there, first_there, later_there, first_or_later, comes_from, goes_to, passing}
use Rattle.cv_cut.proofs.Entries.{has_entry}
use Rattle.cv_cut.proofs.RegionLists.{inner_is, is_inner_}
use Rattle.cv_cut.proofs.RegionPaths.{is_in_region, near_rest}
use Rattle.cv_cut.proofs.Bools.{false_not}
use Rattle.cv_cut.proofs.Ends.{same_rest}

-- ---- the paths between

pub between_has : (r s : Path) → r ≢ [] → s ≢ [] → Contains (between (r ++ s)) r
between_has [] s some more = absurd (some refl)
between_has (a ∷ []) [] some more = absurd (more refl)
between_has (a ∷ []) (b ∷ s) some more = first_there (a ∷ []) (map (λ q. a ∷ q) (between (b ∷ s)))
between_has (a ∷ b ∷ r) s some more =
    later_there (a ∷ []) (map (λ q. a ∷ q) (between (b ∷ r ++ s))) (a ∷ b ∷ r) (goes_to (λ q. a ∷ q) (between (b ∷ r ++ s)) (b ∷ r) (between_has (b ∷ r) s (λ e. cc) more))

pub record StandsBetween (q r : Path) : Type 0 where
  pub rest : Path
  pub is : q ≡ r ++ rest
  pub some : r ≢ []
  pub more : rest ≢ []

pub between_is : (q r : Path) → Contains (between q) r → StandsBetween q r
between_is [] r has = absurd (none_there r has)
between_is (a ∷ []) r has = absurd (none_there r has)
between_is (a ∷ b ∷ q) r has =
    elim (first_or_later (a ∷ []) (map (λ p. a ∷ p) (between (b ∷ q))) r has) [
      | inl same ↦ record { rest = b ∷ q; is = ap (λ (x : Path). x ++ b ∷ q) same; some = λ none. (let e : a ∷ [] ≡ [] = same ∙ none in cc); more = λ e. cc }
      | inr later ↦
          let from = comes_from (λ p. a ∷ p) (between (b ∷ q)) r later in
          let rest = between_is (b ∷ q) from.0 from.1 in
          record {
            rest = rest.rest;
            is = ap (λ (x : Path). a ∷ x) rest.is ∙ ap (λ (x : Path). x ++ rest.rest) from.2;
            some = λ none. (let e : a ∷ from.0 ≡ [] = from.2 ∙ none in cc);
            more = rest.more;
          }
    ]

-- ---- other cuts

-- what is marked below a path
pub marked-at : (u : Nodes) (r q : Path) → is_marked u (r ++ q) ≡ is_marked (at u r) q
marked-at u r q =
    let there = sym (get-at u r q) in
    let file = ap (get u) (append_assoc r q (marker ∷ [])) ∙ sym (get-at u r (q ++ marker ∷ [])) in
    λ i. is_directory (there i) && is_file (file i)

-- what is behind a path that covers another
pub behind_it : (p q : Path) → covers p q ≡ true → (r : Path) × (behind p q ≡ Some r)
behind_it p q h = some_rest (behind p q) h
  where
    some_rest : (o : Option Path) → is_some o ≡ true → (r : Path) × (o ≡ Some r)
    some_rest None h = cc
    some_rest (Some r) h = (r, refl)

-- another cut below the one at c is a marked directory there
pub record StandsBelow (t : Nodes) (c d : Path) : Type 0 where
  pub rest : Path
  pub is : d ≡ c ++ rest
  pub some : rest ≢ []
  pub marked : is_marked t d ≡ true

pub stands_below : (t : Nodes) (c d : Path) → is_other t c d ≡ true → StandsBelow t c d
stands_below t c d other = by_rest (behind c d) refl other
  where
    by_rest : (o : Option Path) → behind c d ≡ o → is_inner (at t c) (unwrap_or o []) ≡ true → StandsBelow t c d
    by_rest None e h = absurd ((inner_is (at t c) [] h).0 refl)
    by_rest (Some r) e h =
        let is = behind-Some c d r e in
        let inner = inner_is (at t c) r h in
        record { rest = r; is = is; some = inner.0; marked = ap (is_marked t) is ∙ marked-at t c r ∙ inner.1 }

-- the cut covers it
pub below_covered : (t : Nodes) (c d : Path) → is_other t c d ≡ true → covers c d ≡ true
below_covered t c d other = let o = stands_below t c d other in ap (covers c) o.is ∙ ap is_some (behind-append c o.rest)

other_there : (t : Nodes) (c r : Path) → r ≢ [] → is_marked (at t c) r ≡ true → is_other t c (c ++ r) ≡ true
other_there t c r some marked = ap (λ o. is_inner (at t c) (unwrap_or o [])) (behind-append c r) ∙ is_inner_ (at t c) r some marked

pub cut_marked : (t : Nodes) (d : Path) → d ≢ [] → is_cut t d ≡ is_marked t d
cut_marked t [] some = absurd (some refl)
cut_marked t (a ∷ d) some = refl

-- it is an entry of the tree
pub other_stands : (t : Nodes) (c d : Path) → is_other t c d ≡ true → (n : Node) × Contains (entries t) (d, n)
other_stands t c d other =
    let n = some_there (get t d) (some_directory (get t d) (first_true _ _ (stands_below t c d other).marked)) in
    (n.0, has_entry path_exact t d n.0 n.1)

-- and among the cuts
pub other_cut : (t : Nodes) (c d : Path) → is_other t c d ≡ true → Contains (cuts_of t) d
other_cut t c d other =
    let o = stands_below t c d other in
    let e = other_stands t c d other in
    passing (is_cut t) (keys t) d (goes_to (λ e. e.0) (entries t) (d, e.0) e.1) (cut_marked t d (λ none. o.some (nothing_behind c o.rest (sym o.is ∙ none))) ∙ o.marked)
  where
    nothing_behind : (c r : Path) → c ++ r ≡ [] → r ≡ []
    nothing_behind [] r h = h
    nothing_behind (a ∷ c) r h = cc

-- ---- near paths

each_pass : (p : Path → Bool) (xs : List Path) → ((x : Path) → Contains xs x → p x ≡ true) → list_all p xs ≡ true
each_pass p [] h = refl
each_pass p (x ∷ xs) h = rw (h x (first_there x xs)) (each_pass p xs (λ y has. h y (later_there x xs y has)))

-- below another cut no path is near
not_near : (t : Nodes) (c d q : Path) → is_other t c d ≡ true → covers d (c ++ q) ≡ true → d ≢ c ++ q → is_near (at t c) q ≡ false
not_near t c d q other covered differs =
    let o = stands_below t c d other in
    let s = behind_it d (c ++ q) covered in
    let p-is : c ++ q ≡ d ++ s.0 = behind-Some d (c ++ q) s.0 s.1 in
    let q-is : q ≡ o.rest ++ s.0 = same_rest c q (o.rest ++ s.0) (p-is ∙ ap (λ (x : Path). x ++ s.0) o.is ∙ append_assoc c o.rest s.0) in
    let more : s.0 ≢ [] = λ none. differs (sym (p-is ∙ ap (λ (x : Path). d ++ x) none ∙ append-nil d)) in
    let here : Contains (between q) o.rest = subst (λ (x : Path). Contains (between x) o.rest) (sym q-is) (between_has o.rest s.0 o.some more) in
    let marked : is_marked (at t c) o.rest ≡ true = sym (marked-at t c o.rest) ∙ ap (is_marked t) (sym o.is) ∙ o.marked in
    list_all_at (λ x. not (is_marked (at t c) x)) (between q) here.0 o.rest here.1 (ap (λ x. not (is_marked (at t c) x)) here.2 ∙ ap not marked)

-- and all others are
near : (t : Nodes) (c q : Path) → ((d : Path) → is_other t c d ≡ true → covers d (c ++ q) ≡ true → d ≢ c ++ q → ⊥) → is_near (at t c) q ≡ true
near t c q none = each_pass (λ r. not (is_marked (at t c) r)) (between q) (λ r has. false_not (is_marked (at t c) r) (λ marked.
    let s = between_is q r has in
    let p-is : c ++ q ≡ (c ++ r) ++ s.rest = ap (λ (x : Path). c ++ x) s.is ∙ sym (append_assoc c r s.rest) in
    none (c ++ r) (other_there t c r s.some marked) (ap (covers (c ++ r)) p-is ∙ ap is_some (behind-append (c ++ r) s.rest)) (λ same. s.more (sym (same_rest r [] s.rest (append-nil r ∙ same_rest c r q same ∙ s.is))))))

pub not_in_region : (t : Nodes) (c d p : Path) → covers c p ≡ true → is_other t c d ≡ true → covers d p ≡ true → d ≢ p → is_in_region t c p ≡ false
not_in_region t c d p below other covered differs =
    let r = behind_it c p below in
    let p-is = behind-Some c p r.0 r.1 in
    ap (near_rest (at t c)) r.1 ∙ not_near t c d r.0 other (ap (covers d) (sym p-is) ∙ covered) (λ same. differs (same ∙ sym p-is))

pub in_region : (t : Nodes) (c p : Path) → covers c p ≡ true → ((d : Path) → is_other t c d ≡ true → covers d p ≡ true → d ≢ p → ⊥) → is_in_region t c p ≡ true
in_region t c p below none =
    let r = behind_it c p below in
    let p-is = behind-Some c p r.0 r.1 in
    ap (near_rest (at t c)) r.1 ∙ near t c r.0 (λ d other covered differs. none d other (ap (covers d) p-is ∙ covered) (λ same. differs (same ∙ p-is)))

-- what the cut doesn't cover isn't in its region
pub outside : (t : Nodes) (c p : Path) → covers c p ≡ false → is_in_region t c p ≡ false
outside t c p h = by_rest (behind c p) h
  where
    by_rest : (o : Option Path) → is_some o ≡ false → near_rest (at t c) o ≡ false
    by_rest None h = refl
    by_rest (Some r) h = cc
