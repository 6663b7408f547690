-- The cuts that cover a path, and the nearest of them.
use Rattle.std.proofs.Common.{◌≡◌, ℕ, zero, suc, ◌≤◌, Bool, true, false, List, [], ◌∷◌, ◌++◌, length, map, refl, sym, ap, subst, ◌∙◌, append-nil, append_assoc, length-append, arith, inl, inr}
use Rattle.std.specs.List.{filter}
use Rattle.std.proofs.lemmas.List.{map-append}
use Rattle.std.proofs.lemmas.List.Elements.{filter-append}
use Rattle.cv_base.specs.Path.{Path}
use Rattle.cv_base.proofs.Laws.{same_parts}
use Rattle.cv_tree.specs.Tree.{Nodes, at}
use Rattle.cv_cut.specs.Cuts.{is_cut, is_marked}
use Rattle.cv_cut.specs.Over.{beginnings, cuts_over, IsNearest}
use Rattle.cv_cut.proofs.Ends.{root_or_last, last_some, near_below}
use Rattle.cv_cut.proofs.Between.{marked-at, cut_marked}

-- ---- one name more

pub beginnings-append : (p : Path) (a : List _) → beginnings (p ++ a ∷ []) ≡ beginnings p ++ (p ++ a ∷ []) ∷ []
beginnings-append [] a = refl
beginnings-append (b ∷ p) a =
    ap (λ (w : List Path). [] ∷ map (λ (q : Path). b ∷ q) w) (beginnings-append p a)
    ∙ ap (λ (w : List Path). [] ∷ w) (map-append (λ (q : Path). b ∷ q) (beginnings p) ((p ++ a ∷ []) ∷ []))

filter_one : {X : Type 0} (p : X → Bool) (x : X) (b : Bool) → p x ≡ b → (b ≡ true → filter p (x ∷ []) ≡ x ∷ []) × (b ≡ false → filter p (x ∷ []) ≡ [])
filter_one p x true h = (λ e. rw h refl, λ e. absurd cc)
filter_one p x false h = (λ e. absurd cc, λ e. rw h refl)

over-append : (t : Nodes) (p : Path) (a : List _) → cuts_over t (p ++ a ∷ []) ≡ cuts_over t p ++ filter (is_cut t) ((p ++ a ∷ []) ∷ [])
over-append t p a = ap (filter (is_cut t)) (beginnings-append p a) ∙ filter-append (is_cut t) (beginnings p) ((p ++ a ∷ []) ∷ [])

-- below a directory that is no cut the same cuts cover a path
pub same_over : (t : Nodes) (p : Path) (a : List _) → is_cut t (p ++ a ∷ []) ≡ false → cuts_over t (p ++ a ∷ []) ≡ cuts_over t p
same_over t p a plain = over-append t p a ∙ ap (λ (w : List Path). cuts_over t p ++ w) ((filter_one (is_cut t) (p ++ a ∷ []) false plain).1 refl) ∙ append-nil (cuts_over t p)

-- a cut comes last
pub more_over : (t : Nodes) (p : Path) (a : List _) → is_cut t (p ++ a ∷ []) ≡ true → cuts_over t (p ++ a ∷ []) ≡ cuts_over t p ++ (p ++ a ∷ []) ∷ []
more_over t p a cut = over-append t p a ∙ ap (λ (w : List Path). cuts_over t p ++ w) ((filter_one (is_cut t) (p ++ a ∷ []) true cut).0 refl)

-- ---- the nearest cut

pub same_ends : {X : Type 0} (a b : List X) (x y : X) → a ++ x ∷ [] ≡ b ++ y ∷ [] → (a ≡ b) × (x ≡ y)
same_ends a b x y h =
    let size : length a ≡ length b = omega (arith, ap length h, length-append a (x ∷ []), length-append b (y ∷ [])) in
    let parts = same_parts (length b) a b (x ∷ []) (y ∷ []) size refl h in
    (parts.0, let e : x ∷ [] ≡ y ∷ [] = parts.1 in cc)

itself : (t : Nodes) (p : Path) → is_cut t p ≡ true → IsNearest t p p
itself t p cut = record { cut = cut; rest = []; is = sym (append-nil p); near = refl; free = λ some. absurd (some refl) }

-- below a directory that is no cut the same cut is the nearest
pub nearest_below : (t : Nodes) (c p : Path) (a : List _) → IsNearest t c p → is_cut t (p ++ a ∷ []) ≡ false → IsNearest t c (p ++ a ∷ [])
nearest_below t c p a n plain =
    let place : p ++ a ∷ [] ≡ c ++ (n.rest ++ a ∷ []) = ap (λ (w : Path). w ++ a ∷ []) n.is ∙ append_assoc c n.rest (a ∷ []) in
    record {
      cut = n.cut;
      rest = n.rest ++ a ∷ [];
      is = place;
      near = near_below (at t c) n.rest a n.near n.free;
      free = λ some. sym (marked-at t c (n.rest ++ a ∷ [])) ∙ ap (is_marked t) (sym place) ∙ sym (cut_marked t (p ++ a ∷ []) (last_some p a)) ∙ plain;
    }

at_root : (t : Nodes) (p : Path) (front : List Path) (c : Path) → p ≡ [] → cuts_over t p ≡ front ++ c ∷ [] → IsNearest t c p
at_root t p front c none is =
    let one : [] ++ [] ∷ [] ≡ front ++ c ∷ [] = ap (cuts_over t) (sym none) ∙ is in
    let top : [] ≡ c = (same_ends [] front [] c one).1 in
    subst (λ (w : Path). IsNearest t w p) top (subst (λ (w : Path). IsNearest t [] w) (sym none) (itself t [] refl))

one_more : (t : Nodes) (q : Path) (a : List _) (front : List Path) (c : Path) → (cuts_over t q ≡ front ++ c ∷ [] → IsNearest t c q) → cuts_over t (q ++ a ∷ []) ≡ front ++ c ∷ [] → (b : Bool) → is_cut t (q ++ a ∷ []) ≡ b → IsNearest t c (q ++ a ∷ [])
one_more t q a front c before over true cut =
    let top : q ++ a ∷ [] ≡ c = (same_ends (cuts_over t q) front (q ++ a ∷ []) c (sym (more_over t q a cut) ∙ over)).1 in
    subst (λ (w : Path). IsNearest t w (q ++ a ∷ [])) top (itself t (q ++ a ∷ []) cut)
one_more t q a front c before over false plain = nearest_below t c q a (before (sym (same_over t q a plain) ∙ over)) plain

nearest_by : (t : Nodes) (k : ℕ) (p : Path) → length p ≤ k → (front : List Path) (c : Path) → cuts_over t p ≡ front ++ c ∷ [] → IsNearest t c p
nearest_by t zero p le front c is =
    elim (root_or_last p) [
      | inl none ↦ at_root t p front c none is
      | inr l ↦ absurd (omega (arith, ap length l.is, length-append l.front (l.name ∷ [])))
    ]
nearest_by t (suc k) p le front c is =
    elim (root_or_last p) [
      | inl none ↦ at_root t p front c none is
      | inr l ↦
          let small : length l.front ≤ k = omega (arith, ap length l.is, length-append l.front (l.name ∷ [])) in
          let found = one_more t l.front l.name front c (λ over. nearest_by t k l.front small front c over) (ap (cuts_over t) (sym l.is) ∙ is) (is_cut t (l.front ++ l.name ∷ [])) refl in
          subst (λ (w : Path). IsNearest t c w) (sym l.is) found
    ]

-- the last of the cuts that cover a path is the nearest
pub nearest : (t : Nodes) (p : Path) (front : List Path) (c : Path) → cuts_over t p ≡ front ++ c ∷ [] → IsNearest t c p
nearest t p front c is = nearest_by t (length p) p (omega arith) front c is
