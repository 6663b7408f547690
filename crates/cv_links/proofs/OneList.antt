-- An id stands in at most one list of a lane, and an empty chain is a chain of every arena.
use Rattle.std.proofs.Common.{◌≡◌, ◌⊎◌, ◌≤◌, ℕ, zero, suc, ◌+◌, List, [], ◌∷◌, ◌++◌, length, Option, Some, None, refl, sym, ap, subst, ◌∙◌, inl, inr, arith, Contains}
use Rattle.std.proofs.lemmas.Option.{same_Some}
use Rattle.std.proofs.lemmas.List.{append_assoc, length-append}
use Rattle.cv_links.specs.declared.id.Id.{Id}
use Rattle.cv_links.specs.declared.links.Link.{Link}
use Rattle.cv_links.specs.declared.links.Link.TheVariants.{Free, Held}
use Rattle.cv_links.specs.declared.arena.Arena.{Arena}
use Rattle.cv_links.specs.declared.chain.Chain.{Chain}
use Rattle.cv_links.specs.Arena.{link_at}
use Rattle.cv_links.specs.Chains.{head_or, last_or, Runs, IsList, IsChain, IsEmpty, list_of}
use Rattle.cv_links.proofs.Segments.{runs_cut, last_or-append}
use Rattle.cv_links.proofs.Lists.{split, same_follow, is_chain, list_is}

-- the id before one that stands so
abbrev before_of : Option Link → Option Id
before_of None = None
before_of (Some Free) = None
before_of (Some (Held before after)) = before

unsnoc : (xs : List Id) → (xs ≡ []) ⊎ ((front : List Id) × (last : Id) × (xs ≡ front ++ last ∷ []))
unsnoc [] = inl refl
unsnoc (x ∷ xs) =
    elim (unsnoc xs) [
      | inl none ↦ inr ([], x, ap (λ ys. x ∷ ys) none)
      | inr some ↦ inr (x ∷ some.0, some.1, ap (λ ys. x ∷ ys) some.2)
    ]

-- what comes before an id is the same in both
same_last : (f : Id → Option Link) (us vs bs cs : List Id) (i : Id) → Runs f None (us ++ i ∷ bs) None → Runs f None (vs ++ i ∷ cs) None → last_or us None ≡ last_or vs None
same_last f us vs bs cs i r s =
    let fu = (runs_cut f us (i ∷ bs) None None r).1.0 in
    let fv = (runs_cut f vs (i ∷ cs) None None s).1.0 in
    ap before_of (sym fu ∙ fv)

last_of : (us g : List Id) (l : Id) → us ≡ g ++ l ∷ [] → last_or us None ≡ Some l
last_of us g l e = ap (λ xs. last_or xs None) e ∙ last_or-append g (l ∷ []) None

-- two lists that share an id begin alike
same_head : (f : Id → Option Link) (n : ℕ) (us vs bs cs : List Id) (i : Id) → length us ≤ n → Runs f None (us ++ i ∷ bs) None → Runs f None (vs ++ i ∷ cs) None
    → (us ≡ []) ⊎ ((g : List Id) × (l : Id) × (us ≡ g ++ l ∷ [])) → (vs ≡ []) ⊎ ((g : List Id) × (l : Id) × (vs ≡ g ++ l ∷ []))
    → head_or (us ++ i ∷ bs) None ≡ head_or (vs ++ i ∷ cs) None
same_head f n us vs bs cs i short r s (inl a) (inl b) = ap (λ xs. head_or (xs ++ i ∷ bs) None) a ∙ sym (ap (λ xs. head_or (xs ++ i ∷ cs) None) b)
same_head f n us vs bs cs i short r s (inl a) (inr b) =
    let none : last_or us None ≡ None = ap (λ xs. last_or xs None) a in
    let some = last_of vs b.0 b.1 b.2 in
    let lasts = same_last f us vs bs cs i r s in
    absurd (cc)
same_head f n us vs bs cs i short r s (inr a) (inl b) =
    let none : last_or vs None ≡ None = ap (λ xs. last_or xs None) b in
    let some = last_of us a.0 a.1 a.2 in
    let lasts = same_last f us vs bs cs i r s in
    absurd (cc)
same_head f zero us vs bs cs i short r s (inr a) (inr b) =
    let long : length us ≡ length a.0 + 1 = ap length a.2 ∙ length-append a.0 (a.1 ∷ []) in
    absurd (omega (arith, long, short))
same_head f (suc n) us vs bs cs i short r s (inr a) (inr b) =
    let ends : a.1 ≡ b.1 = same_Some a.1 b.1 (sym (last_of us a.0 a.1 a.2) ∙ same_last f us vs bs cs i r s ∙ last_of vs b.0 b.1 b.2) in
    let long : length us ≡ length a.0 + 1 = ap length a.2 ∙ length-append a.0 (a.1 ∷ []) in
    let whole_left : us ++ i ∷ bs ≡ a.0 ++ a.1 ∷ i ∷ bs = ap (λ xs. xs ++ i ∷ bs) a.2 ∙ append_assoc a.0 (a.1 ∷ []) (i ∷ bs) in
    let whole_right : vs ++ i ∷ cs ≡ b.0 ++ a.1 ∷ i ∷ cs = ap (λ xs. xs ++ i ∷ cs) b.2 ∙ append_assoc b.0 (b.1 ∷ []) (i ∷ cs) ∙ ap (λ l. b.0 ++ l ∷ i ∷ cs) (sym ends) in
    ap (λ xs. head_or xs None) whole_left
    ∙ same_head f n a.0 b.0 (i ∷ bs) (i ∷ cs) a.1 (omega (arith, long, short)) (subst (λ xs. Runs f None xs None) whole_left r) (subst (λ xs. Runs f None xs None) whole_right s) (unsnoc a.0) (unsnoc b.0)
    ∙ ap (λ xs. head_or xs None) (sym whole_right)

module _ {T : Type 0} where
  -- two chains of a lane that share an id have one list
  pub one_list : (a : Arena T) (c d : Chain) (i : Id) → IsChain a c → IsChain a d → c.lane ≡ d.lane → Contains (list_of a c) i → Contains (list_of a d) i → list_of a c ≡ list_of a d
  one_list a c d i is js lanes p q =
      let f = link_at a d.lane in
      let u = split (list_of a c) i p in
      let v = split (list_of a d) i q in
      let r : Runs f None (list_of a c) None = subst (λ lane. Runs (link_at a lane) None (list_of a c) None) lanes is.runs in
      let heads = same_head f (length u.0) u.0 v.0 u.1 v.1 i (omega arith) (subst (λ xs. Runs f None xs None) u.2 r) (subst (λ xs. Runs f None xs None) v.2 js.runs) (unsnoc u.0) (unsnoc v.0) in
      same_follow f (list_of a c) (list_of a d) None None (ap (λ xs. head_or xs None) u.2 ∙ heads ∙ ap (λ xs. head_or xs None) (sym v.2)) r js.runs

  -- an empty chain is of every arena
  pub empty_list : (a : Arena T) (c : Chain) → IsEmpty c → IsChain a c × (list_of a c ≡ [])
  empty_list a c empty =
      let l : IsList a c [] = record { first = empty.first; last = empty.last; runs = tt; apart = tt } in
      (is_chain a c [] l, list_is a c [] l)
