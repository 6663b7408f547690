-- Names as a place comes to them or leaves them.
use Rattle.std.proofs.Common.{◌≡◌, ◌≢◌, ℕ, ◌<◌, ◌+◌, length, take, get_or, true, false, List, [], ◌∷◌, ◌++◌, Option, None, Some, IfSome, is_some, Contains, sym, ap, subst, ◌∙◌, inl, inr}
use Rattle.std.proofs.lemmas.Option.{none-some, same_Some}
use Rattle.std.proofs.lemmas.List.{take_more}
use Rattle.cv_base.specs.Path.{Path}
use Rattle.cv_links.specs.declared.id.Id.{Id}
use Rattle.cv_links.specs.declared.arena.Arena.{Arena}
use Rattle.cv_links.specs.Arena.{value_at, IsLive}
use Rattle.cv_links.specs.Chains.{AreApart}
use Rattle.cv_links.proofs.Laws.{split, id_cases}
use Rattle.cv_leases.specs.declared.names.Place.{Place}
use Rattle.cv_leases.specs.declared.names.Names.{Names}
use Rattle.cv_leases.specs.Names.{has_name, is_leased, above_of, named, reach, place_of, list_below, below_of, IsTree, IsNames, IsWithin, step}
use Rattle.cv_leases.specs.NamesInner.{SamePlaces, SameLeased, Ends}
use Rattle.cv_leases.proofs.Queues.{absent}
use Rattle.cv_leases.proofs.Reaching.{reach_more, named_kept, named_more, named_new, named_less, reach_kept, reach_less}
use Rattle.cv_leases.proofs.Trees.{IsAttached, known_below}
use Rattle.cv_leases.proofs.Pruned.{IsDetached}
use Rattle.cv_leases.proofs.Needed.{rooted_attached, rooted_detached}

-- ---- a place that came

module _ (a d : Arena Place) (up id : Id) (new : Place) (tree : IsTree a) (h : IsAttached a d up id new) where
  finds : (name : List ℕ) (from x : Id) → named (value_at a) name (below_of a from) ≡ Some x → named (value_at d) name (below_of d from) ≡ Some x
  finds name from x found =
      let same : (i : Id) → Contains (below_of a from) i → has_name name (value_at d i) ≡ has_name name (value_at a i) = λ i m. h.names name i (known_below a tree from i id h.fresh m) in
      elim (id_cases from up) [
        | inl is ↦ subst (λ l. named (value_at d) name l ≡ Some x) (sym (ap (below_of d) is ∙ h.below_up ∙ ap (λ j. below_of a j ++ id ∷ []) (sym is))) (named_more (value_at a) (value_at d) name (below_of a from) (id ∷ []) x same found)
        | inr nu ↦ elim (id_cases from id) [
          | inl is ↦ absurd (none-some x (sym (ap (named (value_at a) name) (ap (below_of a) is ∙ ap (list_below a) h.fresh)) ∙ found))
          | inr ni ↦ ap (named (value_at d) name) (h.below from nu ni) ∙ named_kept (value_at a) (value_at d) name (below_of a from) same ∙ found
        ]
      ]

  pub found_new : (name : List ℕ) → named (value_at a) name (below_of a up) ≡ None → has_name name (Some new) ≡ true → named (value_at d) name (below_of d up) ≡ Some id
  found_new name none has =
      ap (named (value_at d) name) h.below_up
      ∙ named_new (value_at a) (value_at d) name (below_of a up) id (λ i m. h.names name i (known_below a tree up i id h.fresh m)) none (ap (has_name name) h.here ∙ has)

pub places_attached : (old new : Names) (up id : Id) (place : Place) → IsNames old → new.root ≡ old.root → IsAttached old.places new.places up id place → SamePlaces old new
places_attached old new up id place whole root h path x there =
    ap (reach (value_at new.places) (below_of new.places) path) root
    ∙ reach_kept (value_at old.places) (value_at new.places) (below_of old.places) (below_of new.places) (finds old.places new.places up id place whole.tree h) path old.root x there

not_leased : (o : Option Place) → o ≡ None → is_leased o ≡ true → ⊥
not_leased None e l = cc
not_leased (Some place) e l = cc

pub leases_attached : (old new : Names) (up id : Id) (place : Place) → IsNames old → new.root ≡ old.root → place.leased ≡ false → IsAttached old.places new.places up id place → SameLeased old new
leases_attached old new up id place whole root unleased h = record {
  kept = λ path x at. record {
    place = places_attached old new up id place whole root h path x at.place;
    leased = h.leases x (λ e. not_leased (value_at old.places x) (ap (value_at old.places) e ∙ h.fresh) at.leased) ∙ at.leased;
  };
  none = λ x leased. elim (id_cases x id) [
    | inl same ↦ let no : is_leased (value_at new.places x) ≡ false = ap (λ j. is_leased (value_at new.places j)) same ∙ ap is_leased h.here ∙ unleased in absurd cc
    | inr away ↦ sym (h.leases x away) ∙ leased
  ];
}

pub names_attached : (old new : Names) (up id : Id) (place : Place) → IsNames old → new.root ≡ old.root → IsAttached old.places new.places up id place → place.above ≡ Some up → IsWithin old 63 up → IsNames new
names_attached old new up id place whole root h above near = record {
  tree = h.tree;
  root = subst (λ o. IfSome o (λ i. IsLive new.places i × (above_of (value_at new.places i) ≡ None))) (sym root) (each old.root whole.root);
  rooted = rooted_attached old new up id place whole root h above near;
}
  where
    each : (o : Option Id) → IfSome o (λ i. IsLive old.places i × (above_of (value_at old.places i) ≡ None)) → IfSome o (λ i. IsLive new.places i × (above_of (value_at new.places i) ≡ None))
    each None r = tt
    each (Some i) r =
        let away : i ≢ id = λ e. let none : is_some (value_at old.places i) ≡ false = ap is_some (ap (value_at old.places) e ∙ h.fresh) in let live = r.0 in absurd cc in
        (h.lives i away ∙ r.0, h.aboves i away ∙ r.1)

-- ---- a place that left

module _ (a d : Arena Place) (up id : Id) (tree : IsTree a) (h : IsDetached a d up id) where
  loses : (name : List ℕ) (from x : Id) → id ≢ x → named (value_at a) name (below_of a from) ≡ Some x → named (value_at d) name (below_of d from) ≡ Some x
  loses name from x other found =
      elim (id_cases from up) [
        | inl is ↦
            let parts = split (below_of a up) id h.within in
            ap (named (value_at d) name) (ap (below_of d) is ∙ h.below_up parts.0 parts.1 parts.2)
            ∙ named_less (value_at a) (value_at d) name parts.0 parts.1 id x (h.names name) (λ i m. absent parts.0 parts.1 id i (subst AreApart parts.2 h.apart) m) other (ap (named (value_at a) name) (sym (ap (below_of a) is ∙ parts.2)) ∙ found)
        | inr nu ↦ elim (id_cases from id) [
          | inl is ↦ absurd (none-some x (sym (ap (named (value_at a) name) (ap (below_of a) is ∙ h.leaf)) ∙ found))
          | inr ni ↦
              let same : (i : Id) → Contains (below_of a from) i → has_name name (value_at d i) ≡ has_name name (value_at a i) = λ i m. h.names name i (λ e. nu (same_Some from up (sym (tree.below from i m) ∙ ap (λ j. above_of (value_at a j)) e ∙ tree.below up id h.within))) in
              ap (named (value_at d) name) (h.below from nu ni) ∙ named_kept (value_at a) (value_at d) name (below_of a from) same ∙ found
        ]
      ]

pub leases_detached : (old new : Names) (up id : Id) → IsNames old → new.root ≡ old.root → is_leased (value_at old.places id) ≡ false → IsDetached old.places new.places up id → SameLeased old new
leases_detached old new up id whole root unleased h = record {
  kept = λ path x at.
      let away : x ≢ id = λ e. let no : is_leased (value_at old.places x) ≡ false = ap (λ j. is_leased (value_at old.places j)) e ∙ unleased in let yes = at.leased in absurd cc in
      record {
        place =
            ap (reach (value_at new.places) (below_of new.places) path) root
            ∙ reach_less (value_at old.places) (value_at new.places) (below_of old.places) (below_of new.places) id h.leaf (loses old.places new.places up id whole.tree h) path old.root x (λ e. away (sym e)) at.place;
        leased = h.leases x away ∙ at.leased;
      };
  none = λ x leased. elim (id_cases x id) [
    | inl same ↦ absurd (not_leased (value_at new.places x) (ap (value_at new.places) same ∙ h.gone) leased)
    | inr away ↦ sym (h.leases x away) ∙ leased
  ];
}

pub names_detached : (old new : Names) (up id : Id) → IsNames old → new.root ≡ old.root → IsDetached old.places new.places up id → IsNames new
names_detached old new up id whole root h = record {
  tree = h.tree;
  root = subst (λ o. IfSome o (λ i. IsLive new.places i × (above_of (value_at new.places i) ≡ None))) (sym root) (each old.root whole.root);
  rooted = rooted_detached old new up id whole root h;
}
  where
    each : (o : Option Id) → IfSome o (λ i. IsLive old.places i × (above_of (value_at old.places i) ≡ None)) → IfSome o (λ i. IsLive new.places i × (above_of (value_at new.places i) ≡ None))
    each None r = tt
    each (Some i) r =
        let away : i ≢ id = λ e. let below : above_of (value_at old.places i) ≡ Some up = ap (λ j. above_of (value_at old.places j)) e ∙ whole.tree.below up id h.within in let none = r.1 in absurd cc in
        (h.lives i away ∙ r.0, h.aboves i away ∙ r.1)

-- ---- one step after another

pub leased_same : (names : Names) → SameLeased names names
leased_same names = record { kept = λ path id at. at; none = λ id leased. leased }

pub leased_on : (a b c : Names) → SameLeased a b → SameLeased b c → SameLeased a c
leased_on a b c one two = record { kept = λ path id at. two.kept path id (one.kept path id at); none = λ id leased. one.none id (two.none id leased) }

pub ends_on : (a b c : Names) (id : Id) → Ends a b id → SameLeased b c → Ends a c id
ends_on a b c id one two = record { kept = λ path other away at. two.kept path other (one.kept path other away at); none = λ other leased. one.none other (two.none other leased) }

pub root_live : (names : Names) (id : Id) → IsNames names → names.root ≡ Some id → IsLive names.places id
root_live names id whole e = (subst (λ o. IfSome o (λ i. IsLive names.places i × (above_of (value_at names.places i) ≡ None))) e whole.root).0

-- a path with one name more leads on
pub one_more : (names : Names) (path : Path) (name : List ℕ) (from id : Id) → place_of names path ≡ Some from → named (value_at names.places) name (below_of names.places from) ≡ Some id → place_of names (path ++ name ∷ []) ≡ Some id
one_more names path name from id there found =
    reach_more (value_at names.places) (below_of names.places) path name names.root
    ∙ ap (step (value_at names.places) (below_of names.places) name) there ∙ found

-- the names so far, and the next
pub next_name : (xs path : Path) (i : ℕ) (x : List ℕ) → i < length xs → x ≡ get_or xs i x → xs ≡ path → take (i + 1) path ≡ take i path ++ x ∷ []
next_name xs path i x within is same =
    subst (λ (p : Path). take (i + 1) p ≡ take i p ++ x ∷ []) same (take_more xs i x within ∙ ap (λ w. take i xs ++ w ∷ []) (sym is))
