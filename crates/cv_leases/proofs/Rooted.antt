-- The tree of places as a root comes, and as a lease begins or ends at a place.
use Rattle.std.proofs.Common.{◌≡◌, ◌≢◌, ℕ, Bool, true, false, cond, List, [], ◌∷◌, Option, None, Some, IfSome, is_some, Contains, refl, sym, ap, subst, ◌∙◌, inl, inr, arith}
use Rattle.std.proofs.lemmas.Option.{none-some, same_Some}
use Rattle.cv_base.specs.Path.{Path, same_name}
use Rattle.cv_links.specs.declared.id.Id.{Id}
use Rattle.cv_links.specs.declared.lane.Lane.{Lane}
use Rattle.cv_links.specs.declared.lane.Lane.TheVariants.{Tree, Time}
use Rattle.cv_links.specs.declared.arena.Arena.{Arena}
use Rattle.cv_links.specs.Arena.{value_at, IsLive, IsFree, Puts, SameValues, SameLinks, SameLinksBut}
use Rattle.cv_links.specs.Lends.{with_value}
use Rattle.cv_links.specs.declared.chain.Chain.{Chain}
use Rattle.cv_links.specs.Chains.{IsChain, list_of, rest_of, SameLists, IsEmpty}
use Rattle.cv_links.proofs.Laws.{none_within, id_cases, empty_list, rest_first, puts_with_value, links_of_value}
use Rattle.cv_leases.specs.declared.names.Place.{Place}
use Rattle.cv_leases.specs.declared.names.Names.{Names}
use Rattle.cv_leases.specs.Names.{has_name, is_leased, above_of, named, reach, list_below, below_of, IsTree, IsNames, IsWithin}
use Rattle.cv_leases.specs.NamesInner.{SamePlaces, SameLeased, Begins, Ends}
use Rattle.cv_leases.proofs.Reaching.{reach_none, named_kept, reach_kept}
use Rattle.cv_leases.proofs.Trees.{known_below}
use Rattle.cv_leases.proofs.Climbing.{within_kept, root_within, within_more}

-- a place without one above it
pub record Roots (a d : Arena Place) (id : Id) (new : Place) : Type 0 where
  pub fresh : value_at a id ≡ None
  pub puts : Puts a d id (Some new)
  pub free : (lane : Lane) → IsFree d lane id
  pub links : SameLinksBut a d id
  pub lists : SameLists a d
  pub above : new.above ≡ None
  pub empty : IsEmpty new.below
  pub in_tree : new.below.lane ≡ Tree

module _ (a d : Arena Place) (id : Id) (new : Place) (tree : IsTree a) (h : Roots a d id new) where
  below_other : (i : Id) → i ≢ id → below_of d i ≡ below_of a i
  below_other i ni = each (value_at a i) refl
    where
      each : (o : Option Place) → value_at a i ≡ o → below_of d i ≡ below_of a i
      each None e = ap (list_below d) (h.puts.others i ni ∙ e) ∙ ap (list_below a) (sym e)
      each (Some place) e = ap (list_below d) (h.puts.others i ni ∙ e) ∙ (h.lists place.below (tree.chains i place e).0).list ∙ ap (list_below a) (sym e)

  below_new : below_of d id ≡ []
  below_new = ap (list_below d) h.puts.here ∙ (empty_list d new.below h.empty).1

  chains_then : (i : Id) (place : Place) → value_at d i ≡ Some place → IsChain d place.below × (place.below.lane ≡ Tree)
  chains_then i place v =
      elim (id_cases i id) [
        | inl same ↦
            let is : new ≡ place = same_Some _ _ (sym h.puts.here ∙ subst (λ j. value_at d j ≡ Some place) same v) in
            subst (λ (p : Place). IsChain d p.below × (p.below.lane ≡ Tree)) is ((empty_list d new.below h.empty).0, h.in_tree)
        | inr ni ↦
            let was = tree.chains i place (sym (h.puts.others i ni) ∙ v) in
            ((h.lists place.below was.0).is, was.1)
      ]

  below_then : (i kid : Id) → Contains (below_of d i) kid → above_of (value_at d kid) ≡ Some i
  below_then i kid m =
      elim (id_cases i id) [
        | inl same ↦ absurd (none_within kid (subst (λ l. Contains l kid) (ap (below_of d) same ∙ below_new) m))
        | inr ni ↦
            let was = subst (λ l. Contains l kid) (below_other i ni) m in
            ap above_of (h.puts.others kid (known_below a tree i kid id h.fresh was)) ∙ tree.below i kid was
      ]

  above_then : (i above : Id) → above_of (value_at d i) ≡ Some above → Contains (below_of d above) i
  above_then i above e =
      elim (id_cases i id) [
        | inl same ↦ let none : above_of (value_at d i) ≡ None = ap (λ j. above_of (value_at d j)) same ∙ ap above_of h.puts.here ∙ h.above in absurd cc
        | inr ni ↦
            let was = tree.above i above (sym (ap above_of (h.puts.others i ni)) ∙ e) in
            elim (id_cases above id) [
              | inl same ↦ absurd (none_within i (subst (λ l. Contains l i) (ap (below_of a) same ∙ ap (list_below a) h.fresh) was))
              | inr na ↦ subst (λ l. Contains l i) (sym (below_other above na)) was
            ]
      ]

  alone_then : (i : Id) → IsLive d i → IsFree d Time i
  alone_then i live =
      elim (id_cases i id) [
        | inl same ↦ subst (λ j. IsFree d Time j) (sym same) (h.free Time)
        | inr ni ↦ h.links Time i ni ∙ tree.alone i (ap is_some (sym (h.puts.others i ni)) ∙ live)
      ]

  pub rooted : IsTree d
  rooted = record { chains = chains_then; below = below_then; above = above_then; alone = alone_then }

-- a place of the same name, above and below, at which a lease begins or ends
pub record Labels (a d : Arena Place) (id : Id) (old : Place) (leased : Bool) : Type 0 where
  pub was : value_at a id ≡ Some old
  pub puts : Puts a d id (Some (record old { leased = leased }))
  pub links : SameLinks a d
  pub lists : SameLists a d

module _ (a d : Arena Place) (id : Id) (old : Place) (leased : Bool) (tree : IsTree a) (h : Labels a d id old leased) where
  same : {A : Type 0} (f : Option Place → A) → f (Some (record old { leased = leased })) ≡ f (Some old) → (i : Id) → f (value_at d i) ≡ f (value_at a i)
  same f e i =
      elim (id_cases i id) [
        | inl is ↦ ap (λ j. f (value_at d j)) is ∙ ap f h.puts.here ∙ e ∙ ap f (sym h.was) ∙ ap (λ j. f (value_at a j)) (sym is)
        | inr ni ↦ ap f (h.puts.others i ni)
      ]

  pub names_labelled : (name : List ℕ) (i : Id) → has_name name (value_at d i) ≡ has_name name (value_at a i)
  names_labelled name = same (has_name name) refl

  pub aboves_labelled : (i : Id) → above_of (value_at d i) ≡ above_of (value_at a i)
  aboves_labelled = same above_of refl

  pub lives_labelled : (i : Id) → is_some (value_at d i) ≡ is_some (value_at a i)
  lives_labelled = same is_some refl

  pub below_labelled : (i : Id) → below_of d i ≡ below_of a i
  below_labelled i = same (list_below d) refl i ∙ each (value_at a i) refl
    where
      each : (o : Option Place) → value_at a i ≡ o → list_below d (value_at a i) ≡ list_below a (value_at a i)
      each None e = ap (list_below d) e ∙ ap (list_below a) (sym e)
      each (Some place) e = ap (list_below d) e ∙ (h.lists place.below (tree.chains i place e).0).list ∙ ap (list_below a) (sym e)

  chains_labelled : (i : Id) (place : Place) → value_at d i ≡ Some place → IsChain d place.below × (place.below.lane ≡ Tree)
  chains_labelled i place v =
      elim (id_cases i id) [
        | inl is ↦
            let one : record old { leased = leased } ≡ place = same_Some _ _ (sym h.puts.here ∙ subst (λ j. value_at d j ≡ Some place) is v) in
            let was = tree.chains id old h.was in
            subst (λ (p : Place). IsChain d p.below × (p.below.lane ≡ Tree)) one ((h.lists old.below was.0).is, was.1)
        | inr ni ↦
            let was = tree.chains i place (sym (h.puts.others i ni) ∙ v) in
            ((h.lists place.below was.0).is, was.1)
      ]

  pub labelled : IsTree d
  labelled = record {
    chains = chains_labelled;
    below = λ i kid m. aboves_labelled kid ∙ tree.below i kid (subst (λ l. Contains l kid) (below_labelled i) m);
    above = λ i up e. subst (λ l. Contains l i) (sym (below_labelled up)) (tree.above i up (sym (aboves_labelled i) ∙ e));
    alone = λ i live. h.links Time i ∙ tree.alone i (sym (lives_labelled i) ∙ live);
  }

-- a path leads where it led
pub reach_labelled : (a d : Arena Place) (id : Id) (old : Place) (leased : Bool) → IsTree a → Labels a d id old leased → (path : Path) (from : Option Id) (x : Id)
    → reach (value_at a) (below_of a) path from ≡ Some x → reach (value_at d) (below_of d) path from ≡ Some x
reach_labelled a d id old leased tree h =
    reach_kept (value_at a) (value_at d) (below_of a) (below_of d) (λ name from x found.
    ap (named (value_at d) name) (below_labelled a d id old leased tree h from)
    ∙ named_kept (value_at a) (value_at d) name (below_of a from) (λ i m. names_labelled a d id old leased tree h name i)
    ∙ found)

pub whole_labelled : (old new : Names) (id : Id) (place : Place) (leased : Bool) → IsNames old → new.root ≡ old.root → Labels old.places new.places id place leased → IsNames new
whole_labelled old new id place leased whole root h = record {
  tree = labelled old.places new.places id place leased whole.tree h;
  root = subst (λ o. IfSome o (λ i. IsLive new.places i × (above_of (value_at new.places i) ≡ None))) (sym root) (each old.root whole.root);
  rooted = λ i live. within_kept old new 64 i root (λ j up e. aboves_labelled old.places new.places id place leased whole.tree h j ∙ e)
      (whole.rooted i (sym (lives_labelled old.places new.places id place leased whole.tree h i) ∙ live));
}
  where
    each : (o : Option Id) → IfSome o (λ i. IsLive old.places i × (above_of (value_at old.places i) ≡ None)) → IfSome o (λ i. IsLive new.places i × (above_of (value_at new.places i) ≡ None))
    each None r = tt
    each (Some i) r = (lives_labelled old.places new.places id place leased whole.tree h i ∙ r.0, aboves_labelled old.places new.places id place leased whole.tree h i ∙ r.1)

place_labelled : (old new : Names) (id : Id) (place : Place) (leased : Bool) → IsNames old → new.root ≡ old.root → Labels old.places new.places id place leased → SamePlaces old new
place_labelled old new id place leased whole root h path x there =
    ap (reach (value_at new.places) (below_of new.places) path) root ∙ reach_labelled old.places new.places id place leased whole.tree h path old.root x there

pub begins : (old new : Names) (id : Id) (place : Place) → IsNames old → new.root ≡ old.root → Labels old.places new.places id place true → Begins old new id
begins old new id place whole root h = record {
  kept = λ path other at. record {
    place = place_labelled old new id place true whole root h path other at.place;
    leased = elim (id_cases other id) [
      | inl same ↦ ap (λ j. is_leased (value_at new.places j)) same ∙ ap is_leased h.puts.here
      | inr away ↦ ap is_leased (h.puts.others other away) ∙ at.leased
    ];
  };
  here = λ path at. record { place = place_labelled old new id place true whole root h path id at; leased = ap is_leased h.puts.here };
  none = λ other away leased. ap is_leased (sym (h.puts.others other away)) ∙ leased;
}

pub ends : (old new : Names) (id : Id) (place : Place) → IsNames old → new.root ≡ old.root → Labels old.places new.places id place false → Ends old new id
ends old new id place whole root h = record {
  kept = λ path other away at. record {
    place = place_labelled old new id place false whole root h path other at.place;
    leased = ap is_leased (h.puts.others other away) ∙ at.leased;
  };
  none = λ other leased.
      let away : other ≢ id = λ same. let no : is_leased (value_at new.places other) ≡ false = ap (λ j. is_leased (value_at new.places j)) same ∙ ap is_leased h.puts.here in absurd cc in
      (away, ap is_leased (sym (h.puts.others other away)) ∙ leased);
}

-- names to which a root came, where none was
pub whole_rooted : (old new : Names) (id : Id) (place : Place) → IsNames old → old.root ≡ None → new.root ≡ Some id → Roots old.places new.places id place → IsNames new
whole_rooted old new id place whole none root h = record {
  tree = rooted old.places new.places id place whole.tree h;
  rooted = λ i live. elim (id_cases i id) [
    | inl same ↦ subst (λ j. IsWithin new 64 j) (sym same) (within_more new 0 64 id (omega arith) (root_within new id root))
    | inr away ↦ (let was = whole.rooted i (ap is_some (sym (h.puts.others i away)) ∙ live) in absurd (none-some was.root (sym none ∙ was.is)))
  ];
  root = subst (λ o. IfSome o (λ i. IsLive new.places i × (above_of (value_at new.places i) ≡ None))) (sym root) (ap is_some h.puts.here, ap above_of h.puts.here ∙ h.above);
}

-- without a root no path leads anywhere
pub leases_rooted : (old new : Names) (id : Id) (place : Place) → old.root ≡ None → place.leased ≡ false → Roots old.places new.places id place → SameLeased old new
leases_rooted old new id place none unleased h = record {
  kept = λ path x at. absurd (none-some x (sym (ap (reach (value_at old.places) (below_of old.places) path) none ∙ reach_none (value_at old.places) (below_of old.places) path) ∙ at.place));
  none = λ x leased. elim (id_cases x id) [
    | inl same ↦ let no : is_leased (value_at new.places x) ≡ false = ap (λ j. is_leased (value_at new.places j)) same ∙ ap is_leased h.puts.here ∙ unleased in absurd cc
    | inr away ↦ ap is_leased (sym (h.puts.others x away)) ∙ leased
  ];
}

-- names that are as before but for room
pub same_names : (old : Names) (after : Arena Place) → IsNames old → SameValues old.places after → SameLinks old.places after → SameLists old.places after → IsNames (record old { places = after }) × SameLeased old (record old { places = after }) × SamePlaces old (record old { places = after })
same_names old after whole values links lists = (
  record {
    tree = record {
      chains = λ i place v. let was = whole.tree.chains i place (sym (values i) ∙ v) in ((lists place.below was.0).is, was.1);
      below = λ i kid m. ap above_of (values kid) ∙ whole.tree.below i kid (subst (λ l. Contains l kid) (below_same i) m);
      above = λ i up e. subst (λ l. Contains l i) (sym (below_same up)) (whole.tree.above i up (ap above_of (sym (values i)) ∙ e));
      alone = λ i live. links Time i ∙ whole.tree.alone i (ap is_some (sym (values i)) ∙ live);
    };
    root = each old.root whole.root;
    rooted = λ i live. within_kept old (record old { places = after }) 64 i refl (λ j up e. ap above_of (values j) ∙ e) (whole.rooted i (ap is_some (sym (values i)) ∙ live));
  },
  record {
    kept = λ path x at. record { place = leads path x at.place; leased = ap is_leased (values x) ∙ at.leased };
    none = λ x leased. ap is_leased (sym (values x)) ∙ leased;
  },
  leads,
)
  where
    below_same : (i : Id) → below_of after i ≡ below_of old.places i
    below_same i = kept (value_at old.places i) refl
      where
        kept : (o : Option Place) → value_at old.places i ≡ o → below_of after i ≡ below_of old.places i
        kept None e = ap (list_below after) (values i ∙ e) ∙ ap (list_below old.places) (sym e)
        kept (Some place) e = ap (list_below after) (values i ∙ e) ∙ (lists place.below (whole.tree.chains i place e).0).list ∙ ap (list_below old.places) (sym e)

    each : (o : Option Id) → IfSome o (λ i. IsLive old.places i × (above_of (value_at old.places i) ≡ None)) → IfSome o (λ i. IsLive after i × (above_of (value_at after i) ≡ None))
    each None r = tt
    each (Some i) r = (ap is_some (values i) ∙ r.0, ap above_of (values i) ∙ r.1)

    leads : (path : Path) (x : Id) → reach (value_at old.places) (below_of old.places) path old.root ≡ Some x → reach (value_at after) (below_of after) path old.root ≡ Some x
    leads path x there = reach_kept (value_at old.places) (value_at after) (below_of old.places) (below_of after) (λ name from y found.
        ap (named (value_at after) name) (below_same from)
        ∙ named_kept (value_at old.places) (value_at after) name (below_of old.places from) (λ i m. ap (has_name name) (values i))
        ∙ found) path old.root x there

-- by what the step says
pub relabel : (a : Arena Place) (id : Id) (old : Place) (leased : Bool) → value_at a id ≡ Some old → ((value : Place) → SameLists a (with_value a id value)) → Labels a (with_value a id (record old { leased = leased })) id old leased
relabel a id old leased was lists =
    let live : IsLive a id = ap is_some was in
    record {
      was = was;
      puts = puts_with_value a id (record old { leased = leased }) live;
      links = links_of_value a id (record old { leased = leased }) live;
      lists = lists (record old { leased = leased });
    }

-- a name that is found
pub child_found : (a : Arena Place) (chain : Chain) (id : Id) (place : Place) (name : List ℕ) → IsChain a chain → Contains (list_of a chain) id → value_at a id ≡ Some place → same_name place.name name ≡ true
    → Some id ≡ named (value_at a) name (rest_of a chain (Some id))
child_found a chain id place name is within v has =
    let from = rest_first a chain id is within in
    sym (ap (named (value_at a) name) from.1 ∙ ap (λ o. cond (has_name name o) (Some id) (named (value_at a) name from.0)) v ∙ rw has refl)

-- and one that isn't, here
pub child_next : (a : Arena Place) (chain : Chain) (id : Id) (next : Option Id) (place : Place) (name : List ℕ) → value_at a id ≡ Some place → same_name place.name name ≡ false → rest_of a chain (Some id) ≡ id ∷ rest_of a chain next
    → named (value_at a) name (rest_of a chain next) ≡ named (value_at a) name (rest_of a chain (Some id))
child_next a chain id next place name v other rest =
    sym (ap (named (value_at a) name) rest ∙ ap (λ o. cond (has_name name o) (Some id) (named (value_at a) name (rest_of a chain next))) v ∙ rw other refl)
