-- The tree of places as a place comes below another.
use Rattle.std.proofs.Common.{◌≡◌, ◌≢◌, ℕ, false, List, [], ◌∷◌, ◌++◌, Option, None, Some, is_some, Contains, refl, sym, ap, subst, ◌∙◌, inl, inr}
use Rattle.std.proofs.lemmas.Option.{same_Some}
use Rattle.std.proofs.lemmas.List.Elements.{Contains-append_left, Contains-append_right, Contains-append_cases}
use Rattle.cv_links.specs.declared.id.Id.{Id}
use Rattle.cv_links.specs.declared.lane.Lane.{Lane}
use Rattle.cv_links.specs.declared.lane.Lane.TheVariants.{Tree, Time}
use Rattle.cv_links.specs.declared.arena.Arena.{Arena}
use Rattle.cv_links.specs.declared.chain.Chain.{Chain}
use Rattle.cv_links.specs.Arena.{value_at, IsLive, IsFree, Puts, SameContents, SameLinks, SameLinksBut, SameFreedomBut}
use Rattle.cv_links.specs.Chains.{IsChain, list_of, SameList, SameLists, SameElsewhere, IsEmpty}
use Rattle.cv_links.specs.Lends.{with_value}
use Rattle.cv_links.proofs.Laws.{here, cons_cases, none_within, id_cases, held_in, empty_list, puts_with_value, links_of_value}
use Rattle.cv_leases.specs.declared.names.Place.{Place}
use Rattle.cv_leases.specs.Names.{has_name, is_leased, above_of, list_below, below_of, IsTree}

-- the list below a live place
pub below_is : (a : Arena Place) (id : Id) (place : Place) → value_at a id ≡ Some place → below_of a id ≡ list_of a place.below
below_is a id place e = ap (list_below a) e

-- what names a place above it is live
pub above_live : (o : Option Place) (up : Id) → above_of o ≡ Some up → o ≡ None → ⊥
above_live None up e n = cc
above_live (Some place) up e n = cc

-- a place below another is not one that isn't there
pub known_below : (a : Arena Place) → IsTree a → (i kid none : Id) → value_at a none ≡ None → Contains (below_of a i) kid → kid ≢ none
known_below a tree i kid none gone m e = above_live (value_at a kid) i (tree.below i kid m) (ap (value_at a) e ∙ gone)

-- a place that is put below another, as its last, in three steps
pub record Attaches (a b c d : Arena Place) (up id : Id) (old new : Place) (chain : Chain) : Type 0 where
  pub was : value_at a up ≡ Some old
  pub fresh : value_at a id ≡ None
  pub puts : Puts a b id (Some new)
  pub free : (lane : Lane) → IsFree b lane id
  pub links : SameLinksBut a b id
  pub lists : SameLists a b
  pub whole : IsChain c chain
  pub list : list_of c chain ≡ list_of b old.below ++ id ∷ []
  pub lane : chain.lane ≡ old.below.lane
  pub elsewhere : SameElsewhere b c old.below id
  pub others : SameFreedomBut b c old.below.lane id
  pub contents : SameContents b c
  pub sets : Puts c d up (Some (record old { below = chain }))
  pub set_links : SameLinks c d
  pub set_lists : SameLists c d
  pub above : new.above ≡ Some up
  pub unleased : new.leased ≡ false
  pub empty : IsEmpty new.below
  pub in_tree : new.below.lane ≡ Tree

-- what the tree is then
pub record IsAttached (a d : Arena Place) (up id : Id) (new : Place) : Type 0 where
  pub tree : IsTree d
  pub differ : up ≢ id
  pub fresh : value_at a id ≡ None
  pub here : value_at d id ≡ Some new
  pub names : (name : List ℕ) (i : Id) → i ≢ id → has_name name (value_at d i) ≡ has_name name (value_at a i)
  pub leases : (i : Id) → i ≢ id → is_leased (value_at d i) ≡ is_leased (value_at a i)
  pub lives : (i : Id) → i ≢ id → is_some (value_at d i) ≡ is_some (value_at a i)
  pub aboves : (i : Id) → i ≢ id → above_of (value_at d i) ≡ above_of (value_at a i)
  pub below_up : below_of d up ≡ below_of a up ++ id ∷ []
  pub below_new : below_of d id ≡ []
  pub below : (i : Id) → i ≢ up → i ≢ id → below_of d i ≡ below_of a i

module _ (a b c d : Arena Place) (up id : Id) (old new : Place) (chain : Chain) (tree : IsTree a) (h : Attaches a b c d up id old new chain) where
  apart : up ≢ id
  apart e = let one : value_at a id ≡ Some old = subst (λ i. value_at a i ≡ Some old) e h.was in let two = h.fresh in absurd cc

  there : (i : Id) → i ≢ up → i ≢ id → value_at d i ≡ value_at a i
  there i nu ni = h.sets.others i nu ∙ h.contents.values i ∙ h.puts.others i ni

  new_here : value_at d id ≡ Some new
  new_here = h.sets.others id (λ e. apart (sym e)) ∙ h.contents.values id ∙ h.puts.here

  same_but : {A : Type 0} (f : Option Place → A) → ((place : Place) (chain : Chain) → f (Some (record place { below = chain })) ≡ f (Some place)) → (i : Id) → i ≢ id → f (value_at d i) ≡ f (value_at a i)
  same_but f ends i ni =
      elim (id_cases i up) [
        | inl same ↦ ap (λ j. f (value_at d j)) same ∙ ap f h.sets.here ∙ ends old chain ∙ ap f (sym h.was) ∙ ap (λ j. f (value_at a j)) (sym same)
        | inr away ↦ ap f (there i away ni)
      ]

  -- a place below another is not the new one
  known : (i kid : Id) → Contains (below_of a i) kid → kid ≢ id
  known i kid m = known_below a tree i kid id h.fresh m

  -- the chains of the others stay
  elsewhere : (i : Id) (place : Place) → value_at a i ≡ Some place → i ≢ up → SameList c d place.below × SameList b c place.below × SameList a b place.below
  elsewhere i place v away =
      let first = h.lists place.below (tree.chains i place v).0 in
      let ups = h.lists old.below (tree.chains up old h.was).0 in
      let second = h.elsewhere place.below first.is (λ lanes j m n. elim (cons_cases id (list_of b old.below) j m) [
        | inl same ↦ held_in b place.below j first.is n (subst (λ k. IsFree b place.below.lane k) same (h.free place.below.lane))
        | inr within ↦
            let one = tree.below up j (subst (λ l. Contains l j) (ups.list ∙ sym (below_is a up old h.was)) within) in
            let two = tree.below i j (subst (λ l. Contains l j) (first.list ∙ sym (below_is a i place v)) n) in
            away (same_Some i up (sym two ∙ one))
      ]) in
      (h.set_lists place.below second.is, second, first)

  below_other : (i : Id) → i ≢ up → i ≢ id → below_of d i ≡ below_of a i
  below_other i nu ni = each (value_at a i) refl
    where
      each : (o : Option Place) → value_at a i ≡ o → below_of d i ≡ below_of a i
      each None e = ap (list_below d) (there i nu ni ∙ e) ∙ ap (list_below a) (sym e)
      each (Some place) e =
          let s = elsewhere i place e nu in
          ap (list_below d) (there i nu ni ∙ e) ∙ s.0.list ∙ s.1.list ∙ s.2.list ∙ ap (list_below a) (sym e)

  below_new : below_of d id ≡ []
  below_new = ap (list_below d) new_here ∙ (empty_list d new.below h.empty).1

  below_up : below_of d up ≡ below_of a up ++ id ∷ []
  below_up =
      ap (list_below d) h.sets.here ∙ (h.set_lists chain h.whole).list ∙ h.list
      ∙ ap (λ l. l ++ id ∷ []) ((h.lists old.below (tree.chains up old h.was).0).list ∙ sym (below_is a up old h.was))

  chains_then : (i : Id) (place : Place) → value_at d i ≡ Some place → IsChain d place.below × (place.below.lane ≡ Tree)
  chains_then i place v =
      elim (id_cases i up) [
        | inl same ↦
            let is : record old { below = chain } ≡ place = same_Some _ _ (sym h.sets.here ∙ subst (λ j. value_at d j ≡ Some place) same v) in
            subst (λ (p : Place). IsChain d p.below × (p.below.lane ≡ Tree)) is ((h.set_lists chain h.whole).is, h.lane ∙ (tree.chains up old h.was).1)
        | inr nu ↦ elim (id_cases i id) [
          | inl same ↦
              let is : new ≡ place = same_Some _ _ (sym new_here ∙ subst (λ j. value_at d j ≡ Some place) same v) in
              subst (λ (p : Place). IsChain d p.below × (p.below.lane ≡ Tree)) is ((empty_list d new.below h.empty).0, h.in_tree)
          | inr ni ↦
              let old_v : value_at a i ≡ Some place = sym (there i nu ni) ∙ v in
              ((elsewhere i place old_v nu).0.is, (tree.chains i place old_v).1)
        ]
      ]

  above_here : above_of (value_at d id) ≡ Some up
  above_here = ap above_of new_here ∙ h.above

  above_same : (i : Id) → i ≢ id → above_of (value_at d i) ≡ above_of (value_at a i)
  above_same = same_but above_of (λ place chain. refl)

  below_then : (i kid : Id) → Contains (below_of d i) kid → above_of (value_at d kid) ≡ Some i
  below_then i kid m =
      elim (id_cases i up) [
        | inl same ↦ elim (Contains-append_cases (below_of a up) (id ∷ []) kid (subst (λ l. Contains l kid) (ap (below_of d) same ∙ below_up) m)) [
          | inl old_one ↦ above_same kid (known up kid old_one) ∙ tree.below up kid old_one ∙ ap (λ j. Some j) (sym same)
          | inr new_one ↦ elim (cons_cases id [] kid new_one) [
            | inl is ↦ ap (λ j. above_of (value_at d j)) (sym is) ∙ above_here ∙ ap (λ j. Some j) (sym same)
            | inr never ↦ absurd (none_within kid never)
          ]
        ]
        | inr nu ↦ elim (id_cases i id) [
          | inl same ↦ absurd (none_within kid (subst (λ l. Contains l kid) (ap (below_of d) same ∙ below_new) m))
          | inr ni ↦ let was = subst (λ l. Contains l kid) (below_other i nu ni) m in above_same kid (known i kid was) ∙ tree.below i kid was
        ]
      ]

  above_then : (i above : Id) → above_of (value_at d i) ≡ Some above → Contains (below_of d above) i
  above_then i above e =
      elim (id_cases i id) [
        | inl same ↦
            let is : up ≡ above = same_Some _ _ (sym above_here ∙ ap (λ j. above_of (value_at d j)) (sym same) ∙ e) in
            subst (λ j. Contains (below_of d j) i) is (subst (λ l. Contains l i) (sym below_up) (Contains-append_right (below_of a up) (id ∷ []) i (subst (λ j. Contains (id ∷ []) j) (sym same) (here id []))))
        | inr ni ↦
            let was = tree.above i above (sym (above_same i ni) ∙ e) in
            elim (id_cases above up) [
              | inl same ↦ subst (λ l. Contains l i) (sym (ap (below_of d) same ∙ below_up)) (Contains-append_left (below_of a up) (id ∷ []) i (subst (λ j. Contains (below_of a j) i) same was))
              | inr nu ↦ elim (id_cases above id) [
                | inl same ↦ absurd (none_within i (subst (λ l. Contains l i) (ap (below_of a) same ∙ ap (list_below a) h.fresh) was))
                | inr na ↦ subst (λ l. Contains l i) (sym (below_other above nu na)) was
              ]
            ]
      ]

  time_apart : Time ≢ old.below.lane
  time_apart e = let lane = (tree.chains up old h.was).1 in absurd cc

  alone_then : (i : Id) → IsLive d i → IsFree d Time i
  alone_then i live =
      h.set_links Time i ∙ h.others.lanes Time time_apart i ∙ elim (id_cases i id) [
        | inl same ↦ subst (λ j. IsFree b Time j) (sym same) (h.free Time)
        | inr ni ↦ h.links Time i ni ∙ tree.alone i (sym (same_but is_some (λ place chain. refl) i ni) ∙ live)
      ]

  pub attached : IsAttached a d up id new
  attached = record {
    tree = record { chains = chains_then; below = below_then; above = above_then; alone = alone_then };
    differ = apart;
    fresh = h.fresh;
    here = new_here;
    names = λ name. same_but (has_name name) (λ place chain. refl);
    leases = same_but is_leased (λ place chain. refl);
    lives = same_but is_some (λ place chain. refl);
    aboves = above_same;
    below_up = below_up;
    below_new = below_new;
    below = below_other;
  }

-- a place that is put below another, by what each step says
pub attaching : (a b c : Arena Place) (up id : Id) (old now new : Place) (chain : Chain) → value_at a up ≡ Some old → value_at a id ≡ None → Puts a b id (Some new)
    → ((lane : Lane) → IsFree b lane id) → SameLinksBut a b id → SameLists a b → IsChain c chain → list_of c chain ≡ list_of b old.below ++ id ∷ []
    → chain.lane ≡ old.below.lane → SameElsewhere b c old.below id → SameFreedomBut b c old.below.lane id → SameContents b c → value_at c up ≡ Some now
    → ((value : Place) → SameLists c (with_value c up value)) → new.above ≡ Some up → new.leased ≡ false → IsEmpty new.below → new.below.lane ≡ Tree
    → Attaches a b c (with_value c up (record now { below = chain })) up id old new chain
attaching a b c up id old now new chain was fresh puts free links lists whole list lane elsewhere others contents is set_lists above unleased empty in_tree =
    let apart : up ≢ id = λ e. let one : value_at a id ≡ Some old = subst (λ i. value_at a i ≡ Some old) e was in absurd cc in
    let same : now ≡ old = same_Some _ _ (sym is ∙ contents.values up ∙ puts.others up apart ∙ was) in
    let live : IsLive c up = ap is_some is in
    record {
      was = was;
      fresh = fresh;
      puts = puts;
      free = free;
      links = links;
      lists = lists;
      whole = whole;
      list = list;
      lane = lane;
      elsewhere = elsewhere;
      others = others;
      contents = contents;
      sets = subst (λ (p : Place). Puts c (with_value c up (record now { below = chain })) up (Some (record p { below = chain }))) same (puts_with_value c up (record now { below = chain }) live);
      set_links = links_of_value c up (record now { below = chain }) live;
      set_lists = set_lists (record now { below = chain });
      above = above;
      unleased = unleased;
      empty = empty;
      in_tree = in_tree;
    }
