-- The tree of places as a place is taken from below another.
use Rattle.std.proofs.Common.{◌≡◌, ◌≢◌, ℕ, false, List, [], ◌∷◌, ◌++◌, Option, None, Some, is_some, Contains, refl, sym, ap, subst, ◌∙◌, inl, inr}
use Rattle.std.proofs.lemmas.Option.{same_Some}
use Rattle.std.proofs.lemmas.List.Elements.{Contains-append_left, Contains-append_right, Contains-append_cases}
use Rattle.cv_links.specs.declared.id.Id.{Id}
use Rattle.cv_links.specs.declared.lane.Lane.TheVariants.{Tree, Time}
use Rattle.cv_links.specs.declared.arena.Arena.{Arena}
use Rattle.cv_links.specs.declared.chain.Chain.{Chain}
use Rattle.cv_links.specs.Arena.{value_at, IsLive, IsFree, Puts, SameContents, SameLinks, SameLinksBut, SameFreedomBut}
use Rattle.cv_links.specs.Chains.{AreApart, IsChain, list_of, SameList, SameLists, SameElsewhere, IsTakenOut}
use Rattle.cv_links.specs.Lends.{with_value}
use Rattle.cv_links.proofs.Laws.{later, cons_cases, none_within, split, id_cases, puts_with_value, links_of_value}
use Rattle.cv_leases.specs.declared.names.Place.{Place}
use Rattle.cv_leases.specs.Names.{has_name, is_leased, above_of, list_below, below_of, IsTree}
use Rattle.cv_leases.proofs.Trees.{below_is}
use Rattle.cv_leases.proofs.Queues.{absent}

-- a place that is taken from below another, in three steps
pub record Detaches (a b c d : Arena Place) (up id : Id) (old gone : Place) (chain : Chain) : Type 0 where
  pub was : value_at a up ≡ Some old
  pub stood : value_at a id ≡ Some gone
  pub above : gone.above ≡ Some up
  pub leaf : list_of a gone.below ≡ []
  pub whole : IsChain b chain
  pub list : IsTakenOut (list_of a old.below) (list_of b chain) id
  pub lane : chain.lane ≡ old.below.lane
  pub elsewhere : SameElsewhere a b old.below id
  pub others : SameFreedomBut a b old.below.lane id
  pub contents : SameContents a b
  pub sets : Puts b c up (Some (record old { below = chain }))
  pub set_links : SameLinks b c
  pub set_lists : SameLists b c
  pub takes : Puts c d id None
  pub take_links : SameLinksBut c d id
  pub take_lists : SameLists c d

-- what the tree is then
pub record IsDetached (a d : Arena Place) (up id : Id) : Type 0 where
  pub tree : IsTree d
  pub gone : value_at d id ≡ None
  pub leaf : below_of a id ≡ []
  pub names : (name : List ℕ) (i : Id) → i ≢ id → has_name name (value_at d i) ≡ has_name name (value_at a i)
  pub leases : (i : Id) → i ≢ id → is_leased (value_at d i) ≡ is_leased (value_at a i)
  pub lives : (i : Id) → i ≢ id → is_some (value_at d i) ≡ is_some (value_at a i)
  pub aboves : (i : Id) → i ≢ id → above_of (value_at d i) ≡ above_of (value_at a i)
  pub apart : AreApart (below_of a up)
  pub within : Contains (below_of a up) id
  pub differ : up ≢ id
  pub below_up : IsTakenOut (below_of a up) (below_of d up) id
  pub below : (i : Id) → i ≢ up → i ≢ id → below_of d i ≡ below_of a i

module _ (a b c d : Arena Place) (up id : Id) (old gone : Place) (chain : Chain) (tree : IsTree a) (h : Detaches a b c d up id old gone chain) where
  leaf : below_of a id ≡ []
  leaf = below_is a id gone h.stood ∙ h.leaf

  above_id : above_of (value_at a id) ≡ Some up
  above_id = ap above_of h.stood ∙ h.above

  within : Contains (below_of a up) id
  within = tree.above id up above_id

  differ : up ≢ id
  differ e = none_within id (subst (λ l. Contains l id) (ap (below_of a) e ∙ leaf) within)

  there : (i : Id) → i ≢ up → i ≢ id → value_at d i ≡ value_at a i
  there i nu ni = h.takes.others i ni ∙ h.sets.others i nu ∙ h.contents.values i

  up_here : value_at d up ≡ Some (record old { below = chain })
  up_here = h.takes.others up differ ∙ h.sets.here

  same_but : {A : Type 0} (f : Option Place → A) → ((place : Place) (chain : Chain) → f (Some (record place { below = chain })) ≡ f (Some place)) → (i : Id) → i ≢ id → f (value_at d i) ≡ f (value_at a i)
  same_but f ends i ni =
      elim (id_cases i up) [
        | inl same ↦ ap (λ j. f (value_at d j)) same ∙ ap f up_here ∙ ends old chain ∙ ap f (sym h.was) ∙ ap (λ j. f (value_at a j)) (sym same)
        | inr away ↦ ap f (there i away ni)
      ]

  apart : AreApart (below_of a up)
  apart = subst AreApart (sym (below_is a up old h.was)) (tree.chains up old h.was).0.apart

  -- the chains of the others stay
  elsewhere : (i : Id) (place : Place) → value_at a i ≡ Some place → i ≢ up → SameList c d place.below × SameList b c place.below × SameList a b place.below
  elsewhere i place v away =
      let is = (tree.chains i place v).0 in
      let first = h.elsewhere place.below is (λ lanes j m n.
      let two = tree.below i j (subst (λ l. Contains l j) (sym (below_is a i place v)) n) in
      elim (cons_cases id (list_of a old.below) j m) [
        | inl same ↦ away (same_Some i up (sym two ∙ ap (λ k. above_of (value_at a k)) (sym same) ∙ above_id))
        | inr inside ↦ away (same_Some i up (sym two ∙ tree.below up j (subst (λ l. Contains l j) (sym (below_is a up old h.was)) inside)))
      ]) in
      let second = h.set_lists place.below first.is in
      (h.take_lists place.below second.is, second, first)

  below_other : (i : Id) → i ≢ up → i ≢ id → below_of d i ≡ below_of a i
  below_other i nu ni = each (value_at a i) refl
    where
      each : (o : Option Place) → value_at a i ≡ o → below_of d i ≡ below_of a i
      each None e = ap (list_below d) (there i nu ni ∙ e) ∙ ap (list_below a) (sym e)
      each (Some place) e =
          let s = elsewhere i place e nu in
          ap (list_below d) (there i nu ni ∙ e) ∙ s.0.list ∙ s.1.list ∙ s.2.list ∙ ap (list_below a) (sym e)

  chain_then : SameList c d chain
  chain_then = h.take_lists chain (h.set_lists chain h.whole).is

  below_up : IsTakenOut (below_of a up) (below_of d up) id
  below_up front back e =
      ap (list_below d) up_here ∙ chain_then.list ∙ (h.set_lists chain h.whole).list ∙ h.list front back (sym (below_is a up old h.was) ∙ e)

  none_below : below_of d id ≡ []
  none_below = ap (list_below d) h.takes.here

  chains_then : (i : Id) (place : Place) → value_at d i ≡ Some place → IsChain d place.below × (place.below.lane ≡ Tree)
  chains_then i place v =
      elim (id_cases i up) [
        | inl same ↦
            let is : record old { below = chain } ≡ place = same_Some _ _ (sym up_here ∙ subst (λ j. value_at d j ≡ Some place) same v) in
            subst (λ (p : Place). IsChain d p.below × (p.below.lane ≡ Tree)) is (chain_then.is, h.lane ∙ (tree.chains up old h.was).1)
        | inr nu ↦ elim (id_cases i id) [
          | inl same ↦ let none : value_at d i ≡ None = ap (value_at d) same ∙ h.takes.here in absurd cc
          | inr ni ↦
              let old_v : value_at a i ≡ Some place = sym (there i nu ni) ∙ v in
              ((elsewhere i place old_v nu).0.is, (tree.chains i place old_v).1)
        ]
      ]

  aboves : (i : Id) → i ≢ id → above_of (value_at d i) ≡ above_of (value_at a i)
  aboves = same_but above_of (λ place chain. refl)

  below_then : (i kid : Id) → Contains (below_of d i) kid → above_of (value_at d kid) ≡ Some i
  below_then i kid m =
      elim (id_cases i up) [
        | inl same ↦
            let parts = split (below_of a up) id within in
            let left : Contains (parts.0 ++ parts.1) kid = subst (λ l. Contains l kid) (ap (below_of d) same ∙ below_up parts.0 parts.1 parts.2) m in
            let was : Contains (below_of a up) kid = subst (λ l. Contains l kid) (sym parts.2) (elim (Contains-append_cases parts.0 parts.1 kid left) [
              | inl p ↦ Contains-append_left parts.0 (id ∷ parts.1) kid p
              | inr p ↦ Contains-append_right parts.0 (id ∷ parts.1) kid (later id parts.1 kid p)
            ]) in
            aboves kid (absent parts.0 parts.1 id kid (subst AreApart parts.2 apart) left) ∙ tree.below up kid was ∙ ap (λ j. Some j) (sym same)
        | inr nu ↦ elim (id_cases i id) [
          | inl same ↦ absurd (none_within kid (subst (λ l. Contains l kid) (ap (below_of d) same ∙ none_below) m))
          | inr ni ↦
              let was = subst (λ l. Contains l kid) (below_other i nu ni) m in
              let names_it = tree.below i kid was in
              aboves kid (λ e. nu (same_Some i up (sym names_it ∙ ap (λ j. above_of (value_at a j)) e ∙ above_id))) ∙ names_it
        ]
      ]

  above_then : (i above : Id) → above_of (value_at d i) ≡ Some above → Contains (below_of d above) i
  above_then i above e =
      elim (id_cases i id) [
        | inl same ↦ let none : above_of (value_at d i) ≡ None = ap (λ j. above_of (value_at d j)) same ∙ ap above_of h.takes.here in absurd cc
        | inr ni ↦
            let was = tree.above i above (sym (aboves i ni) ∙ e) in
            elim (id_cases above up) [
              | inl same ↦
                  let parts = split (below_of a up) id within in
                  let stands : Contains (parts.0 ++ id ∷ parts.1) i = subst (λ l. Contains l i) (ap (below_of a) same ∙ parts.2) was in
                  subst (λ l. Contains l i) (sym (ap (below_of d) same ∙ below_up parts.0 parts.1 parts.2)) (elim (Contains-append_cases parts.0 (id ∷ parts.1) i stands) [
                    | inl p ↦ Contains-append_left parts.0 parts.1 i p
                    | inr p ↦ elim (cons_cases id parts.1 i p) [
                      | inl is ↦ absurd (ni (sym is))
                      | inr q ↦ Contains-append_right parts.0 parts.1 i q
                    ]
                  ])
              | inr nu ↦ elim (id_cases above id) [
                | inl same ↦ absurd (none_within i (subst (λ l. Contains l i) (ap (below_of a) same ∙ leaf) was))
                | inr na ↦ subst (λ l. Contains l i) (sym (below_other above nu na)) was
              ]
            ]
      ]

  time_apart : Time ≢ old.below.lane
  time_apart e = let lane = (tree.chains up old h.was).1 in absurd cc

  alone_then : (i : Id) → IsLive d i → IsFree d Time i
  alone_then i live =
      elim (id_cases i id) [
        | inl same ↦ let none : is_some (value_at d i) ≡ false = ap (λ j. is_some (value_at d j)) same ∙ ap is_some h.takes.here in absurd cc
        | inr ni ↦ h.take_links Time i ni ∙ h.set_links Time i ∙ h.others.lanes Time time_apart i ∙ tree.alone i (sym (same_but is_some (λ place chain. refl) i ni) ∙ live)
      ]

  pub detached : IsDetached a d up id
  detached = record {
    tree = record { chains = chains_then; below = below_then; above = above_then; alone = alone_then };
    gone = h.takes.here;
    leaf = leaf;
    names = λ name. same_but (has_name name) (λ place chain. refl);
    leases = same_but is_leased (λ place chain. refl);
    lives = same_but is_some (λ place chain. refl);
    aboves = aboves;
    apart = apart;
    within = within;
    differ = differ;
    below_up = below_up;
    below = below_other;
  }

-- a place that is taken from below another, by what each step says
pub detaching : (a b d : Arena Place) (up id : Id) (old now gone : Place) (chain : Chain) → value_at a up ≡ Some old → value_at a id ≡ Some gone → gone.above ≡ Some up → list_of a gone.below ≡ []
    → IsChain b chain → IsTakenOut (list_of a old.below) (list_of b chain) id → chain.lane ≡ old.below.lane → SameElsewhere a b old.below id
    → SameFreedomBut a b old.below.lane id → SameContents a b → value_at b up ≡ Some now → ((value : Place) → SameLists b (with_value b up value))
    → Puts (with_value b up (record now { below = chain })) d id None → SameLinksBut (with_value b up (record now { below = chain })) d id → SameLists (with_value b up (record now { below = chain })) d
    → Detaches a b (with_value b up (record now { below = chain })) d up id old gone chain
detaching a b d up id old now gone chain was stood above leaf whole list lane elsewhere others contents is set_lists takes take_links take_lists =
    let same : now ≡ old = same_Some _ _ (sym is ∙ contents.values up ∙ was) in
    let live : IsLive b up = ap is_some is in
    record {
      was = was;
      stood = stood;
      above = above;
      leaf = leaf;
      whole = whole;
      list = list;
      lane = lane;
      elsewhere = elsewhere;
      others = others;
      contents = contents;
      sets = subst (λ (p : Place). Puts b (with_value b up (record now { below = chain })) up (Some (record p { below = chain }))) same (puts_with_value b up (record now { below = chain }) live);
      set_links = links_of_value b up (record now { below = chain }) live;
      set_lists = set_lists (record now { below = chain });
      takes = takes;
      take_links = take_links;
      take_lists = take_lists;
    }

-- a place that names one above it stands
pub standing : (a : Arena Place) (id up : Id) → above_of (value_at a id) ≡ Some up → (gone : Place) × (value_at a id ≡ Some gone) × (gone.above ≡ Some up)
standing a id up e = each (value_at a id) refl e
  where
    each : (o : Option Place) → value_at a id ≡ o → above_of o ≡ Some up → (gone : Place) × (value_at a id ≡ Some gone) × (gone.above ≡ Some up)
    each None v n = absurd cc
    each (Some place) v n = (place, v, n)
