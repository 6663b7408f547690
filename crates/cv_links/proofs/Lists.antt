-- Lists of chains in an arena: a list is found by its first id, and stays where nothing of it is changed.
use Rattle.std.proofs.Common.{◌≡◌, ◌≢◌, ◌⊎◌, ◌≤◌, ◌<◌, ℕ, zero, suc, ◌+◌, List, [], ◌∷◌, ◌++◌, length, map, Bool, true, false, Option, Some, None, IsSome, IfSome, option_map, refl, sym, ap, subst, ◌||◌, ◌∙◌, inl, inr, arith, Contains}
use Rattle.std.specs.List.{IsDistinct, AllByRecursion, list_any}
use Rattle.std.proofs.lemmas.Bool.{eqb-true, ne_eqb, cases_eq}
use lib.Dec.{eqb}
use Rattle.std.proofs.lemmas.Option.{same_Some}
use Rattle.std.proofs.lemmas.List.{get_or_past, append_assoc, get_or-set_same, get_or-set_other, length-map, length-append}
use Rattle.std.proofs.lemmas.Map.Keys.{IsDistinct-cons}
use Rattle.std.proofs.lemmas.Map.Steps.{length-le_from_distinct_below}
use Rattle.std.proofs.lemmas.List.Elements.{Contains-append_left, Contains-append_right}
use Rattle.slab.specs.Slab.{get}
use Rattle.cv_links.specs.declared.id.Id.{Id}
use Rattle.cv_links.specs.declared.lane.Lane.{Lane}
use Rattle.cv_links.specs.declared.lane.Lane.TheVariants.{Tree, Time}
use Rattle.cv_links.specs.declared.links.Link.{Link}
use Rattle.cv_links.specs.declared.links.Link.TheVariants.{Held}
use Rattle.cv_links.specs.declared.arena.Arena.{Arena}
use Rattle.cv_links.specs.declared.chain.Chain.{Chain}
use Rattle.cv_links.specs.declared.node.Node.{Node}
use Rattle.cv_links.specs.Links.{link_in}
use Rattle.cv_links.specs.Arena.{link_at, IsLive, IsFree, Puts, SameLinks}
use Rattle.cv_links.specs.Chains.{IsNext, AreDisjoint, head_or, last_or, Runs, AreApart, IsList, follow, after_of, list_of, rest_of, IsChain, SameList, SameLists}
use Rattle.cv_links.specs.Lends.{with_value, revalued}
use Rattle.cv_links.specs.RawStepsInner.{end_of, Joins, Parts, Touches}
use Rattle.cv_links.proofs.Segments.{here, later, cons_cases, none_within, runs_held, runs_live, runs_kept, runs_cut, apart_cat, apart_left, apart_right, apart_between, last_or-append, last_within, head_within}

lane_cases : (a b : Lane) → (a ≡ b) ⊎ (a ≢ b)
lane_cases Tree Tree = inl refl
lane_cases Tree Time = inr (λ e. absurd (cc))
lane_cases Time Tree = inr (λ e. absurd (cc))
lane_cases Time Time = inl refl

-- a walk from the first id finds the list
pub follow_runs : (f : Id → Option Link) (xs : List Id) (p : Option Id) (n : ℕ) → length xs ≤ n → Runs f p xs None → follow f n (head_or xs None) ≡ xs
follow_runs f [] p zero within r = refl
follow_runs f [] p (suc n) within r = refl
follow_runs f (x ∷ xs) p zero within r = absurd (omega (arith, within))
follow_runs f (x ∷ xs) p (suc n) within r = ap (λ rest. x ∷ rest) (ap (λ at. follow f n (after_of at)) r.0 ∙ follow_runs f xs (Some x) n (omega (arith, within)) r.1)

or_true : (a b : Bool) → (a || b) ≡ true → (a ≡ true) ⊎ (b ≡ true)
or_true true b e = inl refl
or_true false b e = inr e

-- ids apart are places apart
pub ids_apart : (i j : Id) → i ≢ j → i.place ≢ j.place
ids_apart i j d e = d (ap (λ place. record { place = place }) e)

-- two ids are one or not
pub id_cases : (i j : Id) → (i ≡ j) ⊎ (i ≢ j)
id_cases i j =
    elim (cases_eq i.place j.place) [
      | inl same ↦ inl (ap (λ place. record { place = place }) same)
      | inr differs ↦ inr (λ e. differs (ap (λ (id : Id). id.place) e))
    ]

abbrev places : List Id → List ℕ
places ids = map (λ id. id.place) ids

away : (x : Id) (xs : List Id) → (Contains xs x → ⊥) → AllByRecursion (λ y. eqb x.place y ≡ false) (places xs)
away x [] n = tt
away x (y ∷ ys) n = (ne_eqb x.place y.place (ids_apart x y (λ same. n (rw same (here y ys)))), away x ys (λ c. n (later y ys x c)))

distinct : (xs : List Id) → AreApart xs → IsDistinct eqb (places xs)
distinct [] a = unfold IsDistinct in tt
distinct (x ∷ xs) a = IsDistinct-cons eqb x.place (places xs) (away x xs a.0) (distinct xs a.1)

runs_below : (f : Id → Option Link) (k : ℕ) → ((i : Id) (l : Link) → f i ≡ Some l → i.place < k) → (xs : List Id) (p n : Option Id) → Runs f p xs n → (q : ℕ) → list_any (eqb q) (places xs) ≡ true → q < k
runs_below f k w [] p n r q m = absurd (cc)
runs_below f k w (x ∷ xs) p n r q m =
    elim (or_true (eqb q x.place) (list_any (eqb q) (places xs)) m) [
      | inl t ↦ rw (eqb-true q x.place t) (w x _ r.0)
      | inr t ↦ runs_below f k w xs (Some x) n r.1 q t
    ]

last_some : (xs : List Id) (x : Id) (e n : Option Id) → end_of (last_or xs (Some x)) e n ≡ e
last_some [] x e n = refl
last_some (y ∷ ys) x e n = last_some ys y e n

pub first_joined : (xs ys : List Id) (id : Id) → end_of (last_or xs None) (head_or (xs ++ ys) None) (Some id) ≡ head_or (xs ++ id ∷ ys) None
first_joined [] ys id = refl
first_joined (x ∷ xs) ys id = last_some xs x (Some x) (Some id)

pub last_joined : (xs ys : List Id) (id : Id) → end_of (head_or ys None) (last_or (xs ++ ys) None) (Some id) ≡ last_or (xs ++ id ∷ ys) None
last_joined xs [] id = sym (last_or-append xs (id ∷ []) None)
last_joined xs (y ∷ ys) id = last_or-append xs (y ∷ ys) None ∙ sym (last_or-append xs (id ∷ y ∷ ys) None)

pub first_parted : (xs ys : List Id) (id : Id) → end_of (last_or xs None) (head_or (xs ++ id ∷ ys) None) (head_or ys None) ≡ head_or (xs ++ ys) None
first_parted [] ys id = refl
first_parted (x ∷ xs) ys id = last_some xs x (Some x) (head_or ys None)

pub last_parted : (xs ys : List Id) (id : Id) → end_of (head_or ys None) (last_or (xs ++ id ∷ ys) None) (last_or xs None) ≡ last_or (xs ++ ys) None
last_parted xs [] id = sym (last_or-append xs [] None)
last_parted xs (y ∷ ys) id = last_or-append xs (id ∷ y ∷ ys) None ∙ sym (last_or-append xs (y ∷ ys) None)

pub split : (xs : List Id) (x : Id) → Contains xs x → (front back : List Id) × (xs ≡ front ++ x ∷ back)
split [] x c = absurd (none_within x c)
split (y ∷ ys) x c =
    elim (cons_cases y ys x c) [
      | inl same ↦ ([], ys, ap (λ z. z ∷ ys) same)
      | inr there ↦ let rest = split ys x there in (y ∷ rest.0, rest.1, ap (λ zs. y ∷ zs) rest.2)
    ]

module _ {T : Type 0} where
  -- an id that stands anywhere is a place in the arena
  pub link_within : (a : Arena T) (lane : Lane) (i : Id) (l : Link) → link_at a lane i ≡ Some l → i.place < length a.nodes.slots
  link_within a lane i l e = grind (arith, get_or_past)

  -- the list of a chain is what its links say
  pub kept_runs : (a b : Arena T) (chain : Chain) (ids : List Id) → ((i : Id) → Contains ids i → link_at b chain.lane i ≡ link_at a chain.lane i) → IsList a chain ids → IsList b chain ids
  kept_runs a b chain ids k l =
      record {
        first = l.first;
        last = l.last;
        runs = runs_kept (link_at a chain.lane) (link_at b chain.lane) ids None None k l.runs;
        apart = l.apart;
      }

  -- a list is no longer than the arena has places
  pub length_within : (a : Arena T) (chain : Chain) (ids : List Id) → IsList a chain ids → length ids ≤ length a.nodes.slots
  length_within a chain ids l =
      subst (λ count. count ≤ length a.nodes.slots) (length-map ids (λ id. id.place))
      (length-le_from_distinct_below (places ids) (length a.nodes.slots) (distinct ids l.apart)
      (runs_below (link_at a chain.lane) (length a.nodes.slots) (link_within a chain.lane) ids None None l.runs))

  -- a chain has no other list than the one that is found
  pub list_is : (a : Arena T) (chain : Chain) (ids : List Id) → IsList a chain ids → list_of a chain ≡ ids
  list_is a chain ids l =
      ap (follow (link_at a chain.lane) (length a.nodes.slots)) l.first
      ∙ follow_runs (link_at a chain.lane) ids None (length a.nodes.slots) (length_within a chain ids l) l.runs

  pub is_chain : (a : Arena T) (chain : Chain) (ids : List Id) → IsList a chain ids → IsChain a chain
  is_chain a chain ids l = subst (IsList a chain) (sym (list_is a chain ids l)) l

  -- a list stays where each of its ids stands as before
  pub kept : (a b : Arena T) (chain : Chain) → IsChain a chain → ((i : Id) → Contains (list_of a chain) i → link_at b chain.lane i ≡ link_at a chain.lane i) → SameList a b chain
  kept a b chain is k =
      let l = kept_runs a b chain (list_of a chain) k is in
      record { is = is_chain b chain (list_of a chain) l; list = list_is b chain (list_of a chain) l }

  -- a list stays where it has none of the ids that are touched
  pub kept_elsewhere : (a b : Arena T) (lane : Lane) (id : Id) (before after : Option Id) (ids : List Id) → Touches a b lane id before after
      → ((i : Id) → before ≡ Some i → Contains ids i) → ((i : Id) → after ≡ Some i → Contains ids i)
      → (other : Chain) → IsChain a other → (other.lane ≡ lane → AreDisjoint (id ∷ ids) (list_of a other)) → SameList a b other
  kept_elsewhere a b lane id before after ids t kb ka other is away =
      kept a b other is (λ i c. elim (lane_cases other.lane lane) [
        | inl same ↦ rw same (t.others i
            (λ e. away same i (rw e (here id ids)) c)
            (λ e. away same i (later id ids i (kb i e)) c)
            (λ e. away same i (later id ids i (ka i e)) c))
        | inr differs ↦ t.lanes other.lane differs i
      ])

  -- the list after an id was put between its two parts
  pub joined : (a b : Arena T) (c d : Chain) (id : Id) (before after : Option Id) (xs ys : List Id) → IsChain a c → list_of a c ≡ xs ++ ys
      → Joins a b c.lane id before after → IsFree a c.lane id → before ≡ last_or xs None → after ≡ head_or ys None
      → d.lane ≡ c.lane → d.first ≡ end_of before c.first (Some id) → d.last ≡ end_of after c.last (Some id) → IsList b d (xs ++ id ∷ ys)
  joined a b c d id before after xs ys is e joins free eb ea lane first last =
      let l : IsList a c (xs ++ ys) = subst (IsList a c) e is in
      let absent : Contains (xs ++ ys) id → ⊥ = λ m. runs_held (link_at a c.lane) (xs ++ ys) None None id l.runs m free in
      record {
        first = first ∙ rw (eb, l.first) (first_joined xs ys id);
        last = last ∙ rw (ea, l.last) (last_joined xs ys id);
        runs = rw lane (joins xs ys l.runs l.apart eb ea);
        apart = apart_cat xs (id ∷ ys) (apart_left xs ys l.apart) (λ m. absent (Contains-append_right xs ys id m), apart_right xs ys l.apart)
            (λ i p q. elim (cons_cases id ys i q) [
              | inl same ↦ absent (Contains-append_left xs ys id (rw same p))
              | inr there ↦ apart_between xs ys l.apart i p there
            ]);
      }

  -- the list after an id was taken out
  pub parted : (a b : Arena T) (c d : Chain) (id : Id) (before after : Option Id) (xs ys : List Id) → IsChain a c → list_of a c ≡ xs ++ id ∷ ys
      → Parts a b c.lane id before after → before ≡ last_or xs None → after ≡ head_or ys None
      → d.lane ≡ c.lane → d.first ≡ end_of before c.first after → d.last ≡ end_of after c.last before → IsList b d (xs ++ ys)
  parted a b c d id before after xs ys is e parts eb ea lane first last =
      let l : IsList a c (xs ++ id ∷ ys) = subst (IsList a c) e is in
      record {
        first = first ∙ rw (eb, ea, l.first) (first_parted xs ys id);
        last = last ∙ rw (eb, ea, l.last) (last_parted xs ys id);
        runs = rw lane (parts xs ys l.runs l.apart eb ea);
        apart = apart_cat xs ys (apart_left xs (id ∷ ys) l.apart) (apart_right xs (id ∷ ys) l.apart).1
            (λ i p q. apart_between xs (id ∷ ys) l.apart i p (later id ys i q));
      }

  -- an id of a list is live
  pub live_in : (a : Arena T) (chain : Chain) (ids : List Id) (i : Id) → IsList a chain ids → Contains ids i → IsLive a i
  live_in a chain ids i l c =
      let held = runs_live (link_at a chain.lane) ids None None i l.runs c in
      live_from (get a.nodes i.place) (Held held.0 held.1) held.2
    where
      live_from : (o : Option (Node T)) (k : Link) → option_map (λ node. link_in node.links chain.lane) o ≡ Some k → IsSome (option_map (λ node. node.value) o)
      live_from None k e = absurd (cc)
      live_from (Some node) k e = refl

  -- where an id with these parts of a list on its sides stands
  pub stands : (a : Arena T) (chain : Chain) (front back : List Id) (i : Id) → IsChain a chain → list_of a chain ≡ front ++ i ∷ back → link_at a chain.lane i ≡ Some (Held (last_or front None) (head_or back None))
  stands a chain front back i is e =
      let l : IsList a chain (front ++ i ∷ back) = subst (IsList a chain) e is in
      (runs_cut (link_at a chain.lane) front (i ∷ back) None None l.runs).1.0

  -- from an id of a list on come the id, and those from the next one on
  pub rest_next : (a : Arena T) (chain : Chain) (id : Id) (next : Option Id) → IsChain a chain → Contains (list_of a chain) id → IsNext (list_of a chain) id next
      → rest_of a chain (Some id) ≡ id ∷ rest_of a chain next
  rest_next a chain id next is within follows =
      let f = link_at a chain.lane in
      let n = length a.nodes.slots in
      let parts = split (list_of a chain) id within in
      let runs = subst (λ ids. Runs f None ids None) parts.2 is.runs in
      let cut = runs_cut f parts.0 (id ∷ parts.1) None None runs in
      let short : length (list_of a chain) ≤ n = length_within a chain (list_of a chain) is in
      let long : length (list_of a chain) ≡ length parts.0 + length (id ∷ parts.1) = ap length parts.2 ∙ length-append parts.0 (id ∷ parts.1) in
      let whole : follow f n (Some id) ≡ id ∷ parts.1 = follow_runs f (id ∷ parts.1) (last_or parts.0 None) n (omega arith) cut.1 in
      let later : follow f n (head_or parts.1 None) ≡ parts.1 = follow_runs f parts.1 (Some id) n (omega arith) cut.1.1 in
      whole ∙ ap (λ ids. id ∷ ids) (sym (ap (follow f n) (follows parts.0 parts.1 parts.2) ∙ later))

  pub rest_first : (a : Arena T) (chain : Chain) (id : Id) → IsChain a chain → Contains (list_of a chain) id → (more : List Id) × (rest_of a chain (Some id) ≡ id ∷ more)
  rest_first a chain id is within =
      let parts = split (list_of a chain) id within in (
        rest_of a chain (head_or parts.1 None),
        rest_next a chain id (head_or parts.1 None) is within (λ front back e.
            ap after_of (sym (stands a chain parts.0 parts.1 id is parts.2) ∙ stands a chain front back id is e)),
      )

  -- where nothing comes, no ids come
  pub rest_none : (a : Arena T) (chain : Chain) → rest_of a chain None ≡ []
  rest_none a chain = none (length a.nodes.slots)
    where
      none : (n : ℕ) → follow (link_at a chain.lane) n None ≡ []
      none zero = refl
      none (suc n) = refl

  -- an id of a list is not free
  pub held_in : (a : Arena T) (chain : Chain) (i : Id) → IsChain a chain → Contains (list_of a chain) i → IsFree a chain.lane i → ⊥
  held_in a chain i is c free = runs_held (link_at a chain.lane) (list_of a chain) None None i is.runs c free

  -- what may stand at one side is live, if all of it is in the list
  pub live_if : (a : Arena T) (chain : Chain) → IsChain a chain → (o : Option Id) → ((i : Id) → o ≡ Some i → Contains (list_of a chain) i) → IfSome o (λ i. IsLive a i)
  live_if a chain is None k = tt
  live_if a chain is (Some i) k = live_in a chain (list_of a chain) i is (k i refl)

  -- the list after an id was put after another
  pub joined_after : (a b : Arena T) (c d : Chain) (place id : Id) (after : Option Id) (front back : List Id) → IsChain a c → list_of a c ≡ front ++ place ∷ back
      → Joins a b c.lane id (Some place) after → IsFree a c.lane id → after ≡ head_or back None
      → d.lane ≡ c.lane → d.first ≡ c.first → d.last ≡ end_of after c.last (Some id) → IsList b d (front ++ place ∷ id ∷ back)
  joined_after a b c d place id after front back is e joins free ea lane first last =
      subst (IsList b d) (append_assoc front (place ∷ []) (id ∷ back))
      (joined a b c d id (Some place) after (front ++ place ∷ []) back is (e ∙ sym (append_assoc front (place ∷ []) back)) joins free
      (sym (last_or-append front (place ∷ []) None)) ea lane first last)

-- what stands beside an id of a list is in the list
pub before_in : (ids front back : List Id) (id i : Id) → ids ≡ front ++ id ∷ back → last_or front None ≡ Some i → Contains ids i
before_in ids front back id i e last = subst (λ xs. Contains xs i) (sym e) (Contains-append_left front (id ∷ back) i (last_within front i last))

pub after_in : (ids front back : List Id) (id i : Id) → ids ≡ front ++ id ∷ back → head_or back None ≡ Some i → Contains ids i
after_in ids front back id i e first = subst (λ xs. Contains xs i) (sym e) (Contains-append_right front (id ∷ back) i (later id back i (head_within back i first)))

-- what comes first in a list, or next after one of its ids, is in it
pub first_in : (ids : List Id) → IfSome (head_or ids None) (λ i. Contains ids i)
first_in [] = tt
first_in (x ∷ xs) = here x xs

pub next_in : (ids : List Id) (id : Id) (next : Option Id) → Contains ids id → IsNext ids id next → IfSome next (λ i. Contains ids i)
next_in ids id None stands follows = tt
next_in ids id (Some i) stands follows =
    let parts = split ids id stands in
    after_in ids parts.0 parts.1 id i parts.2 (sym (follows parts.0 parts.1 parts.2))

-- what stands beside an id of a list is not the id
pub before_apart : (ids front back : List Id) (id : Id) → ids ≡ front ++ id ∷ back → AreApart ids → last_or front None ≢ Some id
before_apart ids front back id e apart last = apart_between front (id ∷ back) (subst AreApart e apart) id (last_within front id last) (here id back)

pub after_apart : (ids front back : List Id) (id : Id) → ids ≡ front ++ id ∷ back → AreApart ids → head_or back None ≢ Some id
after_apart ids front back id e apart first = (apart_right front (id ∷ back) (subst AreApart e apart)).0 (head_within back id first)

module _ {T : Type 0} where
  -- all lists stay where all links stay
  pub kept_all : (a b : Arena T) → ((lane : Lane) (i : Id) → link_at b lane i ≡ link_at a lane i) → (chain : Chain) → IsChain a chain → SameList a b chain
  kept_all a b k chain is = kept a b chain is (λ i c. k chain.lane i)

  -- or all but those of an id that stands in no list
  pub kept_but : (a b : Arena T) (id : Id) → ((lane : Lane) (b a' : Option Id) → link_at a lane id ≢ Some (Held b a')) → ((lane : Lane) (i : Id) → i ≢ id → link_at b lane i ≡ link_at a lane i) → (chain : Chain) → IsChain a chain → SameList a b chain
  kept_but a b id none k chain is =
      kept a b chain is (λ i c. k chain.lane i (λ e.
      let held = runs_live (link_at a chain.lane) (list_of a chain) None None i is.runs c in
      none chain.lane held.0 held.1 (subst (λ x. link_at a chain.lane x ≡ Some (Held held.0 held.1)) e held.2)))

-- two segments with one first id are one
pub same_follow : (f : Id → Option Link) (xs ys : List Id) (p q : Option Id) → head_or xs None ≡ head_or ys None → Runs f p xs None → Runs f q ys None → xs ≡ ys
same_follow f [] [] p q e r s = refl
same_follow f [] (y ∷ ys) p q e r s = absurd (cc)
same_follow f (x ∷ xs) [] p q e r s = absurd (cc)
same_follow f (x ∷ xs) (y ∷ ys) p q e r s =
    let heads : x ≡ y = same_Some x y e in
    let after = ap after_of (sym r.0 ∙ ap f heads ∙ s.0) in
    ap2 heads (same_follow f xs ys (Some x) (Some y) after r.1 s.1)
  where
    ap2 : {u v : Id} {us vs : List Id} → u ≡ v → us ≡ vs → ◌≡◌ {A = List Id} (u ∷ us) (v ∷ vs)
    ap2 e g = rw (e, g) refl

module _ {T : Type 0} where
  -- another value of a live id leaves all links
  pub links_with_value : (a : Arena T) (id : Id) (node : Node T) (value : T) → get a.nodes id.place ≡ Some node → (lane : Lane) (i : Id) → link_at (with_value a id value) lane i ≡ link_at a lane i
  links_with_value a id node value found lane i =
      let within : id.place < length a.nodes.slots = grind (arith, get_or_past) in
      elim (cases_eq i.place id.place) [
        | inl same ↦ rw same (ap (option_map (λ n. link_in n.links lane)) (get_or-set_same a.nodes.slots id.place (revalued (get a.nodes id.place) value) None within) ∙ rw found refl)
        | inr differs ↦ ap (option_map (λ n. link_in n.links lane)) (get_or-set_other a.nodes.slots id.place i.place (revalued (get a.nodes id.place) value) None differs)
      ]

  pub lists_with_value : (a : Arena T) (id : Id) (node : Node T) (value : T) → get a.nodes id.place ≡ Some node → SameLists a (with_value a id value)
  lists_with_value a id node value found = kept_all a (with_value a id value) (links_with_value a id node value found)

module _ {T : Type 0} where
  -- the node of a live id
  node_of : (a : Arena T) (id : Id) → IsLive a id → (node : Node T) × (get a.nodes id.place ≡ Some node)
  node_of a id live = stored (get a.nodes id.place) refl live
    where
      stored : (o : Option (Node T)) → get a.nodes id.place ≡ o → IsSome (option_map (λ node. node.value) o) → (node : Node T) × (get a.nodes id.place ≡ Some node)
      stored None e live = absurd cc
      stored (Some node) e live = (node, e)

  -- another value of a live id is there, and leaves all others
  pub puts_with_value : (a : Arena T) (id : Id) (value : T) → IsLive a id → Puts a (with_value a id value) id (Some value)
  puts_with_value a id value live =
      let stored = node_of a id live in
      let found : get a.nodes id.place ≡ Some stored.0 = stored.1 in
      let within : id.place < length a.nodes.slots = grind (arith, get_or_past) in
      record {
        here = ap (option_map (λ n. n.value)) (get_or-set_same a.nodes.slots id.place (revalued (get a.nodes id.place) value) None within) ∙ rw found refl;
        others = λ other d. ap (option_map (λ n. n.value)) (get_or-set_other a.nodes.slots id.place other.place (revalued (get a.nodes id.place) value) None (ids_apart other id d));
      }

  pub links_of_value : (a : Arena T) (id : Id) (value : T) → IsLive a id → SameLinks a (with_value a id value)
  links_of_value a id value live =
      let stored = node_of a id live in
      links_with_value a id stored.0 value stored.1
