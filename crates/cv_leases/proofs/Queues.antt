-- The leases of places, and queues that an entry comes to or leaves.
use Rattle.std.proofs.Common.{◌≡◌, ◌≢◌, ◌+◌, inl, inr, List, [], ◌∷◌, ◌++◌, length, ℕ, zero, suc, true, ◌<◌, ◌≤◌, ◌-◌, option_map, Option, None, Some, IsSome, is_some, IfSome, slice_get, Contains, refl, sym, ap, subst, ◌∙◌, arith}
use Rattle.std.proofs.Math.Numerals.{sub-one}
use Rattle.std.proofs.lemmas.Option.{same_Some}
use Rattle.std.proofs.lemmas.List.{length-append}
use Rattle.std.proofs.lemmas.List.Elements.{Contains-append_cases}
use Rattle.cv_links.specs.declared.id.Id.{Id}
use Rattle.cv_links.specs.declared.lane.Lane.{Lane}
use Rattle.cv_links.specs.declared.arena.Arena.{Arena}
use Rattle.cv_links.specs.Arena.{value_at, IsLive, IsFree, Puts, SameContents, SameValues, SameLinks, SameLinksBut, SameFreedomBut}
use Rattle.cv_links.specs.Chains.{AreApart, IsChain, list_of, IsTakenOut, SameLists, rest_of, head_or}
use Rattle.cv_links.proofs.Laws.{here, later, split, live_in, rest_first, rest_none, id_cases, apart_between, apart_right}
use Rattle.cv_base.specs.declared.token.Token.{Token}
use Rattle.cv_leases.specs.Leases.{same_token, lease_of, without, unexpired, TokensDiffer, DeadlinesRise}
use Rattle.cv_leases.proofs.Tables.{lease_of_token}
use Rattle.cv_leases.proofs.Ending.{leaves, none_due, due, rest_rise}
use Rattle.cv_leases.specs.declared.lease.Lease.{Lease}
use Rattle.cv_leases.specs.declared.queue.Entry.{Entry}
use Rattle.cv_leases.specs.declared.queue.Queue.{Queue}
use Rattle.cv_leases.specs.Queue.{before_rest, leases_by, leases_in, ids_of, IsQueue}
use Rattle.cv_leases.specs.QueueInner.{lease_at, IsParted}

before_cat : (entry : Option Entry) (xs ys : List Lease) → before_rest entry (xs ++ ys) ≡ before_rest entry xs ++ ys
before_cat None xs ys = refl
before_cat (Some entry) xs ys = refl

-- the leases of two parts
pub leases_cat : (at : Id → Option Entry) (xs ys : List Id) → leases_by at (xs ++ ys) ≡ leases_by at xs ++ leases_by at ys
leases_cat at [] ys = refl
leases_cat at (x ∷ xs) ys = ap (before_rest (at x)) (leases_cat at xs ys) ∙ before_cat (at x) (leases_by at xs) (leases_by at ys)

-- places whose entries are as before have their leases
pub leases_kept : (at now : Id → Option Entry) (xs : List Id) → ((id : Id) → Contains xs id → now id ≡ at id) → leases_by now xs ≡ leases_by at xs
leases_kept at now [] same = refl
leases_kept at now (x ∷ xs) same = ap (λ entry. before_rest entry (leases_by now xs)) (same x (here x xs)) ∙ ap (before_rest (at x)) (leases_kept at now xs (λ id c. same id (later x xs id c)))

-- an id that is taken out of a list is none of those left
pub absent : (front back : List Id) (id i : Id) → AreApart (front ++ id ∷ back) → Contains (front ++ back) i → i ≢ id
absent front back id i apart c = λ e.
    elim (Contains-append_cases front back i c) [
      | inl p ↦ apart_between front (id ∷ back) apart i p (subst (λ x. Contains (id ∷ back) x) (sym e) (here id back))
      | inr p ↦ (apart_right front (id ∷ back) apart).0 (subst (λ x. Contains back x) e p)
    ]

-- a value that is gone is no live one
pub gone : (arena : Arena Entry) (id i : Id) → value_at arena id ≡ None → IsLive arena i → i ≢ id
gone arena id i none live = λ e. let there : IsLive arena id = subst (λ x. IsLive arena x) e live in none_lives (value_at arena id) none there
  where
    none_lives : (o : Option Entry) → o ≡ None → IsSome o → ⊥
    none_lives None e live = absurd cc
    none_lives (Some entry) e live = cc

-- a queue from which an entry was taken
pub parted : (old new : Queue) (mid : Arena Entry) (id : Id) (entry : Entry) → IsQueue old
    → IsTakenOut (ids_of old) (list_of mid new.order) id → SameContents old.entries mid
    → value_at mid id ≡ Some entry → Puts mid new.entries id None → list_of new.entries new.order ≡ list_of mid new.order
    → (front back : List Id) → ids_of old ≡ front ++ id ∷ back → IsParted old new front back entry.lease
parted old new mid id entry whole out same found puts list front back e =
    let at = value_at old.entries in
    let apart : AreApart (front ++ id ∷ back) = subst AreApart e whole.chain.apart in
    let is : at id ≡ Some entry = sym (same.values id) ∙ found in
    record {
      before = ap (leases_by at) e ∙ leases_cat at front (id ∷ back) ∙ ap (λ o. leases_by at front ++ before_rest o (leases_by at back)) is;
      after = ap (leases_by (value_at new.entries)) (list ∙ out front back e)
          ∙ leases_kept at (value_at new.entries) (front ++ back) (λ i c. puts.others i (absent front back id i apart c) ∙ same.values i)
          ∙ leases_cat at front back;
    }

-- it has one lease less
pub shorter : (old new : Queue) (front back : List Id) (lease : Lease) → IsParted old new front back lease → length (leases_in old) ≡ length (leases_in new) + 1
shorter old new front back lease h =
    let xs = leases_by (value_at old.entries) front in
    let ys = leases_by (value_at old.entries) back in
    let was : length (leases_in old) ≡ length xs + length (lease ∷ ys) = ap length h.before ∙ length-append xs (lease ∷ ys) in
    let is : length (leases_in new) ≡ length xs + length ys = ap length h.after ∙ length-append xs ys in
    omega (arith, was, is)

-- a queue behind which an entry was put
pub pushed : (old new : Queue) (mid : Arena Entry) (id : Id) (entry : Entry) → IsQueue old → value_at old.entries id ≡ None
    → Puts old.entries mid id (Some entry) → list_of new.entries new.order ≡ list_of mid old.order ++ id ∷ [] → list_of mid old.order ≡ ids_of old
    → SameContents mid new.entries → leases_in new ≡ leases_in old ++ entry.lease ∷ []
pushed old new mid id entry whole fresh puts list kept same =
    let at = value_at new.entries in
    let ids = ids_of old in
    ap (leases_by at) (list ∙ ap (λ l. l ++ id ∷ []) kept)
    ∙ leases_cat at ids (id ∷ [])
    ∙ ap (λ l. l ++ leases_by at (id ∷ [])) (leases_kept (value_at old.entries) at ids (λ i c.
    same.values i ∙ puts.others i (gone old.entries id i fresh (live_in old.entries old.order ids i whole.chain c))))
    ∙ ap (λ o. leases_in old ++ before_rest o []) (same.values id ∙ puts.here)

pub length_pushed : (xs : List Lease) (x : Lease) → length (xs ++ x ∷ []) ≡ length xs + 1
length_pushed xs x = let both = length-append xs (x ∷ []) in omega (arith, both)

-- a queue from which an entry was taken is whole
pub taken : (old new : Queue) (mid : Arena Entry) (id : Id) (entry : Entry) → IsQueue old → Contains (ids_of old) id
    → IsChain new.entries new.order → new.order.lane ≡ old.order.lane → SameFreedomBut old.entries mid old.order.lane id → SameContents old.entries mid
    → Puts mid new.entries id None → SameLinksBut mid new.entries id
    → ((front back : List Id) → ids_of old ≡ front ++ id ∷ back → IsParted old new front back entry.lease) → new.count ≡ old.count - 1 → IsQueue new
taken old new mid id entry whole stands chain lane others same puts links parts count =
    record {
      chain = chain;
      alone = λ other differs i live.
          let away : i ≢ id = gone new.entries id i puts.here live in
          links other i away ∙ others.lanes other (λ e. differs (e ∙ sym lane)) i
          ∙ whole.alone other (λ e. differs (e ∙ sym lane)) i (ap is_some (sym (puts.others i away ∙ same.values i)) ∙ live);
      count = fewer;
    }
  where
    fewer : new.count ≡ length (leases_in new)
    fewer =
        let at = split (ids_of old) id stands in
        let less = shorter old new at.0 at.1 entry.lease (parts at.0 at.1 at.2) in
        let counted = whole.count in
        omega (arith, less, counted, count)

-- a queue to which an entry came is whole
pub put : (old new : Queue) (mid : Arena Entry) (id : Id) (entry : Entry) → IsQueue old → IsChain new.entries new.order → new.order.lane ≡ old.order.lane
    → ((lane : Lane) → IsFree mid lane id) → SameLinksBut old.entries mid id → Puts old.entries mid id (Some entry)
    → SameFreedomBut mid new.entries old.order.lane id → SameContents mid new.entries
    → leases_in new ≡ leases_in old ++ entry.lease ∷ [] → new.count ≡ old.count + 1 → IsQueue new
put old new mid id entry whole chain lane free links puts others same leases count =
    record {
      chain = chain;
      alone = λ other differs i live.
          let apart : other ≢ old.order.lane = λ e. differs (e ∙ sym lane) in
          others.lanes other apart i ∙ elim (id_cases i id) [
            | inl is ↦ subst (λ j. IsFree mid other j) (sym is) (free other)
            | inr away ↦ links other i away ∙ whole.alone other apart i (ap is_some (sym (same.values i ∙ puts.others i away)) ∙ live)
          ];
      count = more;
    }
  where
    more : new.count ≡ length (leases_in new)
    more =
        let longer : length (leases_in new) ≡ length (leases_in old) + 1 = ap length leases ∙ length_pushed (leases_in old) entry.lease in
        let counted = whole.count in
        omega (arith, longer, counted, count)

-- the lease at a place is the first of those from it on
pub first_at : (q : Queue) (at : Option Id) → IsQueue q → IfSome at (λ id. Contains (ids_of q) id) → lease_at q at ≡ slice_get (leases_by (value_at q.entries) (rest_of q.entries q.order at)) 0
first_at q None whole within = sym (ap (λ ids. slice_get (leases_by (value_at q.entries) ids) 0) (rest_none q.entries q.order))
first_at q (Some id) whole within =
    let from = rest_first q.entries q.order id whole.chain within in
    each (value_at q.entries id) from.0 (live_in q.entries q.order (ids_of q) id whole.chain within)
    ∙ sym (ap (λ ids. slice_get (leases_by (value_at q.entries) ids) 0) from.1)
  where
    each : (o : Option Entry) (more : List Id) → IsSome o → option_map (λ entry. entry.lease) o ≡ slice_get (before_rest o (leases_by (value_at q.entries) more)) 0
    each None more live = absurd cc
    each (Some entry) more live = refl

-- where no place is left, no lease is
pub none_left : (q : Queue) (left : ℕ) → slice_get (leases_by (value_at q.entries) (rest_of q.entries q.order None)) left ≡ None
none_left q left = ap (λ ids. slice_get (leases_by (value_at q.entries) ids) left) (rest_none q.entries q.order)

-- one place on
pub one_on : (q : Queue) (id : Id) (more : List Id) (left : ℕ) → IsQueue q → Contains (ids_of q) id → 0 < left
    → slice_get (leases_by (value_at q.entries) (id ∷ more)) left ≡ slice_get (leases_by (value_at q.entries) more) (left - 1)
one_on q id more left whole within some = each (value_at q.entries id) left some (live_in q.entries q.order (ids_of q) id whole.chain within)
  where
    each : (o : Option Entry) (left : ℕ) → 0 < left → IsSome o → slice_get (before_rest o (leases_by (value_at q.entries) more)) left ≡ slice_get (leases_by (value_at q.entries) more) (left - 1)
    each None left some live = absurd cc
    each (Some entry) zero some live = absurd (omega arith)
    each (Some entry) (suc left) some live = sym (ap (slice_get (leases_by (value_at q.entries) more)) (sub-one (suc left)))

-- the leases from a place on begin with its own
pub starts : (q : Queue) (id : Id) (back : List Id) (lease : Lease) → lease_at q (Some id) ≡ Some lease → leases_by (value_at q.entries) (id ∷ back) ≡ lease ∷ leases_by (value_at q.entries) back
starts q id back lease e = each (value_at q.entries id) e
  where
    each : (o : Option Entry) → option_map (λ entry. entry.lease) o ≡ Some lease → before_rest o (leases_by (value_at q.entries) back) ≡ lease ∷ leases_by (value_at q.entries) back
    each None e = absurd cc
    each (Some entry) e = let same : entry.lease ≡ lease = same_Some _ _ e in ap (λ l. l ∷ leases_by (value_at q.entries) back) same

-- where the entries stay, so does the queue
pub stayed_leases : (q : Queue) (after : Arena Entry) → IsQueue q → SameLists q.entries after → SameValues q.entries after → leases_in (record q { entries = after }) ≡ leases_in q
stayed_leases q after whole lists values =
    ap (leases_by (value_at after)) (lists q.order whole.chain).list ∙ leases_kept (value_at q.entries) (value_at after) (ids_of q) (λ i c. values i)

pub stayed_whole : (q : Queue) (after : Arena Entry) → IsQueue q → SameLists q.entries after → SameValues q.entries after → SameLinks q.entries after → IsQueue (record q { entries = after })
stayed_whole q after whole lists values links = record {
  chain = (lists q.order whole.chain).is;
  alone = λ lane differs i live. links lane i ∙ whole.alone lane differs i (ap is_some (sym (values i)) ∙ live);
  count = whole.count ∙ sym (ap length (stayed_leases q after whole lists values));
}

-- the lease that is found by a token
pub seek_found : (q : Queue) (id : Id) (token : Token) (entry : Entry) → IsQueue q → Contains (ids_of q) id → value_at q.entries id ≡ Some entry → same_token entry.lease.token token ≡ true
    → lease_of token (leases_by (value_at q.entries) (rest_of q.entries q.order (Some id))) ≡ Some entry.lease
seek_found q id token entry whole within found has =
    let from = rest_first q.entries q.order id whole.chain within in
    ap (λ ids. lease_of token (leases_by (value_at q.entries) ids)) from.1
    ∙ ap (λ o. lease_of token (before_rest o (leases_by (value_at q.entries) from.0))) found
    ∙ rw has refl

-- the first place of a list
pub first_split : (ids : List Id) (id : Id) → head_or ids None ≡ Some id → (back : List Id) × (ids ≡ id ∷ back)
first_split [] id e = absurd cc
first_split (x ∷ xs) id e = (xs, ap (λ y. y ∷ xs) (same_Some x id e))

-- where the first lease isn't due, none is
pub not_due : (q : Queue) (moment : ℕ) (id : Id) (lease : Lease) → DeadlinesRise (leases_in q) → head_or (ids_of q) None ≡ Some id → lease_at q (Some id) ≡ Some lease → moment < lease.deadline
    → leases_in q ≡ unexpired moment (leases_in q)
not_due q moment id lease rise head at later =
    let parts = first_split (ids_of q) id head in
    let e : leases_in q ≡ lease ∷ leases_by (value_at q.entries) parts.0 = ap (leases_by (value_at q.entries)) parts.1 ∙ starts q id parts.0 lease at in
    subst (λ ls. ls ≡ unexpired moment ls) (sym e) (none_due moment lease (leases_by (value_at q.entries) parts.0) (subst DeadlinesRise e rise) later)

-- a queue whose first lease was due
pub record DropsDue (moment : ℕ) (old new : Queue) : Type 0 where
  pub rise : DeadlinesRise (leases_in new)
  pub leases : unexpired moment (leases_in new) ≡ unexpired moment (leases_in old)
  pub dropped : length (leases_in old) ≡ length (leases_in new) + 1

pub drops_due : (old new : Queue) (moment : ℕ) (id : Id) (lease : Lease) → DeadlinesRise (leases_in old) → head_or (ids_of old) None ≡ Some id
    → ((front back : List Id) → ids_of old ≡ front ++ id ∷ back → IsParted old new front back lease) → lease.deadline ≤ moment → DropsDue moment old new
drops_due old new moment id lease rise head parts over =
    let at = first_split (ids_of old) id head in
    let h = parts [] at.0 at.1 in
    let ls = leases_by (value_at old.entries) at.0 in
    let before : leases_in old ≡ lease ∷ ls = h.before in
    let after : leases_in new ≡ ls = h.after in
    record {
      rise = subst DeadlinesRise (sym after) (rest_rise lease ls (subst DeadlinesRise before rise));
      leases = ap (unexpired moment) after ∙ due moment lease ls over ∙ ap (unexpired moment) (sym before);
      dropped = shorter old new [] at.0 lease h;
    }

-- a queue from which the lease with the token was taken
pub ended : (old new : Queue) (id : Id) (lease : Lease) (token : Token) → TokensDiffer (leases_in old) → Contains (ids_of old) id → lease_of token (leases_in old) ≡ Some lease
    → ((front back : List Id) → ids_of old ≡ front ++ id ∷ back → IsParted old new front back lease) → leases_in new ≡ without token (leases_in old)
ended old new id lease token differ within found parts =
    let at = split (ids_of old) id within in
    let h = parts at.0 at.1 at.2 in
    let front = leases_by (value_at old.entries) at.0 in
    let back = leases_by (value_at old.entries) at.1 in
    let has : lease.token ≡ token = lease_of_token token (leases_in old) lease found in
    h.after ∙ sym (leaves token front back lease (subst TokensDiffer h.before differ) has) ∙ ap (without token) (sym h.before)
