-- Ways up the tree of names, from a place to one above it.
use Rattle.std.proofs.Common.{◌≡◌, ◌≢◌, ◌<◌, ◌≤◌, ◌+◌, ℕ, zero, suc, List, [], ◌∷◌, ◌++◌, length, None, Some, Contains, refl, sym, ap, subst, ◌∙◌, arith}
use Rattle.std.proofs.lemmas.Option.{none-some, same_Some}
use Rattle.cv_links.specs.declared.id.Id.{Id}
use Rattle.cv_links.specs.declared.arena.Arena.{Arena}
use Rattle.cv_links.specs.Arena.{value_at}
use Rattle.cv_links.proofs.Laws.{none_within}
use Rattle.cv_leases.specs.declared.names.Place.{Place}
use Rattle.cv_leases.specs.declared.names.Names.{Names}
use Rattle.cv_leases.specs.Names.{above_of, below_of, IsTree, Climbs, IsWithin}

-- a way up stays where each place keeps the one above it
pub climbs_kept : (a d : Arena Place) → ((i up : Id) → above_of (value_at a i) ≡ Some up → above_of (value_at d i) ≡ Some up) → (way : List Id) (top from : Id) → Climbs a way top from → Climbs d way top from
climbs_kept a d keeps [] top from h = h
climbs_kept a d keeps (up ∷ way) top from h = (keeps from up h.0, climbs_kept a d keeps way top up h.1)

-- and where a place leaves that none is below, but for the ways from that place
pub climbs_less : (a d : Arena Place) (gone : Id) → IsTree a → below_of a gone ≡ [] → ((i : Id) → i ≢ gone → above_of (value_at d i) ≡ above_of (value_at a i)) → (way : List Id) (top from : Id) → from ≢ gone → Climbs a way top from → Climbs d way top from
climbs_less a d gone tree leaf same [] top from other h = h
climbs_less a d gone tree leaf same (up ∷ way) top from other h =
    let apart : up ≢ gone = λ e. none_within from (subst (λ l. Contains l from) (ap (below_of a) e ∙ leaf) (tree.above from up h.0)) in
    (same from other ∙ h.0, climbs_less a d gone tree leaf same way top up apart h.1)

-- two ways, the second from where the first ends
pub climbs_on : (a : Arena Place) (first second : List Id) (top middle from : Id) → Climbs a first middle from → Climbs a second top middle → Climbs a (first ++ second) top from
climbs_on a [] second top middle from h k = subst (λ i. Climbs a second top i) (sym h) k
climbs_on a (up ∷ first) second top middle from h k = (h.0, climbs_on a first second top middle up h.1 k)

-- a way up from a place is the beginning of its way to the root
before_root : (a : Arena Place) (root : Id) → above_of (value_at a root) ≡ None → (long way : List Id) (top from : Id) → Climbs a long root from → Climbs a way top from
    → (rest : List Id) × Climbs a rest root top × (length way + length rest ≡ length long)
before_root a root none long [] top from h k = (long, subst (λ i. Climbs a long root i) k h, omega arith)
before_root a root none [] (up ∷ way) top from h k = absurd (none-some up (sym none ∙ ap (λ i. above_of (value_at a i)) (sym h) ∙ k.0))
before_root a root none (x ∷ long) (up ∷ way) top from h k =
    let same : x ≡ up = same_Some x up (sym h.0 ∙ k.0) in
    let rest = before_root a root none long way top up (subst (λ i. Climbs a long root i) same h.1) k.1 in
    let sum = rest.2 in
    (rest.0, rest.1, omega (arith, sum))

-- no way up from a place comes back to it
pub no_loop : (n : ℕ) (a : Arena Place) (root : Id) → above_of (value_at a root) ≡ None → (long way : List Id) (id : Id) → length long ≤ n → 0 < length way → Climbs a long root id → Climbs a way id id → ⊥
no_loop zero a root none long way id short some h k =
    let rest = before_root a root none long way id id h k in
    let sum = rest.2 in omega (arith, short, some, sum)
no_loop (suc n) a root none long way id short some h k =
    let rest = before_root a root none long way id id h k in
    let sum = rest.2 in
    no_loop n a root none rest.0 way id (omega (arith, short, some, sum)) some rest.1 k

-- ---- how far below the root

pub within_more : (names : Names) (few many : ℕ) (id : Id) → few ≤ many → IsWithin names few id → IsWithin names many id
within_more names few many id more h = record { root = h.root; is = h.is; way = h.way; climbs = h.climbs; short = (let short = h.short in omega (arith, short, more)) }

pub root_within : (names : Names) (id : Id) → names.root ≡ Some id → IsWithin names 0 id
root_within names id e = record { root = id; is = e; way = []; climbs = refl; short = omega arith }

pub below_within : (names : Names) (depth : ℕ) (up id : Id) → above_of (value_at names.places id) ≡ Some up → IsWithin names depth up → IsWithin names (depth + 1) id
below_within names depth up id above h = record { root = h.root; is = h.is; way = up ∷ h.way; climbs = (above, h.climbs); short = (let short = h.short in omega (arith, short)) }

pub within_kept : (old new : Names) (depth : ℕ) (id : Id) → new.root ≡ old.root → ((i up : Id) → above_of (value_at old.places i) ≡ Some up → above_of (value_at new.places i) ≡ Some up) → IsWithin old depth id → IsWithin new depth id
within_kept old new depth id root keeps h = record { root = h.root; is = root ∙ h.is; way = h.way; climbs = climbs_kept old.places new.places keeps h.way h.root id h.climbs; short = h.short }

-- a place below the root has one above it, which is nearer
pub nearer : (names : Names) (depth : ℕ) (up id : Id) → above_of (value_at names.places id) ≡ Some up → ((root : Id) → names.root ≡ Some root → above_of (value_at names.places root) ≡ None) → IsWithin names (depth + 1) id → IsWithin names depth up
nearer names depth up id above top h = each h.way h.climbs h.short
  where
    each : (way : List Id) → Climbs names.places way h.root id → length way ≤ depth + 1 → IsWithin names depth up
    each [] k short = absurd (none-some up (sym (top h.root h.is) ∙ ap (λ i. above_of (value_at names.places i)) (sym k) ∙ above))
    each (x ∷ way) k short =
        let same : x ≡ up = same_Some x up (sym k.0 ∙ above) in
        record { root = h.root; is = h.is; way = way; climbs = subst (λ i. Climbs names.places way h.root i) same k.1; short = omega (arith, short) }

-- a place without one above it is the root
pub is_root : (names : Names) (depth : ℕ) (id : Id) → above_of (value_at names.places id) ≡ None → IsWithin names depth id → names.root ≡ Some id
is_root names depth id none h = each h.way h.climbs
  where
    each : (way : List Id) → Climbs names.places way h.root id → names.root ≡ Some id
    each [] k = h.is ∙ ap (λ i. Some i) (sym k)
    each (x ∷ way) k = absurd (none-some x (sym none ∙ k.0))
