-- The line of revisions: with a revision more, and how its revisions are numbered.
use Rattle.std.proofs.Common.{◌≡◌, ◌≢◌, ◌≤◌, ◌<◌, ◌+◌, List, [], ◌∷◌, ◌++◌, length, refl, sym, ap, subst, ◌∙◌, inl, inr, arith}
use Rattle.std.specs.declared.option.Option.TheVariants.{None, Some}
use Rattle.std.specs.List.{last_or, Contains}
use Rattle.cv_base.proofs.Laws.{all_push, last_push}
use Rattle.cv_ports.specs.Shelf.{Shelf}
use Rattle.cv_cut.proofs.Lemmas.{none_there, first_there, later_there, first_or_later}
use Rattle.cv_swap.specs.Kept.{Revision, newest, IsRevision, Follows, FollowEachOther, IsLine, TagsDiffer}

-- ---- with a revision more

follow_push : (s : Shelf) (before head new : Revision) (history : List Revision) → FollowEachOther s before history → last_or (Some before) history ≡ Some head → Follows s head new
    → FollowEachOther s before (history ++ new ∷ [])
follow_push s before head new [] h last f = let is : before ≡ head = cc in (subst (λ (b : Revision). Follows s b new) (sym is) f, tt)
follow_push s before head new (r ∷ history) h last f = (h.0, follow_push s r head new history h.1 last f)

pub line_push : (s : Shelf) (history : List Revision) (head new : Revision) → IsLine s history → newest history ≡ Some head → Follows s head new → IsLine s (history ++ new ∷ [])
line_push s [] head new h last f = absurd h
line_push s (r ∷ history) head new h last f = (h.0, h.1, follow_push s r head new history h.2 last f)

pub newest_push : (history : List Revision) (new : Revision) → newest (history ++ new ∷ []) ≡ Some new
newest_push history new = last_push None history new

-- ---- the newest revision

-- it is one of the line's, it has the highest number, and no other has its number
pub record IsHead (s : Shelf) (history : List Revision) (head : Revision) : Type 0 where
  pub is : IsRevision s head
  pub number : head.record_.revision ≡ length history
  pub among : Contains history head
  pub highest : (r : Revision) → Contains history r → r.record_.revision ≤ head.record_.revision
  pub only : (r : Revision) → Contains history r → head.record_.revision ≤ r.record_.revision → r ≡ head

record IsLast (s : Shelf) (before head : Revision) (history : List Revision) : Type 0 where
  is : IsRevision s head
  number : head.record_.revision ≡ before.record_.revision + length history
  among : Contains (before ∷ history) head
  highest : (r : Revision) → Contains (before ∷ history) r → r.record_.revision ≤ head.record_.revision
  only : (r : Revision) → Contains (before ∷ history) r → head.record_.revision ≤ r.record_.revision → r ≡ head

lasts : (s : Shelf) (before head : Revision) (history : List Revision) → IsRevision s before → FollowEachOther s before history → last_or (Some before) history ≡ Some head → IsLast s before head history
lasts s before head [] first h last =
    let is : before ≡ head = cc in
    let same : (r : Revision) → Contains (before ∷ []) r → r ≡ head = λ r has. elim (first_or_later before [] r has) [ inl e ↦ sym e ∙ is | inr later ↦ absurd (none_there r later) ] in
    record {
      is = subst (IsRevision s) is first;
      number = (let n : head.record_.revision ≡ before.record_.revision = ap (λ (r : Revision). r.record_.revision) (sym is) in omega (arith, n));
      among = subst (Contains (before ∷ [])) is (first_there before []);
      highest = λ r has. (let n : r.record_.revision ≡ head.record_.revision = ap (λ (x : Revision). x.record_.revision) (same r has) in omega (arith, n));
      only = λ r has _. same r has;
    }
lasts s before head (r ∷ history) first h last =
    let rest : IsLast s r head history = lasts s r head history h.0.is h.1 last in
    let next = h.0.revision in
    let number = rest.number in
    let below : before.record_.revision < head.record_.revision = omega (arith, next, number) in
    record {
      is = rest.is;
      number = omega (arith, next, number);
      among = later_there before (r ∷ history) head rest.among;
      highest = λ x has. elim (first_or_later before (r ∷ history) x has) [
        | inl e ↦ (let n : x.record_.revision ≡ before.record_.revision = ap (λ (y : Revision). y.record_.revision) (sym e) in omega (arith, n, below))
        | inr later ↦ rest.highest x later
      ];
      only = λ x has high. elim (first_or_later before (r ∷ history) x has) [
        | inl e ↦ (let n : x.record_.revision ≡ before.record_.revision = ap (λ (y : Revision). y.record_.revision) (sym e) in absurd (omega (arith, n, below, high)))
        | inr later ↦ rest.only x later high
      ];
    }

pub newest_is_head : (s : Shelf) (history : List Revision) (head : Revision) → IsLine s history → newest history ≡ Some head → IsHead s history head
newest_is_head s [] head h last = absurd h
newest_is_head s (r ∷ history) head h last =
    let l : IsLast s r head history = lasts s r head history h.0 h.2 last in
    let one = h.1 in
    let number = l.number in
    record { is = l.is; number = omega (arith, one, number); among = l.among; highest = l.highest; only = l.only }

-- a line has a newest revision
some_last : {X : Type 0} (x : X) (xs : List X) → (y : X) × (last_or (Some x) xs ≡ Some y)
some_last x [] = (x, refl)
some_last x (y ∷ ys) = some_last y ys

pub some_newest : (s : Shelf) (history : List Revision) → IsLine s history → (head : Revision) × (newest history ≡ Some head)
some_newest s [] h = absurd h
some_newest s (r ∷ history) h = some_last r history

-- ---- tags

-- one more tag that none has, or no tag
pub tags_push : (history : List Revision) (new : Revision) → TagsDiffer history → ((r : Revision) → Contains history r → r.record_.tag ≢ [] → r.record_.tag ≢ new.record_.tag) → TagsDiffer (history ++ new ∷ [])
tags_push [] new h differs = (tt, tt)
tags_push (r ∷ history) new h differs = (
  all_push _ history new h.0 (λ some. differs r (first_there r history) some),
  tags_push history new h.1 (λ x has. differs x (later_there r history x has)),
)
