-- What holds of revisions with one more holds of them.
use Rattle.std.proofs.Common.{◌≢◌, List, [], ◌∷◌, ◌++◌, length-append, arith}
use Rattle.std.specs.List.{AllByRecursion}
use Rattle.cv_ports.specs.Shelf.{Shelf}
use Rattle.cv_swap.specs.Kept.{AreSound, Revision, FollowEachOther, IsLine, TagsDiffer}

follow_front : (shelf : Shelf) (before : Revision) (rest : List Revision) (x : Revision) → FollowEachOther shelf before (rest ++ x ∷ []) → FollowEachOther shelf before rest
follow_front shelf before [] x h = tt
follow_front shelf before (r ∷ rest) x h = (h.0, follow_front shelf r rest x h.1)

line_front : (shelf : Shelf) (history : List Revision) (x : Revision) → history ≢ [] → IsLine shelf (history ++ x ∷ []) → IsLine shelf history
line_front shelf [] x some h = absurd (some (λ i. []))
line_front shelf (r ∷ rest) x some h = (h.0, h.1, follow_front shelf r rest x h.2)

all_front : (P : Revision → Type 0) (rest : List Revision) (x : Revision) → AllByRecursion P (rest ++ x ∷ []) → AllByRecursion P rest
all_front P [] x h = tt
all_front P (r ∷ rest) x h = (h.0, all_front P rest x h.1)

tags_front : (history : List Revision) (x : Revision) → TagsDiffer (history ++ x ∷ []) → TagsDiffer history
tags_front [] x h = tt
tags_front (r ∷ rest) x h = (all_front (λ later. r.record_.tag ≢ [] → r.record_.tag ≢ later.record_.tag) rest x h.0, tags_front rest x h.1)

pub sound_front : (shelf : Shelf) (history : List Revision) (x : Revision) → history ≢ [] → AreSound shelf (history ++ x ∷ []) → AreSound shelf history
sound_front shelf history x some h = record {
  hashes = h.hashes;
  line = line_front shelf history x some h.line;
  revisions = (let n = h.revisions in let e = length-append history (x ∷ []) in omega (arith, e));
  tags = tags_front history x h.tags;
}
