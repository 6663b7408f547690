-- Revisions on a shelf that grows.
use Rattle.std.proofs.Common.{List, [], ◌∷◌}
use Rattle.cv_ports.specs.Shelf.{Shelf, IsShelf, HasMore}
use Rattle.cv_cut.proofs.Lemmas.{Means-more}
use Rattle.cv_swap.specs.Kept.{Revision, record_object, IsRevision, Follows, FollowEachOther, IsLine, AreSound}

revision_more : (s s' : Shelf) (r : Revision) → HasMore s s' → IsRevision s r → IsRevision s' r
revision_more s s' r k h = record {
  typed = h.typed;
  limits = h.limits;
  there = k (record_object r).id (record_object r).bytes h.there;
  tree = Means-more s s' r.record_.root r.tree k h.tree;
}

follows_more : (s s' : Shelf) (before r : Revision) → HasMore s s' → Follows s before r → Follows s' before r
follows_more s s' before r k h = record {
  is = revision_more s s' r k h.is;
  revision = h.revision;
  previous = h.previous;
  offered = h.offered;
  means = Means-more s s' r.record_.offered h.offered k h.means;
  replaces = h.replaces;
}

follow_more : (s s' : Shelf) (before : Revision) (history : List Revision) → HasMore s s' → FollowEachOther s before history → FollowEachOther s' before history
follow_more s s' before [] k h = tt
follow_more s s' before (r ∷ history) k h = (follows_more s s' before r k h.0, follow_more s s' r history k h.1)

pub line_more : (s s' : Shelf) (history : List Revision) → HasMore s s' → IsLine s history → IsLine s' history
line_more s s' [] k h = absurd h
line_more s s' (r ∷ history) k h = (revision_more s s' r k h.0, h.1, follow_more s s' r history k h.2)

pub sound_more : (s s' : Shelf) (history : List Revision) → HasMore s s' → IsShelf s' → AreSound s history → AreSound s' history
sound_more s s' history k hashes h = record { hashes = hashes; line = line_more s s' history k h.line; revisions = h.revisions; tags = h.tags }
