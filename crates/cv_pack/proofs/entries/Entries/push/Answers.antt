use Rattle.cv_pack.proofs.NamedIds.{push_plain, push_catalogue, push_history}
use Rattle.cv_pack.proofs.entries.Entries.push.Goals as goal
use Rattle.cv_pack.proofs.entries.Entries.push.Goals.{in-Plain+in_ok-insert-in-Plain, in-Catalogue+in_ok-insert-in-Catalogue, in-History}

pub invariant_of-self-2 : goal.invariant_of-self-2
invariant_of-self-2 c = elim c.match-entry.branch [
  | in-Plain+in_ok-insert-in-Plain w ↦ rw (c.in_ok-push.ensures.items, w.self-inside-is, c.in_ok-reserve.ensures.items)
      (push_plain _ c.args.entry _ _ _ w.in-Plain.is c.self.invariant w.in_ok-insert-in-Plain.ensures.updates)
  | in-Catalogue+in_ok-insert-in-Catalogue w ↦ rw (c.in_ok-push.ensures.items, w.self-inside-is, c.in_ok-reserve.ensures.items)
      (push_catalogue _ c.args.entry _ _ _ w.in-Catalogue.is c.self.invariant w.in_ok-insert-in-Catalogue.ensures.updates)
  | in-History w ↦ rw (c.in_ok-push.ensures.items, w.self-inside-is, c.in_ok-reserve.ensures.items)
      (push_history _ c.args.entry _ _ w.in-History.is c.self.invariant)
]
