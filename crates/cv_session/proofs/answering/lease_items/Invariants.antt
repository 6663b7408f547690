use Rattle.std.proofs.Common.{◌≡◌, map, take}
use Rattle.cv_session.specs.Answers.{item_of}
use Rattle.cv_session.proofs.answering.lease_items.Given as goal

abbrev pub invariant-loop-line : goal.invariant-loop-line
invariant-loop-line l = l.items.items ≡ map (item_of l.repository) (take l.line-index l.lines)
