-- How the gate's replies and lists are answered.
use Rattle.std.specs.Prelude.{ℕ, ◌++◌, List, [], ◌∷◌, map}
use Rattle.cv_base.specs.Path.{text_of}
use Rattle.cv_answers.specs.declared.answer.Answer.{Answer}
use Rattle.cv_answers.specs.declared.answer.Answer.TheVariants.{Granted, Done, Committed, Leases, Repos, PathBusy, Refused}
use Rattle.cv_answers.specs.declared.lease_item.LeaseItem.{LeaseItem}
use Rattle.cv_answers.specs.declared.reason.Reason.{Reason}
use Rattle.cv_answers.specs.declared.reason.Reason.TheVariants as reason
use Rattle.cv_answers.specs.declared.refusal.Refusal.TheVariants.{Plain, Collision, StaleBase, MissingObject, BadCatalogue, PathCollision, CatalogueFull, TagTaken, Damaged}
use Rattle.cv_gate.specs.declared.lease_line.LeaseLine.{LeaseLine}
use Rattle.cv_gate.specs.declared.reply.Reply.{Reply}
use Rattle.cv_gate.specs.declared.reply.Reply.TheVariants as reply

abbrev pub refused : Reason → Answer
refused why = Refused (Plain why)

-- how a reply of the gate is answered
abbrev pub answer_of : Reply → Answer
answer_of (reply.Granted token revision root) = Granted token revision root
answer_of reply.Stored = Done
answer_of (reply.Committed revision root) = Committed revision root
answer_of reply.Cancelled = Done
answer_of reply.BadPath = refused reason.BadPath
answer_of (reply.PathBusy token remaining) = PathBusy token remaining
answer_of reply.TooManyLeases = refused reason.TooManyLeases
answer_of reply.NoParent = refused reason.NoParent
answer_of reply.InvalidToken = refused reason.InvalidToken
answer_of reply.WrongKey = refused reason.WrongKey
answer_of (reply.Collision id) = Refused (Collision id)
answer_of (reply.StaleBase revision) = Refused (StaleBase revision)
answer_of (reply.MissingObject id) = Refused (MissingObject id)
answer_of (reply.BadCatalogue id) = Refused (BadCatalogue id)
answer_of (reply.PathCollision first second) = Refused (PathCollision first second)
answer_of (reply.CatalogueFull path) = Refused (CatalogueFull path)
answer_of (reply.TagTaken revision) = Refused (TagTaken revision)
answer_of reply.StoreFailed = refused reason.StoreFailed
answer_of (reply.Damaged id found) = Refused (Damaged id found)
answer_of reply.JournalFull = refused reason.JournalFull
answer_of reply.NoMemory = refused reason.NoMemory
answer_of reply.RevisionsFull = refused reason.RevisionsFull

-- a live lease as it is listed: its path is the repository's name and the path's text
abbrev pub item_of : List ℕ → LeaseLine → LeaseItem
item_of repository line = record { key = line.key; path = repository ++ text_of line.path; remaining = line.remaining }

-- the live leases of the repository, in the order of grant
abbrev pub leases_answer : List ℕ → List LeaseLine → Answer
leases_answer repository lines = Leases (map (item_of repository) lines)

-- the one repository that is served
abbrev pub repositories_answer : List ℕ → Answer
repositories_answer repository = Repos (repository ∷ [])
