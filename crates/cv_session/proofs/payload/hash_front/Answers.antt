use Rattle.std.proofs.Common.{List, ℕ, take, subst, rules}
use Rattle.sha1.specs.Sha1.{Holds}
use Rattle.cv_session.proofs.Payloads.{hashed}
use Rattle.cv_session.proofs.payload.hash_front.Goals as goal

pub returns : goal.returns
returns c = λ fed size holds.
    subst (λ (l : List ℕ). Holds c.update.new.self l)
    (hashed c.args.most c.args.before c.min-count.result fed c.args.piece.now size (search (rules, c.min-count.ensures, c.saturating_sub.ensures)))
    (c.update.ensures (take c.args.most fed) holds)
