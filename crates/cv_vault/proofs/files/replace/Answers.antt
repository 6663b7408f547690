use Rattle.cv_base.proofs.Laws.{handed_on}
use Rattle.cv_vault.proofs.Walking.{bind, looser}
use Rattle.cv_vault.proofs.Quiet.{quiet_walks}
use Rattle.cv_vault.proofs.Replacing.{unreplaced, replaced_then, sure_waits}
use Rattle.cv_vault.proofs.Sparing.{spares_then, spares_more}
use Rattle.cv_vault.proofs.files.replace.Goals as goal

pub returns-in_err-put_on_way-clause-walks : goal.returns-in_err-put_on_way-clause-walks
returns-in_err-put_on_way-clause-walks g c = λ d e. rw (handed_on _ _ c.from_residual.ensures.1) (looser (c.in_err-put_on_way.ensures.walks d e) (λ n f b. absurd b) (λ d1 g1 is. unreplaced c.args.way.now c.args.name.now c.args.bytes.now _ g1 is))

pub returns-clause-walks : goal.returns-clause-walks
returns-clause-walks g c = λ d e. bind (c.in_ok-put_on_way.ensures.walks d e) (λ n f b. absurd b) (λ d1 told g1 is.
    looser (c.move_in.ensures.walks d1 told c.args.bytes.now (sure_waits c.args.way.now c.args.name.now c.args.bytes.now d1 is)) (λ n f b. b)
    (λ d2 g2 moved. replaced_then d2 c.args.name.now c.args.bytes.now c.move_in.result g1 moved))

pub returns-in_err-put_on_way-clause-memory : goal.returns-in_err-put_on_way-clause-memory
returns-in_err-put_on_way-clause-memory g c = λ none d e. looser (c.in_err-put_on_way.ensures.walks d e) (λ n f b. b) (λ d1 g1 is. tt)

pub returns-clause-memory : goal.returns-clause-memory
returns-clause-memory g c = λ none d e. bind (c.in_ok-put_on_way.ensures.walks d e) (λ n f b. b) (λ d1 told g1 is.
    looser (quiet_walks (g.met.V.Vault.only_now c.put_on_way.new.vault) told (c.move_in.ensures.memory none)) (λ n f b. b) (λ d2 g2 same. tt))

pub returns-in_err-put_on_way-clause-others : goal.returns-in_err-put_on_way-clause-others
returns-in_err-put_on_way-clause-others g c = spares_more (λ n p. p.0) c.in_err-put_on_way.ensures.others

pub returns-clause-others : goal.returns-clause-others
returns-clause-others g c = spares_then (spares_more (λ n p. p.0) c.in_ok-put_on_way.ensures.others) c.move_in.ensures.others
