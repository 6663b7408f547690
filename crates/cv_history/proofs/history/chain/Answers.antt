use Rattle.cv_history.proofs.ChainLaws.{one_chain, no_break, gives_list, gives_break}
use Rattle.cv_history.proofs.WalksBack.{gives_err}
use Rattle.cv_history.proofs.history.chain.Goals as goal

pub returns-in_err-records-clause-found : goal.returns-in_err-records-clause-found
returns-in_err-records-clause-found g c = λ standing told rs chain.
    gives_list standing c.args.revision c.args.last.now _ rs (gives_err standing _ _ _ _ c.from_residual.ensures.1 (c.in_err-records.ensures.told standing told)) chain

pub returns-in_err-records-clause-broken : goal.returns-in_err-records-clause-broken
returns-in_err-records-clause-broken g c = λ standing told fault breaks.
    gives_break standing c.args.revision c.args.last.now _ fault (gives_err standing _ _ _ _ c.from_residual.ensures.1 (c.in_err-records.ensures.told standing told)) breaks

pub returns-clause-found : goal.returns-clause-found
returns-clause-found g c = λ standing told rs chain.
    one_chain standing c.args.revision c.args.last.now _ rs (rw c.reverse.ensures.items (c.in_ok-records.ensures.told standing told)) chain

pub returns-clause-broken : goal.returns-clause-broken
returns-clause-broken g c = λ standing told fault breaks.
    no_break standing c.args.revision c.args.last.now _ fault (c.in_ok-records.ensures.told standing told) breaks
