use Rattle.cv_links.proofs.OneList.{empty_list}
use Rattle.cv_links.proofs.facts.a_new_chain_is_empty.Goals as goal

pub returns-clause-chain : goal.returns-clause-chain
returns-clause-chain g c = λ chain empty. (empty_list c.args.arena.now chain empty).0

pub returns-clause-list : goal.returns-clause-list
returns-clause-list g c = λ chain empty. (empty_list c.args.arena.now chain empty).1
