use Rattle.cv_links.proofs.OneList.{one_list}
use Rattle.cv_links.proofs.facts.an_id_has_one_list.Goals as goal

pub returns : goal.returns
returns g c = λ first second id. one_list c.args.arena.now first second id
