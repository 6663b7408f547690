use Rattle.cv_rows.proofs.NestedLaws.{no_transition, transition_is}
use Rattle.cv_rows.proofs.nested_list.is_transition_at.Goals as goal

pub returns-in_default : goal.returns-in_default
returns-in_default c = no_transition c.args.at.now c.args.rows.now c.args.path.now _ c.requires.placing.ordered c.requires.fit c.key.ensures c.in_default.ensures

pub returns : goal.returns
returns c =
    transition_is c.args.at.now c.args.rows.now c.args.root c.args.parents.now c.in-Some.row _ c.args.path.now _ c.in_ok-found.found c.requires.placing c.requires.fit c.in-Some.ensures.0
    c.index-rows-row.is c.key.ensures c.in-Some.ensures.1 c.in_ok-found.ensures c.is_transition.result c.is_transition.ensures
