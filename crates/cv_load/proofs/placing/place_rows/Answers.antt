use Rattle.cv_load.proofs.Growing.{grows_more}
use Rattle.cv_load.proofs.Clearing.{ready_clear, ready_grown}
use Rattle.cv_load.proofs.placing.place_rows.Goals as goal

pub place_holders-requires-clause-ready : goal.place_holders-requires-clause-ready
place_holders-requires-clause-ready c = ready_clear c.args.catalogue.now.at c.args.catalogue.now.rows c.args.tree.now c.requires.clear

pub place_all_held-requires-clause-ready : goal.place_all_held-requires-clause-ready
place_all_held-requires-clause-ready c =
    let at = c.args.catalogue.now.at in
    let rows = c.args.catalogue.now.rows in
    ready_grown at rows c.args.tree.now c.place_holders.new.tree (ready_clear at rows c.args.tree.now c.requires.clear) c.in_ok-place_holders.ensures.grows

pub returns-clause-grows : goal.returns-clause-grows
returns-clause-grows c = grows_more c.args.catalogue.now.at c.args.catalogue.now.rows c.args.tree.now c.place_holders.new.tree c.place_all_held.new.tree c.in_ok-place_holders.ensures.grows c.place_all_held.ensures.grows
