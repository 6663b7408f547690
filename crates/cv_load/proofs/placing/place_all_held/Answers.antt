use Rattle.std.proofs.Common.{arith}
use Rattle.cv_load.proofs.Clearing.{ready_grown}
use Rattle.cv_load.proofs.Growing.{grows_more, grows_none}
use Rattle.cv_load.proofs.Holders.{holders_grown, placed_all, placed_more, placed_none}
use Rattle.cv_load.proofs.placing.place_all_held.Goals as goal

pub rest-init : goal.rest-init
rest-init c = record {
  grows = grows_none c.args.catalogue.now.at c.args.catalogue.now.rows c.args.tree.now;
  placed = placed_none c.args.catalogue.now c.args.paths.items c.args.tree.now c.requires.paths;
}

pub place_held-requires-clause-ready : goal.place_held-requires-clause-ready
place_held-requires-clause-ready c =
    ready_grown c.args.catalogue.now.at c.args.catalogue.now.rows c.args.tree.now c.rest.tree c.requires.ready c.rest.invariant.grows

pub place_held-requires-clause-holders : goal.place_held-requires-clause-holders
place_held-requires-clause-holders c = holders_grown c.args.catalogue.now c.args.tree.now c.rest.tree c.rest.invariant.grows.grows c.requires.holders

pub rest-preserved : goal.rest-preserved
rest-preserved c = record {
  grows = grows_more c.args.catalogue.now.at c.args.catalogue.now.rows c.args.tree.now c.rest.tree c.place_held.new.tree c.rest.invariant.grows c.in_ok-place_held.ensures.grows;
  placed = placed_more c.args.catalogue.now c.rest.rest.items c.pop.new.self.items c.in-Some.path c.rest.tree c.place_held.new.tree c.requires.rules c.in-Some.ensures.items c.rest.invariant.placed c.in_ok-place_held.ensures.grows.grows c.in_ok-place_held.ensures.there;
}

pub returns-in_err-place_held-clause-grows : goal.returns-in_err-place_held-clause-grows
returns-in_err-place_held-clause-grows c =
    grows_more c.args.catalogue.now.at c.args.catalogue.now.rows c.args.tree.now c.rest.tree c.place_held.new.tree c.rest.invariant.grows c.in_err-place_held.ensures.grows

pub returns-clause-there : goal.returns-clause-there
returns-clause-there c =
    placed_all c.args.catalogue.now c.rest.rest.items c.rest.tree (omega (arith, c.rest.rest.ok.0, c.in_default.ensures.cases.0)) c.rest.invariant.placed
