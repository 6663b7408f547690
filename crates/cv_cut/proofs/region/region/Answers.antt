use Rattle.std.proofs.Common.{rules}
use Rattle.cv_cut.proofs.Collecting.{none_found, sorted_entries, stand_behind, first_covered, first_stands, fewer, next_found, all_found}
use Rattle.cv_cut.proofs.region.region.Goals as goal

pub covered-rest-requires : goal.covered-rest-requires
covered-rest-requires c = sorted_entries c.args.tree.now c.args.entries.now c.requires.entries

pub loop-first-init : goal.loop-first-init
loop-first-init c = none_found c.args.tree.now c.args.cut.now c.args.entries.now _ _ c.new-region.ensures.items c.requires.entries c.covered-rest.ensures

pub left_behind-requires-clause-node : goal.left_behind-requires-clause-node
left_behind-requires-clause-node c = first_stands c.args.tree.now c.args.cut.now _ _ _ _ c.loop-first.invariant c.in-Some.ensures.cases.0

pub left_behind-requires-clause-covered : goal.left_behind-requires-clause-covered
left_behind-requires-clause-covered c = first_covered c.args.tree.now c.args.cut.now _ _ _ _ c.loop-first.invariant c.in-Some.ensures.cases.0

pub left_behind-requires-clause-more : goal.left_behind-requires-clause-more
left_behind-requires-clause-more c = stand_behind c.args.tree.now c.args.cut.now _ _ _ _ c.loop-first.invariant c.in-Some.ensures.cases.0

pub loop-first-smaller : goal.loop-first-smaller
loop-first-smaller c = fewer c.args.tree.now c.args.cut.now _ _ _ _ c.in-Some.ensures.cases.0 c.in_ok-rest.ensures

pub loop-first-preserved : goal.loop-first-preserved
loop-first-preserved c = next_found c.args.tree.now c.args.cut.now _ _ _ _ _ _ c.loop-first.invariant c.in-Some.ensures.cases.0 (search rules) c.in_ok-rest.ensures

pub returns : goal.returns
returns c = all_found c.args.tree.now c.args.cut.now _ _ c.loop-first.invariant c.in_default.ensures.cases
