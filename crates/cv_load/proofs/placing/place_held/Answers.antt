use Rattle.std.proofs.Common.{◌≡◌, IfSome, sym, subst, ◌∙◌}
use Rattle.std.specs.FinMap.{get}
use Rattle.cv_tree.specs.declared.node.Node.{Node}
use Rattle.cv_load.proofs.Holders.{held_alone, held_place, set_grows, set_there}
use Rattle.cv_load.proofs.placing.place_held.Goals as goal

pub returns-then-holds_rows-clause-there : goal.returns-then-holds_rows-clause-there
returns-then-holds_rows-clause-there c = c.requires.holders c.args.row.now c.args.path (sym c.holds_rows.ensures ∙ c.if-holds_rows.true) c.requires.stands

pub place-requires-clause-place : goal.place-requires-clause-place
place-requires-clause-place c = held_place c.args.catalogue.now c.args.row.now c.args.path c.args.tree.now c.requires.rules c.requires.ready c.requires.holders c.requires.stands (sym c.holds_rows.ensures ∙ c.if-holds_rows.false)

pub place-requires-clause-alone : goal.place-requires-clause-alone
place-requires-clause-alone c =
    let alone = held_alone c.args.catalogue.now c.args.row.now c.args.path c.args.tree.now c.requires.rules c.requires.ready c.requires.stands (sym c.holds_rows.ensures ∙ c.if-holds_rows.false) in
    subst (λ (n : Node). IfSome (get c.args.tree.now c.args.path) (λ there. there ≡ n)) (sym c.in_ok-node.ensures.node) alone

pub returns-clause-there : goal.returns-clause-there
returns-clause-there c = set_there c.place.result c.args.path c.in_ok-node.node c.args.tree.now c.place.new.self c.place.ensures.ok

pub returns-clause-grows : goal.returns-clause-grows
returns-clause-grows c =
    let alone = held_alone c.args.catalogue.now c.args.row.now c.args.path c.args.tree.now c.requires.rules c.requires.ready c.requires.stands (sym c.holds_rows.ensures ∙ c.if-holds_rows.false) in
    set_grows c.place.result c.args.catalogue.now c.args.row.now c.args.path c.in_ok-node.node c.args.tree.now c.place.new.self c.requires.stands alone c.in_ok-node.ensures.node c.place.ensures.ok c.place.ensures.err
