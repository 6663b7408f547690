use Rattle.std.proofs.Common.{Err, IsSome, sym, ap, subst, ◌∙◌}
use Rattle.std.specs.FinMap.{get, insert}
use Rattle.cv_tree.specs.Tree.{Nodes}
use Rattle.cv_tree.specs.declared.node.Node.{Node}
use Rattle.cv_tree.specs.declared.tree_fault.TreeFault.{TreeFault}
use Rattle.cv_load.proofs.Growing.{added_by_insert, inserted_there}
use Rattle.cv_load.proofs.Clearing.{Told, told_new, told_there, told_no_place}
use Rattle.cv_load.proofs.placing.add.Goals as goal

pub returns-in-Ok-clause-place : goal.returns-in-Ok-clause-place
returns-in-Ok-clause-place c = sym (told_new c.args.tree.now c.args.path.now _ c.in-Ok.ensures.answer).0

pub returns-in-Ok-clause-there : goal.returns-in-Ok-clause-there
returns-in-Ok-clause-there c = λ placed. inserted_there c.args.path.now c.in_ok-node.node c.args.tree.now c.insert.new.self c.in-Ok.ensures.ok

pub returns-in-Ok-clause-added : goal.returns-in-Ok-clause-added
returns-in-Ok-clause-added c =
    added_by_insert c.args.path.now c.args.row.now c.args.tree.now c.insert.new.self (told_new c.args.tree.now c.args.path.now _ c.in-Ok.ensures.answer).1
    (c.in-Ok.ensures.ok ∙ ap (λ (n : Node). insert c.args.tree.now c.args.path.now n) c.in_ok-node.ensures.node)

pub returns-in-Err-Exists-clause-place : goal.returns-in-Err-Exists-clause-place
returns-in-Err-Exists-clause-place c =
    sym (told_there c.args.tree.now c.args.path.now (subst (λ (f : TreeFault). Told c.args.tree.now c.args.path.now (Err f)) c.in-Err-Exists.field-0-is c.in-Err-Exists.ensures.answer)).0

pub returns-in-Err-Exists-clause-there : goal.returns-in-Err-Exists-clause-there
returns-in-Err-Exists-clause-there c = λ placed.
    let told = told_there c.args.tree.now c.args.path.now (subst (λ (f : TreeFault). Told c.args.tree.now c.args.path.now (Err f)) c.in-Err-Exists.field-0-is c.in-Err-Exists.ensures.answer) in
    subst (λ (t : Nodes). IsSome (get t c.args.path.now)) (sym c.in-Err-Exists.ensures.err) told.1

pub returns-in-Err-NoParent-clause-place : goal.returns-in-Err-NoParent-clause-place
returns-in-Err-NoParent-clause-place c =
    sym (told_no_place c.args.tree.now c.args.path.now (subst (λ (f : TreeFault). Told c.args.tree.now c.args.path.now (Err f)) c.in-Err-NoParent.field-0-is c.in-Err-NoParent.ensures.answer))
