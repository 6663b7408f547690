use Rattle.std.proofs.Common.{◌∙◌, sym, ap}
use Rattle.cv_tree.specs.Tree.{at}
use Rattle.cv_cut.specs.Catalogues.{kind_of}
use Rattle.cv_cut.specs.Cut.{rest_of}
use Rattle.cv_cut.proofs.KindLaws.{kind_here, kind_below, directory_below}
use Rattle.cv_cut.proofs.rows.kind.Goals as goal

pub returns-then-names : goal.returns-then-names
returns-then-names c = c.root_kind.ensures ∙ kind_here c.args.tree.now c.args.cut.now c.args.path.now c.args.node.now _ _ c.requires.covered c.names.ensures.names c.names-2.ensures.names c.if-names.true

pub returns-in-Dir : goal.returns-in-Dir
returns-in-Dir c =
    let below = kind_below c.args.tree.now c.args.cut.now c.args.path.now _ _ c.requires.covered c.names.ensures.names c.names-2.ensures.names c.if-names.false in
    directory_below c.args.tree.now c.args.cut.now c.args.path.now c.args.node.now c.in-Dir.field-0 _ below c.in-Dir.is c.directory_kind.ensures

pub returns-in-File : goal.returns-in-File
returns-in-File c =
    let below = kind_below c.args.tree.now c.args.cut.now c.args.path.now _ _ c.requires.covered c.names.ensures.names c.names-2.ensures.names c.if-names.false in
    sym (below.file c.in-File.field-0 c.in-File.field-1) ∙ ap (kind_of c.args.cut.now (at c.args.tree.now c.args.cut.now) (rest_of c.args.cut.now c.args.path.now)) (sym c.in-File.is)

pub returns-in-Link : goal.returns-in-Link
returns-in-Link c =
    let below = kind_below c.args.tree.now c.args.cut.now c.args.path.now _ _ c.requires.covered c.names.ensures.names c.names-2.ensures.names c.if-names.false in
    sym (below.link c.in-Link.field-0 c.in-Link.field-1) ∙ ap (kind_of c.args.cut.now (at c.args.tree.now c.args.cut.now) (rest_of c.args.cut.now c.args.path.now)) (sym c.in-Link.is)
