use Rattle.std.proofs.Common.{ap, subst, sym, ◌∙◌}
use Rattle.std.specs.Prelude.{Contains}
use Rattle.cv_base.specs.Path.{Path, key_of}
use Rattle.cv_tree.specs.declared.node.Node.{Node}
use Rattle.cv_graft.proofs.PlacedParts.{paths_none, paths_more, paths_all}
use Rattle.cv_graft.proofs.placing.check_paths.Goals as goal

pub loop-entry-init : goal.loop-entry-init
loop-entry-init c = paths_none c.args.catalogue.now.rows c.args.coming.now

pub loop-entry-preserved : goal.loop-entry-preserved
loop-entry-preserved c =
    paths_more c.args.catalogue.now.rows c.args.coming.now c.loop-entry.entry-index c.entry-item.result c.loop-entry-test.true c.entry-item.is c.loop-entry.invariant (λ a has same. c.in_default.ensures a has (same ∙ sym c.key.ensures))

pub returns-clause-ok : goal.returns-clause-ok
returns-clause-ok c = paths_all c.args.catalogue.now.rows c.args.coming.now c.loop-entry.entry-index c.loop-entry-test.false c.loop-entry.invariant

pub returns-in-Some-clause-err : goal.returns-in-Some-clause-err
returns-in-Some-clause-err c =
    let e : Path × Node = c.entry-item.result in
    let has : Contains c.args.coming.now e = (c.loop-entry.entry-index, c.loop-entry-test.true, sym c.entry-item.is) in
    record {
      row = c.in-Some.there.now;
      node_ = e.1;
      stands = c.in_ok-first.ensures;
      comes = subst (λ (q : Path). Contains c.args.coming.now (q, e.1)) (sym c.in_ok-second.ensures) has;
      keys = c.in-Some.ensures.1 ∙ c.key.ensures ∙ ap key_of (sym c.in_ok-second.ensures);
    }
