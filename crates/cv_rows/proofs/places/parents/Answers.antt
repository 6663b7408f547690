use Rattle.std.proofs.Common.{arith, length, length-append, ap, ◌∙◌}
use Rattle.cv_rows.proofs.ParentLaws.{one_more_parent, all_parents}
use Rattle.cv_rows.proofs.places.parents.Goals as goal

pub loop-row-preserved : goal.loop-row-preserved
loop-row-preserved c =
    let so_far = c.loop-row.parents.items in
    record {
      size = ap length c.in_ok-push.ensures.items ∙ length-append so_far _ ∙ omega (arith, c.loop-row.invariant.size);
      each = one_more_parent c.args.rows.now c.args.root c.loop-row.row c.parent_of.result so_far c.push.new.self.items c.in_ok-push.ensures.items c.loop-row.invariant.size c.loop-row.invariant.each c.parent_of.ensures;
    }

pub returns : goal.returns
returns c =
    all_parents c.args.rows.now c.args.root c.loop-row.row c.loop-row.parents.items c.push-2.new.self.items c.in_ok-push-2.ensures.items c.loop-row.invariant.size (omega arith) c.loop-row.invariant.each
