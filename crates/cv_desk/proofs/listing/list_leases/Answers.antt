use Rattle.std.proofs.Common.{rules}
use Rattle.cv_desk.proofs.Lines.{line_next}
use Rattle.cv_desk.proofs.listing.list_leases.Goals as goal

pub loop-lease-preserved : goal.loop-lease-preserved
loop-lease-preserved c =
    line_next (λ lease. lease.now) c.args.moment c.loop-lease.lease-index _ c.lease-item.result c.loop-lease.lines.items c.push_live.new.lines.items
    c.loop-lease-test.true c.lease-item.is (search rules) c.loop-lease.invariant
