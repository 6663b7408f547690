use Rattle.std.proofs.Common.{rules, of_calls}
use Rattle.std.proofs.lemmas.Fn.{always_returns_same}
use Rattle.cv_base.specs.Path.{covers}
use Rattle.cv_cut.proofs.Sides.{covered_parted, parted}
use Rattle.cv_cut.proofs.region.count_covered.Goals as goal

pub returns : goal.returns
returns c =
    let point = c.partition_point.ensures.partitioned (λ e. covers c.args.path.now e.0) (always_returns_same _ _ _ (λ a r f k. search (rules, of_calls))) (covered_parted c.args.path.now c.args.entries.now c.requires) in
    let parts = parted (λ e. covers c.args.path.now e.0) c.args.entries.now c.partition_point.result c.partition_point.ensures.bound point in
    record { count = c.partition_point.ensures.bound; covered = parts.0; others = parts.1 }
