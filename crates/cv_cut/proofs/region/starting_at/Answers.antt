use Rattle.std.proofs.Common.{◌∙◌, drop, arith, rules, of_calls}
use Rattle.std.specs.Ordering.{is_lt}
use Rattle.std.proofs.lemmas.Fn.{always_returns_same}
use Rattle.std.proofs.lemmas.List.{take_all, length-drop}
use Rattle.cv_base.specs.Path.{path_cmp}
use Rattle.cv_cut.proofs.Sides.{before_parted, parted}
use Rattle.cv_cut.proofs.region.starting_at.Goals as goal

pub returns : goal.returns
returns c =
    let start = c.partition_point-start.result in
    let point = c.partition_point-start.ensures.partitioned (λ e. is_lt (path_cmp e.0 c.args.path.now)) (always_returns_same _ _ _ (λ a r f k. search (rules, of_calls))) (before_parted c.args.path.now c.args.entries.now c.requires) in
    take_all _ (drop start c.args.entries.now) (omega (arith, length-drop start c.args.entries.now))
    ∙ (parted (λ e. is_lt (path_cmp e.0 c.args.path.now)) c.args.entries.now start c.partition_point-start.ensures.bound point).1
