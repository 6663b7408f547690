use Rattle.std.proofs.Common.{ap}
use Rattle.std.specs.Option.{option_copied}
use Rattle.cv_graft.proofs.PlacedWhole.{root_part}
use Rattle.cv_graft.proofs.setting.at_root.Goals as goal

pub unreachable-requires : goal.unreachable-requires
unreachable-requires c = root_part c.args.path.now (option_copied c.args.part) c.requires.root c.requires.path (ap option_copied c.in_default.is)

pub whole_part-requires : goal.whole_part-requires
whole_part-requires c = rw c.in-Some.is at (c.requires.root c.requires.path)

pub returns-clause-placed : goal.returns-clause-placed
returns-clause-placed c = rw c.in-Some.is c.whole_part.ensures.placed
