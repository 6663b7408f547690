use Rattle.std.proofs.Common.{◌≡◌, map, take}
use Rattle.std.specs.List.{filter}
use Rattle.cv_cut.specs.Cuts.{is_cut}
use Rattle.cv_cut.proofs.region.cuts.Given as goal

abbrev pub invariant-loop-entry : goal.invariant-loop-entry
invariant-loop-entry l = l.found.items ≡ map (λ e. e.0) (filter (λ e. is_cut l.tree e.0) (take l.entry-index l.entries))
