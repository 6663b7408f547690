use Rattle.std.proofs.Common.{sym, ap, ◌∙◌}
use Rattle.std.specs.Option.{option_copied}
use Rattle.cv_overlay.proofs.Bases.{none_entries, none_base}
use Rattle.cv_overlay.proofs.overlaying.entries_of.Goals as goal

pub returns-in-None-clause-entries : goal.returns-in-None-clause-entries
returns-in-None-clause-entries c = c.new.ensures.items ∙ sym (none_entries _ (ap option_copied c.in-None.is))

pub returns-in-None-clause-base : goal.returns-in-None-clause-base
returns-in-None-clause-base c = none_base _ (ap option_copied c.in-None.is)
