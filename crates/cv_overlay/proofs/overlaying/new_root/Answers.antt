use Rattle.std.proofs.Common.{sym, ap, ◌∙◌}
use Rattle.std.specs.Option.{option_copied}
use Rattle.cv_overlay.specs.Overlay.{root_of}
use Rattle.cv_overlay.proofs.Bases.{none_root}
use Rattle.cv_overlay.proofs.overlaying.new_root.Goals as goal

pub returns-in-None : goal.returns-in-None
returns-in-None c = c.root_of-in-None.ensures ∙ sym (ap (λ o. root_of o c.args.now) (none_root _ (ap option_copied c.in-None.is)))
