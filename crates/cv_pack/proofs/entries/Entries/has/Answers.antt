use Rattle.std.proofs.Common.{◌∙◌, ap}
use Rattle.cv_pack.specs.declared.entry.Entry.{Entry}
use Rattle.std.proofs.Common.{List}
use Rattle.cv_pack.specs.Reading.{is_named}
use Rattle.cv_pack.proofs.NamedIds.{has_plain, has_catalogue}
use Rattle.cv_pack.proofs.entries.Entries.has.Goals as goal

pub returns-in-Plain : goal.returns-in-Plain
returns-in-Plain c = c.contains.ensures ∙ has_plain _ c.args.id.now _ _ c.self.invariant c.in-Plain.is ∙ ap (λ (es : List Entry). is_named es c.args.id.now) c.self.view_is

pub returns-in_default : goal.returns-in_default
returns-in_default c = c.contains-in_default.ensures ∙ has_catalogue _ c.args.id.now _ _ c.self.invariant c.in_default.not-Plain c.requires ∙ ap (λ (es : List Entry). is_named es c.args.id.now) c.self.view_is
