use Rattle.std.proofs.Common.{sym, ◌∙◌}
use Rattle.cv_rows.proofs.Texts.{no_row_name, other_row_name}
use Rattle.cv_rows.proofs.fields.name_of.Goals as goal

pub returns-in_default : goal.returns-in_default
returns-in_default c = sym (no_row_name c.args.parent.now.0 c.args.name.now (sym c.in_ok-name.ensures ∙ c.in_default.is))

pub returns-else-is_row_name : goal.returns-else-is_row_name
returns-else-is_row_name c = sym (other_row_name c.args.parent.now.0 c.args.name.now c.in-Some.name c.text.result.now (sym c.in_ok-name.ensures ∙ c.in-Some.is) c.text.ensures.text (sym c.if-is_row_name.ensures))
