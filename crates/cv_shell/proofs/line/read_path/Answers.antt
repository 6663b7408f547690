use Rattle.std.proofs.Common.{sym, ◌∙◌, ap}
use Rattle.std.proofs.lemmas.Str.{IsUtf8-from_is_utf8, is_utf8-from_IsUtf8}
use Rattle.cv_base.specs.PathText.{path_of}
use Rattle.cv_shell.proofs.line.read_path.Goals as goal

pub returns-in_default : goal.returns-in_default
returns-in_default c = λ path says. c.in_default.ensures.cases.0 (IsUtf8-from_is_utf8 c.args.bytes.now says.utf8)

pub returns-in-Ok-read : goal.returns-in-Ok-read
returns-in-Ok-read c = record {
  utf8 = is_utf8-from_IsUtf8 c.args.bytes.now c.in-Ok.ensures.cases.1;
  says = ap path_of (sym c.in-Ok.ensures.cases.0) ∙ sym c.in-Ok-read.ensures.answer;
}
