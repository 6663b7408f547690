use Rattle.std.proofs.Common.{◌+◌, ◌∙◌, sym}
use Rattle.std.specs.Prelude.{Some, None}
use Rattle.cv_base.proofs.Laws.{rest_all}
use Rattle.cv_manifest.proofs.Cuts.{cut_at}
use Rattle.cv_manifest.proofs.line.split_line.Goals as goal

pub returns-in_err-end : goal.returns-in_err-end
returns-in_err-end c =
    rw c.from_residual.ensures (cut_at c.args.bytes.now None (sym c.newline_at.ensures ∙ c.in_err-end.was))

pub returns : goal.returns
returns c = rw (rest_all c.args.bytes.now (c.in_ok-end.end + 1)) (cut_at c.args.bytes.now (Some c.in_ok-end.end) (sym c.newline_at.ensures ∙ c.in_ok-end.was))
