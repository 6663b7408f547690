use Rattle.std.proofs.Common.{◌≡◌, drop}
use Rattle.cv_http.specs.HeadEndsInner.{has_empty_line}
use Rattle.cv_http.specs.declared.head_end.Line.TheVariants.{Text}
use Rattle.cv_http.proofs.head_end.has_empty_line.Given as goal

abbrev pub invariant-loop-byte : goal.invariant-loop-byte
invariant-loop-byte l = has_empty_line Text l.bytes ≡ has_empty_line l.line (drop l.byte-index l.bytes)
