use Rattle.std.proofs.Common.{◌≡◌, ◌++◌, take}
use Rattle.cv_pack.specs.PackInner.{lent, lines_of}
use Rattle.cv_pack.proofs.pack_writer.push_lines.Given as goal

abbrev pub invariant-loop-object : goal.invariant-loop-object
invariant-loop-object l = l.out.items ≡ l.fn.out.items ++ lines_of (lent (take l.object-index l.objects))
