use Rattle.std.proofs.Common.{◌≡◌, ◌++◌, take}
use Rattle.cv_pack.specs.Pack.{contents}
use Rattle.cv_pack.specs.PackInner.{lent}
use Rattle.cv_pack.proofs.pack_writer.push_contents.Given as goal

abbrev pub invariant-loop-object : goal.invariant-loop-object
invariant-loop-object l = l.out.items ≡ l.fn.out.items ++ contents (lent (take l.object-index l.objects))
