use Rattle.std.proofs.Common.{take}
use Rattle.std.specs.Prelude.{Contains}
use Rattle.cv_pack.specs.Pack.{ids}
use Rattle.cv_pack.specs.PackInner.{lent}
use Rattle.cv_pack.proofs.pack_writer.has_id.Given as goal

abbrev pub invariant-loop-object : goal.invariant-loop-object
invariant-loop-object l = Contains (ids (take l.object-index (lent l.objects))) l.id → ⊥
