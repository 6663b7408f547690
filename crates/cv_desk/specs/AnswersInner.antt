-- How a tree that can't be grafted is answered.
use Rattle.std.specs.Prelude.{◌≡◌, ◌⊎◌}
use Rattle.cv_gate.specs.declared.reply.Reply.{Reply}
use Rattle.cv_gate.specs.declared.reply.Reply.TheVariants as reply
use Rattle.cv_graft.specs.declared.graft_fault.GraftFault.{GraftFault}
use Rattle.cv_graft.specs.declared.graft_fault.GraftFault.TheVariants as fault

-- by the refusal with its paths, which are copied, or want of memory
abbrev pub Tells : GraftFault → Reply → Type 0
Tells (fault.PathCollision a b) r = (r ≡ reply.PathCollision a b) ⊎ (r ≡ reply.NoMemory)
Tells (fault.CatalogueFull c) r = (r ≡ reply.CatalogueFull c) ⊎ (r ≡ reply.NoMemory)
Tells fault.Failed r = r ≡ reply.StoreFailed
Tells (fault.Damaged id found) r = r ≡ reply.Damaged id found
Tells fault.NoMemory r = r ≡ reply.NoMemory
