-- When a commit that was begun is ready no more.
use Rattle.std.proofs.Common.{◌≡◌, ℕ, Bool, List}
use Rattle.std.specs.declared.option.Option.{Option}
use Rattle.std.specs.declared.option.Option.TheVariants.{None, Some}
use Rattle.cv_vault.specs.Disk.{Disk, Files}
use Rattle.cv_manifest.specs.declared.head.Head.{Head}
use Rattle.cv_gate.specs.declared.op.Op.{Op}
use Rattle.cv_gate.specs.declared.reply.Reply.{Reply}
use Rattle.cv_desk.specs.Gate.{GateView}
use Rattle.cv_desk.specs.Begin.{Begins, over, waits, EndsWaiting}
use Rattle.cv_desk.specs.declared.begun.Begun.TheVariants.{Done, Ready}
use Rattle.cv_desk.specs.declared.waiting.Waiting.{Waiting}

-- it got ready and was ended
pub idle_then : {V S : Type 0} (disk : V → Option Disk) (count : V → ℕ) (left : V → ℕ → Files → Type 0) (is_seal : S → List ℕ → List ℕ → Bool) (o : Op) (seat now : ℕ) (before mid after : GateView V S) (head : Head) (go : Bool) (r : Reply)
    → Begins disk count left is_seal o seat now before mid (Ready head) → ((w : Waiting) → mid.ready ≡ Some w → EndsWaiting disk count left is_seal go w mid after r) → after.ready ≡ None
idle_then disk count left is_seal o seat now before mid after head go r (waits _ w there same_seat same_now noted room journal commit same at_ready is_head from resumes exact gets) ends = (ends w there).idle

-- it was over at once
pub idle_done : {V S : Type 0} (disk : V → Option Disk) (count : V → ℕ) (left : V → ℕ → Files → Type 0) (is_seal : S → List ℕ → List ℕ → Bool) (o : Op) (seat now : ℕ) (before after : GateView V S) (r : Reply)
    → Begins disk count left is_seal o seat now before after (Done r) → after.ready ≡ None
idle_done disk count left is_seal o seat now before after r (over _ steps idle unpublished calm) = idle
