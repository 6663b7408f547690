use Rattle.std.proofs.Common.{◌≡◌, drop, length}
use Rattle.cv_vault.specs.TableInner.{settled_each}
use Rattle.cv_vault.proofs.table.settle_all.Given as goal

abbrev pub invariant-loop-number : goal.invariant-loop-number
invariant-loop-number l =
    (settled_each (drop l.number-index l.numbers) l.entries ≡ settled_each l.numbers l.initial.entries) × (length l.entries ≡ length l.initial.entries)
