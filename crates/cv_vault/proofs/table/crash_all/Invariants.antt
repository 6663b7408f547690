use Rattle.std.proofs.Common.{◌≡◌, ◌<◌, length}
use Rattle.std.specs.List.{All}
use Rattle.cv_vault.specs.TableInner.{crashed}
use Rattle.cv_vault.proofs.table.crash_all.Given as goal

abbrev pub invariant-loop-number : goal.invariant-loop-number
invariant-loop-number l =
    (crashed l.rest l.number-iterator l.entries ≡ crashed l.pick l.numbers.entries l.initial.entries) × All (λ p. p.1 < length l.entries) l.number-iterator
