use Rattle.std.proofs.Common.{◌≡◌, ◌-◌}
use Rattle.cv_rows.specs.Reading.{nested_at, many_at}
use Rattle.cv_rows.proofs.Loop.{with_front}
use Rattle.cv_rows.proofs.reading.read_nesteds.Given as goal

abbrev pub invariant-loop : goal.invariant-loop
invariant-loop l = with_front l.nested.items (many_at (nested_at l.all) (l.count - l.counter) l.rest) ≡ many_at (nested_at l.all) l.count l.text
