use Rattle.std.proofs.Common.{◌≡◌, []}
use Rattle.std.specs.Prelude.{vec_len, All}
use Rattle.cv_system.proofs.ahead.Ahead.new.Given as goal

abbrev pub invariant-loop : goal.invariant-loop
invariant-loop l = (vec_len l.paths ≡ l.counter) × All (λ path. path ≡ []) l.paths.items
