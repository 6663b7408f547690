-- What the crates above may cite of counts that are raised, and of pieces one after another.
pub use Rattle.cv_ports.proofs.Streams.{front_twice, onto_twice, wrote_back, wrote_front, onto_none}
use Rattle.std.proofs.Common.{◌≡◌, ◌+◌, ℕ, zero, suc, ap, ◌∙◌, arith}
use Rattle.cv_base.specs.Counts.{raised}
use Rattle.cv_ports.specs.Calls.{raised_by, RaisedAtMost}

-- so many more, and then so many more
raised_sum : (k m n : ℕ) → raised_by k (raised_by m n) ≡ raised_by (k + m) n
raised_sum zero m n = ap (λ (x : ℕ). raised_by x n) (let e : m ≡ 0 + m = omega arith in e)
raised_sum (suc k) m n = ap raised (raised_sum k m n) ∙ ap (λ (x : ℕ). raised_by x n) (let e : suc (k + m) ≡ suc k + m = omega arith in e)

-- at most so many more, and then at most so many more
pub raised_both : (a b before between after : ℕ) → RaisedAtMost a before between → RaisedAtMost b between after → RaisedAtMost (a + b) before after
raised_both a b before between after (k, le, is) (m, le_then, is_then) = (m + k, omega arith, is_then ∙ ap (raised_by m) is ∙ raised_sum m k before)
