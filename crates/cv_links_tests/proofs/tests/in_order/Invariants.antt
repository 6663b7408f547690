use Rattle.std.proofs.Common.{IfSome, Contains}
use Rattle.cv_links.specs.Chains.{list_of}
use Rattle.cv_links_tests.proofs.tests.in_order.Given as goal

abbrev pub invariant-loop : goal.invariant-loop
invariant-loop g l = IfSome l.at (λ id. Contains (list_of l.arena l.chain) id)
