use Rattle.cv_links.specs.Chains.{IsChain}
use Rattle.cv_links_tests.proofs.tests.run.Given as goal

abbrev pub invariant-loop-letter : goal.invariant-loop-letter
invariant-loop-letter g l = IsChain l.arena l.chain
