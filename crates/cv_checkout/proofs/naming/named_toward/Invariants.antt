use Rattle.std.proofs.Common.{take}
use Rattle.std.specs.Prelude.{filter}
use Rattle.std.specs.List.{AllZip}
use Rattle.cv_base.specs.Path.{overlap}
use Rattle.cv_checkout.specs.Wanting.{IsNamed}
use Rattle.cv_checkout.proofs.naming.named_toward.Given as goal

abbrev pub invariant-loop-nested : goal.invariant-loop-nested
invariant-loop-nested l = AllZip (IsNamed l.catalogue) (filter (λ n. overlap l.path n.path) (take l.nested-index l.catalogue.nested)) l.all.items
