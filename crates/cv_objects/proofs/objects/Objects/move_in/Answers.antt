use Rattle.std.proofs.Common.{List, ℕ, Some}
use Rattle.cv_base.specs.Told.{WhereTold}
use Rattle.cv_vault.specs.Names.{on_way}
use Rattle.cv_vault.specs.Walks.{Walks, ComesTo}
use Rattle.cv_vault.specs.Replace.{IsWaiting, MovedIn}
use Rattle.cv_objects.proofs.Seen.{seen, where_ok}
use Rattle.cv_objects.proofs.objects.Objects.move_in.Goals as goal

pub invariant_of-self : goal.invariant_of-self
invariant_of-self g c = where_ok c.move_in-result.result _ c.is_ok-self-inside.ensures.value c.move_in-result.ensures.calm

pub returns-clause-walks : goal.returns-clause-walks
returns-clause-walks g c = seen c.self.view_is
    (λ v. WhereTold (g.V.Vault.disk v) (λ d. (bytes : List ℕ) → IsWaiting c.args.way.now c.args.name.now bytes d
    → Walks g.V.Vault.disk g.V.Vault.count g.V.Vault.left on_way (ComesTo c.args.name.now (Some bytes)) (MovedIn d c.args.name.now bytes c.move_in-result.result) d v c.move_in-result.new.vault)) c.move_in-result.ensures.walks
