use Rattle.std.proofs.Common.{List, ℕ, Some}
use Rattle.cv_base.specs.Told.{WhereTold}
use Rattle.cv_vault.specs.Names.{on_way}
use Rattle.cv_vault.specs.Walks.{Walks, ComesTo}
use Rattle.cv_vault.specs.Replace.{IsWaiting, Came}
use Rattle.cv_objects.proofs.Seen.{seen}
use Rattle.cv_objects.proofs.objects.Objects.bring_file.Goals as goal

pub returns-clause-walks : goal.returns-clause-walks
returns-clause-walks g c = seen c.self.view_is
    (λ v. WhereTold (g.V.Vault.disk v) (λ d. (bytes : List ℕ) → IsWaiting c.args.way.now c.args.name.now bytes d
    → Walks g.V.Vault.disk g.V.Vault.count g.V.Vault.left on_way (ComesTo c.args.name.now (Some bytes)) (Came d c.args.way.now c.args.name.now bytes c.bring_file.result) d v c.bring_file.new.vault)) c.bring_file.ensures.walks
