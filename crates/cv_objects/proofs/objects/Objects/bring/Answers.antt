use Rattle.cv_base.specs.Told.{WhereTold}
use Rattle.cv_vault.specs.Names.{on_way}
use Rattle.cv_vault.specs.Walks.{Walks}
use Rattle.cv_objects.specs.Batches.{AreReady, Brings, Brought}
use Rattle.cv_objects.proofs.Seen.{seen}
use Rattle.cv_objects.proofs.objects.Objects.bring.Goals as goal

pub returns-clause-walks : goal.returns-clause-walks
returns-clause-walks g c = λ d e. seen c.self.view_is
    (λ v. WhereTold (g.V.Vault.disk v) (λ d. AreReady d c.args.batch.now
    → Walks g.V.Vault.disk g.V.Vault.count g.V.Vault.left on_way (Brings d c.args.batch.now) (Brought d c.args.batch.now c.bring_all.result) d v c.bring_all.new.vault))
    c.bring_all.ensures.walks d e (c.requires.ready d e)
