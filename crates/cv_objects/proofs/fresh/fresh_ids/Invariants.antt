use Rattle.std.proofs.Common.{◌≡◌, take, ◌≤◌}
use Rattle.cv_base.specs.Told.{WhereTold}
use Rattle.cv_vault.specs.Names.{on_way}
use Rattle.cv_vault.specs.Moments.{OnlyReads}
use Rattle.cv_vault.specs.Walks.{Walks, Nothing}
use Rattle.cv_objects.specs.Fresh.{lacking}
use Rattle.cv_objects.specs.Batches.{Agrees}
use Rattle.cv_objects.specs.Names.{standing_on}
use Rattle.cv_objects.specs.PlacesInner.{is_noted}
use Rattle.cv_objects.proofs.Once.{AreOnce}
use Rattle.cv_objects.proofs.fresh.fresh_ids.Given as goal

abbrev pub invariant-loop-object : goal.invariant-loop-object
invariant-loop-object g l = record {
  walks : WhereTold (g.V.Vault.disk l.fn.vault) (λ d. Walks g.V.Vault.disk g.V.Vault.count g.V.Vault.left on_way Nothing (λ d'. (d' ≡ d) × AreOnce (lacking (take l.object-index l.batch) (standing_on d)) l.ids.items (is_noted l.noted) × Agrees (take l.object-index l.batch) (standing_on d)) d l.fn.vault l.vault);
  reads : OnlyReads g.V.Vault.disk g.V.Vault.count g.V.Vault.left l.fn.vault l.vault;
  cause : g.V.Vault.faults l.fn.vault ≤ g.V.Vault.faults l.vault;
}
