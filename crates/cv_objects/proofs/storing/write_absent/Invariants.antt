use Rattle.std.proofs.Common.{take, ◌≤◌}
use Rattle.cv_base.specs.Told.{WhereTold}
use Rattle.cv_vault.specs.Names.{on_way}
use Rattle.cv_vault.specs.Walks.{Walks, Nothing, SparesIn}
use Rattle.cv_objects.specs.Batches.{IsApart, AreReady}
use Rattle.cv_objects.proofs.storing.write_absent.Given as goal

abbrev pub invariant-loop-object : goal.invariant-loop-object
invariant-loop-object g l = record {
  walks : WhereTold (g.V.Vault.disk l.fn.vault) (λ d. Walks g.V.Vault.disk g.V.Vault.count g.V.Vault.left on_way Nothing (λ d'. AreReady d' (take l.object-index l.batch)) d l.fn.vault l.vault);
  others : SparesIn g.V.Vault.disk (IsApart l.batch) l.fn.vault l.vault;
  cause : g.V.Vault.faults l.fn.vault ≤ g.V.Vault.faults l.vault;
}
