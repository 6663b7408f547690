use Rattle.std.proofs.Common.{take, ◌≤◌}
use Rattle.cv_base.specs.Told.{WhereTold}
use Rattle.cv_vault.specs.Names.{on_way}
use Rattle.cv_vault.specs.Walks.{Walks, SparesIn}
use Rattle.cv_objects.specs.Batches.{IsApart, Brings, SparesOthers}
use Rattle.cv_objects.specs.BatchesInner.{AllWait}
use Rattle.cv_objects.proofs.Batching.{Half}
use Rattle.cv_objects.proofs.storing.place_absent.Given as goal

abbrev pub invariant-loop-object : goal.invariant-loop-object
invariant-loop-object g l = record {
  walks : WhereTold (g.V.Vault.disk l.fn.vault) (λ d. AllWait d l.batch → Walks g.V.Vault.disk g.V.Vault.count g.V.Vault.left on_way (Brings d l.batch) (λ d'. Half d' l.batch (take l.object-index l.batch) × SparesOthers d l.batch d') d l.fn.vault l.vault);
  others : SparesIn g.V.Vault.disk (IsApart l.batch) l.fn.vault l.vault;
  cause : g.V.Vault.faults l.fn.vault ≤ g.V.Vault.faults l.vault;
}
