use Rattle.std.proofs.Common.{◌==◌, ap, ◌∙◌}
use Rattle.cv_vault.proofs.Settling.{calm_listed}
use Rattle.cv_vault.proofs.table.Table.is_calm.Goals as goal

pub returns-clause-calm : goal.returns-clause-calm
returns-clause-calm c =
    let t = c.self.inside in
    rw (← c.self.view_is) (c.is_empty.ensures ∙ ap (λ k. k == 0) t.unsettled.ok.0 ∙ calm_listed t.unsettled t.entries.items c.self.invariant.unsettled)
