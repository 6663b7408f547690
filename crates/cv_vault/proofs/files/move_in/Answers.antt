use Rattle.std.proofs.Common.{sym, ap, ◌∙◌}
use Rattle.std.specs.declared.result.Result.TheVariants.{Err}
use Rattle.cv_base.proofs.Laws.{not_there, handed_on}
use Rattle.cv_vault.proofs.Calming.{calm_sync}
use Rattle.cv_vault.proofs.Replacing.{moves, moves_not, moves_unsure, ok, err}
use Rattle.cv_vault.proofs.Sparing.{spares_then, spares_sync}
use Rattle.cv_vault.proofs.files.move_in.Goals as goal

pub returns-in_err-bring_file-clause-walks : goal.returns-in_err-bring_file-clause-walks
returns-in_err-bring_file-clause-walks g c = λ d e bytes waits. moves_not c.args.way.now c.args.name.now bytes _ c.in_err-bring_file.field-0.0 (handed_on _ _ c.from_residual.ensures.1) (c.in_err-bring_file.ensures.walks d e bytes waits)

pub returns-in_err-sync-clause-walks : goal.returns-in_err-sync-clause-walks
returns-in_err-sync-clause-walks g c = λ d e bytes waits. moves_unsure c.args.way.now c.args.name.now bytes (g.met.V.Vault.only_now c.bring_file.new.vault) (c.in_ok-bring_file.ensures.walks d e bytes waits)
    _ c.in_err-sync.field-0.0 (handed_on _ _ c.from_residual-in_err-sync.ensures.1) (λ s. c.in_err-sync.ensures.memory (ap Err s)) c.in_err-sync.ensures.call

pub returns-clause-walks : goal.returns-clause-walks
returns-clause-walks g c = λ d e bytes waits. moves c.args.way.now c.args.name.now bytes (g.met.V.Vault.only_now c.bring_file.new.vault) (c.in_ok-bring_file.ensures.walks d e bytes waits) c.in_ok-sync.ensures.call

pub returns-in_err-bring_file-clause-memory : goal.returns-in_err-bring_file-clause-memory
returns-in_err-bring_file-clause-memory g c = λ e. c.in_err-bring_file.ensures.memory (sym (handed_on _ _ c.from_residual.ensures.1) ∙ e)

pub returns-in_err-sync-clause-memory : goal.returns-in_err-sync-clause-memory
returns-in_err-sync-clause-memory g c = λ e. absurd (c.in_err-sync.ensures.memory (sym (handed_on _ _ c.from_residual-in_err-sync.ensures.1) ∙ e))

pub returns-in_err-sync-clause-others : goal.returns-in_err-sync-clause-others
returns-in_err-sync-clause-others g c = spares_then c.in_ok-bring_file.ensures.others (spares_sync (err c.in_err-sync.field-0.0) c.in_err-sync.ensures.call)

pub returns-clause-others : goal.returns-clause-others
returns-clause-others g c = spares_then c.in_ok-bring_file.ensures.others (spares_sync ok c.in_ok-sync.ensures.call)

pub returns-in_err-bring_file-clause-absent : goal.returns-in_err-bring_file-clause-absent
returns-in_err-bring_file-clause-absent g c = λ d e none. c.in_err-bring_file.ensures.absent d e none

pub returns-in_err-sync-clause-absent : goal.returns-in_err-sync-clause-absent
returns-in_err-sync-clause-absent g c = λ d e none. absurd (not_there _ none (c.in_ok-bring_file.ensures.there d e))

pub returns-clause-absent : goal.returns-clause-absent
returns-clause-absent g c = λ d e none. absurd (not_there _ none (c.in_ok-bring_file.ensures.there d e))

pub returns-clause-calm : goal.returns-clause-calm
returns-clause-calm g c = calm_sync c.in_ok-sync.ensures.call
