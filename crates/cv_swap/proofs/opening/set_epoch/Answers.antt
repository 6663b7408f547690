use Rattle.std.proofs.Common.{rules, ◌≡◌, ℕ, List, subst}
use Rattle.std.specs.declared.option.Option.TheVariants.{Some}
use Rattle.cv_vault.specs.Names.{on_way}
use Rattle.cv_vault.specs.Walks.{Walks, ComesTo}
use Rattle.cv_vault.specs.Replace.{Replaced}
use Rattle.cv_vault.proofs.Laws.{stand}
use Rattle.cv_swap.specs.Stands.{epoch_name, epoch_text}
use Rattle.cv_swap.proofs.Names.{epoch_not_data}
use Rattle.cv_swap.proofs.opening.set_epoch.Goals as goal

pub returns-clause-walks : goal.returns-clause-walks
returns-clause-walks g c = λ d e.
    let text : c.as_bytes.result.now ≡ epoch_text c.args.epoch = search rules in
    subst (λ (b : List ℕ). Walks g.V.Vault.disk g.V.Vault.count g.V.Vault.left on_way (ComesTo epoch_name (Some b)) (Replaced d epoch_name b c.replace.result) d c.args.objects.now.vault c.replace.new.self.vault) text (c.replace.ensures.walks d e)

pub returns-in_err-text-clause-memory : goal.returns-in_err-text-clause-memory
returns-in_err-text-clause-memory g c = λ none d e. stand (g.met.V.Vault.only_now c.args.objects.now.vault) e tt

pub returns-clause-silent : goal.returns-clause-silent
returns-clause-silent g c = λ e. c.replace.ensures.others.silent e

pub replace-requires-clause-plain : goal.replace-requires-clause-plain
replace-requires-clause-plain g c = epoch_not_data
