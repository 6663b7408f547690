use Rattle.std.proofs.Common.{ap, subst, ◌∙◌}
use Rattle.std.specs.declared.result.Result.TheVariants.{Ok, Err}
use Rattle.cv_vault.specs.Moments.{OnlyReads}
use Rattle.cv_vault.specs.declared.vault.VaultFault.TheVariants.{Failed, NoMemory}
use Rattle.cv_swap.proofs.Views.{swap_walks, vault_seen}
use Rattle.cv_swap.proofs.line.Line.swap.Goals as goal

pub returns-in-Ok-clause-walks : goal.returns-in-Ok-clause-walks
returns-in-Ok-clause-walks g c = swap_walks (Ok c.in-Ok.field-0) _ _ c.self.view_is c.requires.ready c.self.invariant.waits c.in-Ok.ensures.walks

pub returns-in-Err-Failed-clause-walks : goal.returns-in-Err-Failed-clause-walks
returns-in-Err-Failed-clause-walks g c = swap_walks (Err Failed) _ _ c.self.view_is c.requires.ready c.self.invariant.waits (rw c.in-Err-Failed.field-0-is at (rw c.in-Err-Failed.is at c.swap_on.ensures.walks))

pub returns-in-Err-NoMemory-clause-walks : goal.returns-in-Err-NoMemory-clause-walks
returns-in-Err-NoMemory-clause-walks g c = swap_walks (Err NoMemory) _ _ c.self.view_is c.requires.ready c.self.invariant.waits (rw c.in-Err-NoMemory.field-0-is at (rw c.in-Err-NoMemory.is at c.swap_on.ensures.walks))

pub returns-in-Err-NoMemory-clause-memory : goal.returns-in-Err-NoMemory-clause-memory
returns-in-Err-NoMemory-clause-memory g c = λ e. subst (λ v. OnlyReads g.V.Vault.disk g.V.Vault.count g.V.Vault.left v c.swap_on.new.objects.vault) (vault_seen _ _ c.self.view_is) (c.swap_on.ensures.memory (c.in-Err-NoMemory.is ∙ ap Err c.in-Err-NoMemory.field-0-is))
