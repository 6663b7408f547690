use Rattle.std.proofs.lemmas.Result.{err_from_is_err_and}
use Rattle.std.proofs.Common.{refl, string_bytes}
use Rattle.cv_folder.proofs.Acts.{acts_on, measures_lost, measures_named, measures_none}
use Rattle.cv_folder.proofs.folder_vault.FolderVault.length_now.Goals as goal

pub returns-in_err-found-clause-calls : goal.returns-in_err-found-clause-calls
returns-in_err-found-clause-calls g c =
    let p = err_from_is_err_and c.from_residual.result c.from_residual.ensures.1 in
    rw p.1 (acts_on g.S.System.log _ _ _ _ _ c.in_err-found.ensures.calls refl (λ asked look. measures_lost (string_bytes c.args.self.now.root) c.args.name.now _ asked _ _ _ look))

pub returns-in-None-clause-calls : goal.returns-in-None-clause-calls
returns-in-None-clause-calls g c =
    acts_on g.S.System.log _ _ _ _ _ (rw c.in-None.is at c.in_ok-found.ensures.calls) refl (λ asked look. measures_none (string_bytes c.args.self.now.root) c.args.name.now _ asked _ look)

pub returns-in-Some-clause-calls : goal.returns-in-Some-clause-calls
returns-in-Some-clause-calls g c =
    acts_on g.S.System.log _ _ _ _ _ (rw c.in-Some.is at c.in_ok-found.ensures.calls) refl (λ asked has. measures_named (string_bytes c.args.self.now.root) c.args.name.now _ asked c.in-Some.found _ has)
