use Rattle.std.proofs.Common.{inl, inr}
use Rattle.std.proofs.lemmas.Result.{err_from_is_err_and}
use Rattle.cv_base.proofs.Laws.{on_err_only}
use Rattle.cv_folder.proofs.folder_vault.FolderVault.is_held.Goals as goal

pub returns-in_err-ask-clause-fails : goal.returns-in_err-ask-clause-fails
returns-in_err-ask-clause-fails g c = on_err_only c.from_residual.result (inl c.in_err-ask.ensures.fails)

pub returns-in_err-ask-clause-why : goal.returns-in_err-ask-clause-why
returns-in_err-ask-clause-why g c =
    let p = err_from_is_err_and c.from_residual.result c.from_residual.ensures.1 in
    rw (p.1, p.2) (inr c.in_err-ask.ensures.why)

pub returns-in-Unasked-clause-why : goal.returns-in-Unasked-clause-why
returns-in-Unasked-clause-why g c = elim c.in-Unasked.is [
  | inl is ↦ absurd (c.in_ok-ask.ensures.known is)
  | inr is ↦ inl (c.refused.ensures, is)
]
