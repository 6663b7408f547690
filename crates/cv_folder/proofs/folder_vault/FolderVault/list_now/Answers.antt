use Rattle.std.proofs.lemmas.Result.{IfErr-weaker, err_from_is_err_and}
use Rattle.std.proofs.Common.{◌∙◌, ap, refl, string_bytes, subst, sym}
use Rattle.cv_folder.specs.Listed.{IsListed}
use Rattle.cv_folder.proofs.Acts.{acts_so}
use Rattle.cv_folder.proofs.Listed.{listed_none, listed_so, none_listed, unlisted}
use Rattle.cv_folder.proofs.Ending.{list_fails, list_refused}
use Rattle.cv_folder.proofs.Well.{alone_well, held_asked}
use Rattle.cv_folder.proofs.folder_vault.FolderVault.list_now.Goals as goal

pub returns-then-not-branch-clause-listed : goal.returns-then-not-branch-clause-listed
returns-then-not-branch-clause-listed g c = subst (IsListed c.args.prefix.now) (sym c.new.ensures.items) (none_listed c.args.prefix.now)

pub returns-in_err-is_held-clause-calls : goal.returns-in_err-is_held-clause-calls
returns-in_err-is_held-clause-calls g c =
    let p = err_from_is_err_and c.from_residual.result c.from_residual.ensures.1 in
    rw p.1 (acts_so g.S.System.log _ _ _ _ c.is_held.ensures.asks refl (unlisted _ _ _ _ _ _ _ c.in_err-is_held.ensures.fails refl))

pub returns-then-not-branch-clause-calls : goal.returns-then-not-branch-clause-calls
returns-then-not-branch-clause-calls g c =
    acts_so g.S.System.log _ _ _ _ c.is_held.ensures.asks refl (listed_none _ _ _ _ _ _ _ (rw c.if-not-branch.true at c.in_ok-is_held.ensures.held) c.new.ensures.items refl)

pub returns-clause-calls : goal.returns-clause-calls
returns-clause-calls g c =
    let root = c.as_str.ensures.value ∙ ap string_bytes c.is_held.ensures.stays.0 in
    acts_so g.S.System.log _ _ _ _ c.is_held.ensures.asks refl
    (listed_so _ _ (string_bytes c.args.self.now.root) _ _ _ c.list_files.result (rw c.if-not-branch.false at c.in_ok-is_held.ensures.held) (rw root at c.list_files.ensures.calls) (rw root at c.list_files.ensures.saw))

pub returns-in_err-is_held-clause-why : goal.returns-in_err-is_held-clause-why
returns-in_err-is_held-clause-why g c =
    let p = err_from_is_err_and c.from_residual.result c.from_residual.ensures.1 in
    rw (p.1, p.2) (list_refused _ _ _ _ c.in_err-is_held.ensures.why)

pub returns-clause-why : goal.returns-clause-why
returns-clause-why g c =
    IfErr-weaker c.list_files.result _ _
    (λ error fails. list_fails _ _ _ _ _ (alone_well g.S.System.log _ _ (held_asked c.is_held.new.self.hold (rw c.if-not-branch.false at c.in_ok-is_held.ensures.held)) c.is_held.ensures.asks) fails)
    c.list_files.ensures.why
