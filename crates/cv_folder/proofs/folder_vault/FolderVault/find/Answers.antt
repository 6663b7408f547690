use Rattle.std.proofs.lemmas.Result.{err_from_is_err_and, IfErr-weaker}
use Rattle.std.proofs.Common.{◌∙◌, ◌+◌, ap, length, refl, string_bytes, inr}
use Rattle.cv_system.specs.Names.{path_of}
use Rattle.cv_folder.proofs.Acts.{acts_so, finds_named, finds_no_more, finds_none}
use Rattle.cv_system.proofs.Laws.{fails_then}
use Rattle.cv_folder.proofs.Growing.{alone_grows}
use Rattle.cv_folder.proofs.folder_vault.FolderVault.find.Goals as goal

pub returns-in_err-begin-clause-calls : goal.returns-in_err-begin-clause-calls
returns-in_err-begin-clause-calls g c =
    let p = err_from_is_err_and c.from_residual.result c.from_residual.ensures.1 in
    rw p.1 (acts_so g.S.System.log _ _ _ _ c.begin.ensures.asks refl (finds_no_more (string_bytes c.args.self.now.root) c.args.name.now _ _ _ _ c.in_err-begin.ensures.fails refl))

pub returns-then-not-branch-clause-calls : goal.returns-then-not-branch-clause-calls
returns-then-not-branch-clause-calls g c =
    acts_so g.S.System.log _ _ _ _ c.begin.ensures.asks refl (finds_none (string_bytes c.args.self.now.root) c.args.name.now _ _ _ _ (rw c.if-not-branch.true at c.in_ok-begin.ensures.held) refl)

pub returns-clause-calls : goal.returns-clause-calls
returns-clause-calls g c =
    acts_so g.S.System.log _ _ _ _ c.begin.ensures.asks refl
    (finds_named (string_bytes c.args.self.now.root) c.args.name.now _ _ _ _ c.find_file.result _ (rw c.if-not-branch.false at c.in_ok-begin.ensures.held) c.in_ok-begin.ensures.path.0.0
    (c.names_from-from.ensures ∙ ap (λ root. length (string_bytes root) + 1) c.begin.ensures.stays.0)
    (c.as_str.ensures.path ∙ c.in_ok-begin.ensures.path.0.1 ∙ ap (λ root. path_of (string_bytes root) c.args.name.now) c.begin.ensures.stays.0)
    c.find_file.ensures.finds)

pub returns-in_err-begin-clause-why : goal.returns-in_err-begin-clause-why
returns-in_err-begin-clause-why g c =
    let p = err_from_is_err_and c.from_residual.result c.from_residual.ensures.1 in
    rw (p.1, p.2) (c.in_err-begin.ensures.why)

pub returns-clause-why : goal.returns-clause-why
returns-clause-why g c =
    IfErr-weaker c.find_file.result _ _ (λ error fails. inr (fails_then (alone_grows g.S.System.log _ _ c.begin.ensures.asks) fails)) c.find_file.ensures.fails
