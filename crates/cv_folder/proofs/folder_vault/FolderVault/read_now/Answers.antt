use Rattle.std.proofs.lemmas.Result.{err_from_is_err_and}
use Rattle.std.proofs.Common.{◌∙◌, List, ℕ, ap, refl, string_bytes, subst}
use Rattle.cv_system.specs.Looks.{FailsToReadFile, ReadsFile}
use Rattle.cv_system.specs.Calls.{cause_of}
use Rattle.cv_system.specs.Names.{path_of}
use Rattle.cv_folder.proofs.Acts.{acts_on, reads_in_vain, reads_lost, reads_named, reads_none}
use Rattle.cv_folder.proofs.Reasons.{read_so, reads_fail}
use Rattle.cv_folder.proofs.folder_vault.FolderVault.read_now.Goals as goal

pub returns-in_err-found-clause-calls : goal.returns-in_err-found-clause-calls
returns-in_err-found-clause-calls g c =
    let p = err_from_is_err_and c.from_residual.result c.from_residual.ensures.1 in
    rw p.1 (acts_on g.S.System.log _ _ _ _ _ c.in_err-found.ensures.calls refl (λ asked look. reads_lost (string_bytes c.args.self.now.root) c.args.name.now _ asked _ _ _ look))

pub returns-in-None-clause-calls : goal.returns-in-None-clause-calls
returns-in-None-clause-calls g c =
    acts_on g.S.System.log _ _ _ _ _ (rw c.in-None.is at c.in_ok-found.ensures.calls) refl (λ asked look. reads_none (string_bytes c.args.self.now.root) c.args.name.now _ asked _ look)

pub returns-in_err-bytes-in-Some-clause-calls : goal.returns-in_err-bytes-in-Some-clause-calls
returns-in_err-bytes-in-Some-clause-calls g c =
    let p = err_from_is_err_and c.from_residual-in_err-bytes-in-Some.result c.from_residual-in_err-bytes-in-Some.ensures.1 in
    let at = c.as_str-path.ensures.path ∙ c.in_ok-found.ensures.path.0.1 ∙ ap (λ root. path_of (string_bytes root) c.args.name.now) c.find.ensures.stays.0 in
    rw p.1 (acts_on g.S.System.log _ _ _ _ _ (rw c.in-Some.is at c.in_ok-found.ensures.calls) refl
    (λ asked has. reads_in_vain (string_bytes c.args.self.now.root) c.args.name.now _ asked _ _ has _ _ (cause_of c.in_err-bytes-in-Some.field-0.0)
    (subst (λ (path : List ℕ). FailsToReadFile path c.in-Some.found (cause_of c.in_err-bytes-in-Some.field-0.0) (g.S.System.log c.find.new.self.system) (g.S.System.log c.read_found.new.system)) at c.in_err-bytes-in-Some.ensures.fails)))

pub returns-in_ok-bytes-in-Some-clause-calls : goal.returns-in_ok-bytes-in-Some-clause-calls
returns-in_ok-bytes-in-Some-clause-calls g c =
    let at = c.as_str-path.ensures.path ∙ c.in_ok-found.ensures.path.0.1 ∙ ap (λ root. path_of (string_bytes root) c.args.name.now) c.find.ensures.stays.0 in
    rw c.new.ensures (acts_on g.S.System.log _ _ _ _ _ (rw c.in-Some.is at c.in_ok-found.ensures.calls) refl
    (λ asked has. reads_named (string_bytes c.args.self.now.root) c.args.name.now _ asked _ _ has _ _
    (subst (λ (path : List ℕ). ReadsFile path c.in-Some.found c.in_ok-bytes-in-Some.bytes.items (g.S.System.log c.find.new.self.system) (g.S.System.log c.read_found.new.system)) at c.in_ok-bytes-in-Some.ensures.whole)))

pub returns-in_err-found-clause-why : goal.returns-in_err-found-clause-why
returns-in_err-found-clause-why g c =
    let p = err_from_is_err_and c.from_residual.result c.from_residual.ensures.1 in
    rw (p.1, p.2) (read_so (string_bytes c.args.self.now.root) c.args.name.now _ _ _ _ c.in_err-found.ensures.why)

pub returns-in_err-bytes-in-Some-clause-why : goal.returns-in_err-bytes-in-Some-clause-why
returns-in_err-bytes-in-Some-clause-why g c =
    let p = err_from_is_err_and c.from_residual-in_err-bytes-in-Some.result c.from_residual-in_err-bytes-in-Some.ensures.1 in
    let at = c.as_str-path.ensures.path ∙ c.in_ok-found.ensures.path.0.1 ∙ ap (λ root. path_of (string_bytes root) c.args.name.now) c.find.ensures.stays.0 in
    rw (p.1, p.2) (reads_fail g.S.System.log c.args.self.now c.find.new.self (string_bytes c.args.self.now.root) c.args.name.now c.as_str-path.result.now c.find.new.self.hold c.in-Some.found _ _ at
    (rw c.in-Some.is at c.in_ok-found.ensures.calls) c.in_err-bytes-in-Some.ensures.fails)
