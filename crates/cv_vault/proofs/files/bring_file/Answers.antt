use Rattle.std.proofs.Common.{true, false}
use Rattle.cv_vault.specs.Names.{on_way}
use Rattle.std.specs.declared.result.Result.TheVariants.{Ok, Err}
use Rattle.cv_base.proofs.Laws.{handed_on}
use Rattle.cv_vault.proofs.Calling.{apart}
use Rattle.cv_vault.proofs.Replacing.{brings, brings_not, brings_none, found_there, one_fault, quiet_unmade, quiet_absent, quiet_missing}
use Rattle.cv_vault.proofs.Sparing.{spares_rename}
use Rattle.cv_vault.proofs.files.bring_file.Goals as goal

pub rename-requires : goal.rename-requires
rename-requires g c = apart on_way _ _ c.requires.way c.requires.name

pub returns-in_err-rename-clause-walks : goal.returns-in_err-rename-clause-walks
returns-in_err-rename-clause-walks g c = λ d e bytes waits. brings_not _ _ bytes c.requires.way c.requires.name (g.met.V.Vault.only_now c.args.vault.now) e waits _ c.in_err-rename.field-0.0 (handed_on _ _ c.from_residual.ensures.1) c.in_err-rename.ensures.call

pub returns-then-branch-clause-walks : goal.returns-then-branch-clause-walks
returns-then-branch-clause-walks g c = λ d e bytes waits. brings _ _ bytes c.requires.way c.requires.name (g.met.V.Vault.only_now c.args.vault.now) e waits (rw c.if-branch.true at c.in_ok-rename.ensures.call)

pub returns-else-branch-clause-walks : goal.returns-else-branch-clause-walks
returns-else-branch-clause-walks g c = λ d e bytes waits. brings_none _ _ bytes c.requires.way c.requires.name (g.met.V.Vault.only_now c.args.vault.now) e waits (rw c.if-branch.false at c.in_ok-rename.ensures.call)

pub returns-in_err-rename-clause-memory : goal.returns-in_err-rename-clause-memory
returns-in_err-rename-clause-memory g c = λ e. quiet_unmade c.args.way.now c.args.name.now c.in_err-rename.field-0.0 (one_fault _ (handed_on _ _ c.from_residual.ensures.1) e) c.in_err-rename.ensures.call

pub returns-else-branch-clause-memory : goal.returns-else-branch-clause-memory
returns-else-branch-clause-memory g c = λ e. quiet_absent c.args.way.now c.args.name.now (rw c.if-branch.false at c.in_ok-rename.ensures.call)

pub returns-in_err-rename-clause-others : goal.returns-in_err-rename-clause-others
returns-in_err-rename-clause-others g c = spares_rename _ _ (Err c.in_err-rename.field-0.0) (λ n p. p.0) (λ n p. p.1) c.in_err-rename.ensures.call

pub returns-then-branch-clause-others : goal.returns-then-branch-clause-others
returns-then-branch-clause-others g c = spares_rename _ _ (Ok true) (λ n p. p.0) (λ n p. p.1) (rw c.if-branch.true at c.in_ok-rename.ensures.call)

pub returns-else-branch-clause-others : goal.returns-else-branch-clause-others
returns-else-branch-clause-others g c = spares_rename _ _ (Ok false) (λ n p. p.0) (λ n p. p.1) (rw c.if-branch.false at c.in_ok-rename.ensures.call)

pub returns-then-branch-clause-there : goal.returns-then-branch-clause-there
returns-then-branch-clause-there g c = found_there c.args.way.now c.args.name.now (rw c.if-branch.true at c.in_ok-rename.ensures.call)

pub returns-in_err-rename-clause-absent : goal.returns-in_err-rename-clause-absent
returns-in_err-rename-clause-absent g c = λ d e none. quiet_missing c.args.way.now c.args.name.now (Err c.in_err-rename.field-0.0) e none c.in_err-rename.ensures.call

pub returns-then-branch-clause-absent : goal.returns-then-branch-clause-absent
returns-then-branch-clause-absent g c = λ d e none. quiet_missing c.args.way.now c.args.name.now (Ok true) e none (rw c.if-branch.true at c.in_ok-rename.ensures.call)

pub returns-else-branch-clause-absent : goal.returns-else-branch-clause-absent
returns-else-branch-clause-absent g c = λ d e none. quiet_absent c.args.way.now c.args.name.now (rw c.if-branch.false at c.in_ok-rename.ensures.call)
