use Rattle.std.proofs.Common.{◌∙◌, ap, refl, string_bytes, sym, inl, inr}
use Rattle.std.specs.Prelude.{IsTrue}
use Rattle.cv_system.specs.Names.{is_name}
use Rattle.cv_folder.specs.Noted.{is_noted}
use Rattle.cv_folder.proofs.Notes.{stays_noted}
use Rattle.cv_folder.proofs.Filing.{begins_asked, begins_made, begins_on}
use Rattle.std.proofs.lemmas.Result.{err_from_is_err_and}
use Rattle.cv_system.proofs.Laws.{steps_then}
use Rattle.cv_folder.proofs.Growing.{alone_grows}
use Rattle.cv_folder.proofs.Well.{alone_well}
use Rattle.cv_folder.proofs.Reasons.{set_fails, write_so, write_unmade}
use Rattle.cv_folder.proofs.folder_vault.FolderVault.begin_write.Goals as goal

pub returns-in_err-begin-clause-begins : goal.returns-in_err-begin-clause-begins
returns-in_err-begin-clause-begins g c = begins_asked g.S.System.log c.args.self.now c.begin.new.self _ c.begin.ensures.asks c.begin.ensures.holds

pub returns-in_err-begin-clause-no_name : goal.returns-in_err-begin-clause-no_name
returns-in_err-begin-clause-no_name g c = λ never. c.begin.ensures.asks

pub returns-then-branch-clause-begins : goal.returns-then-branch-clause-begins
returns-then-branch-clause-begins g c = begins_asked g.S.System.log c.args.self.now c.begin.new.self _ c.begin.ensures.asks c.begin.ensures.holds

pub returns-then-branch-clause-no_name : goal.returns-then-branch-clause-no_name
returns-then-branch-clause-no_name g c = λ never. c.begin.ensures.asks

pub returns-in_err-make_root-clause-begins : goal.returns-in_err-make_root-clause-begins
returns-in_err-make_root-clause-begins g c =
    begins_made g.S.System.log c.args.self.now c.begin.new.self c.make_root.new.self _ c.begin.ensures.asks c.begin.ensures.holds (rw c.if-branch.false at c.in_ok-begin.ensures.held)
    c.make_root.ensures.adds.3 _ (ap string_bytes c.begin.ensures.stays.0) c.make_root.ensures.calls c.make_root.ensures.noted

pub returns-in_err-make_root-clause-no_name : goal.returns-in_err-make_root-clause-no_name
returns-in_err-make_root-clause-no_name g c = λ never. let named : IsTrue (is_name c.args.name.now) = c.in_ok-begin.ensures.path.0.0 in cc

pub returns-clause-begins : goal.returns-clause-begins
returns-clause-begins g c =
    rw (c.set_path.ensures.calls, c.set_path.ensures.hold)
    (begins_on (string_bytes c.args.self.now.root) c.args.self.now.hold c.make_root.new.self.hold c.make_root.new.self.is_unsettled c.set_path.new.self.is_unsettled
    (is_noted c.make_root.new.self.folders.items) (is_noted c.set_path.new.self.folders.items) _ _ c.set_path.ensures.stays.2
    (λ folder noted. stays_noted c.make_root.new.self.folders c.set_path.new.self.folders folder folder c.set_path.ensures.stays.1 refl noted)
    (begins_made g.S.System.log c.args.self.now c.begin.new.self c.make_root.new.self _ c.begin.ensures.asks c.begin.ensures.holds (rw c.if-branch.false at c.in_ok-begin.ensures.held)
    c.make_root.ensures.adds.3 _ (ap string_bytes c.begin.ensures.stays.0) c.make_root.ensures.calls c.make_root.ensures.noted))

pub returns-clause-no_name : goal.returns-clause-no_name
returns-clause-no_name g c = λ never. let named : IsTrue (is_name c.args.name.now) = c.in_ok-begin.ensures.path.0.0 in cc

pub returns-in_err-begin-clause-holds : goal.returns-in_err-begin-clause-holds
returns-in_err-begin-clause-holds g c =
    λ there. c.begin.ensures.holds.0

pub returns-then-branch-clause-holds : goal.returns-then-branch-clause-holds
returns-then-branch-clause-holds g c =
    λ there. c.begin.ensures.holds.0

pub returns-in_err-make_root-clause-holds : goal.returns-in_err-make_root-clause-holds
returns-in_err-make_root-clause-holds g c =
    let absent = rw c.if-branch.false at c.in_ok-begin.ensures.held in
    λ there asked. absurd (there (sym (c.begin.ensures.holds.0 asked) ∙ absent))

pub returns-clause-holds : goal.returns-clause-holds
returns-clause-holds g c =
    let absent = rw c.if-branch.false at c.in_ok-begin.ensures.held in
    λ there asked. absurd (there (sym (c.begin.ensures.holds.0 asked) ∙ absent))

pub returns-in_err-begin-clause-why : goal.returns-in_err-begin-clause-why
returns-in_err-begin-clause-why g c =
    let p = err_from_is_err_and c.from_residual.result c.from_residual.ensures.1 in
    rw (p.1, p.2) (inr (write_so (string_bytes c.args.self.now.root) c.args.name.now _ _ _ _ c.in_err-begin.ensures.why))

pub returns-in_err-make_root-clause-why : goal.returns-in_err-make_root-clause-why
returns-in_err-make_root-clause-why g c =
    let p = err_from_is_err_and c.from_residual-in_err-make_root.result c.from_residual-in_err-make_root.ensures.1 in
    rw (p.1, p.2) (elim c.in_err-make_root.ensures.why [
      | inl memory ↦ inl (memory.0, steps_then (alone_well g.S.System.log _ _ (λ never. let absent = rw c.if-branch.false at c.in_ok-begin.ensures.held in cc) c.begin.ensures.asks) memory.1)
      | inr fails ↦ inr (write_unmade (string_bytes c.args.self.now.root) c.args.name.now _ _ _ _ _ (alone_grows g.S.System.log _ _ c.begin.ensures.asks) (string_bytes c.begin.new.self.root) (ap string_bytes c.begin.ensures.stays.0) fails)
    ])

pub returns-clause-why : goal.returns-clause-why
returns-clause-why g c =
    set_fails (string_bytes c.args.self.now.root) c.args.name.now _ (string_bytes c.make_root.new.self.root) c.set_path.result _ _ (ap string_bytes (c.make_root.ensures.adds.0 ∙ c.begin.ensures.stays.0)) c.set_path.ensures.ok c.set_path.ensures.kind
