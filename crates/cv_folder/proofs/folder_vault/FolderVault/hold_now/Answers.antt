use Rattle.std.proofs.Common.{◌∙◌, string_bytes}
use Rattle.std.specs.Prelude.{IsTrue}
use Rattle.std.proofs.lemmas.Result.{IfOk-weaker, IfErr-weaker}
use Rattle.cv_system.specs.Calls.{cause_of}
use Rattle.cv_folder.proofs.Acts.{asked_so, on_err, refused_so, unasked_so}
use Rattle.cv_system.proofs.Laws.{fails_then, no_step}
use Rattle.cv_folder.proofs.Growing.{asks_fail}
use Rattle.cv_folder.proofs.folder_vault.FolderVault.hold_now.Goals as goal

pub returns-then-not-has_root-clause-asked : goal.returns-then-not-has_root-clause-asked
returns-then-not-has_root-clause-asked g c =
    refused_so _ (string_bytes c.args.self.now.root) _ _ (λ is. let yes : IsTrue c.has_root.result = c.has_root.ensures.root.1 is in cc) c.has_root.ensures.calls

pub returns-clause-asked : goal.returns-clause-asked
returns-clause-asked g c =
    IfOk-weaker c.hold_of.result _ _
    (λ hold. asked_so (string_bytes c.args.self.now.root) c.as_str.result.now _ _ _ (c.as_str.ensures.path ∙ c.has_root.ensures.path c.if-not-has_root.false) c.has_root.ensures.calls hold (c.has_root.ensures.root.0 c.if-not-has_root.false))
    c.hold_of.ensures.asked

pub returns-clause-fails : goal.returns-clause-fails
returns-clause-fails g c =
    on_err c.hold_of.result
    (λ error told. unasked_so (string_bytes c.args.self.now.root) c.as_str.result.now _ _ _ (c.as_str.ensures.path ∙ c.has_root.ensures.path c.if-not-has_root.false) c.has_root.ensures.calls c.args.self.now.hold c.requires (c.has_root.ensures.root.0 c.if-not-has_root.false) (cause_of error) told)
    c.hold_of.ensures.fails

pub returns-clause-why : goal.returns-clause-why
returns-clause-why g c =
    IfErr-weaker c.hold_of.result _ _ (λ error fails. fails_then (no_step c.has_root.ensures.calls) (asks_fail c.as_str.result.now (cause_of error) _ _ fails)) c.hold_of.ensures.fails

pub returns-then-not-has_root-clause-known : goal.returns-then-not-has_root-clause-known
returns-then-not-has_root-clause-known g c = λ is. cc

pub returns-clause-known : goal.returns-clause-known
returns-clause-known g c = c.hold_of.ensures.known
