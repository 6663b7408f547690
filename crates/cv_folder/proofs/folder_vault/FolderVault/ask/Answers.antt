use Rattle.std.proofs.Common.{subst, string_bytes, sym}
use Rattle.std.specs.Prelude.{IsTrue}
use Rattle.cv_folder.specs.FolderVault.{AsksAlone}
use Rattle.cv_folder.specs.Hold.{Asked}
use Rattle.cv_folder.proofs.Acts.{asks_nothing, asks_now, unsettled_still}
use Rattle.cv_folder.proofs.folder_vault.FolderVault.ask.Goals as goal

pub returns-then-not-is_unasked-clause-asks : goal.returns-then-not-is_unasked-clause-asks
unfolding AsksAlone
returns-then-not-is_unasked-clause-asks g c =
    asks_nothing (string_bytes c.args.self.now.root) c.args.self.now.hold _ (λ is. let yes : IsTrue c.is_unasked.result = c.is_unasked.ensures.1 is in cc)

pub returns-in_err-hold-clause-asks : goal.returns-in_err-hold-clause-asks
unfolding AsksAlone
returns-in_err-hold-clause-asks g c =
    asks_now (string_bytes c.args.self.now.root) c.args.self.now.hold _ _ _ (c.is_unasked.ensures.0 c.if-not-is_unasked.false)
    (subst (λ hold. Asked (string_bytes c.args.self.now.root) hold (g.S.System.log c.args.self.now.system) (g.S.System.log c.hold_now.new.self.system)) (sym c.hold_now.ensures.hold) c.in_err-hold.ensures.fails)

pub returns-clause-asks : goal.returns-clause-asks
unfolding AsksAlone
returns-clause-asks g c =
    asks_now (string_bytes c.args.self.now.root) c.args.self.now.hold _ _ _ (c.is_unasked.ensures.0 c.if-not-is_unasked.false) c.in_ok-hold.ensures.asked

pub returns-then-not-is_unasked-clause-known : goal.returns-then-not-is_unasked-clause-known
returns-then-not-is_unasked-clause-known g c = λ is. let yes : IsTrue c.is_unasked.result = c.is_unasked.ensures.1 is in cc

pub returns-clause-known : goal.returns-clause-known
returns-clause-known g c = c.in_ok-hold.ensures.known

pub returns-then-not-is_unasked-clause-all : goal.returns-then-not-is_unasked-clause-all
returns-then-not-is_unasked-clause-all g c = λ held.
    unsettled_still c.args.self.now.hold c.args.self.now.is_unsettled (λ is. let yes : IsTrue c.is_unasked.result = c.is_unasked.ensures.1 is in cc)
