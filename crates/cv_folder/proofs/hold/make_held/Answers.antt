use Rattle.std.proofs.Common.{inl}
use Rattle.std.specs.Prelude.{IsTrue}
use Rattle.cv_folder.specs.FolderVaultInner.{MakesHeld}
use Rattle.cv_folder.proofs.Holding.{makes_held}
use Rattle.cv_system.specs.Calls.{cause_of}
use Rattle.cv_folder.proofs.hold.make_held.Goals as goal

pub returns-in-Ok : goal.returns-in-Ok
returns-in-Ok g c = makes_held _ _ _ _ _ _ c.requires c.in-Ok.ensures c.hold_made.ensures.given c.hold_made.ensures.fails

pub returns-in-Err : goal.returns-in-Err
unfolding MakesHeld
returns-in-Err g c =
    inl (cause_of c.in-Err.error, c.is_taken.ensures.0 c.if-is_taken.true, c.in-Err.ensures)

pub returns-in-Err-2 : goal.returns-in-Err-2
unfolding MakesHeld
returns-in-Err-2 g c = inl (λ is. let yes : IsTrue c.is_taken.result = c.is_taken.ensures.1 is in cc, c.in-Err.ensures)
