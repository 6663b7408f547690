use Rattle.std.proofs.Common.{refl}
use Rattle.cv_client.proofs.Lemmas.{asks_then}
use Rattle.cv_top.specs.Lines.{answered, unpinned}
use Rattle.cv_top.proofs.shell.answer_lines.Goals as goal

pub returns-in-Ok-clause-answers : goal.returns-in-Ok-clause-answers
returns-in-Ok-clause-answers g c =
    let shells = c.shell-end.ensures.shells in
    rw c.of_shell.ensures (answered _ _ _ _ c.in-Ok.ensures.pins (record { got = shells.got; told = shells.told; gave = shells.gave; are = shells.are }))

pub returns-in-Err-clause-answers : goal.returns-in-Err-clause-answers
returns-in-Err-clause-answers g c = rw c.of_ask.ensures (unpinned _ c.in-Err.ensures.pins refl refl)

pub returns-in-Ok-clause-asks : goal.returns-in-Ok-clause-asks
returns-in-Ok-clause-asks g c = asks_then c.in-Ok.ensures.asks c.shell-end.ensures.asks
