use Rattle.std.proofs.Common.{◌≡◌, ◌+◌, sym, ◌∙◌, ap, subst, refl, take, drop, arith}
use Rattle.cv_shell.specs.Lines.{IsLine, IsTooLong}
use Rattle.cv_shell.proofs.Cuts.{too_long, part, found}
use Rattle.cv_shell.proofs.lines.Lines.take_line.Goals as goal

pub returns-in-None-clause-found : goal.returns-in-None-clause-found
returns-in-None-clause-found g c =
    let room = c.min-room.ensures in
    let above = c.if-room-gt-LINE_LIMIT.true in (
      subst IsTooLong c.bytes-bytes.ensures
          (too_long c.bytes-bytes.result.now c.min-room.result (omega (arith, room)) above (omega (arith, room)) (sym c.newline_at.ensures ∙ c.in-None.is)),
      refl,
    )

pub returns-in-None-2-clause-found : goal.returns-in-None-2-clause-found
returns-in-None-2-clause-found g c =
    let room = c.min-room.ensures in
    let below = c.if-room-gt-LINE_LIMIT.false in (
      subst IsLine c.bytes-bytes.ensures
          (part c.bytes-bytes.result.now c.min-room.result (omega (arith, room, below)) below (sym c.newline_at.ensures ∙ c.in-None-2.is)),
      refl,
    )

pub returns-in_ok-line-in-Some-clause-found : goal.returns-in_ok-line-in-Some-clause-found
returns-in_ok-line-in-Some-clause-found g c =
    let room = c.min-room.ensures in
    let at = found c.bytes-bytes.result.now c.min-room.result c.in-Some.size (omega (arith, room)) (sym c.newline_at.ensures ∙ c.in-Some.is) in
    let line : c.in_ok-line-in-Some.line ≡ take c.in-Some.size c.bytes-bytes.result.now = c.in_ok-line-in-Some.ensures in
    let later : c.skip.new.self.held ≡ drop (c.in-Some.size + 1) c.args.self.now.held = ap (λ w. w.held) c.skip.ensures in
    (subst IsLine (sym line) at.0, rw (line, later, ← c.bytes-bytes.ensures) at.1)
