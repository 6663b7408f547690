use Rattle.std.proofs.Common.{Some, List, ℕ, sym, subst, refl, ap, ◌∙◌}
use Rattle.cv_ports.specs.Streams.{onto, Wrote}
use Rattle.cv_shell.specs.declared.shell_end.ShellEnd.{ShellEnd}
use Rattle.cv_shell.specs.Shells.{Answered, written, unwritten, stopped}
use Rattle.cv_shell.proofs.serving.serve_line.Goals as goal

pub returns-in-Err-clause-answered : goal.returns-in-Err-clause-answered
returns-in-Err-clause-answered g c =
    subst (λ (end : ShellEnd). Answered (g.S.Signer.is_seal c.args.signer.now) c.args.url.now c.args.line.now (g.N.Dial.came c.args.dial.now) (g.N.Dial.came c.answer_line.new.dial) c.args.resolver.now c.answer_line.new.resolver (g.W.Sink.taken c.args.output.now) (g.W.Sink.taken c.args.output.now) (Some end))
    (sym c.of_stop.ensures) (stopped c.in-Err.stop c.in-Err.ensures.turns refl)

pub returns-in-Ok-write_text-clause-answered : goal.returns-in-Ok-write_text-clause-answered
returns-in-Ok-write_text-clause-answered g c =
    written c.in-Ok.text c.in-Ok.ensures.turns (c.in-Ok-write_text.ensures.whole ∙ ap (onto (g.W.Sink.taken c.args.output.now)) c.as_slice.ensures)

pub returns-clause-answered : goal.returns-clause-answered
returns-clause-answered g c =
    unwritten c.in-Ok.text c.in-Ok.ensures.turns
    (subst (λ (text : List ℕ). Wrote (g.W.Sink.taken c.args.output.now) (g.W.Sink.taken c.write_text.new.output) text) c.as_slice.ensures c.write_text.ensures.part)
