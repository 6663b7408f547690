use Rattle.std.proofs.Common.{arith, take, drop, sym, ◌∙◌}
use Rattle.std.proofs.lemmas.List.{take-append-drop}
use Rattle.std.proofs.lemmas.Grind.{common_steps}
use Rattle.cv_ports.proofs.Pieces.{one_more}
use Rattle.cv_ports.proofs.sink.write_all.Goals as goal

pub writes-preserved : goal.writes-preserved
writes-preserved g c = record {
  within = grind (arith, common_steps);
  taken = one_more _ _ _ c.args.bytes.now c.writes.written c.in_ok-written.field-0 c.writes.invariant.taken c.in_ok-written.ensures.takes;
  held = c.write.ensures.held ∙ c.writes.invariant.held;
  no_write_failed = c.in_ok-written.ensures.no_write_failed ∙ c.writes.invariant.no_write_failed;
}

pub returns-in_err-written-clause-part : goal.returns-in_err-written-clause-part
returns-in_err-written-clause-part g c = record {
  written = take c.writes.written c.args.bytes.now;
  unwritten = drop c.writes.written c.args.bytes.now;
  split = sym (take-append-drop c.writes.written c.args.bytes.now);
  taken = c.in_err-written.ensures.unchanged ∙ c.writes.invariant.taken;
}
