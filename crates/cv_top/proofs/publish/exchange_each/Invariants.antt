use Rattle.std.proofs.Common.{◌≤◌}
use Rattle.cv_client.specs.Asking.{AsksFirst}
use Rattle.cv_top.specs.Publishes.{Goes}
use Rattle.cv_top.specs.Seal.{is_seal_by}
use Rattle.cv_top.proofs.publish.exchange_each.Given as goal

abbrev pub invariant-exchanges : goal.invariant-exchanges
invariant-exchanges g l = record {
  went : Goes (is_seal_by l.signer) l.keys l.url (g.N.Dial.came l.initial.dial) l.initial.publisher (g.N.Dial.came l.dial) l.publisher;
  asks : AsksFirst g.N.Dial.came g.N.Dial.looks l.initial.dial l.dial;
  later : g.N.Dial.faults l.initial.dial ≤ g.N.Dial.faults l.dial;
}
