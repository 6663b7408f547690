use Rattle.std.proofs.Common.{◌≡◌, ◌≤◌}
use Rattle.std.specs.Prelude.{Some}
use Rattle.cv_tree.specs.Tree.{Nodes}
use Rattle.cv_resolver.specs.Resolver.{IsOn, question_of}
use Rattle.cv_resolver.specs.declared.question.Question.{Question}
use Rattle.cv_client.specs.Asking.{AsksFirst}
use Rattle.cv_client.specs.GivingInner.{GoesOn}
use Rattle.cv_client.specs.Served.{Files, ServedBy, HasWay}
use Rattle.cv_client.specs.ServedInner.{IsUnblamed}
use Rattle.cv_client.proofs.Coming.{left_of}
use Rattle.cv_client.proofs.Telling.{Extends}
use Rattle.cv_client.proofs.answering.give_all.Given as goal

abbrev pub invariant-wants : goal.invariant-wants
invariant-wants g l = record {
  on : GoesOn l.url (g.N.Dial.came l.initial.dial) (g.N.Dial.came l.dial) l.initial.resolver l.resolver;
  extends : Extends (g.N.Dial.came l.initial.dial) (g.N.Dial.came l.dial);
  supplied : (files : Files) → ServedBy l.url files (g.N.Dial.came l.initial.dial) (g.N.Dial.came l.dial) → (t : Nodes) (q : Question) → IsOn t l.initial.resolver → IsUnblamed l.initial.resolver.asked
      → question_of l.initial.resolver ≡ Some q → HasWay files l.initial.resolver.name t q → IsOn t l.resolver × IsUnblamed l.resolver.asked;
  asks : AsksFirst g.N.Dial.came g.N.Dial.looks l.initial.dial l.dial;
  later : g.N.Dial.faults l.initial.dial ≤ g.N.Dial.faults l.dial;
}

abbrev pub decreases-wants : goal.decreases-wants
decreases-wants g l = left_of l.resolver.asked
