use Rattle.std.proofs.Common.{◌∙◌, sym}
use Rattle.std.proofs.lemmas.Slice.Eq.{bytes_eq-Decides}
use Rattle.cv_session.specs.Turns.{repositories, leases, resource, nothing_there}
use Rattle.cv_session.proofs.Targeting.{not_same}
use Rattle.cv_session.proofs.find_turn.get_turn.Goals as goal

pub returns-then-eq-clause-wants : goal.returns-then-eq-clause-wants
returns-then-eq-clause-wants c = λ keys body.
    repositories c.requires (sym c.as_str-target.ensures ∙ (bytes_eq-Decides _ _).0 (sym c.if-eq.ensures))

pub returns-then-eq-2-clause-wants : goal.returns-then-eq-2-clause-wants
returns-then-eq-2-clause-wants c = λ keys body.
    leases c.requires (sym c.as_str-target.ensures ∙ (bytes_eq-Decides _ _).0 (sym c.if-eq-2.ensures))

pub returns-in-Some-clause-wants : goal.returns-in-Some-clause-wants
returns-in-Some-clause-wants c = λ keys body.
    resource c.in-Some.resource c.requires (rw (← c.text.ensures.text, ← c.as_str-target.ensures, ← c.as_bytes.ensures.value) c.in-Some.ensures)

pub returns-in-None-clause-wants : goal.returns-in-None-clause-wants
returns-in-None-clause-wants c = λ keys body.
    nothing_there c.requires (
      λ same. not_same _ _ _ c.eq.ensures c.if-eq.false (c.as_str-target.ensures ∙ same),
      λ same. not_same _ _ _ c.eq-2.ensures c.if-eq-2.false (c.as_str-target.ensures ∙ same),
      rw (← c.text.ensures.text, ← c.as_str-target.ensures, ← c.as_bytes.ensures.value) c.in-None.ensures,
    )
