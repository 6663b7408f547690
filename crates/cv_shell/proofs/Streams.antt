-- What was got of a source, piece after piece.
use Rattle.std.proofs.Common.{◌≡◌, ◌++◌, ℕ, List, ap, subst, ◌∙◌, append_assoc}
use Rattle.std.specs.Prelude.{Option}
use Rattle.cv_ports.specs.Streams.{front, onto}
use Rattle.cv_ports.proofs.Laws.{front_twice, onto_twice}
use Rattle.cv_http.specs.Wires.{WireView, Draws}

module _ {R : Type 0} (left given : R → Option (List ℕ)) where
  -- what was read, and then more of it
  pub draws_then : (w m w' : WireView R) (P Q S : List ℕ → Type 0) → Draws left given w m P → Draws left given m w' Q
      → ((b more : List ℕ) → left m.source ≡ front more (left w'.source) → P b → Q (m.held ++ more) → S (b ++ more)) → Draws left given w w' S
  draws_then w m w' P Q S first next joins = record {
    got = first.got ++ next.got;
    told = first.told ∙ ap (front first.got) next.told ∙ front_twice (left w'.source) first.got next.got;
    gave = next.gave ∙ ap (λ o. onto o next.got) first.gave ∙ onto_twice (given w.source) first.got next.got;
    are = subst S (append_assoc w.held first.got next.got) (joins (w.held ++ first.got) next.got next.told first.are next.are);
  }
