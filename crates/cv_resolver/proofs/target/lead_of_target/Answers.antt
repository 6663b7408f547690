use Rattle.std.proofs.Common.{map, sym, ap, ◌∙◌, length}
use Rattle.std.proofs.lemmas.List.{length-map}
use Rattle.cv_resolver.proofs.Following.{few_names}
use Rattle.cv_resolver.proofs.target.lead_of_target.Goals as goal

pub returns-clause-names : goal.returns-clause-names
returns-clause-names c =
    few_names c.lead_of_pieces.result _ (map (λ piece. piece.now) c.in_ok-pieces.pieces.items) c.text.result.now c.args.target.now c.lead_of_pieces.ensures.names
    (ap length c.as_slice.ensures.value ∙ sym (length-map c.in_ok-pieces.pieces.items (λ piece. piece.now))) c.in_ok-pieces.ensures c.text.ensures.text c.text.ensures.limits
