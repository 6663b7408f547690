use Rattle.std.proofs.Common.{◌≡◌, None, Some, false, nat_eq, length, sym, ap, subst, ◌∙◌}
use Rattle.std.specs.Prelude.{option_copied}
use Rattle.cv_desk.proofs.Opposing.{taken_found}
use Rattle.cv_desk.proofs.committing.taken_by.Goals as goal

pub returns-in-Some : goal.returns-in-Some
returns-in-Some c = ap Some c.of.ensures ∙ taken_found c.args.tag.now c.as_str-2.result.now c.args.records.now (subst (λ t. false ≡ nat_eq (length t) 0) c.as_str.ensures c.if-is_empty.ensures) c.as_str-2.ensures
    (Some c.in-Some.record.now) (ap option_copied (sym c.in-Some.is) ∙ c.find_tag.ensures)

pub returns-in-None : goal.returns-in-None
returns-in-None c = taken_found c.args.tag.now c.as_str-2.result.now c.args.records.now (subst (λ t. false ≡ nat_eq (length t) 0) c.as_str.ensures c.if-is_empty.ensures) c.as_str-2.ensures
    None (ap option_copied (sym c.in-None.is) ∙ c.find_tag.ensures)
