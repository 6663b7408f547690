use Rattle.std.proofs.Common.{◌∙◌, ap, Some, None}
use Rattle.cv_system.proofs.LastParts.{last_part_is, no_folder, folder_is}
use Rattle.cv_system.proofs.names.folder_of.Goals as goal

pub returns-in-Some : goal.returns-in-Some
returns-in-Some c =
    let parts = last_part_is c.args.path.now (Some (c.in-Some.field-0-0, c.in-Some.last)) c.in-Some.ensures.cases in
    ap (λ x. x.now) c.unwrap_or.ensures ∙ folder_is c.args.path.now c.in-Some.field-0-0.now c.in-Some.last.now c.strip_suffix.result _ parts.0 parts.1 c.strip_suffix.ensures.cases

pub returns-in-None : goal.returns-in-None
returns-in-None c = no_folder c.args.path.now (last_part_is c.args.path.now None c.in-None.ensures.cases)
