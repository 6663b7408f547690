use Rattle.std.proofs.Common.{◌≡◌, if◌then◌else◌, ◌==◌, Ok, Err, subst, sym, rules}
use Rattle.cv_pack.specs.declared.field.Field.{Field}
use Rattle.cv_pack.specs.declared.field.Field.TheVariants as fields
use Rattle.cv_pack.specs.declared.pack_fault.PackFault.TheVariants.{BadHeader}
use Rattle.cv_pack.specs.FieldsInner.{mark_byte, after_mark}
use Rattle.cv_pack.specs.HeaderStateInner.{Leads}
use Rattle.cv_pack.proofs.Steps.{mark_leads}
use Rattle.cv_pack.proofs.header_reader.HeaderReader.take_field.Goals as goal

pub returns-in-Mark-clause-leads : goal.returns-in-Mark-clause-leads
returns-in-Mark-clause-leads c =
    let r = c.args.self.now in
    let m = c.in-Mark.mark in
    let field : c.args.self.now.field ≡ fields.Mark c.in-Mark.mark = search rules in
    let result : c.take_fixed.result ≡ (if c.args.byte == mark_byte c.in-Mark.mark then Ok (after_mark c.in-Mark.mark) else Err (BadHeader c.args.self.now.line)) = search rules in
    subst (λ (f : Field). Leads r r f c.args.byte c.take_fixed.result) (sym field) (mark_leads r m c.args.byte c.take_fixed.result result)
