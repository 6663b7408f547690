use Rattle.std.proofs.Common.{arith}
use Rattle.std.specs.Int.{w16, to_be_bytes}
use Rattle.std.proofs.lemmas.Nat.{be_bytes_2}
use Rattle.cv_base.proofs.Fields.{IsField, length-IsField, small-IsField, append-IsField}
use Rattle.cv_base.proofs.field.split_u16.Goals as goal

pub returns : goal.returns
returns c =
    let bytes = c.args.bytes.now in
    let field = c.in_ok-field.field.now in
    let rest = c.in_ok-field.rest.now in
    let cut = c.in_ok-field.ensures.cases in
    let split : IsField 2 bytes field rest = record { front = cut.0; back = cut.1; size = cut.2 } in
    let spelt = be_bytes_2 field c.from_be_bytes.result (length-IsField 2 bytes field rest split) (small-IsField 2 bytes field rest split (λ i. omega (arith, c.type_inv.bytes i))) c.from_be_bytes.ensures in
    append-IsField 2 bytes field rest (to_be_bytes w16 c.from_be_bytes.result) split spelt
