use Rattle.std.proofs.Common.{arith}
use Rattle.hex.specs.Hex.{IsBytes}
use Rattle.cv_history.proofs.Spelling.{read_spells, spelled_read}
use Rattle.cv_history.proofs.record.Record.read.Goals as goal

pub returns-clause-value : goal.returns-clause-value
returns-clause-value c =
    let bytes : IsBytes c.args.bytes.now = λ i. omega (arith, c.type_inv.bytes i) in
    read_spells c.args.bytes.now c.read_record.result bytes c.read_record.ensures

pub returns-clause-found : goal.returns-clause-found
returns-clause-found c = λ r s. spelled_read c.args.bytes.now c.read_record.result r c.read_record.ensures s
