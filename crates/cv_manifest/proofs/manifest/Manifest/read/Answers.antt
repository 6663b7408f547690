use Rattle.std.proofs.Common.{Err}
use Rattle.cv_manifest.specs.declared.manifest_fault.ManifestFault.TheVariants.{NoEnd}
use Rattle.cv_manifest.proofs.Exact.{answer_value, answer_found, answer_fault}
use Rattle.cv_manifest.proofs.OneFault.{answer_refused}
use Rattle.cv_manifest.proofs.manifest.Manifest.read.Goals as goal

pub returns-in-Some-clause-value : goal.returns-in-Some-clause-value
returns-in-Some-clause-value g c = answer_value _ c.args.bytes.now _ (c.read_parts.ensures c.args.bytes.now c.in-Some.ensures)

pub returns-in-Some-clause-found : goal.returns-in-Some-clause-found
returns-in-Some-clause-found g c = answer_found _ c.args.bytes.now _ (c.read_parts.ensures c.args.bytes.now c.in-Some.ensures)

pub returns-in-Some-clause-fault : goal.returns-in-Some-clause-fault
returns-in-Some-clause-fault g c = answer_fault _ c.args.bytes.now _ (c.read_parts.ensures c.args.bytes.now c.in-Some.ensures)

pub returns-in-Some-clause-refused : goal.returns-in-Some-clause-refused
returns-in-Some-clause-refused g c = answer_refused _ c.args.bytes.now _ (c.read_parts.ensures c.args.bytes.now c.in-Some.ensures)

pub returns-in-None-clause-refused : goal.returns-in-None-clause-refused
returns-in-None-clause-refused g c = answer_refused (g.S.Signer.is_seal c.args.signer.now) c.args.bytes.now (Err NoEnd) c.in-None.ensures
