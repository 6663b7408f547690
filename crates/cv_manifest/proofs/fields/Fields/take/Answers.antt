use Rattle.std.proofs.Common.{decimal, refl}
use Rattle.hex.specs.Hex.{encode_lower}
use Rattle.cv_manifest.specs.declared.field.Field.TheVariants.{Root, Size, TimeToLive, Revision, History, Time}
use Rattle.cv_manifest.proofs.Puts.{put_refused}
use Rattle.cv_manifest.proofs.fields.Fields.take.Goals as goal

pub returns-in-Root-clause-refused : goal.returns-in-Root-clause-refused
returns-in-Root-clause-refused c =
    put_refused encode_lower Root c.args.self.now _ _ c.args.line c.args.self.now.root c.read_hash.result _ c.in-Root.is c.put.ensures.answer c.read_hash.ensures refl

pub returns-in-Size-clause-refused : goal.returns-in-Size-clause-refused
returns-in-Size-clause-refused c =
    put_refused decimal Size c.args.self.now _ _ c.args.line c.args.self.now.size c.read_number.result _ c.in-Size.is c.put-in-Size.ensures.answer c.read_number.ensures refl

pub returns-in-TimeToLive-clause-refused : goal.returns-in-TimeToLive-clause-refused
returns-in-TimeToLive-clause-refused c =
    put_refused decimal TimeToLive c.args.self.now _ _ c.args.line c.args.self.now.time_to_live c.read_number-in-TimeToLive.result _ c.in-TimeToLive.is c.put-in-TimeToLive.ensures.answer c.read_number-in-TimeToLive.ensures refl

pub returns-in-Revision-clause-refused : goal.returns-in-Revision-clause-refused
returns-in-Revision-clause-refused c =
    put_refused decimal Revision c.args.self.now _ _ c.args.line c.args.self.now.revision c.read_number-in-Revision.result _ c.in-Revision.is c.put-in-Revision.ensures.answer c.read_number-in-Revision.ensures refl

pub returns-in-History-clause-refused : goal.returns-in-History-clause-refused
returns-in-History-clause-refused c =
    put_refused encode_lower History c.args.self.now _ _ c.args.line c.args.self.now.history c.read_hash-in-History.result _ c.in-History.is c.put-in-History.ensures.answer c.read_hash-in-History.ensures refl

pub returns-in-Time-clause-refused : goal.returns-in-Time-clause-refused
returns-in-Time-clause-refused c =
    put_refused decimal Time c.args.self.now _ _ c.args.line c.args.self.now.time c.read_number-in-Time.result _ c.in-Time.is c.put-in-Time.ensures.answer c.read_number-in-Time.ensures refl
