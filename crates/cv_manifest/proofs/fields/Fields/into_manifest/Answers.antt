use Rattle.std.proofs.Common.{ap, refl}
use Rattle.cv_manifest.specs.declared.field.Field.TheVariants.{Root, Size, RootKey, TimeToLive, Revision, Name, History, Time}
use Rattle.cv_manifest.specs.declared.manifest_fault.ManifestFault.TheVariants.{Missing}
use Rattle.cv_manifest.proofs.fields.Fields.into_manifest.Goals as goal

pub returns-in_default-clause-missing : goal.returns-in_default-clause-missing
returns-in_default-clause-missing c = (Root, rw (c.in_default.is) refl, ap Missing c.letter.ensures)

pub returns-in_default-size-clause-missing : goal.returns-in_default-size-clause-missing
returns-in_default-size-clause-missing c = (Size, rw (c.in-Some.is, c.in_default-size.is) refl, ap Missing c.letter-in_default-size.ensures)

pub returns-in_default-root_key-clause-missing : goal.returns-in_default-root_key-clause-missing
returns-in_default-root_key-clause-missing c = (RootKey, rw (c.in-Some.is, c.in-Some-size.is, c.in_default-root_key.is) refl, ap Missing c.letter-in_default-root_key.ensures)

pub returns-in_default-time_to_live-clause-missing : goal.returns-in_default-time_to_live-clause-missing
returns-in_default-time_to_live-clause-missing c = (TimeToLive, rw (c.in-Some.is, c.in-Some-size.is, c.in-Some-root_key.is, c.in_default-time_to_live.is) refl, ap Missing c.letter-in_default-time_to_live.ensures)

pub returns-in_default-revision-clause-missing : goal.returns-in_default-revision-clause-missing
returns-in_default-revision-clause-missing c = (Revision, rw (c.in-Some.is, c.in-Some-size.is, c.in-Some-root_key.is, c.in-Some-time_to_live.is, c.in_default-revision.is) refl, ap Missing c.letter-in_default-revision.ensures)

pub returns-in_default-name-clause-missing : goal.returns-in_default-name-clause-missing
returns-in_default-name-clause-missing c = (Name, rw (c.in-Some.is, c.in-Some-size.is, c.in-Some-root_key.is, c.in-Some-time_to_live.is, c.in-Some-revision.is, c.in_default-name.is) refl, ap Missing c.letter-in_default-name.ensures)

pub returns-in_default-history-clause-missing : goal.returns-in_default-history-clause-missing
returns-in_default-history-clause-missing c = (History, rw (c.in-Some.is, c.in-Some-size.is, c.in-Some-root_key.is, c.in-Some-time_to_live.is, c.in-Some-revision.is, c.in-Some-name.is, c.in_default-history.is) refl, ap Missing c.letter-in_default-history.ensures)

pub returns-in_default-time-clause-missing : goal.returns-in_default-time-clause-missing
returns-in_default-time-clause-missing c = (Time, rw (c.in-Some.is, c.in-Some-size.is, c.in-Some-root_key.is, c.in-Some-time_to_live.is, c.in-Some-revision.is, c.in-Some-name.is, c.in-Some-history.is, c.in_default-time.is) refl, ap Missing c.letter-in_default-time.ensures)
