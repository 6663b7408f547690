use Rattle.std.proofs.Common.{take}
use Rattle.md5.specs.Md5.{Holds}
use Rattle.cv_base.specs.Path.{text_of}
use Rattle.cv_rows.proofs.path_digest.PathDigest.of.Given as goal

abbrev pub invariant-loop-name : goal.invariant-loop-name
invariant-loop-name l = Holds l.hasher (text_of (take l.name-index l.path))
