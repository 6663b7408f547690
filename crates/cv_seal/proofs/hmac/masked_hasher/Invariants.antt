use Rattle.std.proofs.Common.{take}
use Rattle.sha1.specs.Sha1.{Holds}
use Rattle.cv_seal.specs.Hmac.{masked}
use Rattle.cv_seal.proofs.hmac.masked_hasher.Given as goal

abbrev pub invariant-loop-byte : goal.invariant-loop-byte
invariant-loop-byte l = Holds l.hasher (masked l.pad (take l.byte-index l.block))
