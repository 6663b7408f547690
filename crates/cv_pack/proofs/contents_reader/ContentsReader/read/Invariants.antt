use Rattle.std.proofs.Common.{◌-◌, length}
use Rattle.cv_pack.specs.ContentsState.{IsOpen}
use Rattle.cv_pack.proofs.Contents.{GoesTo}
use Rattle.cv_pack.proofs.contents_reader.ContentsReader.read.Given as goal

abbrev pub invariant-contents : goal.invariant-contents
invariant-contents l = IsOpen l.initial.self l.entries → GoesTo l.initial.self l.self l.entries l.piece l.rest

abbrev pub decreases-contents : goal.decreases-contents
decreases-contents l = length l.initial.entries - length l.self.objects.items
