use Rattle.std.proofs.Common.{◌≡◌, ◌+◌, ◌-◌, ◌≤◌, length, take, Ok}
use Rattle.cv_pack.specs.declared.field.Field.TheVariants as fields
use Rattle.cv_pack.specs.HeaderStateInner.{Takes}
use Rattle.cv_pack.proofs.header_reader.HeaderReader.read.Given as goal

abbrev pub invariant-loop-used : goal.invariant-loop-used
invariant-loop-used l = record {
  within : l.used ≤ length l.piece;
  at : l.self.at ≡ l.initial.self.at + l.used;
  start : l.used ≡ 0 → l.self ≡ l.initial.self;
  whole : l.initial.self.field ≡ fields.Whole → l.used ≡ 0;
  takes : Takes l.initial.self l.self (take l.used l.piece) (Ok tt);
}

abbrev pub decreases-loop-used : goal.decreases-loop-used
decreases-loop-used l = length l.initial.piece - l.used
