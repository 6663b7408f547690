use Rattle.std.proofs.Common.{rules}
use Rattle.cv_keys.proofs.Elements.{keys_behind-more, keys_behind-fault}
use Rattle.cv_keys.proofs.read_keys.read_elements.Goals as goal

pub loop-i-preserved : goal.loop-i-preserved
loop-i-preserved c =
    keys_behind-more c.args.list.now c.loop-i.i c.index-list-i.result c.in_ok-key.key c.loop-i.keys.items c.push.new.self.items _
    c.loop-i-test.true c.index-list-i.is (rw c.deref.ensures.value at c.in_ok-key.ensures) (search rules) c.loop-i.invariant

pub returns-in_err-key : goal.returns-in_err-key
returns-in_err-key c =
    keys_behind-fault c.args.list.now c.loop-i.i c.index-list-i.result c.in_err-key.field-0.0 c.loop-i.keys.items _ c.from_residual.result _
    c.loop-i-test.true c.index-list-i.is (rw c.deref.ensures.value at c.in_err-key.ensures) c.loop-i.invariant c.from_residual.ensures.1
