use Rattle.std.proofs.Common.{◌≡◌, Some, inr, sym, rules}
use Rattle.std.specs.Prelude.{slice_get}
use Rattle.cv_keys.specs.Header.{decoded}
use Rattle.cv_keys.proofs.Headers.{parts-unknown, parts-right, parts-wrong, slice_get-index}
use Rattle.cv_keys.proofs.key_table.KeyTable.check_parts.Goals as goal

pub returns-in_default-place_of-clause-answer : goal.returns-in_default-place_of-clause-answer
returns-in_default-place_of-clause-answer c =
    inr (sym (parts-unknown c.args.self.now c.args.id.now c.in-Some.mac c.args.message.now (decoded c.args.code.now) (search rules) (search rules)))

pub returns-then-is_mac-clause-answer : goal.returns-then-is_mac-clause-answer
returns-then-is_mac-clause-answer c =
    let indexed = rw c.self.view_is at c.index.ensures in
    let found : slice_get c.args.self.now c.in-Some-place_of.place ≡ Some c.index.result.now =
    slice_get-index c.args.self.now c.in-Some-place_of.place c.index.result.now (search rules) indexed in
    parts-right c.args.self.now c.args.id.now c.as_slice.result.now c.args.message.now (decoded c.args.code.now) c.in-Some-place_of.place c.index.result.now (search rules) (search rules) found (search rules)

pub returns-clause-answer : goal.returns-clause-answer
returns-clause-answer c =
    let indexed = rw c.self.view_is at c.index.ensures in
    let found : slice_get c.args.self.now c.in-Some-place_of.place ≡ Some c.index.result.now =
    slice_get-index c.args.self.now c.in-Some-place_of.place c.index.result.now (search rules) indexed in
    inr (sym (parts-wrong c.args.self.now c.args.id.now c.as_slice.result.now c.args.message.now (decoded c.args.code.now) c.in-Some-place_of.place c.index.result.now (search rules) (search rules) found (search rules)))
