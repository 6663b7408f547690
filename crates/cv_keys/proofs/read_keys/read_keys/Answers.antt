use Rattle.std.proofs.Common.{sym, map}
use Rattle.serde_json.specs.View.{view}
use Rattle.cv_keys.proofs.Elements.{keys_in_object-array}
use Rattle.cv_keys.proofs.Tables.{IsTable-read}
use Rattle.cv_keys.proofs.read_keys.read_keys.Goals as goal

pub returns-clause-answer : goal.returns-clause-answer
returns-clause-answer c =
    let list = c.in-Some-as_array.list.now.items in
    let same = keys_in_object-array (view c.args.value.now) (view c.in-Some.list.now) (map view list) (sym c.in-Some.ensures) (sym c.in-Some-as_array.ensures) in
    rw (same, ← c.deref.ensures.value) c.read_array.ensures

pub returns-clause-table : goal.returns-clause-table
returns-clause-table c = IsTable-read (map view c.deref.result.now) c.read_array.result c.read_array.ensures
