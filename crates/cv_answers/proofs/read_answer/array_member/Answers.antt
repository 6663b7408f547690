use Rattle.std.proofs.Common.{map}
use Rattle.serde_json.specs.Find.{get}
use Rattle.serde_json.specs.View.{view}
use Rattle.cv_answers.proofs.Lists.{array_member-is}
use Rattle.cv_answers.proofs.read_answer.array_member.Goals as goal

pub returns-in-Some-as_array : goal.returns-in-Some-as_array
returns-in-Some-as_array c =
    rw c.deref.ensures.value
    (array_member-is (get c.args.key.now (view c.args.value.now)) (view c.in-Some.member.now) (map view c.in-Some-as_array.list.now.items) c.in-Some.ensures c.in-Some-as_array.ensures)
