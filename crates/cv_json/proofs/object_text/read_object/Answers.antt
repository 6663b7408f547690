use Rattle.std.proofs.Common.{sym}
use Rattle.serde_json.specs.View.{view}
use Rattle.cv_json.proofs.Objects.{object_in-Some, object_in-None}
use Rattle.cv_json.proofs.object_text.read_object.Goals as goal

pub returns-then-is_object : goal.returns-then-is_object
returns-then-is_object c =
    let read = c.in-Ok.ensures.ok in
    sym (object_in-Some c.args.text.now (view c.in-Ok.value) read.0 read.1 (sym c.if-is_object.ensures))

pub returns-else-is_memory : goal.returns-else-is_memory
returns-else-is_memory c =
    sym (object_in-None c.args.text.now (c.in-Err.ensures.err (λ memory. let never = c.if-is_memory.ensures.1 memory in cc (never))))
