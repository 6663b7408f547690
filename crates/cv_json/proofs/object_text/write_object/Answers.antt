use Rattle.serde_json.specs.View.{view}
use Rattle.cv_json.proofs.Objects.{object_in-Some}
use Rattle.cv_json.proofs.object_text.write_object.Goals as goal

pub returns-clause-reads_back : goal.returns-clause-reads_back
returns-clause-reads_back c =
    let bytes = c.in_ok-to_vec.field-0.items in
    object_in-Some bytes (view c.args.value.now) c.in_ok-to_vec.ensures.utf8 (c.in_ok-to_vec.ensures.reads_back c.requires.shallow) c.requires.object
