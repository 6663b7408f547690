use Rattle.cv_folder.proofs.Notes.{is_noted_now, noted_alone}
use Rattle.cv_folder.proofs.noting.add_note.Goals as goal

pub returns-clause-noted : goal.returns-clause-noted
returns-clause-noted c = rw c.in_ok-push.ensures.items (is_noted_now c.args.notes.now.items c.in_ok-from_str.field-0 c.args.folder.now c.in_ok-from_str.ensures.ok)

pub returns-clause-only : goal.returns-clause-only
returns-clause-only c = rw c.in_ok-push.ensures.items (noted_alone c.args.notes.now.items c.in_ok-from_str.field-0 c.args.folder.now c.in_ok-from_str.ensures.ok)
