use Rattle.cv_rows.proofs.judging.extend.Goals as goal

pub judge-requires-clause-spelled : goal.judge-requires-clause-spelled
judge-requires-clause-spelled c = rw (c.deref.ensures.value, c.in_ok-append.ensures.items) c.requires.spelled

pub judge-requires-clause-nested_spelled : goal.judge-requires-clause-nested_spelled
judge-requires-clause-nested_spelled c = rw (c.deref.ensures.value, c.in_ok-append.ensures.items, c.deref-2.ensures.value, c.in_ok-append-2.ensures.items) c.requires.nested_spelled
