use Rattle.cv_top.proofs.stdio.talk.Goals as goal

pub returns-clause-talks : goal.returns-clause-talks
returns-clause-talks g c =
    let reads = rw c.new-wire.ensures at c.session-end.ensures.session in
    rw c.into_source.ensures (record { read = reads.got; told = reads.told; gave = reads.gave; held = c.session-end.new.wire.held; session = reads.are; whole = c.session-end.ensures.nothing_left; cut = c.session-end.ensures.cut })
