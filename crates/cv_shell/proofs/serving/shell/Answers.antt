use Rattle.cv_shell.proofs.serving.shell.Goals as goal

pub returns-clause-shells : goal.returns-clause-shells
returns-clause-shells g c =
    let so = rw c.new-lines.ensures at c.serve_lines-end.ensures.shells in
    rw c.into_source.ensures (record { got = so.got; told = so.told; gave = so.gave; are = so.are })
