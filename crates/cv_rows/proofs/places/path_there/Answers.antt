use Rattle.cv_rows.proofs.places.path_there.Goals as goal

pub unreachable-requires : goal.unreachable-requires
unreachable-requires c =
    let d = c.requires.stand.root.0 in
    let placed = c.requires.fit c.args.row d c.requires.row in
    let none = rw c.in-None.is at c.in_ok-path.ensures in
    none d placed.0 placed.1 placed.2.path
