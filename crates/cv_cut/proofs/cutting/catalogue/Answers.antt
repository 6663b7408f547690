use Rattle.std.proofs.Common.{ap, Err, [], ◌∷◌}
use Rattle.cv_cut.proofs.Collisions.{handed_on, sharing_of}
use Rattle.cv_cut.proofs.KindLaws.{all_covered}
use Rattle.cv_cut.proofs.Standing.{region_stands}
use Rattle.cv_cut.proofs.CutLaws.{made_from, parts_of, made_apart, not_apart, bytes_of, full_cut, not_full_cut}
use Rattle.cv_cut.specs.PieceInner.{IsFaultAmong}
use Rattle.cv_cut.proofs.Members.{first_there}
use Rattle.cv_cut.proofs.cutting.catalogue.Goals as goal

pub rows-requires-clause-nodes : goal.rows-requires-clause-nodes
rows-requires-clause-nodes c = region_stands c.args.tree.now c.args.cut.now c.args.region.now c.requires.region

pub rows-requires-clause-paths : goal.rows-requires-clause-paths
rows-requires-clause-paths c = all_covered c.args.tree.now c.args.cut.now c.args.region.now c.requires.region

pub nested-requires-clause-nodes : goal.nested-requires-clause-nodes
nested-requires-clause-nodes c = region_stands c.args.tree.now c.args.cut.now c.args.region.now c.requires.region

pub nested-requires-clause-paths : goal.nested-requires-clause-paths
nested-requires-clause-paths c = all_covered c.args.tree.now c.args.cut.now c.args.region.now c.requires.region

pub of-requires : goal.of-requires
of-requires c =
    let made = made_from c.args.tree.now c.args.cut.now c.args.region.now _ _ c.requires.region c.in_ok-rows.ensures c.in_ok-nested.ensures.entries c.in_ok-nested.ensures.sizes in
    parts_of _ _ _ _ c.requires.tree c.requires.cut made

pub unreachable-requires : goal.unreachable-requires
unreachable-requires c =
    let made = made_from c.args.tree.now c.args.cut.now c.args.region.now _ _ c.requires.region c.in_ok-rows.ensures c.in_ok-nested.ensures.entries c.in_ok-nested.ensures.sizes in
    not_apart c.args.tree.now c.args.cut.now c.args.region.now _ _ c.in-Err-Collision.field-0-0.0 c.requires.region made c.in_ok-check_region-in-Err-Collision.ensures.ok (c.in-Err-Collision.ensures.collision c.in-Err-Collision.field-0-0 (ap Err c.in-Err-Collision.field-0-is))

pub returns-in_ok-encode-in-Ok-clause-bytes : goal.returns-in_ok-encode-in-Ok-clause-bytes
returns-in_ok-encode-in-Ok-clause-bytes c =
    let made = made_from c.args.tree.now c.args.cut.now c.args.region.now _ _ c.requires.region c.in_ok-rows.ensures c.in_ok-nested.ensures.entries c.in_ok-nested.ensures.sizes in
    bytes_of _ _ _ _ _ _ c.requires.tree c.requires.cut made c.in-Ok.ensures.made c.in_ok-encode-in-Ok.ensures.bytes

pub returns-in_ok-encode-in-Ok-clause-apart : goal.returns-in_ok-encode-in-Ok-clause-apart
returns-in_ok-encode-in-Ok-clause-apart c =
    let made = made_from c.args.tree.now c.args.cut.now c.args.region.now _ _ c.requires.region c.in_ok-rows.ensures c.in_ok-nested.ensures.entries c.in_ok-nested.ensures.sizes in
    made_apart _ _ _ _ made c.in-Ok.ensures.apart

pub returns-in_ok-encode-in-Ok-clause-fits : goal.returns-in_ok-encode-in-Ok-clause-fits
returns-in_ok-encode-in-Ok-clause-fits c =
    let made = made_from c.args.tree.now c.args.cut.now c.args.region.now _ _ c.requires.region c.in_ok-rows.ensures c.in_ok-nested.ensures.entries c.in_ok-nested.ensures.sizes in
    not_full_cut _ _ _ _ c.requires.tree c.requires.cut (made_apart _ _ _ _ made c.in-Ok.ensures.apart) made c.in-Ok.ensures.fits

pub returns-in_ok-copy-in-Err-Full-clause-fault : goal.returns-in_ok-copy-in-Err-Full-clause-fault
returns-in_ok-copy-in-Err-Full-clause-fault c =
    let made = made_from c.args.tree.now c.args.cut.now c.args.region.now _ _ c.requires.region c.in_ok-rows.ensures c.in_ok-nested.ensures.entries c.in_ok-nested.ensures.sizes in
    let full = c.in-Err-Full.ensures.full (ap Err c.in-Err-Full.field-0-is) in
    rw c.in_ok-copy-in-Err-Full.ensures (full_cut _ _ _ _ c.requires.tree c.requires.cut (made_apart _ _ _ _ made full.0) made full.1, first_there c.args.cut.now [])

pub returns-in_err-check_region-in-Err-Collision-clause-fault : goal.returns-in_err-check_region-in-Err-Collision-clause-fault
returns-in_err-check_region-in-Err-Collision-clause-fault c =
    let f = sharing_of c.args.tree.now c.args.cut.now c.args.region.now c.in_err-check_region-in-Err-Collision.field-0.0 c.requires.cut c.requires.region c.in_err-check_region-in-Err-Collision.ensures.err in
    handed_on (IsFaultAmong c.args.tree.now (c.args.cut.now ∷ [])) _ _ c.from_residual-in_err-check_region-in-Err-Collision.ensures.1 f
