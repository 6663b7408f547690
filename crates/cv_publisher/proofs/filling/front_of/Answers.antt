use Rattle.std.proofs.Common.{◌≡◌, ◌++◌, ◌≤◌, length, take, subst, ap, arith, inl, inr}
use Rattle.cv_pack.specs.Pack.{has_room}
use Rattle.std.specs.Prelude.{false}
use Rattle.cv_publisher.specs.Packing.{objects_at}
use Rattle.cv_publisher.proofs.Objects.{count_at, count_full, front_some, front_stops, front_whole, size_at, size_full, small_at, total_full}
use Rattle.cv_publisher.proofs.filling.front_of.Goals as goal
use Rattle.cv_publisher.proofs.filling.front_of.Goals.{then-count-via-then-count, then-count-via-else-count+then-length-gt-OBJECT_LIMIT, then-count-via-else-count+else-length-gt-OBJECT_LIMIT+then-size-length}

pub returns-then-count-clause-front : goal.returns-then-count-clause-front
returns-then-count-clause-front c =
    let all = c.args.contents.now ++ c.args.catalogues.now in
    let i = c.loop-count.count in
    let o = c.object_at.result.now in
    let pack = objects_at all (take i c.args.left.now) in
    let count : length pack ≡ i = count_at all c.args.left.now i c.requires c.loop-count.auto.count-end in
    let same = ap length c.as_slice-length.ensures in
    let full : has_room pack o.bytes ≡ false =
    elim c.then-count.branch [
      | then-count-via-then-count w ↦ count_full pack o.bytes (omega arith)
      | then-count-via-else-count+then-length-gt-OBJECT_LIMIT w ↦ size_full pack o.bytes (omega arith)
      | then-count-via-else-count+else-length-gt-OBJECT_LIMIT+then-size-length w ↦ total_full pack o.bytes (omega arith)
    ] in
    front_stops all c.args.left.now i o c.loop-count-test.true c.object_at.ensures (omega arith) c.loop-count.invariant.small
    (subst (λ n. n ≤ 33554432) c.loop-count.invariant.size c.loop-count.invariant.total) full

pub returns-then-count-clause-some : goal.returns-then-count-clause-some
returns-then-count-clause-some c = λ some.
    front_some (c.args.contents.now ++ c.args.catalogues.now) c.args.left.now c.loop-count.count c.loop-count.size (length c.as_slice-length.result.now) c.object_at.result.now
    c.requires c.loop-count-test.true c.object_at.ensures (ap length c.as_slice-length.ensures) c.loop-count.invariant.size
    (elim c.then-count.branch [
      | then-count-via-then-count w ↦ inl (omega arith)
      | then-count-via-else-count+then-length-gt-OBJECT_LIMIT w ↦ inr (inl (omega arith))
      | then-count-via-else-count+else-length-gt-OBJECT_LIMIT+then-size-length w ↦ inr (inr (omega arith))
    ])

pub loop-count-preserved : goal.loop-count-preserved
loop-count-preserved c =
    let all = c.args.contents.now ++ c.args.catalogues.now in
    record {
      few = omega arith;
      size = size_at all c.args.left.now c.loop-count.count c.loop-count.size c.object_at.result.now c.as_slice-length.result.now c.loop-count-test.true c.object_at.ensures c.as_slice-length.ensures c.loop-count.invariant.size;
      total = c.if-size-length.false;
      small = small_at all c.args.left.now c.loop-count.count c.object_at.result.now c.as_slice-length.result.now c.loop-count-test.true c.object_at.ensures c.as_slice-length.ensures c.if-length-gt-OBJECT_LIMIT.false c.loop-count.invariant.small;
    }

pub returns-clause-front : goal.returns-clause-front
returns-clause-front c =
    front_whole (c.args.contents.now ++ c.args.catalogues.now) c.args.left.now c.loop-count.count c.loop-count.size c.requires c.loop-count-test.false c.loop-count.auto.count-end
    c.loop-count.invariant.few c.loop-count.invariant.size c.loop-count.invariant.total c.loop-count.invariant.small
