use Rattle.std.proofs.Common.{◌≡◌, ◌++◌, ◌≤◌, length, take}
use Rattle.std.specs.Prelude.{All}
use Rattle.cv_pack.specs.Pack.{contents_size}
use Rattle.cv_publisher.specs.Packing.{objects_at}
use Rattle.cv_publisher.proofs.filling.front_of.Given as goal

abbrev pub invariant-loop-count : goal.invariant-loop-count
invariant-loop-count l = record {
  few : l.count ≤ 10000;
  size : l.size ≡ contents_size (objects_at (l.contents ++ l.catalogues) (take l.count l.left));
  total : l.size ≤ 33554432;
  small : All (λ o. length o.bytes ≤ 16777216) (objects_at (l.contents ++ l.catalogues) (take l.count l.left));
}
