-- Paths and their names are in a total order: what the code's own orders cite.
use Rattle.std.proofs.Common.{Some, refl}
use Rattle.std.specs.Cmp.{IsTotalOrder, IsPartialOrder, po}
use Rattle.std.specs.Cmp.Lexicographic.{lists_total, nat_list_cmp_total}
use Rattle.cv_base.specs.Path.{path_cmp, same_name, same_path}
use Rattle.cv_base.specs.BytesOrder.{bytes_cmp}

pub path_total : IsTotalOrder path_cmp
path_total = lists_total nat_list_cmp_total

pub names_ordered : IsPartialOrder same_name (λ a b. Some (bytes_cmp a b))
names_ordered = po nat_list_cmp_total (λ a b. refl)

pub paths_ordered : IsPartialOrder same_path (λ p q. Some (path_cmp p q))
paths_ordered = po path_total (λ p q. refl)
