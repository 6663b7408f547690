-- Names that tie in their order are equal, and so are paths.
use Rattle.std.proofs.Common.{◌≡◌, true, ap}
use Rattle.std.specs.Ordering.{is_eq}
use Rattle.std.specs.Cmp.{tied_itself}
use Rattle.std.specs.Cmp.Lexicographic.{nat_list_cmp_total}
use Rattle.std.specs.FinMap.{IsAntisymmetric, slice_cmp-IsAntisymmetric, nat_cmp-IsAntisymmetric}
use Rattle.cv_base.specs.Path.{Path, path_cmp, same_name, same_path}
use Rattle.cv_base.specs.BytesOrder.{bytes_cmp}
use Rattle.cv_base.proofs.Values.{is_equal}

pub name_exact : IsAntisymmetric bytes_cmp
name_exact = slice_cmp-IsAntisymmetric nat_cmp-IsAntisymmetric

pub path_exact : IsAntisymmetric path_cmp
path_exact = slice_cmp-IsAntisymmetric name_exact

pub same_name_is : (a b : _) → same_name a b ≡ true → a ≡ b
same_name_is a b h = name_exact a b (is_equal _ h)

pub same_name_itself : (a : _) → same_name a a ≡ true
same_name_itself a = ap is_eq (tied_itself nat_list_cmp_total a)

pub same_path_is : (p q : Path) → same_path p q ≡ true → p ≡ q
same_path_is p q h = path_exact p q (is_equal _ h)
