-- Objects that have the ids of their bytes.
use Rattle.std.proofs.Common.{◌≡◌, ℕ, zero, suc, List, [], ◌∷◌, map, refl, subst, arith}
use Rattle.std.specs.List.{Contains}
use Rattle.sha1.specs.Sha1.{sha1}
use Rattle.cv_base.specs.Path.{Path}
use Rattle.cv_base.specs.declared.object.Object.{Object}
use Rattle.cv_tree.specs.Tree.{Nodes}
use Rattle.cv_cut.specs.Cut.{catalogue_object, cut_of}
use Rattle.cv_base.specs.Objects.{AreNamed}
use Rattle.cv_swap.specs.First.{first_batch, first_tree, first_record}
use Rattle.cv_cut.specs.Catalogues.{root_of}
use Rattle.cv_swap.proofs.Views.{named_push}

named_map : (t : Nodes) (cs : List Path) (o : Object) → Contains (map (catalogue_object t) cs) o → o.id.hash ≡ sha1 o.bytes
named_map t [] o c = absurd (let lt = c.1 in omega arith)
named_map t (p ∷ cs) o (zero, lt, e) = subst (λ (x : Object). x.id.hash ≡ sha1 x.bytes) e refl
named_map t (p ∷ cs) o (suc k, lt, e) = named_map t cs o (k, omega arith, e)

pub first_named : (now : ℕ) → AreNamed (first_batch now)
first_named now = named_push (cut_of (first_tree now)).catalogues (first_record (root_of (first_tree now)) now) (record { each = λ o c. named_map (first_tree now) _ o c })
