-- The head of a revision, by its tree and by the shelf.
use Rattle.std.proofs.Common.{◌≡◌, ℕ, List, [], refl, sym, ap, subst}
use Rattle.std.specs.declared.option.Option.TheVariants.{Some}
use Rattle.cv_base.specs.ObjectId.{object_id}
use Rattle.cv_base.specs.declared.id.Kind.TheVariants.{Catalogue}
use Rattle.cv_ports.specs.Shelf.{Shelf}
use Rattle.cv_cut.specs.Catalogues.{cat}
use Rattle.cv_swap.specs.Kept.{Revision, IsRevision, head_of, head_with}
use Rattle.cv_swap.specs.Stands.{size_of, head_on}

pub on_shelf : (shelf : Shelf) (r : Revision) → IsRevision shelf r → head_on shelf r.record_ ≡ head_of r
on_shelf shelf r h =
    let there : shelf (object_id r.record_.root Catalogue) ≡ Some (cat r.tree []) =
    subst (λ (x : List ℕ). shelf (object_id x Catalogue) ≡ Some (cat r.tree [])) (sym h.tree.root) (h.tree.catalogues [] refl) in
    ap (λ (n : ℕ). head_with r.record_ n) (ap size_of there)
