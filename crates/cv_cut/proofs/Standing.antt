-- Entries of a tree have the nodes that stand at their paths.
use Rattle.std.proofs.Common.{◌≡◌, Some, List, [], refl, sym, subst, ◌∙◌, get_or}
use Rattle.std.specs.List.{All}
use Rattle.std.specs.FinMap.{get, entries}
use Rattle.std.proofs.lemmas.List.Elements.{All-filter, Contains-get_or}
use Rattle.cv_base.specs.Path.{Path, covers}
use Rattle.cv_base.proofs.Laws.{path_total}
use Rattle.cv_tree.specs.Tree.{Nodes}
use Rattle.cv_tree.specs.declared.node.Node.{Node}
use Rattle.cv_cut.specs.Cut.{region_at}
use Rattle.cv_cut.specs.Piece.{region_within}
use Rattle.cv_cut.proofs.Entries.{entry_has}
use Rattle.cv_cut.proofs.RegionPaths.{is_in_region, region_is}

module _ (t : Nodes) (es : List (Path × Node)) where
  -- all of them
  pub entries_stand : es ≡ entries t → All (λ e. get t e.0 ≡ Some e.1) es
  entries_stand is = subst (All (λ (e : Path × Node). get t e.0 ≡ Some e.1)) (sym is) (λ k d lt. (let x = get_or (entries t) k d in entry_has path_total t x.0 x.1 (Contains-get_or (entries t) k d lt)))

module _ (t : Nodes) (c : Path) (es : List (Path × Node)) where
  -- those of a region
  pub region_stands : es ≡ region_at t c → All (λ e. get t e.0 ≡ Some e.1) es
  region_stands is =
      let all = entries_stand t (entries t) refl in
      subst (All (λ (e : Path × Node). get t e.0 ≡ Some e.1)) (region_is t c ∙ sym is) (All-filter (λ e. is_in_region t c e.0) (λ e. get t e.0 ≡ Some e.1) (entries t) all)

module _ (t : Nodes) (c : Path) (es : List (Path × Node)) where
  -- and those of what the root's region has at a path and below
  pub within_stands : es ≡ region_within t c → All (λ e. get t e.0 ≡ Some e.1) es
  within_stands is = subst (All (λ (e : Path × Node). get t e.0 ≡ Some e.1)) (sym is) (All-filter (λ e. covers c e.0) (λ e. get t e.0 ≡ Some e.1) (region_at t []) (region_stands t [] (region_at t []) refl))
