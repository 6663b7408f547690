-- The marker of a directory.
use Rattle.std.proofs.Common.{◌≡◌, ◌≢◌, false, Option, None, Some, [], ◌∷◌, ◌++◌, Err, refl, IsSome}
use Rattle.std.specs.FinMap.{get}
use Rattle.cv_base.specs.Marker.{marker}
use Rattle.cv_base.specs.Path.{Path, IsPath}
use Rattle.cv_base.specs.PathText.{joined}
use Rattle.cv_base.specs.Unless.{IsUnless}
use Rattle.cv_base.specs.declared.path_fault.PathFault.{PathFault}
use Rattle.cv_base.specs.declared.path_fault.PathFault.TheVariants.{NoMemory}
use Rattle.cv_tree.specs.Tree.{Nodes, IsTree, is_file}
use Rattle.cv_tree.specs.declared.node.Node.{Node}
use Rattle.cv_rows.proofs.Lemmas.{no_longer}

nothing_there : (o : Option Node) → (IsSome o → ⊥) → false ≡ is_file o
nothing_there None none = refl
nothing_there (Some n) none = absurd (none refl)

-- a tree has no file at what isn't a path
pub no_marker : (t : Nodes) (p : Path) (fault : PathFault) → IsTree t → IsUnless NoMemory (Err fault) (joined p marker) → fault ≢ NoMemory → false ≡ is_file (get t (p ++ marker ∷ []))
no_marker t p fault tree refused other =
    let none : IsPath (p ++ marker ∷ []) → ⊥ = no_longer p marker fault refused other in
    nothing_there (get t (p ++ marker ∷ [])) (λ some. none (tree.part.paths (p ++ marker ∷ []) some))
