-- The least of the bad whiteouts, as a run over entries.
use Rattle.std.specs.Prelude.{List, [], ◌∷◌, Option, Some, None, if◌then◌else◌}
use Rattle.std.specs.Ordering.{is_lt}
use Rattle.cv_base.specs.Path.{Path, text_of}
use Rattle.cv_base.specs.BytesOrder.{bytes_cmp}
use Rattle.cv_tree.specs.declared.node.Node.{Node}
use Rattle.cv_tree.specs.Tree.{Nodes}
use Rattle.cv_overlay.specs.Whiteout.{is_bad_at, IsLeastBad}
use Rattle.cv_overlay.specs.Answers.{HasNoBad}

abbrev pub lesser : Option Path → Path → Option Path
lesser None q = Some q
lesser (Some p) q = if is_lt (bytes_cmp (text_of q) (text_of p)) then Some q else Some p

abbrev pub least_from : Nodes → Option Path → List (Path × Node) → Option Path
least_from c best [] = best
least_from c best (e ∷ es) = least_from c (if is_bad_at c e.0 then lesser best e.0 else best) es

-- the least bad whiteout, or none is bad
abbrev pub IsLeast : Nodes → Option Path → Type 0
IsLeast c None = HasNoBad c
IsLeast c (Some q) = IsLeastBad c q
