-- The overlay by cases on each path, as the call that makes it answers.
use Rattle.std.proofs.Common.{◌≡◌, ℕ, ap, ◌∙◌}
use Rattle.std.specs.Prelude.{Result, Ok, Err, IfOk}
use Rattle.std.specs.FinMap.{get}
use Rattle.cv_base.specs.Path.{Path}
use Rattle.cv_tree.specs.Tree.{Nodes}
use Rattle.cv_overlay.specs.declared.overlay_fault.OverlayFault.{OverlayFault}
use Rattle.cv_overlay.specs.Answers.{Overlays}
use Rattle.cv_overlay.specs.Overlay.{over_at}
use Rattle.cv_overlay.proofs.Over.{get-over}

pub overlaid_at : (b c : Nodes) (now : ℕ) (r : Result Nodes OverlayFault) → Overlays b c now r → IfOk r (λ part. (q : Path) → get part q ≡ over_at b c now q)
overlaid_at b c now (Ok part) h = λ q. ap (λ p. get p q) h.1 ∙ get-over b c now q
overlaid_at b c now (Err fault) h = tt
