-- What the overlay answers.
use Rattle.std.specs.Prelude.{◌≡◌, ℕ, false, Result, Ok, Err}
use Rattle.cv_base.specs.Path.{Path}
use Rattle.cv_tree.specs.Tree.{Nodes}
use Rattle.cv_overlay.specs.declared.overlay_fault.OverlayFault.{OverlayFault}
use Rattle.cv_overlay.specs.declared.overlay_fault.OverlayFault.TheVariants.{BadWhiteout, NoMemory}
use Rattle.cv_overlay.specs.Whiteout.{is_bad_at, IsLeastBad}
use Rattle.cv_overlay.specs.Overlay.{over}

-- no whiteout is bad
abbrev pub HasNoBad : Nodes → Type 0
HasNoBad c = (q : Path) → is_bad_at c q ≡ false

-- the part that the changes make of the base, or the least bad whiteout
abbrev pub Overlays : Nodes → Nodes → ℕ → Result Nodes OverlayFault → Type 0
Overlays b c now (Ok part) = HasNoBad c × (part ≡ over b c now)
Overlays b c now (Err (BadWhiteout q)) = IsLeastBad c q
Overlays b c now (Err NoMemory) = Unit {0}
