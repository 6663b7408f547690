-- Why nothing is published. What only this crate's own functions say.
use Rattle.cv_overlay.specs.declared.overlay_fault.OverlayFault.{OverlayFault}
use Rattle.cv_overlay.specs.declared.overlay_fault.OverlayFault.TheVariants as overlay
use Rattle.cv_publisher.specs.declared.fault.PublishFault.{PublishFault}
use Rattle.cv_publisher.specs.declared.fault.PublishFault.TheVariants.{BadWhiteout, NoMemory}

-- where the changes make no part
abbrev pub of_overlay : OverlayFault → PublishFault
of_overlay (overlay.BadWhiteout path) = BadWhiteout path
of_overlay overlay.NoMemory = NoMemory
