use Rattle.std.proofs.Common.{true, map, take, string_bytes}
use Rattle.cv_system.specs.Steps.{Tries}
use Rattle.cv_system.specs.Syncs.{syncs}
use Rattle.cv_system.proofs.syncing.sync_folders.Given as goal

abbrev pub invariant-loop-folder : goal.invariant-loop-folder
invariant-loop-folder g l = Tries (syncs (map string_bytes (take l.folder-index l.folders.items))) true (g.S.System.log l.fn.system) (g.S.System.log l.system)
