use Rattle.std.proofs.Common.{◌≡◌, take, string_bytes}
use Rattle.cv_real.specs.ListingInner.{below}
use Rattle.cv_real.proofs.system_folder.folder_path.Given as goal

abbrev pub invariant-loop-name : goal.invariant-loop-name
invariant-loop-name l = string_bytes l.path ≡ below l.root (take l.name-index l.names)
