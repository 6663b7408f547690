use Rattle.std.proofs.Common.{◌≡◌, drop}
use Rattle.cv_ports.specs.MemoryFolderInner.{all_ascend}
use Rattle.cv_ports.proofs.memory_folder.all_ascend.Given as goal

abbrev pub invariant-loop-directory : goal.invariant-loop-directory
invariant-loop-directory l = all_ascend (drop l.directory-index l.directories) ≡ all_ascend l.directories
