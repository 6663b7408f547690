-- The faults of a folder, as those of reading it.
use Rattle.cv_ports.specs.declared.folder.FolderFault.{FolderFault}
use Rattle.cv_ports.specs.declared.folder.FolderFault.TheVariants as folder
use Rattle.cv_overlay.specs.declared.read_fault.ReadFault.{ReadFault}
use Rattle.cv_overlay.specs.declared.read_fault.ReadFault.TheVariants as faults

abbrev pub of_folder : FolderFault → ReadFault
of_folder folder.Failed = faults.Failed
of_folder folder.NoMemory = faults.NoMemory
