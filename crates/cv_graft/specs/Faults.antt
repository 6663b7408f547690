-- Why a catalogue isn't opened, as a graft answers it.
use Rattle.cv_cut.specs.declared.load_fault.LoadFault.{LoadFault}
use Rattle.cv_cut.specs.declared.load_fault.LoadFault.TheVariants as load
use Rattle.cv_graft.specs.declared.graft_fault.GraftFault.{GraftFault}
use Rattle.cv_graft.specs.declared.graft_fault.GraftFault.TheVariants as fault

-- a catalogue that isn't there, and bytes that are none, are answered as want of memory
abbrev pub of_load : LoadFault → GraftFault
of_load (load.Missing x) = fault.NoMemory
of_load (load.Bad x) = fault.NoMemory
of_load load.Failed = fault.Failed
of_load (load.Damaged id found) = fault.Damaged id found
of_load load.NoMemory = fault.NoMemory
