-- What the gate knows of catalogues. What only this crate's own functions say.
use Rattle.std.specs.declared.option.Option.{Option}
use Rattle.cv_base.specs.Told.{WhereTold}
use Rattle.cv_vault.specs.Disk.{Disk}
use Rattle.cv_objects.specs.Names.{standing_on}
use Rattle.cv_load.specs.Known.{AreKnown}
use Rattle.cv_load.specs.declared.known_set.KnownSet.{KnownSet}

-- each known pair of a catalogue's hash and a path is whole by what stands on the disk, where the vault tells it
abbrev pub KnowsWhole : {V : Type 0} → (V → Option Disk) → V → KnownSet → Type 0
KnowsWhole disk v known = WhereTold (disk v) (λ d. AreKnown (standing_on d) known)
