-- What opening finds, and what a crash in it leaves. What only this crate's own functions say.
use Rattle.std.specs.Prelude.{◌≡◌, ◌≢◌, ℕ, ◌<◌, ◌^◌, Bool, List, Vec, Some}
use Rattle.std.specs.declared.result.Result.{Result}
use Rattle.std.specs.declared.result.Result.TheVariants.{Ok, Err}
use Rattle.cv_vault.specs.Disk.{File, Files}
use Rattle.cv_history.specs.Chain.{Chain, StandsAt, Breaks}
use Rattle.cv_history.specs.declared.record.Record.{Record}
use Rattle.cv_manifest.specs.Fault.{Shows}
use Rattle.cv_manifest.specs.Manifest.{Says}
use Rattle.cv_manifest.specs.declared.head.Head.{Head}
use Rattle.cv_manifest.specs.declared.manifest.Manifest.{Manifest}
use Rattle.cv_manifest.specs.declared.manifest_fault.ManifestFault.TheVariants as manifest_fault
use Rattle.cv_objects.specs.Names.{objects_of}
use Rattle.cv_swap.specs.Stands.{head_name, epoch_text, history_id, Publishes}
use Rattle.cv_swap.specs.declared.open_fault.OpenFault.{OpenFault}
use Rattle.cv_swap.specs.declared.open_fault.OpenFault.TheVariants.{NoRepository, BadManifest, OtherName, BadHistory, BadEpoch, EpochsSpent, Failed, NoMemory}
use Rattle.cv_swap.specs.Opening.{Refuses}

abbrev pub FindsHead : List ℕ → (List ℕ → List ℕ → Bool) → Files → Result Head OpenFault → Type 0
FindsHead name is_seal f (Ok head) = Publishes name is_seal (f head_name) head
FindsHead name is_seal f (Err fault) = Refuses name is_seal f fault

abbrev pub FindsEpoch : File → Result ℕ OpenFault → Type 0
FindsEpoch file (Ok epoch) = file ≡ Some (epoch_text epoch)
FindsEpoch file (Err NoRepository) = ⊥
FindsEpoch file (Err (BadManifest fault)) = ⊥
FindsEpoch file (Err OtherName) = ⊥
FindsEpoch file (Err (BadHistory fault)) = ⊥
FindsEpoch file (Err BadEpoch) = (n : ℕ) → n < 2 ^ 64 → file ≡ Some (epoch_text n) → ⊥
FindsEpoch file (Err EpochsSpent) = ⊥
FindsEpoch file (Err Failed) = Unit {0}
FindsEpoch file (Err NoMemory) = Unit {0}

-- what bytes say under the head's name
abbrev pub IsRead : List ℕ → (List ℕ → List ℕ → Bool) → List ℕ → Result Head OpenFault → Type 0
IsRead name is_seal bytes (Ok head) = (m : Manifest) × Says is_seal bytes m × (m.name ≡ name) × (m.head ≡ head)
IsRead name is_seal bytes (Err NoRepository) = ⊥
IsRead name is_seal bytes (Err (BadManifest fault)) = Shows is_seal bytes fault × (fault ≢ manifest_fault.NoMemory)
IsRead name is_seal bytes (Err OtherName) = (m : Manifest) × Says is_seal bytes m × (m.name ≢ name)
IsRead name is_seal bytes (Err (BadHistory fault)) = ⊥
IsRead name is_seal bytes (Err BadEpoch) = ⊥
IsRead name is_seal bytes (Err EpochsSpent) = ⊥
IsRead name is_seal bytes (Err Failed) = ⊥
IsRead name is_seal bytes (Err NoMemory) = Unit {0}

-- the records of a head, or where their chain breaks
abbrev pub FindsRecords : Files → Head → {Z : Type 0} → Result (Vec Record Z) OpenFault → Type 0
FindsRecords f head (Ok records) = Chain (StandsAt (objects_of f)) head.revision (history_id head) records.items
FindsRecords f head (Err NoRepository) = ⊥
FindsRecords f head (Err (BadManifest fault)) = ⊥
FindsRecords f head (Err OtherName) = ⊥
FindsRecords f head (Err (BadHistory fault)) = Breaks (objects_of f) head.revision (history_id head) fault
FindsRecords f head (Err BadEpoch) = ⊥
FindsRecords f head (Err EpochsSpent) = ⊥
FindsRecords f head (Err Failed) = Unit {0}
FindsRecords f head (Err NoMemory) = Unit {0}
