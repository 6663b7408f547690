-- What calls a vault makes as it reads.
use Rattle.std.specs.Prelude.{ℕ, ◌≡◌, ◌⊎◌, ◌≤◌, ◌+◌, false, List, length, Option, Some, None, Result, Ok, Err, IsTrue}
use Rattle.cv_folder.specs.declared.hold.Hold.{Hold}
use Rattle.cv_folder.specs.declared.hold.Hold.TheVariants.{Absent, Refused, Unasked}
use Rattle.cv_system.specs.declared.path_buffer.TheConstants.{PATH_ROOM}
use Rattle.cv_system.specs.declared.seen.Seen.{Seen}
use Rattle.cv_system.specs.Calls.{Cause, Log}
use Rattle.cv_folder.specs.Hold.{IsHeld}
use Rattle.cv_system.specs.Looks.{FailsToReadFile, FindsFile, MissesFile, ReadsFile}
use Rattle.cv_system.specs.Names.{is_name, path_of}
use Rattle.cv_system.specs.Steps.{IsLook, Makes}

-- a regular file is found under a name of a vault that holds its folder
unfoldable pub HasFile : {F : Type 0} → List ℕ → List ℕ → Hold F → Seen → Log → Log → Type 0
HasFile root name hold seen before after = IsHeld hold × IsTrue (is_name name) × FindsFile (length root + 1) (path_of root name) seen before after

-- none is: the vault's folder isn't there, or a look saw something else on the way to the name or at it
unfoldable pub LacksFile : {F : Type 0} → List ℕ → List ℕ → Hold F → Log → Log → Type 0
LacksFile root name hold before after =
    ((hold ≡ Absent) × (after ≡ before)) ⊎ (IsHeld hold × IsTrue (is_name name) × MissesFile (length root + 1) (path_of root name) before after)

-- no call looks for a file under this name: the vault doesn't have its folder, or this is no name, or its path is longer than the system takes
abbrev pub IsUnserved : {F : Type 0} → List ℕ → List ℕ → Hold F → Type 0
IsUnserved root name hold = (hold ≡ Unasked) ⊎ (hold ≡ Refused) ⊎ (is_name name ≡ false) ⊎ (PATH_ROOM ≤ length (path_of root name))

-- a file was looked for under a name in vain: there were looks alone, and none where no call looks for it
unfoldable pub LooksInVain : {F : Type 0} → List ℕ → List ℕ → Hold F → Log → Log → Type 0
LooksInVain root name hold before after =
    (IsUnserved root name hold × (after ≡ before)) ⊎ (IsHeld hold × IsTrue (is_name name) × Makes IsLook before after)

-- a file is read under a name: these are its bytes as the system gave them, none is there, or the read failed after it was found or before
unfoldable pub ReadsNamed : {F E : Type 0} → List ℕ → List ℕ → Hold F → Result (Option (List ℕ)) E → Log → Log → Type 0
ReadsNamed root name hold (Ok (Some bytes)) before after =
    (seen : Seen) × (found : Log) × HasFile root name hold seen before found × ReadsFile (path_of root name) seen bytes found after
ReadsNamed root name hold (Ok None) before after = LacksFile root name hold before after
ReadsNamed root name hold (Err error) before after =
    LooksInVain root name hold before after
    ⊎ ((seen : Seen) × (found : Log) × HasFile root name hold seen before found × (cause : Cause) × FailsToReadFile (path_of root name) seen cause found after)

-- a file's length is asked under a name
unfoldable pub MeasuresNamed : {F E : Type 0} → List ℕ → List ℕ → Hold F → Result (Option ℕ) E → Log → Log → Type 0
MeasuresNamed root name hold (Ok (Some size)) before after = (seen : Seen) × HasFile root name hold seen before after × (size ≡ seen.length)
MeasuresNamed root name hold (Ok None) before after = LacksFile root name hold before after
MeasuresNamed root name hold (Err error) before after = LooksInVain root name hold before after
