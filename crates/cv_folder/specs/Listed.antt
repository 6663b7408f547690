-- What a listing is, and what it calls.
use Rattle.std.specs.Prelude.{ℕ, ◌≡◌, ◌⊎◌, ◌==◌, ◌+◌, ◌++◌, List, [], length, Vec, Result, Ok, Err, IsTrue}
use Rattle.std.specs.List.{All, starts_with}
use Rattle.std.specs.List.Sorted.{IsStrictlySortedBy}
use Rattle.std.specs.declared.io.ErrorKind.TheVariants.{InvalidInput, TimedOut}
use Rattle.cv_base.specs.BytesOrder.{bytes_cmp}
use Rattle.cv_folder.specs.declared.hold.Hold.{Hold}
use Rattle.cv_folder.specs.declared.hold.Hold.TheVariants.{Absent, Refused, Unasked}
use Rattle.cv_system.specs.declared.seen.Kind.{Kind}
use Rattle.cv_system.specs.declared.seen.Seen.{Seen}
use Rattle.cv_system.specs.declared.seen.Kind.TheVariants.{File, Folder}
use Rattle.cv_system.specs.Calls.{Begun, Call, Cause, Checked, Created, Ended, Entered, IsWant, Locked, Log, Looked, Made, Named, Opened, Read, Removed, Renamed, Synced, Unmade, Wrote, and_call}
use Rattle.cv_folder.specs.GoingOn.{GoesOn}
use Rattle.cv_folder.specs.Hold.{IsHeld}
use Rattle.cv_system.specs.Looks.{folders_past}
use Rattle.cv_base.specs.Path.{with_slash}
use Rattle.cv_system.specs.Names.{is_name, path_of}
use Rattle.cv_system.specs.Passed.{HidesNoName}
use Rattle.cv_system.specs.Steps.{EndsFailed, IsNothing, Makes}

-- each of these names begins with the prefix
abbrev pub AllBegin : List ℕ → List (List ℕ) → Type 0
AllBegin prefix names = All (λ name. IsTrue (starts_with (λ a b. a == b) name prefix)) names

-- a listing: names that begin with the prefix, in ascending order of their bytes, each once
abbrev pub IsListed : List ℕ → List (List ℕ) → Type 0
IsListed prefix names = IsStrictlySortedBy bytes_cmp names × AllBegin prefix names

-- a path begins so
abbrev pub IsBehind : List ℕ → List ℕ → Type 0
IsBehind front path = (rest : List ℕ) × (path ≡ front ++ rest)

-- a call of a listing: it looks, opens a folder to read its names, or reads some, each at a path that begins so
abbrev pub IsListing : List ℕ → Call → Type 0
IsListing front (Looked path seen) = IsBehind front path
IsListing front (Opened path out) = ⊥
IsListing front (Created path out) = ⊥
IsListing front (Wrote path bytes out) = ⊥
IsListing front (Synced path out) = ⊥
IsListing front (Begun path out) = ⊥
IsListing front (Ended out) = ⊥
IsListing front (Checked path seen) = ⊥
IsListing front (Read path bytes) = ⊥
IsListing front (Locked path held) = ⊥
IsListing front (Renamed from to out) = ⊥
IsListing front (Removed path out) = ⊥
IsListing front (Made folder out) = ⊥
IsListing front (Unmade folder out) = ⊥
IsListing front (Entered folder out) = IsBehind front folder
IsListing front (Named folder names) = IsBehind front folder

-- one of the calls of a listing is a look that saw a thing of this kind at this path
unfoldable pub Saw : List ℕ → Kind → List ℕ → Log → Log → Type 0
Saw front kind path before after =
    (at : Log) × (seen : Seen) × (seen.kind ≡ kind) × Makes (IsListing front) before at × Makes (IsListing front) (and_call (Looked path (Ok seen)) at) after

-- a listing below a folder found a name: it is one, and the listing saw a regular file at it, and folders on the way to it
abbrev pub FindsName : List ℕ → List ℕ → Log → Log → Type 0
FindsName root name before after =
    IsTrue (is_name name) × Saw (with_slash root) File (path_of root name) before after
    × All (λ folder. Saw (with_slash root) Folder folder before after) (folders_past (length root + 1) (path_of root name))

-- a listing below a folder makes such calls alone, each below the folder, and finds each of these names
abbrev pub ListsFiles : List ℕ → List (List ℕ) → Log → Log → Type 0
ListsFiles root names before after = Makes (IsListing (with_slash root)) before after × All (λ name. FindsName root name before after) names

-- names are listed: none where the vault's folder isn't there, and else such ones; or the listing failed, and made no call where the folder isn't held
unfoldable pub ListsNamed : {F Z E : Type 0} → List ℕ → Hold F → Result (Vec (List ℕ) Z) E → Log → Log → Type 0
ListsNamed root hold (Ok names) before after =
    ((hold ≡ Absent) × (names.items ≡ []) × (after ≡ before)) ⊎ (IsHeld hold × ListsFiles root names.items before after)
ListsNamed root hold (Err error) before after =
    (((hold ≡ Unasked) ⊎ (hold ≡ Refused)) × (after ≡ before)) ⊎ (IsHeld hold × Makes (IsListing (with_slash root)) before after)

-- a listing goes on where nothing is, or no name of a vault is behind an error
abbrev pub IsSkipped : Cause → Type 0
IsSkipped cause = IsNothing cause ⊎ HidesNoName cause

-- a listing ends before all is found, for this cause: the last call failed, or memory was wanted in this process or there was no end of names behind calls
-- each of which was made or skipped
abbrev pub FailsListing : Cause → Log → Log → Type 0
FailsListing cause before after = EndsFailed cause before after ⊎ ((IsWant cause ⊎ (cause.kind ≡ TimedOut)) × GoesOn IsSkipped before after)

-- a vault's listing fails for this cause: the vault is refused its folder, or so
unfoldable pub FailsToList : {F : Type 0} → Hold F → Cause → Log → Log → Type 0
FailsToList hold cause before after = ((cause.kind ≡ InvalidInput) × (hold ≡ Refused)) ⊎ FailsListing cause before after
