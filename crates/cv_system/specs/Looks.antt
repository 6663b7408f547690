-- What is seen at a path.
use Rattle.std.specs.Prelude.{◌≡◌, ◌⊎◌, ◌==◌, ℕ, List, [], ◌∷◌, ◌++◌, take, drop, if◌then◌else◌, slice_index, Option, Some, None, Result, Ok, Err}
use Rattle.std.specs.declared.io.Error.{Error}
use Rattle.std.specs.declared.io.ErrorKind.TheVariants.{InvalidData}
use Rattle.cv_system.specs.declared.seen.Seen.{Seen}
use Rattle.cv_system.specs.declared.seen.Kind.TheVariants.{File, Folder}
use Rattle.cv_system.specs.Calls.{Cause, cause_of, Log, and_call, and_calls, Done, Failed, Looked, Opened, Checked, Read}
use Rattle.cv_system.specs.Passed.{HidesNoName}
use Rattle.cv_system.specs.Steps.{IsLook, IsNothing, Makes}

-- both tell of the same file
abbrev pub IsSame : Seen → Seen → Type 0
IsSame one other = (one.device ≡ other.device) × (one.inode ≡ other.inode)

-- a look at a path: what was seen, or that nothing stands there
abbrev pub Looks : List ℕ → Result (Option Seen) Error → Log → Log → Type 0
Looks path (Ok (Some seen)) before after = after ≡ and_call (Looked path (Ok seen)) before
Looks path (Ok None) before after = (cause : Cause) × IsNothing cause × (after ≡ and_call (Looked path (Err cause)) before)
Looks path (Err error) before after = (IsNothing (cause_of error) → ⊥) × (after ≡ and_call (Looked path (Err (cause_of error))) before)

-- a look at an entry of a folder: what was seen, or that nothing stands there, also where the entry's path is longer than the system takes
abbrev pub LooksAtEntry : List ℕ → Result (Option Seen) Error → Log → Log → Type 0
LooksAtEntry path (Ok (Some seen)) before after = after ≡ and_call (Looked path (Ok seen)) before
LooksAtEntry path (Ok None) before after = (cause : Cause) × (IsNothing cause ⊎ HidesNoName cause) × (after ≡ and_call (Looked path (Err cause)) before)
LooksAtEntry path (Err error) before after =
    (IsNothing (cause_of error) ⊎ HidesNoName (cause_of error) → ⊥) × (after ≡ and_call (Looked path (Err (cause_of error))) before)

-- the folders of a path behind its front: what comes before each slash of the rest
unfoldable pub folders_behind : List ℕ → List ℕ → List (List ℕ)
folders_behind front [] = []
folders_behind front (b ∷ rest) = (if b == 47 then front ∷ [] else []) ++ folders_behind (front ++ b ∷ []) rest

-- the folders that a path goes through past its first bytes
abbrev pub folders_past : ℕ → List ℕ → List (List ℕ)
folders_past from path = folders_behind (take from path) (drop from path)

-- the folder whose path ends at this place of a path, if a slash stands there
abbrev pub folders_at : List ℕ → ℕ → List (List ℕ)
folders_at path end = if slice_index path end == 47 then take end path ∷ [] else []

-- each of these paths was looked at, in their order, and is a folder
abbrev pub SeesFolders : List (List ℕ) → Log → Log → Type 0
SeesFolders [] before after = after ≡ before
SeesFolders (folder ∷ folders) before after =
    (seen : Seen) × (seen.kind ≡ Folder) × SeesFolders folders (and_call (Looked folder (Ok seen)) before) after

-- what a look told is no folder
abbrev pub IsNoFolder : Result Seen Cause → Type 0
IsNoFolder (Ok seen) = seen.kind ≡ Folder → ⊥
IsNoFolder (Err cause) = IsNothing cause

-- what a look told is no regular file
abbrev pub IsNoFile : Result Seen Cause → Type 0
IsNoFile (Ok seen) = seen.kind ≡ File → ⊥
IsNoFile (Err cause) = IsNothing cause

-- these paths were looked at in their order, up to the first that is no folder
abbrev pub MissesFolder : List (List ℕ) → Log → Log → Type 0
MissesFolder [] before after = ⊥
MissesFolder (folder ∷ folders) before after =
    ((seen : Result Seen Cause) × IsNoFolder seen × (after ≡ and_call (Looked folder seen) before))
    ⊎ ((seen : Seen) × (seen.kind ≡ Folder) × MissesFolder folders (and_call (Looked folder (Ok seen)) before) after)

-- a regular file is found at a path: it was seen there, and then folders were on the way to it
abbrev pub FindsFile : ℕ → List ℕ → Seen → Log → Log → Type 0
FindsFile from path seen before after = (seen.kind ≡ File) × SeesFolders (folders_past from path) (and_call (Looked path (Ok seen)) before) after

-- none is: what was seen at the path is no regular file, or one was seen there, and then something on the way is no folder
abbrev pub MissesFile : ℕ → List ℕ → Log → Log → Type 0
MissesFile from path before after =
    ((told : Result Seen Cause) × IsNoFile told × (after ≡ and_call (Looked path told) before))
    ⊎ ((seen : Seen) × (seen.kind ≡ File) × MissesFolder (folders_past from path) (and_call (Looked path (Ok seen)) before) after)

-- a regular file is looked for at a path
abbrev pub Finds : ℕ → List ℕ → Result (Option Seen) Error → Log → Log → Type 0
Finds from path (Ok (Some seen)) before after = FindsFile from path seen before after
Finds from path (Ok None) before after = MissesFile from path before after
Finds from path (Err error) before after = Makes IsLook before after

-- a file that was seen at a path is opened there, and it is the one that was seen
abbrev pub OpensFile : List ℕ → Seen → Log → Log → Type 0
OpensFile path seen before after =
    (opened : Seen) × (opened.kind ≡ File) × IsSame seen opened × (after ≡ and_calls (Opened path Done ∷ Checked path (Ok opened) ∷ []) before)

-- what was opened at a path is another file than the one that was seen there, or none
abbrev pub OpensOther : List ℕ → Seen → Log → Log → Type 0
OpensOther path seen before after =
    (opened : Seen) × (opened.kind ≡ File → IsSame seen opened → ⊥) × (after ≡ and_calls (Opened path Done ∷ Checked path (Ok opened) ∷ []) before)

-- a file that was seen isn't opened, for this cause: a call failed so, or what was opened isn't that file
abbrev pub FailsToOpen : List ℕ → Seen → Cause → Log → Log → Type 0
FailsToOpen path seen cause before after =
    (after ≡ and_call (Opened path (Failed cause)) before)
    ⊎ (after ≡ and_calls (Opened path Done ∷ Checked path (Err cause) ∷ []) before)
    ⊎ ((cause.kind ≡ InvalidData) × OpensOther path seen before after)

-- it is opened so, and read to its end, where these bytes are
abbrev pub ReadsFile : List ℕ → Seen → List ℕ → Log → Log → Type 0
ReadsFile path seen bytes before after =
    (opened : Log) × (again : Seen) × OpensFile path seen before opened
    × (after ≡ and_calls (Checked path (Ok again) ∷ Read path (Ok bytes) ∷ []) opened)

-- it isn't read, for this cause: it isn't opened, or a call failed so behind that
abbrev pub FailsToReadFile : List ℕ → Seen → Cause → Log → Log → Type 0
FailsToReadFile path seen cause before after =
    FailsToOpen path seen cause before after
    ⊎ ((opened : Log) × OpensFile path seen before opened
    × ((after ≡ and_call (Checked path (Err cause)) opened)
    ⊎ ((again : Seen) × (after ≡ and_calls (Checked path (Ok again) ∷ Read path (Err cause) ∷ []) opened))))
