-- How a file gets its name, and the folders that it stands in.
use Rattle.std.specs.Prelude.{ℕ, ◌≡◌, ◌≢◌, ◌⊎◌, ◌<◌, ◌≤◌, ◌+◌, Bool, true, false, List, [], ◌∷◌, ◌++◌, length, Result, Ok, Err, IsTrue, if◌then◌else◌, ⊤}
use Rattle.std.specs.declared.io.ErrorKind.TheVariants.{AlreadyExists}
use Rattle.cv_system.specs.Calls.{Begun, Cause, Call, Created, Done, Failed, Log, Looked, Made, Outcome, Removed, Renamed, Synced, Wrote, and_call, and_calls}
use Rattle.cv_system.specs.Steps.{IsLook, IsNothing, Makes, Steps, Tries}
use Rattle.cv_system.specs.declared.seen.Seen.{Seen}
use Rattle.cv_system.specs.declared.seen.Kind.TheVariants.{Folder}
use Rattle.cv_system.specs.Looks.{IsSame, folders_past}
use Rattle.cv_folder.specs.Reads.{HasFile, LacksFile, LooksInVain}
use Rattle.cv_folder.specs.Hold.{Begins, IsHeld}
use Rattle.cv_system.specs.Names.{folder_of, is_name, is_way, next_of, path_of}
use Rattle.cv_folder.specs.declared.hold.Hold.{Hold}

-- a file is created anew, also where something stood there and was removed, and then these calls are tried; or it can't be, for another cause
abbrev pub TriesAnew : List ℕ → List (Outcome → Call) → Bool → Log → Log → Type 0
TriesAnew at calls all before after =
    Tries calls all (and_call (Created at Done) before) after
    ⊎ ((all ≡ false) × (cause : Cause) × (cause.kind ≢ AlreadyExists) × (after ≡ and_call (Created at (Failed cause)) before))
    ⊎ ((cause : Cause) × (cause.kind ≡ AlreadyExists) × Tries (Removed at ∷ Created at ∷ calls) all (and_call (Created at (Failed cause)) before) after)

-- where the file of a name is made: a way at its own path, and any other at the own file beside it
unfoldable pub made_at : List ℕ → List ℕ → List ℕ
made_at root name = if is_way name then path_of root name else next_of root name

-- by which calls a file that was written becomes a name's: of a way, which stands at its path, the sync is begun, and the next sync of the vault
-- ends it; any other is made durable, and then renamed onto the name
unfoldable pub named_by : List ℕ → List ℕ → List ℕ → List (Outcome → Call)
named_by name at path = if is_way name then Begun at ∷ [] else (Synced at ∷ Renamed at path ∷ [])

-- all the bytes are written to the file that was made, and then it becomes the name's
abbrev pub put : List ℕ → List ℕ → List ℕ → List ℕ → List (Outcome → Call)
put name at path bytes = Wrote at bytes ∷ named_by name at path

-- a whole file was put under a name, or it wasn't: none could be created, or it was, a call behind that failed, and then it was removed, if it could be
unfoldable pub Puts : List ℕ → List ℕ → List ℕ → List ℕ → Bool → Log → Log → Type 0
Puts name at path bytes true before after = TriesAnew at (put name at path bytes) true before after
Puts name at path bytes false before after =
    TriesAnew at [] false before after
    ⊎ ((made tried : Log) × (gone : Outcome) × TriesAnew at [] true before made × Tries (put name at path bytes) false made tried × (after ≡ and_call (Removed at gone) tried))

-- a folder on the way of a path, past its first bytes
abbrev pub IsOnWay : ℕ → List ℕ → List ℕ → Type 0
IsOnWay from path folder = (rest : List ℕ) × (path ≡ folder ++ 47 ∷ rest) × (from ≤ length folder)

-- a folder is made, or tried to be, where a look has just found nothing
abbrev pub MakesMissing : List ℕ → Log → Log → Type 0
MakesMissing folder before after =
    (cause : Cause) × (made : Outcome) × IsNothing cause × (after ≡ and_calls (Looked folder (Err cause) ∷ Made folder made ∷ []) before)

-- there are looks, and folders on the way of a path are made where nothing is, each of which stands in one that is noted
unfoldable pub Prepares : ℕ → List ℕ → (List ℕ → Bool) → Log → Log → Type 0
Prepares from path noted before after =
    Steps (λ one other. Makes IsLook one other ⊎ ((folder : List ℕ) × IsOnWay from path folder × IsTrue (noted (folder_of folder)) × MakesMissing folder one other)) before after

-- a folder that a path or a folder on its way stands in
abbrev pub IsAbove : ℕ → List ℕ → List ℕ → Type 0
IsAbove from path folder = (folder ≡ folder_of path) ⊎ ((other : List ℕ) × IsOnWay from path other × (folder ≡ folder_of other))

-- a folder on a way was seen as a folder, or nothing was there and it was made
abbrev pub LeadsOn : List ℕ → Log → Log → Type 0
LeadsOn folder before after =
    ((seen : Seen) × (seen.kind ≡ Folder) × (after ≡ and_call (Looked folder (Ok seen)) before))
    ⊎ ((cause : Cause) × IsNothing cause × (after ≡ and_calls (Looked folder (Err cause) ∷ Made folder Done ∷ []) before))

-- so was each of these folders, in their order
abbrev pub Leads : List (List ℕ) → Log → Log → Type 0
Leads [] before after = after ≡ before
Leads (folder ∷ folders) before after = (between : Log) × LeadsOn folder before between × Leads folders between after

-- a look told of no folder
abbrev pub TellsNoFolder : Result Seen Cause → Type 0
TellsNoFolder (Ok seen) = seen.kind ≡ Folder → ⊥
TellsNoFolder (Err cause) = ⊤

-- a way stops at a folder: a look told of none and nothing more is called, or nothing was there and it couldn't be made
abbrev pub StopsOn : List ℕ → Log → Log → Type 0
StopsOn folder before after =
    ((told : Result Seen Cause) × TellsNoFolder told × (after ≡ and_call (Looked folder told) before))
    ⊎ ((cause other : Cause) × IsNothing cause × (after ≡ and_calls (Looked folder (Err cause) ∷ Made folder (Failed other) ∷ []) before))

-- it stops at one of these folders, and leads on at those before
abbrev pub FailsToLead : List (List ℕ) → Log → Log → Type 0
FailsToLead [] before after = ⊥
FailsToLead (folder ∷ folders) before after =
    StopsOn folder before after ⊎ ((between : Log) × LeadsOn folder before between × FailsToLead folders between after)

-- a call ends on the way to a path: at a folder where the way stops, or behind them all
abbrev pub EndsOnWay : ℕ → List ℕ → Log → Log → Type 0
EndsOnWay from path before after = FailsToLead (folders_past from path) before after ⊎ Leads (folders_past from path) before after

-- so a way leads to a path, and the folder that the path stands in is noted
abbrev pub LeadsTo : ℕ → List ℕ → (List ℕ → Bool) → Log → Log → Type 0
LeadsTo from path noted before after = Leads (folders_past from path) before after × IsTrue (noted (folder_of path))

-- the next sync makes the folder of a path durable: it is noted, or all are unsettled
abbrev pub IsLeft : List ℕ → (List ℕ → Bool) → Bool → Type 0
IsLeft path noted is_unsettled = IsTrue (noted (folder_of path)) ⊎ IsTrue is_unsettled

-- a write: it begins, and nothing more is called where it fails by then; where this is a name and the folder is held, folders are made
-- on the way to it, and then, where the way leads to it by folders alone and its folder is noted, the file is put, once, or the write has failed before. What the
-- vault had of its folder and has, whether all is unsettled, which folders are noted, and whether the write is done
unfoldable pub WritesFile : {F : Type 0} → List ℕ → List ℕ → List ℕ → Hold F → Hold F → Bool → (List ℕ → Bool) → Bool → Log → Log → Type 0
WritesFile root name bytes was hold is_unsettled noted done before after =
    (begun : Log) × Begins root was hold is_unsettled noted before begun
    × (((done ≡ false) × (after ≡ begun))
    ⊎ (IsHeld hold × IsTrue (is_name name) × (ready : Log) × Prepares (length root + 1) (path_of root name) noted begun ready
    × ((LeadsTo (length root + 1) (path_of root name) noted begun ready × Puts name (made_at root name) (path_of root name) bytes done ready after)
    ⊎ ((done ≡ false) × EndsOnWay (length root + 1) (path_of root name) begun ready × (after ≡ ready)))))

-- a file has more names than one, and a look sees that a path is another of them
abbrev pub SeesOther : Seen → List ℕ → Log → Log → Type 0
SeesOther seen path before after = (1 < seen.links) × (other : Seen) × IsSame seen other × (after ≡ and_call (Looked path (Ok other)) before)

-- what a look told isn't that file
abbrev pub IsOther : Seen → Result Seen Cause → Type 0
IsOther seen (Ok other) = IsSame seen other → ⊥
IsOther seen (Err cause) = IsNothing cause

-- a path is no other name of a file: the file has one name, or a look sees another file there, or nothing
abbrev pub SeesNoOther : Seen → List ℕ → Log → Log → Type 0
SeesNoOther seen path before after =
    ((seen.links ≤ 1) × (after ≡ before))
    ⊎ ((1 < seen.links) × (other : Result Seen Cause) × IsOther seen other × (after ≡ and_call (Looked path other) before))

-- a file gets another name, or of two names of one file the first goes: the call that does so is the last, whether it is made or fails. Or the look
-- for whether they are names of one file failed
unfoldable pub MovesFile : List ℕ → List ℕ → Seen → Bool → Log → Log → Type 0
MovesFile from to seen done before after =
    ((looked : Log) × SeesNoOther seen to before looked × Tries (Renamed from to ∷ []) done looked after)
    ⊎ ((looked : Log) × SeesOther seen to before looked × Tries (Removed from ∷ []) done looked after)
    ⊎ ((done ≡ false) × (1 < seen.links) × (cause : Cause) × (IsNothing cause → ⊥) × (after ≡ and_call (Looked to (Err cause)) before))

-- a file is moved from a name to another: it is found, folders are made on the way to the other, and where that leads there by folders
-- alone and the folders of both names are noted it is moved; or none is there
unfoldable pub MovesNamed : {F E : Type 0} → List ℕ → List ℕ → List ℕ → Hold F → (List ℕ → Bool) → Result Bool E → Log → Log → Type 0
MovesNamed root from to hold noted (Ok true) before after =
    (seen : Seen) × (found ready : Log) × HasFile root from hold seen before found × Prepares (length root + 1) (path_of root to) noted found ready
    × LeadsTo (length root + 1) (path_of root to) noted found ready × IsTrue (noted (folder_of (path_of root from)))
    × MovesFile (path_of root from) (path_of root to) seen true ready after
MovesNamed root from to hold noted (Ok false) before after = LacksFile root from hold before after
MovesNamed root from to hold noted (Err error) before after =
    LooksInVain root from hold before after
    ⊎ ((seen : Seen) × (found : Log) × HasFile root from hold seen before found
    × ((after ≡ found)
    ⊎ ((ready : Log) × Prepares (length root + 1) (path_of root to) noted found ready
    × ((EndsOnWay (length root + 1) (path_of root to) found ready × (after ≡ ready))
    ⊎ (LeadsTo (length root + 1) (path_of root to) noted found ready × IsTrue (noted (folder_of (path_of root from)))
    × MovesFile (path_of root from) (path_of root to) seen false ready after)))))

-- a file is removed under a name: it is found and, once the next sync makes its folder durable, removed; none is there, or one of the two failed
unfoldable pub RemovesNamed : {F E : Type 0} → List ℕ → List ℕ → Hold F → (List ℕ → Bool) → Bool → Result Bool E → Log → Log → Type 0
RemovesNamed root name hold noted is_unsettled (Ok true) before after =
    (seen : Seen) × (found : Log) × HasFile root name hold seen before found × IsLeft (path_of root name) noted is_unsettled
    × Tries (Removed (path_of root name) ∷ []) true found after
RemovesNamed root name hold noted is_unsettled (Ok false) before after = LacksFile root name hold before after
RemovesNamed root name hold noted is_unsettled (Err error) before after =
    LooksInVain root name hold before after
    ⊎ ((seen : Seen) × (found : Log) × HasFile root name hold seen before found × IsLeft (path_of root name) noted is_unsettled
    × Tries (Removed (path_of root name) ∷ []) false found after)
