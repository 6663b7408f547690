-- What the calls of a vault change: only what has the path of its folder or one that begins with it, and a write gives another name to a whole file alone.
use Rattle.std.specs.Prelude.{◌≡◌, ◌⊎◌, ℕ, List, [], ◌∷◌, ⊤}
use Rattle.cv_system.specs.Calls.{Begun, Call, Checked, Created, Done, Ended, Entered, Failed, Locked, Log, Looked, Made, Named, Opened, Read, Removed, Renamed, Synced, Unmade, Wrote, and_call, and_calls}
use Rattle.cv_system.specs.Steps.{Makes, Steps}
use Rattle.cv_system.specs.Walks.{IsUnder}

-- a path is that of a folder, or its text begins with the folder's and a slash
abbrev pub IsWithin : List ℕ → List ℕ → Type 0
IsWithin root path = (path ≡ root) ⊎ IsUnder root path

-- what a call changes, if it changes something, is within a folder
abbrev pub ChangesWithin : List ℕ → Call → Type 0
ChangesWithin root (Looked path seen) = ⊤
ChangesWithin root (Opened path out) = ⊤
ChangesWithin root (Created path out) = IsWithin root path
ChangesWithin root (Wrote path bytes out) = IsWithin root path
ChangesWithin root (Synced path out) = ⊤
ChangesWithin root (Begun path out) = ⊤
ChangesWithin root (Ended out) = ⊤
ChangesWithin root (Checked path seen) = ⊤
ChangesWithin root (Read path bytes) = ⊤
ChangesWithin root (Locked path held) = ⊤
ChangesWithin root (Renamed from to out) = IsWithin root from × IsWithin root to
ChangesWithin root (Removed path out) = IsWithin root path
ChangesWithin root (Made folder out) = IsWithin root folder
ChangesWithin root (Unmade folder out) = IsWithin root folder
ChangesWithin root (Entered folder out) = ⊤
ChangesWithin root (Named folder names) = ⊤

-- the calls between two logs change what is within a folder, and nothing else
abbrev pub StaysWithin : List ℕ → Log → Log → Type 0
StaysWithin root before after = Makes (ChangesWithin root) before after

-- a call gives no file another name
abbrev pub RenamesNothing : Call → Type 0
RenamesNothing (Looked path seen) = ⊤
RenamesNothing (Opened path out) = ⊤
RenamesNothing (Created path out) = ⊤
RenamesNothing (Wrote path bytes out) = ⊤
RenamesNothing (Synced path out) = ⊤
RenamesNothing (Begun path out) = ⊤
RenamesNothing (Ended out) = ⊤
RenamesNothing (Checked path seen) = ⊤
RenamesNothing (Read path bytes) = ⊤
RenamesNothing (Locked path held) = ⊤
RenamesNothing (Renamed from to Done) = ⊥
RenamesNothing (Renamed from to (Failed cause)) = ⊤
RenamesNothing (Removed path out) = ⊤
RenamesNothing (Made folder out) = ⊤
RenamesNothing (Unmade folder out) = ⊤
RenamesNothing (Entered folder out) = ⊤
RenamesNothing (Named folder names) = ⊤

-- a whole file gets its name: it is created anew, all the bytes are written to it, it becomes durable, and then it is renamed, by four calls in a row
abbrev pub PutsWhole : List ℕ → List ℕ → List ℕ → Log → Log → Type 0
PutsWhole next path bytes before after =
    after ≡ and_calls (Created next Done ∷ Wrote next bytes Done ∷ Synced next Done ∷ Renamed next path Done ∷ []) before

-- no file gets another name but a whole one so
abbrev pub NamesWhole : List ℕ → List ℕ → List ℕ → Log → Log → Type 0
NamesWhole next path bytes before after =
    Steps (λ one other. ((call : Call) × RenamesNothing call × (other ≡ and_call call one)) ⊎ PutsWhole next path bytes one other) before after
