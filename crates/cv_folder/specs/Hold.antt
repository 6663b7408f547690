-- How a vault comes to hold its folder.
use Rattle.std.specs.Prelude.{ℕ, ◌≡◌, ◌≢◌, ◌⊎◌, ◌+◌, ◌<◌, Bool, true, false, List, [], ◌∷◌, length, Ok, Err, IsTrue, ⊤}
use Rattle.std.specs.declared.io.ErrorKind.TheVariants.{AlreadyExists, NotFound}
use Rattle.cv_folder.specs.declared.hold.Hold.{Hold}
use Rattle.cv_folder.specs.declared.hold.Hold.TheVariants.{Absent, Held, Refused, Unasked}
use Rattle.cv_system.specs.declared.path_buffer.TheConstants.{PATH_ROOM}
use Rattle.cv_system.specs.Calls.{Cause, Done, Failed, Locked, Log, Made, Opened, Outcome, Unmade, and_call, and_calls}
use Rattle.cv_base.specs.Path.{with_slash}
use Rattle.cv_system.specs.Names.{folder_of, is_part, last_part}

-- the vault has its folder open and locked
abbrev pub IsHeld : {F : Type 0} → Hold F → Type 0
IsHeld Unasked = ⊥
IsHeld (Held file) = ⊤
IsHeld Absent = ⊥
IsHeld Refused = ⊥

-- nothing was asked of a vault yet
abbrev pub is_unasked : {F : Type 0} → Hold F → Bool
is_unasked Unasked = true
is_unasked (Held file) = false
is_unasked Absent = false
is_unasked Refused = false

-- a path that a vault's folder may have: its last part may be one of a name, and the system takes it with a slash at its end
abbrev pub IsRoot : List ℕ → Type 0
IsRoot path = IsTrue (is_part (last_part path)) × (length path + 1 < PATH_ROOM)

-- a folder couldn't be opened, for this cause
abbrev pub OpensNot : List ℕ → Cause → Log → Log → Type 0
OpensNot folder cause before after = after ≡ and_call (Opened folder (Failed cause)) before

-- a folder was opened and couldn't be locked, for this cause
abbrev pub LocksNot : List ℕ → Cause → Log → Log → Type 0
LocksNot folder cause before after = after ≡ and_calls (Opened folder Done ∷ Locked folder (Err cause) ∷ []) before

-- a folder was opened and the system was asked for its lock: whether it gave it
abbrev pub Locks : List ℕ → Bool → Log → Log → Type 0
Locks folder given before after = after ≡ and_calls (Opened folder Done ∷ Locked folder (Ok given) ∷ []) before

-- a folder is asked for in vain: it couldn't be opened, for a cause by which something may be there, or it was and couldn't be locked
abbrev pub AsksInVain : List ℕ → Cause → Log → Log → Type 0
AsksInVain folder cause before after = ((cause.kind ≢ NotFound) × OpensNot folder cause before after) ⊎ LocksNot folder cause before after

-- what is found of a folder as it is asked for: it is held exactly where it was opened and locked now, refused where another holds it,
-- absent where it couldn't be opened since nothing was there, and still unasked where it couldn't be for another cause, or not be locked
unfoldable pub AskedAt : {F : Type 0} → List ℕ → Hold F → Log → Log → Type 0
AskedAt folder (Held file) before after = Locks folder true before after
AskedAt folder Refused before after = Locks folder false before after
AskedAt folder Absent before after = (cause : Cause) × (cause.kind ≡ NotFound) × OpensNot folder cause before after
AskedAt folder Unasked before after = (cause : Cause) × AsksInVain folder cause before after

-- the same of the folder of a vault, by its path without the slash; a path that may be none is refused unasked
unfoldable pub Asked : {F : Type 0} → List ℕ → Hold F → Log → Log → Type 0
Asked root hold before after =
    (IsRoot root × AskedAt (with_slash root) hold before after) ⊎ ((IsRoot root → ⊥) × (hold ≡ Refused) × (after ≡ before))

-- a call begins: a vault that hadn't asked for its folder does so now, any other asks nothing
unfoldable pub Asks : {F : Type 0} → List ℕ → Hold F → Hold F → Log → Log → Type 0
Asks root Unasked hold before after = Asked root hold before after
Asks root (Held file) hold before after = (hold ≡ Held file) × (after ≡ before)
Asks root Absent hold before after = (hold ≡ Absent) × (after ≡ before)
Asks root Refused hold before after = (hold ≡ Refused) × (after ≡ before)

-- a folder that was made couldn't be opened or locked, for this cause, and was removed again, if it could be
abbrev pub LocksAndLeaves : List ℕ → List ℕ → Cause → Log → Log → Type 0
LocksAndLeaves folder slashed cause before after =
    (gone : Outcome) × (tried : Log) × (OpensNot slashed cause before tried ⊎ LocksNot slashed cause before tried) × (after ≡ and_call (Unmade folder gone) tried)

-- a vault's folder, which wasn't there, is made, and what the vault has of it then: it holds it exactly where it was made, opened and locked;
-- it is refused where something stood there by now or another vault holds it; else it is absent still, and where it couldn't be locked it goes again
unfoldable pub MakesRoot : {F : Type 0} → List ℕ → Hold F → Log → Log → Type 0
MakesRoot root (Held file) before after = Locks (with_slash root) true (and_call (Made root Done) before) after
MakesRoot root Refused before after =
    ((cause : Cause) × (cause.kind ≡ AlreadyExists) × (after ≡ and_call (Made root (Failed cause)) before)) ⊎ Locks (with_slash root) false (and_call (Made root Done) before) after
MakesRoot root Absent before after =
    (after ≡ before)
    ⊎ ((cause : Cause) × (cause.kind ≢ AlreadyExists) × (after ≡ and_call (Made root (Failed cause)) before))
    ⊎ ((cause : Cause) × LocksAndLeaves root (with_slash root) cause (and_call (Made root Done) before) after)
MakesRoot root Unasked before after = ⊥

-- where a vault holds its folder for the first time, all in it is unsettled: others may have changed it before. What the vault had of it and has,
-- and whether all is unsettled by then
abbrev pub Unsettles : {F : Type 0} → Hold F → Hold F → Bool → Type 0
Unsettles was hold is_unsettled = was ≡ Unasked → IsHeld hold → IsTrue is_unsettled

-- a write begins: the folder is asked for, and where it is absent it is made, once the folder above is noted. What the vault had of it and has by
-- then, whether all is unsettled, and which folders are noted
unfoldable pub Begins : {F : Type 0} → List ℕ → Hold F → Hold F → Bool → (List ℕ → Bool) → Log → Log → Type 0
Begins {F} root was hold is_unsettled noted before after =
    (found : Hold F) × (asked : Log) × Asks root was found before asked × Unsettles was found is_unsettled
    × (((hold ≡ found) × (after ≡ asked))
    ⊎ ((found ≡ Absent) × MakesRoot root hold asked after
    × (((hold ≡ Absent) × (after ≡ asked)) ⊎ IsTrue (noted (folder_of root)))))
