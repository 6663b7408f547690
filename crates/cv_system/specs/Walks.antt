-- How a walk goes over the folders from a top on, in the order of their paths, each of which ends in a slash. It keeps the paths of some
-- that come next, in a list of a fixed length; one that is empty is free room.
use Rattle.std.specs.Prelude.{ℕ, Bool, true, false, ◌≡◌, ◌⊎◌, ◌==◌, ◌||◌, ◌&&◌, ◌+◌, ◌-◌, ◌<◌, ◌≤◌, List, [], ◌∷◌, ◌++◌, All, length, drop, take, insert, slice_index_or, position, Option, IsTrue, Ok, Err, if◌then◌else◌}
use Rattle.std.specs.List.{starts_with}
use Rattle.std.specs.Ordering.{is_lt}
use Rattle.std.specs.Option.{option_map_or}
use Rattle.std.specs.Str.{is_utf8}
use Rattle.std.specs.declared.io.ErrorKind.TheVariants.{PermissionDenied}
use Rattle.cv_base.specs.BytesOrder.{bytes_cmp}
use Rattle.cv_base.specs.Counts.{last_count}
use Rattle.cv_system.specs.declared.path_buffer.TheConstants.{PATH_ROOM}
use Rattle.cv_system.specs.declared.seen.Seen.{Seen}
use Rattle.cv_system.specs.declared.seen.Kind.TheVariants.{Folder}
use Rattle.cv_system.specs.declared.syncing.Unsynced.{Unsynced}
use Rattle.cv_system.specs.declared.syncing.Unsynced.TheVariants.{NotOpened}
use Rattle.cv_system.specs.Calls.{Cause, Log, Done, Failed, Looked, Entered, Named, and_call}
use Rattle.cv_base.specs.Path.{with_slash}
use Rattle.cv_system.specs.Names.{above, is_part, names_in}
use Rattle.cv_system.specs.Passed.{HidesNoName, IsShut, Passes, StopsAt}
use Rattle.cv_system.specs.Steps.{IsNothing}
use Rattle.cv_system.specs.Syncs.{FailsFolder, FailsTop, PassesFolder, SettlesFolder}

-- a path comes next: behind the last one, and before the end of what is kept, if there is no room for more
abbrev pub comes_next : List ℕ → List ℕ → List ℕ → Bool
comes_next path last end = is_lt (bytes_cmp last path) && (length end == 0 || is_lt (bytes_cmp path end))

-- the place of a path among those that are kept, if there is one: at free room, or before the first that is behind it
abbrev pub place_of : List ℕ → List (List ℕ) → Option ℕ
place_of path kept = position (λ other. length other == 0 || is_lt (bytes_cmp path other)) kept

-- what is kept with one path more: where there is a place for it, it stands there, and the last one has given its room
abbrev pub with_path : List ℕ → List (List ℕ) → List (List ℕ)
with_path path kept = option_map_or (λ place. insert (take (length kept - 1) kept) place path) (place_of path kept) kept

-- the path that comes first
abbrev pub first_of : List (List ℕ) → List ℕ
first_of kept = slice_index_or kept 0 []

-- the path that comes last, where there is no room for more
abbrev pub end_of : List (List ℕ) → List ℕ
end_of kept = slice_index_or kept (length kept - 1) []

-- the path of the folder of this name in a folder
abbrev pub folder_in : List ℕ → List ℕ → List ℕ
folder_in folder name = (folder ++ name) ++ 47 ∷ []

-- what has this name comes next, if it is a folder: the name may be a part of one, and the system takes the folder's path
abbrev pub IsNext : List ℕ → List ℕ → List ℕ → List (List ℕ) → Type 0
IsNext folder last name kept =
    IsTrue (is_part name) × (length folder + length name + 1 < PATH_ROOM) × IsTrue (comes_next (folder_in folder name) last (end_of kept))

-- the first folder that is kept stands in this one
abbrev pub is_inside : List ℕ → List (List ℕ) → Bool
is_inside folder kept = starts_with (λ a b. a == b) (first_of kept) folder

-- an entry of a folder is looked at, and whether a folder stands there; none does where the look is refused and this folder is shut
abbrev pub LooksFor : List ℕ → List ℕ → Bool → Log → Log → Type 0
LooksFor folder entry true before after = (seen : Seen) × (seen.kind ≡ Folder) × (after ≡ and_call (Looked entry (Ok seen)) before)
LooksFor folder entry false before after =
    ((seen : Seen) × (seen.kind ≡ Folder → ⊥) × (after ≡ and_call (Looked entry (Ok seen)) before))
    ⊎ ((cause : Cause) × (IsNothing cause ⊎ HidesNoName cause) × (after ≡ and_call (Looked entry (Err cause)) before))
    ⊎ ((cause : Cause) × (cause.kind ≡ PermissionDenied) × IsShut folder (and_call (Looked entry (Err cause)) before) after)

-- it can't be told whether one does
abbrev pub FailsToLook : List ℕ → List ℕ → Log → Log → Type 0
FailsToLook folder entry before after = (cause : Cause) × StopsAt folder cause (and_call (Looked entry (Err cause)) before) after

-- a name that the system gave of a folder: where it is a text that comes next it is looked at, and kept if a folder stands there
abbrev pub LooksAt : List ℕ → List ℕ → List ℕ → List (List ℕ) → List (List ℕ) → Log → Log → Type 0
LooksAt folder last name kept kept' before after =
    ((IsTrue (is_utf8 name) → IsNext folder last name kept → ⊥) × (kept' ≡ kept) × (after ≡ before))
    ⊎ (IsNext folder last name kept × (is : Bool) × LooksFor folder (folder ++ name) is before after
    × (kept' ≡ (if is then with_path (folder_in folder name) kept else kept)))

-- so are these names, one after another
abbrev pub LooksAtAll : List ℕ → List ℕ → List (List ℕ) → List (List ℕ) → List (List ℕ) → Log → Log → Type 0
LooksAtAll folder last [] kept kept' before after = (kept' ≡ kept) × (after ≡ before)
LooksAtAll folder last (name ∷ names) kept kept' before after =
    (between : List (List ℕ)) × (looked : Log) × LooksAt folder last name kept between before looked × LooksAtAll folder last names between kept' looked after

-- they are up to one at which a look fails
abbrev pub FailsAmong : List ℕ → List ℕ → List (List ℕ) → List (List ℕ) → Log → Log → Type 0
FailsAmong folder last names kept before after =
    (front : List (List ℕ)) × (name : List ℕ) × (others : List (List ℕ)) × (between : List (List ℕ)) × (looked : Log)
    × (names ≡ front ++ name ∷ others) × LooksAtAll folder last front kept between before looked × FailsToLook folder (folder ++ name) looked after

-- so often names of a folder that is entered were read, and all of them looked at
pub data Reads (folder last : List ℕ) (kept : List (List ℕ)) (before : Log) : ℕ → List (List ℕ) → Log → Type 0 where
  NoneRead : Reads folder last kept before 0 kept before
  ReadsMore : {count : ℕ} {between kept' : List (List ℕ)} {read after : Log} (bytes : List ℕ) → Reads folder last kept before count between read
      → LooksAtAll folder last (names_in bytes) between kept' (and_call (Named folder (Ok bytes)) read) after → Reads folder last kept before (count + 1) kept' after

-- all names of a folder that is entered were read
abbrev pub ReadsAll : List ℕ → List ℕ → List (List ℕ) → List (List ℕ) → Log → Log → Type 0
ReadsAll folder last kept kept' before after =
    (count : ℕ) × (read : Log) × Reads folder last kept before count kept' read × (after ≡ and_call (Named folder (Ok [])) read)

-- they weren't: no more are given, a look at one fails, or there is no end of them
abbrev pub FailsToReadAll : List ℕ → List ℕ → List (List ℕ) → Log → Log → Type 0
FailsToReadAll folder last kept before after =
    (count : ℕ) × (between : List (List ℕ)) × (read : Log) × Reads folder last kept before count between read
    × (((cause : Cause) × (after ≡ and_call (Named folder (Err cause)) read))
    ⊎ ((bytes : List ℕ) × FailsAmong folder last (names_in bytes) between (and_call (Named folder (Ok bytes)) read) after)
    ⊎ ((last_count ≤ count) × (after ≡ read)))

-- a folder is gone round: it is entered and all its names are read, or it is below the top, can't be entered and is passed over
abbrev pub GoesRound : List ℕ → List ℕ → List ℕ → List (List ℕ) → List (List ℕ) → Log → Log → Type 0
GoesRound top folder last kept kept' before after =
    ReadsAll folder last kept kept' (and_call (Entered folder Done) before) after
    ⊎ ((length top + 1 < length folder) × (kept' ≡ kept) × (cause : Cause) × Passes folder cause (and_call (Entered folder (Failed cause)) before) after)

-- it isn't: it can't be entered, or not all its names are read
abbrev pub FailsRound : List ℕ → List ℕ → List ℕ → List (List ℕ) → Log → Log → Type 0
FailsRound top folder last kept before after =
    FailsToReadAll folder last kept (and_call (Entered folder Done) before) after
    ⊎ ((length folder ≤ length top + 1) × (cause : Cause) × (after ≡ and_call (Entered folder (Failed cause)) before))
    ⊎ ((cause : Cause) × StopsAt folder cause (and_call (Entered folder (Failed cause)) before) after)

-- it is known whether a folder comes next that stands in this one: one is kept, or this one was gone round now
abbrev pub FindsNext : List ℕ → List ℕ → List ℕ → List (List ℕ) → List (List ℕ) → Log → Log → Type 0
FindsNext top folder last kept kept' before after =
    (IsTrue (is_inside folder kept) × (kept' ≡ kept) × (after ≡ before)) ⊎ ((is_inside folder kept ≡ false) × GoesRound top folder last kept kept' before after)

-- this path begins with that of the folder at the top of a walk, whose path has no slash at its end
unfoldable pub IsUnder : List ℕ → List ℕ → Type 0
IsUnder top path = (rest : List ℕ) × (path ≡ with_slash top ++ rest)

-- a walk turns: into the folder that comes next and stands in this one, which is settled or passed over, or back from one below the top
abbrev pub Turns : List ℕ → List ℕ → List ℕ → List (List ℕ) → List ℕ → List ℕ → List (List ℕ) → Log → Log → Type 0
Turns top folder last kept folder' last' kept' before after =
    (found : List (List ℕ)) × (looked : Log) × FindsNext top folder last kept found before looked
    × ((IsTrue (is_inside folder found) × IsUnder top folder' × (folder' ≡ first_of found) × (last' ≡ first_of found)
    × (kept' ≡ drop 1 found ++ [] ∷ []) × (SettlesFolder folder' looked after ⊎ PassesFolder folder' looked after))
    ⊎ ((is_inside folder found ≡ false) × (length top + 1 < length folder) × (folder' ≡ above folder) × (last' ≡ last) × (kept' ≡ found) × (after ≡ looked)))

-- it doesn't: this folder isn't gone round, or the next one isn't settled
abbrev pub FailsTurn : List ℕ → List ℕ → List ℕ → List (List ℕ) → Unsynced → Log → Log → Type 0
FailsTurn top folder last kept unsynced before after =
    ((unsynced ≡ NotOpened) × (is_inside folder kept ≡ false) × FailsRound top folder last kept before after)
    ⊎ ((found : List (List ℕ)) × (looked : Log) × FindsNext top folder last kept found before looked
    × IsTrue (is_inside folder found) × FailsFolder (first_of found) unsynced looked after)

-- a walk settles the folder at its top, and turns so often: the folder that it is in, the one that it came to last, and what it keeps
pub data Walks (top : List ℕ) (before : Log) : ℕ → List ℕ → List ℕ → List (List ℕ) → Log → Type 0 where
  Begins : {kept : List (List ℕ)} {after : Log} → All (λ path. path ≡ []) kept → SettlesFolder (with_slash top) before after
      → Walks top before 0 (with_slash top) (with_slash top) kept after
  TurnsMore : {turns : ℕ} {folder last folder' last' : List ℕ} {kept kept' : List (List ℕ)} {between after : Log} → Walks top before turns folder last kept between
      → Turns top folder last kept folder' last' kept' between after → Walks top before (turns + 1) folder' last' kept' after

-- a walk over all folders from a top on: it ends in the top, where none comes next any more
unfoldable pub SettlesAll : List ℕ → Log → Log → Type 0
SettlesAll top before after =
    (turns : ℕ) × (last : List ℕ) × (kept found : List (List ℕ)) × (between : Log) × Walks top before turns (with_slash top) last kept between
    × FindsNext top (with_slash top) last kept found between after × (is_inside (with_slash top) found ≡ false)

-- it doesn't come to its end: the top's path is too long, the top isn't settled, a turn fails, or there is no end of them
unfoldable pub FailsAll : List ℕ → Unsynced → Log → Log → Type 0
FailsAll top unsynced before after =
    ((PATH_ROOM ≤ length top + 1) × (unsynced ≡ NotOpened) × (after ≡ before))
    ⊎ FailsTop (with_slash top) unsynced before after
    ⊎ ((turns : ℕ) × (folder last : List ℕ) × (kept : List (List ℕ)) × (between : Log) × Walks top before turns folder last kept between
    × (FailsTurn top folder last kept unsynced between after ⊎ ((last_count ≤ turns) × (unsynced ≡ NotOpened) × (after ≡ between))))
