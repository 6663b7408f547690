-- How the files are made durable that a process before this one left on their way. Of each sync: what it answers, and which calls it makes.
use Rattle.std.specs.Prelude.{ℕ, ◌≡◌, ◌⊎◌, ◌==◌, ◌+◌, ◌<◌, ◌≤◌, List, [], ◌∷◌, ◌++◌, codes, length, IsErr, IsOk, IsTrue, Result, Ok, Err, ⊤}
use Rattle.std.specs.List.{starts_with}
use Rattle.std.specs.Str.{is_utf8}
use Rattle.cv_base.specs.Counts.{last_count}
use Rattle.cv_base.specs.Path.{with_slash}
use Rattle.cv_system.specs.declared.path_buffer.TheConstants.{PATH_ROOM}
use Rattle.cv_system.specs.declared.seen.Seen.{Seen}
use Rattle.cv_system.specs.declared.seen.Kind.TheVariants.{File}
use Rattle.cv_system.specs.declared.syncing.Unsynced.{Unsynced}
use Rattle.cv_system.specs.declared.syncing.Unsynced.TheVariants.{Lost, NotOpened}
use Rattle.cv_system.specs.Calls.{Cause, Log, Done, Failed, Entered, Looked, Named, Synced, and_call}
use Rattle.cv_system.specs.Looks.{FailsToOpen, OpensFile}
use Rattle.cv_system.specs.Names.{names_in}
use Rattle.cv_system.specs.Passed.{HidesNoName}
use Rattle.cv_system.specs.Steps.{IsNothing}

-- a sync that is done
abbrev pub done : Result ⊤ Unsynced
done = Ok tt

-- the name of a file on its way: it begins so, and the system takes the file's path
abbrev pub IsWayFile : List ℕ → List ℕ → Type 0
IsWayFile folder name = IsTrue (starts_with (λ a b. a == b) name (codes ".cvkit-txn-")) × (length folder + length name < PATH_ROOM)

-- a file that was seen is opened and made durable; or the system lost what was written to it, or it isn't opened
abbrev pub SyncsSeen : List ℕ → Seen → Result ⊤ Unsynced → Log → Log → Type 0
SyncsSeen path seen (Ok x) before after = (opened : Log) × OpensFile path seen before opened × (after ≡ and_call (Synced path Done) opened)
SyncsSeen path seen (Err Lost) before after =
    (opened : Log) × (cause : Cause) × OpensFile path seen before opened × (after ≡ and_call (Synced path (Failed cause)) opened)
SyncsSeen path seen (Err NotOpened) before after = (cause : Cause) × FailsToOpen path seen cause before after

-- a look at a path told of no regular file
abbrev pub TellsNoFile : Result Seen Cause → Type 0
TellsNoFile (Ok seen) = seen.kind ≡ File → ⊥
TellsNoFile (Err cause) = IsNothing cause ⊎ HidesNoName cause

-- what stands at a path is made durable, if it is a regular file; or the look at it failed
abbrev pub SyncsEntry : List ℕ → Result ⊤ Unsynced → Log → Log → Type 0
SyncsEntry path result before after =
    ((seen : Seen) × (seen.kind ≡ File) × SyncsSeen path seen result (and_call (Looked path (Ok seen)) before) after)
    ⊎ (IsOk result × (told : Result Seen Cause) × TellsNoFile told × (after ≡ and_call (Looked path told) before))
    ⊎ ((result ≡ Err NotOpened) × (cause : Cause) × (TellsNoFile (Err cause) → ⊥) × (after ≡ and_call (Looked path (Err cause)) before))

-- so is what has a name in a folder, where that is a text, and one of a file on its way
abbrev pub SyncsWay : List ℕ → List ℕ → Result ⊤ Unsynced → Log → Log → Type 0
SyncsWay folder name result before after =
    ((IsTrue (is_utf8 name) → IsWayFile folder name → ⊥) × IsOk result × (after ≡ before)) ⊎ (IsWayFile folder name × SyncsEntry (folder ++ name) result before after)

-- so is what has these names, one after another, up to one at which that fails
abbrev pub SyncsWays : List ℕ → List (List ℕ) → Result ⊤ Unsynced → Log → Log → Type 0
SyncsWays folder [] result before after = IsOk result × (after ≡ before)
SyncsWays folder (name ∷ names) result before after =
    (IsErr result × SyncsWay folder name result before after)
    ⊎ ((between : Log) × SyncsWay folder name done before between × SyncsWays folder names result between after)

-- so often names of a folder that is entered were read, and what has them was made durable
pub data ReadsWays (folder : List ℕ) (before : Log) : ℕ → Log → Type 0 where
  NoWayRead : ReadsWays folder before 0 before
  ReadsMoreWays : {count : ℕ} {read after : Log} (bytes : List ℕ) → ReadsWays folder before count read
      → SyncsWays folder (names_in bytes) done (and_call (Named folder (Ok bytes)) read) after → ReadsWays folder before (count + 1) after

-- all names of a folder that is entered are read so; or no more are given, or a file isn't made durable, or there is no end of them
abbrev pub SyncsNamed : List ℕ → Result ⊤ Unsynced → Log → Log → Type 0
SyncsNamed folder result before after =
    (count : ℕ) × (read : Log) × ReadsWays folder before count read
    × ((IsOk result × (after ≡ and_call (Named folder (Ok [])) read))
    ⊎ ((result ≡ Err NotOpened) × (cause : Cause) × (after ≡ and_call (Named folder (Err cause)) read))
    ⊎ (IsErr result × (bytes : List ℕ) × SyncsWays folder (names_in bytes) result (and_call (Named folder (Ok bytes)) read) after)
    ⊎ ((result ≡ Err NotOpened) × (last_count ≤ count) × (after ≡ read)))

-- the files on their way in a folder, whose path has no slash at its end, are made durable; or that path is too long, or the folder can't be entered
unfoldable pub SyncsAllWays : List ℕ → Result ⊤ Unsynced → Log → Log → Type 0
SyncsAllWays top result before after =
    ((PATH_ROOM ≤ length top + 1) × (result ≡ Err NotOpened) × (after ≡ before))
    ⊎ ((result ≡ Err NotOpened) × (cause : Cause) × (after ≡ and_call (Entered (with_slash top) (Failed cause)) before))
    ⊎ SyncsNamed (with_slash top) result (and_call (Entered (with_slash top) Done) before) after
