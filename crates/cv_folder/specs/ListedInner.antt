-- How a listing goes on. What only this crate's own functions say.
use Rattle.std.specs.Prelude.{ℕ, ◌≡◌, ◌⊎◌, ◌++◌, List, [], ◌∷◌, Option, Some, None, Result, Ok, Err, IsTrue, string_bytes}
use Rattle.std.specs.List.{All}
use Rattle.std.specs.declared.io.Error.{Error}
use Rattle.std.specs.declared.string.String.{String}
use Rattle.std.specs.declared.io.ErrorKind.TheVariants.{TimedOut}
use Rattle.cv_folder.specs.declared.listing.Listing.{Listing}
use Rattle.cv_system.specs.declared.seen.Seen.{Seen}
use Rattle.cv_system.specs.declared.seen.Kind.TheVariants.{File, Folder}
use Rattle.cv_system.specs.Calls.{Call, IsWant, Log, and_call, cause_of}
use Rattle.cv_folder.specs.GoingOn.{GoesOn}
use Rattle.cv_folder.specs.Listed.{IsListing, IsSkipped, Saw}
use Rattle.cv_system.specs.Looks.{folders_behind}
use Rattle.cv_system.specs.Names.{is_name, stands_at}
use Rattle.cv_system.specs.Steps.{HasFailed, Makes}

-- a name of the vault stands at this place below its folder
abbrev pub StandsHere : List ℕ → List ℕ → Type 0
StandsHere name place = IsTrue (is_name name) × (stands_at name ≡ place)

-- a name, if there is one, may be one more of those that were found
abbrev pub AddsName : {A : Type 0} → Option (String A) → List (List ℕ) → List (List ℕ) → Type 0
AddsName (Some name) found found' = (found' ≡ found) ⊎ (found' ≡ found ++ string_bytes name ∷ [])
AddsName None found found' = found' ≡ found

-- what the names in a folder begin with, if it may hold some, may be one more of what is still to be gone through
abbrev pub AddsFolder : {A : Type 0} → Option (String A) → List (String A) → List (String A) → Type 0
AddsFolder (Some below) todo todo' = (todo' ≡ todo) ⊎ (todo' ≡ todo ++ below ∷ [])
AddsFolder None todo todo' = todo' ≡ todo

-- what was seen is added: a regular file by its name, and a folder by what the names in it begin with
abbrev pub AddsSeen : {A : Type 0} → Option Seen → Option (String A) → Option (String A) → List (List ℕ) → List (List ℕ) → List (String A) → List (String A) → Type 0
AddsSeen (Some seen) name below found found' todo todo' =
    ((found' ≡ found) ⊎ ((seen.kind ≡ File) × AddsName name found found')) × ((todo' ≡ todo) ⊎ ((seen.kind ≡ Folder) × AddsFolder below todo todo'))
AddsSeen None name below found found' todo todo' = (found' ≡ found) × (todo' ≡ todo)

-- folders were seen on the way to what has this name below a front, and at it, where a slash ends it
abbrev pub SeesWay : List ℕ → List ℕ → Log → Log → Type 0
SeesWay front way before after = All (λ folder. Saw front Folder folder before after) (folders_behind front way)

-- a name was found below a front
abbrev pub FindsBelow : List ℕ → List ℕ → Log → Log → Type 0
FindsBelow front name before after =
    IsTrue (is_name name) × Saw front File (front ++ stands_at name) before after × SeesWay front (stands_at name) before after

-- where a listing is: it has found each name, and seen the way to each folder that may hold others
abbrev pub Stands : List ℕ → Listing → Log → Log → Type 0
Stands front listing before after =
    Makes (IsListing front) before after × All (λ name. FindsBelow front name before after) listing.found.items
    × All (λ way. SeesWay front (string_bytes way) before after) listing.todo.items

-- a listing goes on in a folder: wherever it began, it stands where it is if it did before, and saw the way to the folder
unfoldable pub ListsOn : List ℕ → List ℕ → Listing → Listing → Log → Log → Type 0
ListsOn front folder listing listing' before after =
    Makes (IsListing front) before after × ((start : Log) → Stands front listing start before → SeesWay front folder start before → Stands front listing' start after)

-- a part of a listing is done behind calls each of which was made or skipped, or it fails behind such: the last call failed, or memory was wanted in this
-- process, or there was no end of names
unfoldable pub GoesOrEnds : {T : Type 0} → Result T Error → Log → Log → Type 0
GoesOrEnds (Ok done) before after = GoesOn IsSkipped before after
GoesOrEnds (Err error) before after =
    ((between : Log) × (call : Call) × GoesOn IsSkipped before between × HasFailed (cause_of error) call × (after ≡ and_call call between))
    ⊎ ((IsWant (cause_of error) ⊎ ((cause_of error).kind ≡ TimedOut)) × GoesOn IsSkipped before after)
