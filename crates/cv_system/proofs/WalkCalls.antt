-- What calls a walk makes: it looks, opens, syncs, enters and reads, and removes what was left in a folder under its top.
use Rattle.std.proofs.Common.{◌++◌, ◌∷◌, [], Bool, true, false, List, ℕ, Result, Ok, Err, refl, inl, inr, subst, sym, codes}
use Rattle.cv_system.specs.declared.seen.Seen.{Seen}
use Rattle.cv_system.specs.declared.syncing.Unsynced.{Unsynced}
use Rattle.cv_system.specs.declared.syncing.Unsynced.TheVariants.{Lost, NotOpened}
use Rattle.cv_system.specs.Calls.{Call, Cause, Done, Entered, Failed, Log, Looked, Named, Opened, Outcome, Removed, Synced}
use Rattle.cv_base.specs.Path.{with_slash}
use Rattle.cv_system.specs.Names.{names_in}
use Rattle.cv_system.specs.Passed.{IsShut, Passes, StopsAt}
use Rattle.cv_system.specs.Steps.{Makes, Still, Then, Tries}
use Rattle.cv_system.specs.Syncs.{ClearsFolder, FailsFolder, FailsToSync, FailsTop, PassesFolder, SettlesFolder, syncs}
use Rattle.cv_system.specs.Walks.{Begins, FailsAll, FailsAmong, FailsRound, FailsToLook, FailsToReadAll, FailsTurn, FindsNext, GoesRound, IsUnder, LooksAt, LooksAtAll, LooksFor, NoneRead, Reads, ReadsAll, ReadsMore, SettlesAll, Turns, TurnsMore, Walks, first_of}
use Rattle.cv_system.proofs.LastParts.{above_under, first_under, top_under}
use Rattle.cv_system.proofs.Stepping.{no_step, one_call, steps_then}

module _ (top : List ℕ) (IsSuch : Call → Type 0)
    (looked : (path : List ℕ) (told : Result Seen Cause) → IsSuch (Looked path told))
    (opened : (path : List ℕ) (out : Outcome) → IsSuch (Opened path out))
    (synced : (path : List ℕ) (out : Outcome) → IsSuch (Synced path out))
    (entered : (folder : List ℕ) (out : Outcome) → IsSuch (Entered folder out))
    (named : (folder : List ℕ) (told : Result (List ℕ) Cause) → IsSuch (Named folder told))
    (removed : (folder : List ℕ) (out : Outcome) → IsUnder top folder → IsSuch (Removed (folder ++ codes ".cvkit-next") out)) where
  pub syncs_make : (folders : List (List ℕ)) (all : Bool) (before after : Log) → Tries (syncs folders) all before after → Makes IsSuch before after
  syncs_make [] all before after (made, same) = no_step same
  syncs_make (folder ∷ folders) all before after (inl (inl tried)) =
      steps_then (Then (one_call (Opened folder Done) (opened folder Done) refl) (Synced folder Done, synced folder Done, refl)) (syncs_make folders all _ after tried)
  syncs_make (folder ∷ folders) all before after (inl (inr (cause, never, is))) =
      Then (one_call (Opened folder Done) (opened folder Done) refl) (Synced folder (Failed cause), synced folder (Failed cause), is)
  syncs_make (folder ∷ folders) all before after (inr (cause, never, is)) = one_call (Opened folder (Failed cause)) (opened folder (Failed cause)) is

  pub sync_fails_make : (folder : List ℕ) (unsynced : Unsynced) (before after : Log) → FailsToSync folder unsynced before after → Makes IsSuch before after
  sync_fails_make folder Lost before after (cause, is) =
      Then (one_call (Opened folder Done) (opened folder Done) refl) (Synced folder (Failed cause), synced folder (Failed cause), is)
  sync_fails_make folder NotOpened before after (cause, is) = one_call (Opened folder (Failed cause)) (opened folder (Failed cause)) is

  clears_make : (folder : List ℕ) (before after : Log) → IsUnder top folder → ClearsFolder folder before after → Makes IsSuch before after
  clears_make folder before after under (inl (long, same)) = no_step same
  clears_make folder before after under (inr (gone, is)) = one_call (Removed (folder ++ codes ".cvkit-next") gone) (removed folder gone under) is

  shut_make : (folder : List ℕ) (before after : Log) → IsShut folder before after → Makes IsSuch before after
  shut_make folder before after (inl (told, shut, is)) = one_call (Looked (folder ++ codes ".") told) (looked (folder ++ codes ".") told) is
  shut_make folder before after (inr (long, same)) = no_step same

  passes_make : (folder : List ℕ) (cause : Cause) (before after : Log) → Passes folder cause before after → Makes IsSuch before after
  passes_make folder cause before after (inl (none, same)) = no_step same
  passes_make folder cause before after (inr (refused, shut)) = shut_make folder before after shut

  stops_make : (folder : List ℕ) (cause : Cause) (before after : Log) → StopsAt folder cause before after → Makes IsSuch before after
  stops_make folder cause before after (inl (some, other, same)) = no_step same
  stops_make folder cause before after (inr (refused, (told, not, is))) = one_call (Looked (folder ++ codes ".") told) (looked (folder ++ codes ".") told) is

  settles_make : (folder : List ℕ) (before after : Log) → IsUnder top folder → SettlesFolder folder before after → Makes IsSuch before after
  settles_make folder before after under (cleared, clears, synced) = steps_then (clears_make folder before cleared under clears) (syncs_make (folder ∷ []) true cleared after synced)

  passed_make : (folder : List ℕ) (before after : Log) → IsUnder top folder → PassesFolder folder before after → Makes IsSuch before after
  passed_make folder before after under (cleared, cause, clears, passes) =
      steps_then (clears_make folder before cleared under clears) (steps_then (one_call (Opened folder (Failed cause)) (opened folder (Failed cause)) refl) (passes_make folder cause _ after passes))

  top_fails_make : (folder : List ℕ) (unsynced : Unsynced) (before after : Log) → IsUnder top folder → FailsTop folder unsynced before after → Makes IsSuch before after
  top_fails_make folder unsynced before after under (cleared, clears, fails) = steps_then (clears_make folder before cleared under clears) (sync_fails_make folder unsynced cleared after fails)

  folder_fails_make : (folder : List ℕ) (unsynced : Unsynced) (before after : Log) → IsUnder top folder → FailsFolder folder unsynced before after → Makes IsSuch before after
  folder_fails_make folder Lost before after under fails = top_fails_make folder Lost before after under fails
  folder_fails_make folder NotOpened before after under (cleared, cause, clears, stops) =
      steps_then (clears_make folder before cleared under clears) (steps_then (one_call (Opened folder (Failed cause)) (opened folder (Failed cause)) refl) (stops_make folder cause _ after stops))

  -- ---- names that are looked at

  looks_for_make : (folder entry : List ℕ) (is : Bool) (before after : Log) → LooksFor folder entry is before after → Makes IsSuch before after
  looks_for_make folder entry true before after (seen, is_folder, is) = one_call (Looked entry (Ok seen)) (looked entry (Ok seen)) is
  looks_for_make folder entry false before after (inl (seen, not, is)) = one_call (Looked entry (Ok seen)) (looked entry (Ok seen)) is
  looks_for_make folder entry false before after (inr (inl (cause, nothing, is))) = one_call (Looked entry (Err cause)) (looked entry (Err cause)) is
  looks_for_make folder entry false before after (inr (inr (cause, refused, shut))) =
      steps_then (one_call (Looked entry (Err cause)) (looked entry (Err cause)) refl) (shut_make folder _ after shut)

  look_fails_make : (folder entry : List ℕ) (before after : Log) → FailsToLook folder entry before after → Makes IsSuch before after
  look_fails_make folder entry before after (cause, stops) = steps_then (one_call (Looked entry (Err cause)) (looked entry (Err cause)) refl) (stops_make folder cause _ after stops)

  looks_at_make : (folder last name : List ℕ) (kept kept' : List (List ℕ)) (before after : Log) → LooksAt folder last name kept kept' before after → Makes IsSuch before after
  looks_at_make folder last name kept kept' before after (inl (never, same, still)) = no_step still
  looks_at_make folder last name kept kept' before after (inr (next, is, looks, keeps)) = looks_for_make folder (folder ++ name) is before after looks

  looks_all_make : (folder last : List ℕ) (names kept kept' : List (List ℕ)) (before after : Log) → LooksAtAll folder last names kept kept' before after → Makes IsSuch before after
  looks_all_make folder last [] kept kept' before after (same, still) = no_step still
  looks_all_make folder last (name ∷ names) kept kept' before after (between, seen, look, more) =
      steps_then (looks_at_make folder last name kept between before seen look) (looks_all_make folder last names between kept' seen after more)

  among_make : (folder last : List ℕ) (names kept : List (List ℕ)) (before after : Log) → FailsAmong folder last names kept before after → Makes IsSuch before after
  among_make folder last names kept before after (front, name, others, between, seen, split, looks, fails) =
      steps_then (looks_all_make folder last front kept between before seen looks) (look_fails_make folder (folder ++ name) seen after fails)

  -- ---- folders that are read

  module _ (folder last : List ℕ) (kept : List (List ℕ)) where
    reads_make : {before : Log} {count : ℕ} {kept' : List (List ℕ)} {after : Log} → Reads folder last kept before count kept' after → Makes IsSuch before after
    reads_make NoneRead = Still
    reads_make (ReadsMore {count} {between} {kept'} {read} {after} bytes reads looks) =
        steps_then (reads_make reads)
        (steps_then (one_call (Named folder (Ok bytes)) (named folder (Ok bytes)) refl) (looks_all_make folder last (names_in bytes) between kept' _ after looks))

    reads_all_make : (kept' : List (List ℕ)) (before after : Log) → ReadsAll folder last kept kept' before after → Makes IsSuch before after
    reads_all_make kept' before after (count, read, reads, is) = Then (reads_make reads) (Named folder (Ok []), named folder (Ok []), is)

    reads_fail_make : (before after : Log) → FailsToReadAll folder last kept before after → Makes IsSuch before after
    reads_fail_make before after (count, between, read, reads, inl (cause, is)) = Then (reads_make reads) (Named folder (Err cause), named folder (Err cause), is)
    reads_fail_make before after (count, between, read, reads, inr (inl (bytes, among))) =
        steps_then (reads_make reads) (steps_then (one_call (Named folder (Ok bytes)) (named folder (Ok bytes)) refl) (among_make folder last (names_in bytes) between _ after among))
    reads_fail_make before after (count, between, read, reads, inr (inr (many, same))) = steps_then (reads_make reads) (no_step same)

    round_make : (kept' : List (List ℕ)) (before after : Log) → GoesRound top folder last kept kept' before after → Makes IsSuch before after
    round_make kept' before after (inl reads) = steps_then (one_call (Entered folder Done) (entered folder Done) refl) (reads_all_make kept' _ after reads)
    round_make kept' before after (inr (below, same, cause, passes)) =
        steps_then (one_call (Entered folder (Failed cause)) (entered folder (Failed cause)) refl) (passes_make folder cause _ after passes)

    round_fails_make : (before after : Log) → FailsRound top folder last kept before after → Makes IsSuch before after
    round_fails_make before after (inl reads) = steps_then (one_call (Entered folder Done) (entered folder Done) refl) (reads_fail_make _ after reads)
    round_fails_make before after (inr (inl (at_top, cause, is))) = one_call (Entered folder (Failed cause)) (entered folder (Failed cause)) is
    round_fails_make before after (inr (inr (cause, stops))) =
        steps_then (one_call (Entered folder (Failed cause)) (entered folder (Failed cause)) refl) (stops_make folder cause _ after stops)

    next_make : (kept' : List (List ℕ)) (before after : Log) → FindsNext top folder last kept kept' before after → Makes IsSuch before after
    next_make kept' before after (inl (inside, same, still)) = no_step still
    next_make kept' before after (inr (outside, round)) = round_make kept' before after round

    -- ---- turns

    turn_make : (folder' last' : List ℕ) (kept' : List (List ℕ)) (before after : Log) → Turns top folder last kept folder' last' kept' before after → Makes IsSuch before after
    turn_make folder' last' kept' before after (found, seen, finds, inl (inside, under, at, now, rest, inl settles)) =
        steps_then (next_make found before seen finds) (settles_make folder' seen after under settles)
    turn_make folder' last' kept' before after (found, seen, finds, inl (inside, under, at, now, rest, inr passes)) =
        steps_then (next_make found before seen finds) (passed_make folder' seen after under passes)
    turn_make folder' last' kept' before after (found, seen, finds, inr (outside, longer, at, now, rest, still)) = steps_then (next_make found before seen finds) (no_step still)

    turn_under : (folder' last' : List ℕ) (kept' : List (List ℕ)) (before after : Log) → IsUnder top folder → Turns top folder last kept folder' last' kept' before after → IsUnder top folder'
    turn_under folder' last' kept' before after above_it (found, seen, finds, inl (inside, under, at, now, rest, settles)) = under
    turn_under folder' last' kept' before after above_it (found, seen, finds, inr (outside, longer, at, now, rest, still)) = subst (IsUnder top) (sym at) (above_under top folder longer above_it)

    turn_fails_make : (unsynced : Unsynced) (before after : Log) → IsUnder top folder → FailsTurn top folder last kept unsynced before after → Makes IsSuch before after
    turn_fails_make unsynced before after under (inl (not, outside, round)) = round_fails_make before after round
    turn_fails_make unsynced before after under (inr (found, seen, finds, inside, fails)) =
        steps_then (next_make found before seen finds) (folder_fails_make (first_of found) unsynced seen after (first_under top folder (first_of found) inside under) fails)

  walks_under : {before : Log} {turns : ℕ} {folder last : List ℕ} {kept : List (List ℕ)} {after : Log} → Walks top before turns folder last kept after → IsUnder top folder
  walks_under (Begins free settles) = top_under top
  walks_under (TurnsMore {turns} {folder} {last} {folder'} {last'} {kept} {kept'} {between} {after} walks turn) = turn_under folder last kept folder' last' kept' between after (walks_under walks) turn

  walks_make : {before : Log} {turns : ℕ} {folder last : List ℕ} {kept : List (List ℕ)} {after : Log} → Walks top before turns folder last kept after → Makes IsSuch before after
  walks_make (Begins {kept} {after} free settles) = settles_make (with_slash top) _ after (top_under top) settles
  walks_make (TurnsMore {turns} {folder} {last} {folder'} {last'} {kept} {kept'} {between} {after} walks turn) = steps_then (walks_make walks) (turn_make folder last kept folder' last' kept' between after turn)

  -- a walk that settles all
  pub settles_all_makes : (before after : Log) → SettlesAll top before after → Makes IsSuch before after
  unfolding SettlesAll
  settles_all_makes before after (turns, last, kept, found, between, walks, finds, outside) = steps_then (walks_make walks) (next_make (with_slash top) last kept found between after finds)

  -- and one that doesn't
  pub fails_all_makes : (unsynced : Unsynced) (before after : Log) → FailsAll top unsynced before after → Makes IsSuch before after
  unfolding FailsAll
  fails_all_makes unsynced before after (inl (long, is, same)) = no_step same
  fails_all_makes unsynced before after (inr (inl fails)) = top_fails_make (with_slash top) unsynced before after (top_under top) fails
  fails_all_makes unsynced before after (inr (inr (turns, folder, last, kept, between, walks, inl fails))) =
      steps_then (walks_make walks) (turn_fails_make folder last kept unsynced between after (walks_under walks) fails)
  fails_all_makes unsynced before after (inr (inr (turns, folder, last, kept, between, walks, inr (many, is, same)))) = steps_then (walks_make walks) (no_step same)
