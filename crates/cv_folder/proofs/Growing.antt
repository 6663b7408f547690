-- What lets the log of a system grow.
use Rattle.std.proofs.Common.{◌≡◌, ◌∷◌, [], Bool, true, false, List, ℕ, Some, Ok, Err, refl, inl, inr, string_bytes}
use Rattle.std.specs.Prelude.{◌⊎◌, ⊤}
use Rattle.std.specs.declared.io.Error.{Error}
use Rattle.cv_system.specs.declared.seen.Seen.{Seen}
use Rattle.cv_system.specs.Calls.{Cause, Done, Failed, Locked, Log, Looked, Made, Opened, Unmade, and_call}
use Rattle.cv_system.specs.Looks.{SeesFolders}
use Rattle.cv_base.specs.Path.{with_slash}
use Rattle.cv_system.specs.Names.{path_of}
use Rattle.cv_system.specs.Steps.{EndsFailed, Grows, Still, Then}
use Rattle.cv_system.proofs.Laws.{fails_now, fails_then, grows, no_step, one_call, steps_then}
use Rattle.cv_folder.proofs.Anew.{anew_makes}
use Rattle.cv_folder.specs.declared.folder_vault.FolderVault.{FolderVault}
use Rattle.cv_folder.specs.declared.hold.Hold.{Hold}
use Rattle.cv_folder.specs.declared.hold.Hold.TheVariants.{Absent, Held, Refused, Unasked}
use Rattle.cv_folder.specs.FolderVault.{Acts, AsksAlone}
use Rattle.cv_folder.specs.FolderVaultInner.{FindsNamed}
use Rattle.cv_folder.specs.Hold.{Asked, AskedAt, Asks, AsksInVain, Begins, LocksNot, MakesRoot, OpensNot}
use Rattle.cv_folder.specs.Reads.{HasFile}
use Rattle.cv_folder.specs.Writes.{Prepares, SeesNoOther, SeesOther, TriesAnew}

ends_grow : {cause : Cause} {before after : Log} → EndsFailed cause before after → Grows before after
ends_grow (between, call, made, out, is) = Then made (call, tt, is)

-- a folder that is opened can't be locked, or isn't opened
pub opens_fail : (folder : List ℕ) (cause : Cause) (before after : Log) → OpensNot folder cause before after ⊎ LocksNot folder cause before after → EndsFailed cause before after
opens_fail folder cause before after (inl is) = fails_now (Opened folder (Failed cause)) refl (λ look nothing. look) is
opens_fail folder cause before after (inr is) = fails_then (one_call (Opened folder Done) tt refl) (fails_now (Locked folder (Err cause)) refl (λ look nothing. look) is)

pub asks_fail : (folder : List ℕ) (cause : Cause) (before after : Log) → AsksInVain folder cause before after → EndsFailed cause before after
asks_fail folder cause before after (inl (never, is)) = opens_fail folder cause before after (inl is)
asks_fail folder cause before after (inr is) = opens_fail folder cause before after (inr is)

locks_grow : (folder : List ℕ) (given : Bool) (before after : Log) → after ≡ and_call (Locked folder (Ok given)) (and_call (Opened folder Done) before) → Grows before after
locks_grow folder given before after is = Then (one_call (Opened folder Done) tt refl) (Locked folder (Ok given), tt, is)

asked_at_grows : {F : Type 0} (folder : List ℕ) (hold : Hold F) (before after : Log) → AskedAt folder hold before after → Grows before after
unfolding AskedAt
asked_at_grows folder (Held file) before after is = locks_grow folder true before after is
asked_at_grows folder Refused before after is = locks_grow folder false before after is
asked_at_grows folder Absent before after (cause, absent, is) = one_call (Opened folder (Failed cause)) tt is
asked_at_grows folder Unasked before after (cause, vain) = ends_grow (asks_fail folder cause before after vain)

asked_grows : {F : Type 0} (root : List ℕ) (hold : Hold F) (before after : Log) → Asked root hold before after → Grows before after
unfolding Asked
asked_grows root hold before after (inl (is_root, at)) = asked_at_grows (with_slash root) hold before after at
asked_grows root hold before after (inr (never, refused, same)) = no_step same

pub asks_grow : {F : Type 0} (root : List ℕ) (was hold : Hold F) (before after : Log) → Asks root was hold before after → Grows before after
unfolding Asks
asks_grow root Unasked hold before after asked = asked_grows root hold before after asked
asks_grow root (Held file) hold before after (is, same) = no_step same
asks_grow root Absent hold before after (is, same) = no_step same
asks_grow root Refused hold before after (is, same) = no_step same

makes_grow : {F : Type 0} (root : List ℕ) (hold : Hold F) (before after : Log) → MakesRoot root hold before after → Grows before after
unfolding MakesRoot
makes_grow root (Held file) before after is = steps_then (one_call (Made root Done) tt refl) (locks_grow (with_slash root) true _ after is)
makes_grow root Refused before after (inl (cause, taken, is)) = one_call (Made root (Failed cause)) tt is
makes_grow root Refused before after (inr is) = steps_then (one_call (Made root Done) tt refl) (locks_grow (with_slash root) false _ after is)
makes_grow root Absent before after (inl same) = no_step same
makes_grow root Absent before after (inr (inl (cause, never, is))) = one_call (Made root (Failed cause)) tt is
makes_grow root Absent before after (inr (inr (cause, (gone, tried, fails, is)))) =
    Then (steps_then (one_call (Made root Done) tt refl) (ends_grow (opens_fail (with_slash root) cause _ tried fails))) (Unmade root gone, tt, is)
makes_grow root Unasked before after never = absurd never

pub begins_grow : {F : Type 0} (root : List ℕ) (was hold : Hold F) (is_unsettled : Bool) (noted : List ℕ → Bool) (before after : Log) → Begins root was hold is_unsettled noted before after → Grows before after
unfolding Begins
begins_grow root was hold is_unsettled noted before after (found, asked, asks, first, inl (is, same)) = steps_then (asks_grow root was found before asked asks) (no_step same)
begins_grow root was hold is_unsettled noted before after (found, asked, asks, first, inr (absent, makes, above)) =
    steps_then (asks_grow root was found before asked asks) (makes_grow root hold asked after makes)

pub prepares_grow : (from : ℕ) (path : List ℕ) (noted : List ℕ → Bool) (before after : Log) → Prepares from path noted before after → Grows before after
unfolding Prepares
prepares_grow from path noted before after Still = Still
prepares_grow from path noted before after (Then {between} steps (inl looks)) = steps_then (prepares_grow from path noted before between steps) (grows looks)
prepares_grow from path noted before after (Then {between} steps (inr (folder, on, above, (cause, made, nothing, is)))) =
    steps_then (prepares_grow from path noted before between steps) (Then (one_call (Looked folder (Err cause)) tt refl) (Made folder made, tt, is))

sees_grow : (folders : List (List ℕ)) (before after : Log) → SeesFolders folders before after → Grows before after
sees_grow [] before after same = no_step same
sees_grow (folder ∷ folders) before after (seen, is_folder, rest) = steps_then (one_call (Looked folder (Ok seen)) tt refl) (sees_grow folders _ after rest)

pub others_grow : (seen : Seen) (path : List ℕ) (before after : Log) → SeesNoOther seen path before after → Grows before after
others_grow seen path before after (inl (one, same)) = no_step same
others_grow seen path before after (inr (more, other, is_other, is)) = one_call (Looked path other) tt is

pub other_grows : (seen : Seen) (path : List ℕ) (before after : Log) → SeesOther seen path before after → Grows before after
other_grows seen path before after (more, other, same, is) = one_call (Looked path (Ok other)) tt is

module _ {S F N : Type 0} (log : S → Log) (before after : FolderVault S F N) where
  pub alone_grows : AsksAlone log before after → Grows (log before.system) (log after.system)
  unfolding AsksAlone
  alone_grows asks = asks_grow (string_bytes before.root) before.hold after.hold _ _ asks

  -- a file was found
  pub found_grows : (root name : List ℕ) (hold : Hold F) (seen : Seen) → Acts log (FindsNamed {E = Error} root name hold (Ok (Some seen))) before after → Grows (log before.system) (log after.system)
  unfolding Acts FindsNamed HasFile
  found_grows root name hold seen (asked, asks, (held, named, (is_file, folders))) =
      steps_then (Then (asks_grow (string_bytes before.root) before.hold after.hold _ asked asks) (Looked (path_of root name) (Ok seen), tt, refl)) (sees_grow _ _ _ folders)

-- a file that is created anew
pub anew_grows : (at : List ℕ) (all : Bool) (before after : Log) → TriesAnew at [] all before after → Grows before after
anew_grows at all before after tried = anew_makes (λ _. ⊤) at [] all before after (λ out. tt) (λ out. tt) tt tried
