-- Calls of a vault that change nothing but what is within its folder, and give no file another name.
use Rattle.std.proofs.Common.{◌∙◌, ◌+◌, ◌∷◌, [], Bool, true, false, List, ℕ, Ok, Err, refl, inl, inr, ap, subst, sym, length, take, append_assoc, codes}
use Rattle.std.specs.Prelude.{◌⊎◌}
use Rattle.std.proofs.Math.Seq.{take-append_seam}
use Rattle.cv_system.specs.declared.seen.Seen.{Seen}
use Rattle.cv_system.specs.Calls.{Call, Cause, Checked, Done, Entered, Failed, Locked, Log, Looked, Made, Named, Opened, Outcome, Read, Removed, Unmade}
use Rattle.cv_system.specs.Looks.{FailsToReadFile, MissesFolder, OpensFile, ReadsFile, SeesFolders, folders_past}
use Rattle.cv_base.specs.Path.{with_slash}
use Rattle.cv_system.specs.Names.{folder_of, next_of, path_of, stands_at}
use Rattle.cv_system.specs.Steps.{IsLook, Makes, Still, Then, Tries}
use Rattle.cv_system.specs.Walks.{IsUnder}
use Rattle.cv_system.proofs.Laws.{folder_under, more_under, no_step, one_call, steps_then, steps_wider, under}
use Rattle.cv_folder.specs.declared.hold.Hold.{Hold}
use Rattle.cv_folder.specs.declared.hold.Hold.TheVariants.{Absent, Held, Refused, Unasked}
use Rattle.cv_folder.specs.Hold.{Asked, AskedAt, Asks, Begins, Locks, LocksNot, MakesRoot, OpensNot}
use Rattle.cv_folder.specs.Listed.{IsListing}
use Rattle.cv_folder.specs.Reads.{HasFile, LacksFile, LooksInVain}
use Rattle.cv_folder.specs.Within.{ChangesWithin, IsWithin, RenamesNothing}
use Rattle.cv_folder.specs.Writes.{IsOnWay, Prepares, SeesNoOther, SeesOther}

-- a call that changes what is within a folder at most, and gives no file another name
abbrev pub Quiet : List ℕ → Call → Type 0
Quiet root call = ChangesWithin root call × RenamesNothing call

look_quiet : (root : List ℕ) (call : Call) → IsLook call → Quiet root call
look_quiet root (Looked path seen) look = (tt, tt)
look_quiet root call look = absurd look

listing_quiet : (root front : List ℕ) (call : Call) → IsListing front call → Quiet root call
listing_quiet root front (Looked path seen) listing = (tt, tt)
listing_quiet root front (Entered folder out) listing = (tt, tt)
listing_quiet root front (Named folder names) listing = (tt, tt)
listing_quiet root front call listing = absurd listing

module _ (root : List ℕ) where
  pub looks_quiet : (before after : Log) → Makes IsLook before after → Makes (Quiet root) before after
  looks_quiet before after looks = steps_wider (λ one other (call, look, is). (call, look_quiet root call look, is)) looks

  -- ---- files that are looked for and read

  sees_quiet : (folders : List (List ℕ)) (before after : Log) → SeesFolders folders before after → Makes (Quiet root) before after
  sees_quiet [] before after same = no_step same
  sees_quiet (folder ∷ folders) before after (seen, is_folder, rest) = steps_then (one_call (Looked folder (Ok seen)) (tt, tt) refl) (sees_quiet folders _ after rest)

  misses_quiet : (folders : List (List ℕ)) (before after : Log) → MissesFolder folders before after → Makes (Quiet root) before after
  misses_quiet [] before after never = absurd never
  misses_quiet (folder ∷ folders) before after (inl (seen, none, is)) = one_call (Looked folder seen) (tt, tt) is
  misses_quiet (folder ∷ folders) before after (inr (seen, is_folder, rest)) = steps_then (one_call (Looked folder (Ok seen)) (tt, tt) refl) (misses_quiet folders _ after rest)

  module _ {F : Type 0} (name : List ℕ) (hold : Hold F) (before after : Log) where
    pub has_quiet : (seen : Seen) → HasFile root name hold seen before after → Makes (Quiet root) before after
    unfolding HasFile
    has_quiet seen (held, named, (is_file, folders)) =
        steps_then (one_call (Looked (path_of root name) (Ok seen)) (tt, tt) refl) (sees_quiet (folders_past (length root + 1) (path_of root name)) _ after folders)

    pub lacks_quiet : LacksFile root name hold before after → Makes (Quiet root) before after
    unfolding LacksFile
    lacks_quiet (inl (absent, same)) = no_step same
    lacks_quiet (inr (held, named, inl (told, none, is))) = one_call (Looked (path_of root name) told) (tt, tt) is
    lacks_quiet (inr (held, named, inr (seen, is_file, misses))) =
        steps_then (one_call (Looked (path_of root name) (Ok seen)) (tt, tt) refl) (misses_quiet (folders_past (length root + 1) (path_of root name)) _ after misses)

    pub in_vain_quiet : LooksInVain root name hold before after → Makes (Quiet root) before after
    unfolding LooksInVain
    in_vain_quiet (inl (unserved, same)) = no_step same
    in_vain_quiet (inr (held, named, looks)) = looks_quiet before after looks

  opens_quiet : (path : List ℕ) (seen : Seen) (before after : Log) → OpensFile path seen before after → Makes (Quiet root) before after
  opens_quiet path seen before after (opened, is_file, same, is) =
      subst (Makes (Quiet root) before) (sym is) (Then (Then Still (Opened path Done, (tt, tt), refl)) (Checked path (Ok opened), (tt, tt), refl))

  pub reads_quiet : (path bytes : List ℕ) (seen : Seen) (before after : Log) → ReadsFile path seen bytes before after → Makes (Quiet root) before after
  reads_quiet path bytes seen before after (opened, again, opens, is) =
      steps_then (opens_quiet path seen before opened opens) (Then (one_call (Checked path (Ok again)) (tt, tt) refl) (Read path (Ok bytes), (tt, tt), is))

  pub unread_quiet : (path : List ℕ) (seen : Seen) (cause : Cause) (before after : Log) → FailsToReadFile path seen cause before after → Makes (Quiet root) before after
  unread_quiet path seen cause before after (inl (inl is)) = one_call (Opened path (Failed cause)) (tt, tt) is
  unread_quiet path seen cause before after (inl (inr (inl is))) = Then (one_call (Opened path Done) (tt, tt) refl) (Checked path (Err cause), (tt, tt), is)
  unread_quiet path seen cause before after (inl (inr (inr (invalid, (opened, other, is))))) = Then (one_call (Opened path Done) (tt, tt) refl) (Checked path (Ok opened), (tt, tt), is)
  unread_quiet path seen cause before after (inr (opened, opens, inl is)) = Then (opens_quiet path seen before opened opens) (Checked path (Err cause), (tt, tt), is)
  unread_quiet path seen cause before after (inr (opened, opens, inr (again, is))) =
      steps_then (opens_quiet path seen before opened opens) (Then (one_call (Checked path (Ok again)) (tt, tt) refl) (Read path (Err cause), (tt, tt), is))

  pub lists_quiet : (front : List ℕ) (before after : Log) → Makes (IsListing front) before after → Makes (Quiet root) before after
  lists_quiet front before after lists = steps_wider (λ one other (call, listing, is). (call, listing_quiet root front call listing, is)) lists

  pub other_quiet : (seen : Seen) (path : List ℕ) (before after : Log) → SeesOther seen path before after → Makes (Quiet root) before after
  other_quiet seen path before after (more, other, same, is) = one_call (Looked path (Ok other)) (tt, tt) is

  pub no_other_quiet : (seen : Seen) (path : List ℕ) (before after : Log) → SeesNoOther seen path before after → Makes (Quiet root) before after
  no_other_quiet seen path before after (inl (one, same)) = no_step same
  no_other_quiet seen path before after (inr (more, other, is_other, is)) = one_call (Looked path other) (tt, tt) is

  -- ---- what is within the folder

  -- the path of a name
  pub path_within : (name : List ℕ) → IsUnder root (path_of root name)
  unfolding IsUnder
  path_within name = (stands_at name, sym (append_assoc root (47 ∷ []) (stands_at name)))

  -- that of the own file beside it
  pub next_within : (name : List ℕ) → IsUnder root (next_of root name)
  next_within name = more_under root (folder_of (path_of root name)) (codes ".cvkit-next") (folder_under root (path_of root name) (path_within name))

  -- a folder on its way
  on_way_within : (name folder : List ℕ) → IsOnWay (length root + 1) (path_of root name) folder → IsUnder root folder
  on_way_within name folder (rest, is, size) =
      subst (IsUnder root) (ap (take (length folder)) (append_assoc root (47 ∷ []) (stands_at name) ∙ is) ∙ take-append_seam folder (47 ∷ rest)) (under root (stands_at name) (length folder) size)

  -- folders that are made on it
  pub prepares_quiet : (name : List ℕ) (noted : List ℕ → Bool) (before after : Log) → Prepares (length root + 1) (path_of root name) noted before after → Makes (Quiet root) before after
  unfolding Prepares
  prepares_quiet name noted before after Still = Still
  prepares_quiet name noted before after (Then {between} steps (inl looks)) = steps_then (prepares_quiet name noted before between steps) (looks_quiet between after looks)
  prepares_quiet name noted before after (Then {between} steps (inr (folder, on, above, (cause, made, nothing, is)))) =
      steps_then (prepares_quiet name noted before between steps)
      (Then (one_call (Looked folder (Err cause)) (tt, tt) refl) (Made folder made, (inr (on_way_within name folder on), tt), is))

  -- ---- how the folder is held

  opens_not_quiet : (slashed : List ℕ) (cause : Cause) (before after : Log) → OpensNot slashed cause before after ⊎ LocksNot slashed cause before after → Makes (Quiet root) before after
  opens_not_quiet slashed cause before after (inl is) = one_call (Opened slashed (Failed cause)) (tt, tt) is
  opens_not_quiet slashed cause before after (inr is) = Then (one_call (Opened slashed Done) (tt, tt) refl) (Locked slashed (Err cause), (tt, tt), is)

  locks_quiet : (slashed : List ℕ) (given : Bool) (before after : Log) → Locks slashed given before after → Makes (Quiet root) before after
  locks_quiet slashed given before after is = Then (one_call (Opened slashed Done) (tt, tt) refl) (Locked slashed (Ok given), (tt, tt), is)

  asked_at_quiet : {F : Type 0} (slashed : List ℕ) (hold : Hold F) (before after : Log) → AskedAt slashed hold before after → Makes (Quiet root) before after
  unfolding AskedAt
  asked_at_quiet slashed (Held file) before after is = locks_quiet slashed true before after is
  asked_at_quiet slashed Refused before after is = locks_quiet slashed false before after is
  asked_at_quiet slashed Absent before after (cause, absent, is) = one_call (Opened slashed (Failed cause)) (tt, tt) is
  asked_at_quiet slashed Unasked before after (cause, inl (there, is)) = opens_not_quiet slashed cause before after (inl is)
  asked_at_quiet slashed Unasked before after (cause, inr is) = opens_not_quiet slashed cause before after (inr is)

  asked_quiet : {F : Type 0} (hold : Hold F) (before after : Log) → Asked root hold before after → Makes (Quiet root) before after
  unfolding Asked
  asked_quiet hold before after (inl (is_root, at)) = asked_at_quiet (with_slash root) hold before after at
  asked_quiet hold before after (inr (never, refused, same)) = no_step same

  pub asks_quiet : {F : Type 0} (was hold : Hold F) (before after : Log) → Asks root was hold before after → Makes (Quiet root) before after
  unfolding Asks
  asks_quiet Unasked hold before after asked = asked_quiet hold before after asked
  asks_quiet (Held file) hold before after (is, same) = no_step same
  asks_quiet Absent hold before after (is, same) = no_step same
  asks_quiet Refused hold before after (is, same) = no_step same

  made_quiet : (out : Outcome) → Quiet root (Made root out)
  made_quiet out = (inl refl, tt)

  makes_quiet : {F : Type 0} (hold : Hold F) (before after : Log) → MakesRoot root hold before after → Makes (Quiet root) before after
  unfolding MakesRoot
  makes_quiet (Held file) before after is = steps_then (one_call (Made root Done) (made_quiet Done) refl) (locks_quiet (with_slash root) true _ after is)
  makes_quiet Refused before after (inl (cause, taken, is)) = one_call (Made root (Failed cause)) (made_quiet (Failed cause)) is
  makes_quiet Refused before after (inr is) = steps_then (one_call (Made root Done) (made_quiet Done) refl) (locks_quiet (with_slash root) false _ after is)
  makes_quiet Absent before after (inl same) = no_step same
  makes_quiet Absent before after (inr (inl (cause, free, is))) = one_call (Made root (Failed cause)) (made_quiet (Failed cause)) is
  makes_quiet Absent before after (inr (inr (cause, (gone, tried, fails, is)))) =
      Then (steps_then (one_call (Made root Done) (made_quiet Done) refl) (opens_not_quiet (with_slash root) cause _ tried fails)) (Unmade root gone, (inl refl, tt), is)
  makes_quiet Unasked before after never = absurd never

  pub begins_quiet : {F : Type 0} (was hold : Hold F) (is_unsettled : Bool) (noted : List ℕ → Bool) (before after : Log) → Begins root was hold is_unsettled noted before after → Makes (Quiet root) before after
  unfolding Begins
  begins_quiet was hold is_unsettled noted before after (found, asked, asks, first, inl (is, same)) = steps_then (asks_quiet was found before asked asks) (no_step same)
  begins_quiet was hold is_unsettled noted before after (found, asked, asks, first, inr (absent, makes, above)) =
      steps_then (asks_quiet was found before asked asks) (makes_quiet hold asked after makes)

  -- a file that is removed, or tried to be
  pub removes_quiet : (path : List ℕ) (done : Bool) (before after : Log) → IsWithin root path → Tries (Removed path ∷ []) done before after → Makes (Quiet root) before after
  removes_quiet path done before after within (inl (made, is)) = one_call (Removed path Done) (within, tt) is
  removes_quiet path done before after within (inr (cause, never, is)) = one_call (Removed path (Failed cause)) (within, tt) is
