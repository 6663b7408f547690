-- What a vault changes is within its folder, and a write gives a name to a whole file alone.
use Rattle.std.proofs.Common.{◌≡◌, ◌++◌, ◌∷◌, [], Bool, Decides, true, false, List, ℕ, Option, Some, None, Result, Ok, Err, Vec, refl, subst, inl, inr, map, codes, string_bytes, if◌then◌else◌}
use Rattle.std.specs.Prelude.{◌⊎◌, IsTrue}
use Rattle.cv_system.specs.declared.seen.Seen.{Seen}
use Rattle.cv_system.specs.declared.syncing.Unsynced.{Unsynced}
use Rattle.cv_system.specs.Calls.{Begun, Call, Created, Done, Ended, Failed, Log, Looked, Outcome, Removed, Renamed, Synced, Wrote, and_call}
use Rattle.cv_system.specs.Names.{folder_of, is_name, is_way, next_of, path_of}
use Rattle.cv_system.specs.Steps.{Makes, Still, Then, Tries}
use Rattle.cv_system.specs.Syncs.{syncs}
use Rattle.cv_system.specs.Walks.{IsUnder}
use Rattle.cv_system.specs.Ways.{SyncsAllWays}
use Rattle.cv_system.proofs.Laws.{all_ways_make, fails_all_makes, more_under, no_step, one_call, settles_all_makes, steps_then, steps_wider, sync_fails_make, syncs_make}
use Rattle.cv_folder.specs.declared.folder_vault.FolderVault.{FolderVault}
use Rattle.cv_folder.specs.declared.hold.Hold.{Hold}
use Rattle.cv_folder.specs.FolderVault.{Acts, SyncsDone}
use Rattle.cv_folder.specs.Listed.{ListsNamed}
use Rattle.cv_folder.specs.Reads.{MeasuresNamed, ReadsNamed}
use Rattle.cv_folder.specs.Syncs.{SettlesFirst, SyncsAll, SyncsHeld}
use Rattle.cv_folder.specs.Unsynced.{FailsFirst, FailsSync, SyncsInVain, SyncsNotAll}
use Rattle.cv_folder.specs.Within.{ChangesWithin, IsWithin, NamesWhole, RenamesNothing, StaysWithin}
use Rattle.cv_folder.specs.Writes.{MovesFile, MovesNamed, Puts, RemovesNamed, TriesAnew, WritesFile, made_at, named_by, put}
use Rattle.cv_folder.proofs.Quiet.{Quiet, asks_quiet, begins_quiet, has_quiet, in_vain_quiet, lacks_quiet, lists_quiet, next_within, no_other_quiet, other_quiet, path_within, prepares_quiet, reads_quiet, removes_quiet, unread_quiet}
use Rattle.cv_folder.proofs.Anew.{AreSuch, anew_makes, anew_then, not_anew}
use Rattle.cv_folder.proofs.Naming.{made_beside, made_on_way, named_beside, named_on_way}

-- what changes little stays within the folder
pub quiet_within : (root : List ℕ) (before after : Log) → Makes (Quiet root) before after → StaysWithin root before after
quiet_within root before after quiet = steps_wider (λ one other (call, such, is). (call, such.0, is)) quiet

-- and gives no file a name
quiet_names : (root next path bytes : List ℕ) (before after : Log) → Makes (Quiet root) before after → NamesWhole next path bytes before after
quiet_names root next path bytes before after quiet = steps_wider (λ one other (call, such, is). inl (call, such.1, is)) quiet

module _ (root : List ℕ) where
  -- ---- a call about a name

  module _ {F E : Type 0} (name : List ℕ) (hold : Hold F) (before after : Log) where
    reads_so : (result : Result (Option (List ℕ)) E) → ReadsNamed root name hold result before after → Makes (Quiet root) before after
    unfolding ReadsNamed
    reads_so (Ok (Some bytes)) (seen, found, has, reads) = steps_then (has_quiet root name hold before found seen has) (reads_quiet root (path_of root name) bytes seen found after reads)
    reads_so (Ok None) lacks = lacks_quiet root name hold before after lacks
    reads_so (Err error) (inl vain) = in_vain_quiet root name hold before after vain
    reads_so (Err error) (inr (seen, found, has, cause, fails)) = steps_then (has_quiet root name hold before found seen has) (unread_quiet root (path_of root name) seen cause found after fails)

    pub reads_within : (result : Result (Option (List ℕ)) E) → ReadsNamed root name hold result before after → StaysWithin root before after
    reads_within result reads = quiet_within root before after (reads_so result reads)

    measures_so : (result : Result (Option ℕ) E) → MeasuresNamed root name hold result before after → Makes (Quiet root) before after
    unfolding MeasuresNamed
    measures_so (Ok (Some size)) (seen, has, is) = has_quiet root name hold before after seen has
    measures_so (Ok None) lacks = lacks_quiet root name hold before after lacks
    measures_so (Err error) vain = in_vain_quiet root name hold before after vain

    pub measures_within : (result : Result (Option ℕ) E) → MeasuresNamed root name hold result before after → StaysWithin root before after
    measures_within result measures = quiet_within root before after (measures_so result measures)

    removes_so : (noted : List ℕ → Bool) (is_unsettled : Bool) (result : Result Bool E) → RemovesNamed root name hold noted is_unsettled result before after → Makes (Quiet root) before after
    unfolding RemovesNamed
    removes_so noted is_unsettled (Ok true) (seen, found, has, left, tried) =
        steps_then (has_quiet root name hold before found seen has) (removes_quiet root (path_of root name) true found after (inr (path_within root name)) tried)
    removes_so noted is_unsettled (Ok false) lacks = lacks_quiet root name hold before after lacks
    removes_so noted is_unsettled (Err error) (inl vain) = in_vain_quiet root name hold before after vain
    removes_so noted is_unsettled (Err error) (inr (seen, found, has, left, tried)) =
        steps_then (has_quiet root name hold before found seen has) (removes_quiet root (path_of root name) false found after (inr (path_within root name)) tried)

    pub removes_within : (noted : List ℕ → Bool) (is_unsettled : Bool) (result : Result Bool E) → RemovesNamed root name hold noted is_unsettled result before after → StaysWithin root before after
    removes_within noted is_unsettled result removes = quiet_within root before after (removes_so noted is_unsettled result removes)

  pub lists_within : {F Z E : Type 0} (hold : Hold F) (result : Result (Vec (List ℕ) Z) E) (before after : Log) → ListsNamed root hold result before after → StaysWithin root before after
  unfolding ListsNamed
  lists_within hold (Ok names) before after (inl (absent, none, same)) = no_step same
  lists_within hold (Ok names) before after (inr (held, lists)) = quiet_within root before after (lists_quiet root _ before after lists.0)
  lists_within hold (Err error) before after (inl (never, same)) = no_step same
  lists_within hold (Err error) before after (inr (held, lists)) = quiet_within root before after (lists_quiet root _ before after lists)

  -- ---- a file that gets another name

  module _ (from to : List ℕ) where
    renames_within : (done : Bool) (before after : Log) → Tries (Renamed (path_of root from) (path_of root to) ∷ []) done before after → StaysWithin root before after
    renames_within done before after (inl (made, is)) = one_call (Renamed (path_of root from) (path_of root to) Done) (inr (path_within root from), inr (path_within root to)) is
    renames_within done before after (inr (cause, never, is)) = one_call (Renamed (path_of root from) (path_of root to) (Failed cause)) (inr (path_within root from), inr (path_within root to)) is

    moves_file_within : (seen : Seen) (done : Bool) (before after : Log) → MovesFile (path_of root from) (path_of root to) seen done before after → StaysWithin root before after
    unfolding MovesFile
    moves_file_within seen done before after (inl (looked, no_other, tried)) =
        steps_then (quiet_within root before looked (no_other_quiet root seen (path_of root to) before looked no_other)) (renames_within done looked after tried)
    moves_file_within seen done before after (inr (inl (looked, other, tried))) =
        quiet_within root before after (steps_then (other_quiet root seen (path_of root to) before looked other) (removes_quiet root (path_of root from) done looked after (inr (path_within root from)) tried))
    moves_file_within seen done before after (inr (inr (never, more, cause, there, is))) = one_call (Looked (path_of root to) (Err cause)) tt is

    module _ {F E : Type 0} (hold : Hold F) (noted : List ℕ → Bool) (before after : Log) where
      pub moves_within : (result : Result Bool E) → MovesNamed root from to hold noted result before after → StaysWithin root before after
      unfolding MovesNamed
      moves_within (Ok true) (seen, found, ready, has, prepares, leads, left, moves) =
          steps_then (quiet_within root before ready (steps_then (has_quiet root from hold before found seen has) (prepares_quiet root to noted found ready prepares))) (moves_file_within seen true ready after moves)
      moves_within (Ok false) lacks = quiet_within root before after (lacks_quiet root from hold before after lacks)
      moves_within (Err error) (inl vain) = quiet_within root before after (in_vain_quiet root from hold before after vain)
      moves_within (Err error) (inr (seen, found, has, inl same)) = steps_then (quiet_within root before found (has_quiet root from hold before found seen has)) (no_step same)
      moves_within (Err error) (inr (seen, found, has, inr (ready, prepares, inl (ends, same)))) =
          steps_then (quiet_within root before ready (steps_then (has_quiet root from hold before found seen has) (prepares_quiet root to noted found ready prepares))) (no_step same)
      moves_within (Err error) (inr (seen, found, has, inr (ready, prepares, inr (leads, left, moves)))) =
          steps_then (quiet_within root before ready (steps_then (has_quiet root from hold before found seen has) (prepares_quiet root to noted found ready prepares))) (moves_file_within seen false ready after moves)

  -- ---- a write

  module _ (name bytes : List ℕ) where
    next_so : IsWithin root (next_of root name)
    next_so = inr (next_within root name)

    path_so : IsWithin root (path_of root name)
    path_so = inr (path_within root name)

    made_within : IsWithin root (made_at root name)
    unfolding made_at
    made_within = elim (is_way name) as (λ (is : Bool). IsWithin root (if is then path_of root name else next_of root name)) [
      | true ↦ path_so
      | false ↦ next_so
    ]

    named_within : (at : List ℕ) → IsWithin root at → AreSuch (ChangesWithin root) (named_by name at (path_of root name))
    unfolding named_by
    named_within at within = elim (is_way name) as (λ (is : Bool). AreSuch (ChangesWithin root) (if is then Begun at ∷ [] else (Synced at ∷ Renamed at (path_of root name) ∷ []))) [
      | true ↦ (λ out. tt, tt)
      | false ↦ (λ out. tt, (λ out. (within, path_so), tt))
    ]

    anew_within : (at : List ℕ) → IsWithin root at → (all : Bool) (before after : Log) → TriesAnew at (put name at (path_of root name) bytes) all before after → StaysWithin root before after
    anew_within at within all before after tried =
        anew_makes (ChangesWithin root) at (put name at (path_of root name) bytes) all before after (λ out. within) (λ out. within) (λ out. within, named_within at within) tried

    puts_within : (done : Bool) (before after : Log) → Puts name (made_at root name) (path_of root name) bytes done before after → StaysWithin root before after
    unfolding Puts
    puts_within true before after anew = anew_within (made_at root name) made_within true before after anew
    puts_within false before after (inl none) = anew_within (made_at root name) made_within false before after (not_anew (made_at root name) (put name (made_at root name) (path_of root name) bytes) before after none)
    puts_within false before after (inr (made, tried, gone, anew, tries, is)) =
        Then (anew_within (made_at root name) made_within false before tried (anew_then (made_at root name) (put name (made_at root name) (path_of root name) bytes) false before made tried anew tries)) (Removed (made_at root name) gone, made_within, is)

    -- a way gets no other name
    way_names : (all : Bool) (before after : Log) → TriesAnew (path_of root name) (Wrote (path_of root name) bytes ∷ Begun (path_of root name) ∷ []) all before after
        → NamesWhole (next_of root name) (path_of root name) bytes before after
    way_names all before after tried =
        steps_wider (λ one other step. inl step)
        (anew_makes RenamesNothing (path_of root name) (Wrote (path_of root name) bytes ∷ Begun (path_of root name) ∷ []) all before after (λ out. tt) (λ out. tt) (λ out. tt, (λ out. tt, tt)) tried)

    put_names : (all : Bool) (before after : Log) → Tries (Wrote (next_of root name) bytes ∷ Synced (next_of root name) ∷ Renamed (next_of root name) (path_of root name) ∷ []) all (and_call (Created (next_of root name) Done) before) after
        → NamesWhole (next_of root name) (path_of root name) bytes before after
    put_names all before after (inl (inl (inl (made, is)))) = Then Still (inr is)
    put_names all before after (inl (inl (inr (cause, never, is)))) =
        Then (Then (Then (Then Still (inl (Created (next_of root name) Done, tt, refl))) (inl (Wrote (next_of root name) bytes Done, tt, refl))) (inl (Synced (next_of root name) Done, tt, refl)))
        (inl (Renamed (next_of root name) (path_of root name) (Failed cause), tt, is))
    put_names all before after (inl (inr (cause, never, is))) =
        Then (Then (Then Still (inl (Created (next_of root name) Done, tt, refl))) (inl (Wrote (next_of root name) bytes Done, tt, refl))) (inl (Synced (next_of root name) (Failed cause), tt, is))
    put_names all before after (inr (cause, never, is)) = Then (Then Still (inl (Created (next_of root name) Done, tt, refl))) (inl (Wrote (next_of root name) bytes (Failed cause), tt, is))

    -- any other name gets a whole file
    beside_names : (all : Bool) (before after : Log) → TriesAnew (next_of root name) (Wrote (next_of root name) bytes ∷ Synced (next_of root name) ∷ Renamed (next_of root name) (path_of root name) ∷ []) all before after
        → NamesWhole (next_of root name) (path_of root name) bytes before after
    beside_names all before after (inl tried) = put_names all before after tried
    beside_names all before after (inr (inl (never, cause, other, is))) = Then Still (inl (Created (next_of root name) (Failed cause), tt, is))
    beside_names all before after (inr (inr (cause, taken, inl (inl tried)))) =
        steps_then (Then (Then Still (inl (Created (next_of root name) (Failed cause), tt, refl))) (inl (Removed (next_of root name) Done, tt, refl))) (put_names all _ after tried)
    beside_names all before after (inr (inr (cause, taken, inl (inr (other, never, is))))) =
        Then (Then (Then Still (inl (Created (next_of root name) (Failed cause), tt, refl))) (inl (Removed (next_of root name) Done, tt, refl))) (inl (Created (next_of root name) (Failed other), tt, is))
    beside_names all before after (inr (inr (cause, taken, inr (other, never, is)))) =
        Then (Then Still (inl (Created (next_of root name) (Failed cause), tt, refl))) (inl (Removed (next_of root name) (Failed other), tt, is))

    anew_names : (way : Bool) → is_way name ≡ way → (all : Bool) (before after : Log) → TriesAnew (made_at root name) (put name (made_at root name) (path_of root name) bytes) all before after
        → NamesWhole (next_of root name) (path_of root name) bytes before after
    anew_names true is all before after tried =
        way_names all before after
        (subst (λ (calls : List (Outcome → Call)). TriesAnew (path_of root name) (Wrote (path_of root name) bytes ∷ calls) all before after) (named_on_way name (path_of root name) (path_of root name) is)
        (subst (λ (at : List ℕ). TriesAnew at (put name at (path_of root name) bytes) all before after) (made_on_way root name is) tried))
    anew_names false is all before after tried =
        beside_names all before after
        (subst (λ (calls : List (Outcome → Call)). TriesAnew (next_of root name) (Wrote (next_of root name) bytes ∷ calls) all before after) (named_beside name (next_of root name) (path_of root name) is)
        (subst (λ (at : List ℕ). TriesAnew at (put name at (path_of root name) bytes) all before after) (made_beside root name is) tried))

    puts_names : (done : Bool) (before after : Log) → Puts name (made_at root name) (path_of root name) bytes done before after → NamesWhole (next_of root name) (path_of root name) bytes before after
    unfolding Puts
    puts_names true before after anew = anew_names (is_way name) refl true before after anew
    puts_names false before after (inl none) = anew_names (is_way name) refl false before after (not_anew (made_at root name) (put name (made_at root name) (path_of root name) bytes) before after none)
    puts_names false before after (inr (made, tried, gone, anew, tries, is)) =
        Then (anew_names (is_way name) refl false before tried (anew_then (made_at root name) (put name (made_at root name) (path_of root name) bytes) false before made tried anew tries)) (inl (Removed (made_at root name) gone, tt, is))

    module _ {F : Type 0} (was hold : Hold F) (is_unsettled : Bool) (noted : List ℕ → Bool) (done : Bool) (before after : Log) where
      pub writes_within : WritesFile root name bytes was hold is_unsettled noted done before after → StaysWithin root before after
      unfolding WritesFile
      writes_within (begun, begins, inl (never, same)) = steps_then (quiet_within root before begun (begins_quiet root was hold is_unsettled noted before begun begins)) (no_step same)
      writes_within (begun, begins, inr (held, named, ready, prepares, inl (leads, puts))) =
          steps_then (quiet_within root before ready (steps_then (begins_quiet root was hold is_unsettled noted before begun begins) (prepares_quiet root name noted begun ready prepares)))
          (puts_within done ready after puts)
      writes_within (begun, begins, inr (held, named, ready, prepares, inr (never, ends, same))) =
          steps_then (quiet_within root before ready (steps_then (begins_quiet root was hold is_unsettled noted before begun begins) (prepares_quiet root name noted begun ready prepares))) (no_step same)

      pub writes_whole : WritesFile root name bytes was hold is_unsettled noted done before after → NamesWhole (next_of root name) (path_of root name) bytes before after
      unfolding WritesFile
      writes_whole (begun, begins, inl (never, same)) =
          steps_then (quiet_names root (next_of root name) (path_of root name) bytes before begun (begins_quiet root was hold is_unsettled noted before begun begins)) (no_step same)
      writes_whole (begun, begins, inr (held, named, ready, prepares, inl (leads, puts))) =
          steps_then
          (quiet_names root (next_of root name) (path_of root name) bytes before ready (steps_then (begins_quiet root was hold is_unsettled noted before begun begins) (prepares_quiet root name noted begun ready prepares)))
          (puts_names done ready after puts)
      writes_whole (begun, begins, inr (held, named, ready, prepares, inr (never, ends, same))) =
          steps_then
          (quiet_names root (next_of root name) (path_of root name) bytes before ready (steps_then (begins_quiet root was hold is_unsettled noted before begun begins) (prepares_quiet root name noted begun ready prepares)))
          (no_step same)

  -- ---- a sync

  own_within : (folder : List ℕ) (out : Outcome) → IsUnder root folder → ChangesWithin root (Removed (folder ++ codes ".cvkit-next") out)
  own_within folder out under = inr (more_under root folder (codes ".cvkit-next") under)

  syncs_within : (folders : List (List ℕ)) (all : Bool) (before after : Log) → Tries (syncs folders) all before after → StaysWithin root before after
  syncs_within folders all before after tried =
      syncs_make root (ChangesWithin root) (λ path told. tt) (λ path out. tt) (λ path out. tt) (λ folder out. tt) (λ folder told. tt) own_within folders all before after tried

  ways_within : (result : Result (Unit {0}) Unsynced) (before after : Log) → SyncsAllWays root result before after → StaysWithin root before after
  ways_within result before after syncs =
      all_ways_make (ChangesWithin root) (λ path told. tt) (λ path out. tt) (λ path told. tt) (λ path out. tt) (λ folder out. tt) (λ folder told. tt) root result before after syncs

  settles_within : (is_unsettled : Bool) (before after : Log) → SettlesFirst root is_unsettled before after → StaysWithin root before after
  unfolding SettlesFirst
  settles_within false before after same = no_step same
  settles_within true before after (ways, above, first, tried, settles) =
      steps_then (steps_then (ways_within (Ok tt) before ways first) (syncs_within (folder_of root ∷ []) true ways above tried))
      (settles_all_makes root (ChangesWithin root) (λ path told. tt) (λ path out. tt) (λ path out. tt) (λ folder out. tt) (λ folder told. tt) own_within above after settles)

  fails_first_within : (is_unsettled : Bool) (unsynced : Unsynced) (before after : Log) → FailsFirst root is_unsettled unsynced before after → StaysWithin root before after
  unfolding FailsFirst
  fails_first_within false unsynced before after never = absurd never
  fails_first_within true unsynced before after (inl fails) = ways_within (Err unsynced) before after fails
  fails_first_within true unsynced before after (inr (ways, first, inl fails)) =
      steps_then (ways_within (Ok tt) before ways first)
      (sync_fails_make root (ChangesWithin root) (λ path told. tt) (λ path out. tt) (λ path out. tt) (λ folder out. tt) (λ folder told. tt) own_within (folder_of root) unsynced ways after fails)
  fails_first_within true unsynced before after (inr (ways, first, inr (above, tried, fails))) =
      steps_then (steps_then (ways_within (Ok tt) before ways first) (syncs_within (folder_of root ∷ []) true ways above tried))
      (fails_all_makes root (ChangesWithin root) (λ path told. tt) (λ path out. tt) (λ path out. tt) (λ folder out. tt) (λ folder told. tt) own_within unsynced above after fails)

  module _ {F : Type 0} (was hold : Hold F) (is_unsettled : Bool) (noted : List (List ℕ)) (before after : Log) where
    held_within : SyncsHeld root was hold is_unsettled noted before after → StaysWithin root before after
    unfolding SyncsAll SyncsHeld
    held_within (inl (absent, same)) = no_step same
    held_within (inr (held, (settled, first, tried))) =
        steps_then (one_call (Ended Done) tt refl) (steps_then (settles_within _ _ settled first) (syncs_within noted true settled after tried))

    vain_within : (lost : Bool) → SyncsInVain root was hold is_unsettled noted lost before after → StaysWithin root before after
    unfolding SyncsInVain SyncsNotAll
    vain_within lost (inl (never, whole, same)) = no_step same
    vain_within lost (inr (held, unsynced, is, inl (told, cause, ended))) = one_call (Ended (Failed cause)) tt ended
    vain_within lost (inr (held, unsynced, is, inr (inl fails))) = steps_then (one_call (Ended Done) tt refl) (fails_first_within _ unsynced _ after fails)
    vain_within lost (inr (held, unsynced, is, inr (inr (settled, first, tried, ends)))) =
        steps_then (one_call (Ended Done) tt refl) (steps_then (settles_within _ _ settled first) (syncs_within noted false settled after tried))

-- a rename of a name to itself, or to what is no name, makes no call
pub either_way : {X : Type 0} (from to : List ℕ) (same : Bool) → Decides same (from ≡ to) → (named : Bool) → is_name to ≡ named
    → ((from ≡ to → ⊥) → IsTrue (is_name to) → X) → ((from ≡ to) ⊎ (is_name to ≡ false) → X) → X
either_way from to true decides named is acts rests = rests (inl (decides.0 refl))
either_way from to false decides false is acts rests = rests (inr is)
either_way from to false decides true is acts rests = acts (λ same. let never : false ≡ true = decides.1 same in cc) is

-- ---- the vault asks for its folder first

module _ {S F N : Type 0} (log : S → Log) (before after : FolderVault S F N) where
  pub acts_within : (Act : Log → Log → Type 0) → ((asked : Log) → Act asked (log after.system) → StaysWithin (string_bytes before.root) asked (log after.system))
      → Acts log Act before after → StaysWithin (string_bytes before.root) (log before.system) (log after.system)
  unfolding Acts
  acts_within Act so (asked, asks, act) = steps_then (quiet_within _ (log before.system) asked (asks_quiet (string_bytes before.root) before.hold after.hold (log before.system) asked asks)) (so asked act)

  pub sync_within : SyncsDone log before after → StaysWithin (string_bytes before.root) (log before.system) (log after.system)
  sync_within done = acts_within _ (λ asked syncs. held_within (string_bytes before.root) before.hold after.hold before.is_unsettled (map string_bytes before.folders.items) asked (log after.system) syncs) done

  pub vain_sync_within : FailsSync log before after → StaysWithin (string_bytes before.root) (log before.system) (log after.system)
  unfolding FailsSync
  vain_sync_within (inl (broken, rests)) = no_step rests.0
  vain_sync_within (inr (whole, acts)) =
      acts_within _ (λ asked vain. vain_within (string_bytes before.root) before.hold after.hold before.is_unsettled (map string_bytes before.folders.items) asked (log after.system) after.broken vain) acts
