-- Files on their way, made durable one after another.
use Rattle.std.proofs.Common.{◌≡◌, ◌∙◌, ◌+◌, ◌++◌, ◌∷◌, [], List, ℕ, Result, Ok, Err, ap, refl, subst, sym, take, inl, inr}
use Rattle.std.specs.Prelude.{◌↔◌, IfErr, IsOk, IsSome}
use Rattle.std.specs.declared.io.Error.{Error}
use Rattle.cv_base.specs.Path.{with_slash}
use Rattle.cv_system.specs.declared.seen.Seen.{Seen}
use Rattle.cv_system.specs.declared.syncing.Unsynced.{Unsynced}
use Rattle.cv_system.specs.declared.syncing.Unsynced.TheVariants.{Lost, NotOpened}
use Rattle.cv_system.specs.Calls.{Call, Cause, Checked, Done, Entered, Failed, Log, Looked, Named, Opened, Outcome, Synced, and_call, cause_of, outcome}
use Rattle.cv_system.specs.Looks.{FailsToOpen, OpensFile}
use Rattle.cv_system.specs.Names.{names_in}
use Rattle.cv_system.specs.Steps.{Makes, Still, Then}
use Rattle.cv_system.specs.Ways.{NoWayRead, ReadsMoreWays, ReadsWays, SyncsAllWays, SyncsEntry, SyncsNamed, SyncsSeen, SyncsWay, SyncsWays, done}
use Rattle.cv_system.proofs.Stepping.{no_step, one_call, steps_then}
use Rattle.cv_system.proofs.Trying.{told_before}

-- a file that was opened is synced, and this is told
pub seen_synced : (path : List ℕ) (seen : Seen) (synced : Result (Unit {0}) Error) (told : Result (Unit {0}) Unsynced) (before opened after : Log) → OpensFile path seen before opened
    → after ≡ and_call (Synced path (outcome synced)) opened → IsOk told ↔ IsOk synced → IfErr told (λ unsynced. unsynced ≡ Lost) → SyncsSeen path seen told before after
seen_synced path seen (Ok x) (Ok y) before opened after opens is same lost = (opened, opens, is)
seen_synced path seen (Ok x) (Err unsynced) before opened after opens is same lost = absurd (let never = same.1 refl in cc)
seen_synced path seen (Err error) (Ok y) before opened after opens is same lost = absurd (let never = same.0 refl in cc)
seen_synced path seen (Err error) (Err unsynced) before opened after opens is same lost =
    subst (λ (u : Unsynced). SyncsSeen path seen (Err u) before after) (sym lost) (opened, cause_of error, opens, is)

-- ---- names, one after another

module _ (folder : List ℕ) where
  ways_then : (names others : List (List ℕ)) (result : Result (Unit {0}) Unsynced) (before between after : Log)
      → SyncsWays folder names done before between → SyncsWays folder others result between after → SyncsWays folder (names ++ others) result before after
  ways_then [] others result before between after (ok, same) more = subst (λ (log : Log). SyncsWays folder others result log after) same more
  ways_then (name ∷ names) others result before between after (inl (never, way)) more = absurd (cc)
  ways_then (name ∷ names) others result before between after (inr (next, way, rest)) more = inr (next, way, ways_then names others result next between after rest more)

  -- one name more
  pub one_way_more : (names : List (List ℕ)) (name : List ℕ) (before between after : Log)
      → SyncsWays folder names done before between → SyncsWay folder name done between after → SyncsWays folder (names ++ name ∷ []) done before after
  one_way_more names name before between after so_far way = ways_then names (name ∷ []) done before between after so_far (inr (after, way, (refl, refl)))

  -- what has it isn't made durable, whatever comes behind
  pub way_fails : (all names : List (List ℕ)) (name : List ℕ) (others : List (List ℕ)) (unsynced : Unsynced) (before between after : Log) → all ≡ names ++ name ∷ others
      → SyncsWays folder names done before between → SyncsWay folder name (Err unsynced) between after → SyncsWays folder all (Err unsynced) before after
  way_fails all names name others unsynced before between after is so_far way =
      subst (λ (them : List (List ℕ)). SyncsWays folder them (Err unsynced) before after) (sym is)
      (ways_then names (name ∷ others) (Err unsynced) before between after so_far (inl (refl, way)))

  -- it is the last name
  pub last_way : (all names : List (List ℕ)) (name : List ℕ) (result : Result (Unit {0}) Unsynced) (before between after : Log) → all ≡ names ++ name ∷ []
      → SyncsWays folder names done before between → SyncsWay folder name result between after → SyncsWays folder all result before after
  last_way all names name (Ok tt) before between after is so_far way =
      subst (λ (them : List (List ℕ)). SyncsWays folder them done before after) (sym is) (one_way_more names name before between after so_far way)
  last_way all names name (Err unsynced) before between after is so_far way = way_fails all names name [] unsynced before between after is so_far way

-- ---- what is read of a folder

module _ (folder : List ℕ) (before : Log) (count : ℕ) (read : Log) (reads : ReadsWays folder before count read) (named : Log) where
  -- no more names are given
  pub no_more_ways : (cause : Cause) → named ≡ and_call (Named folder (Err cause)) read → SyncsNamed folder (Err NotOpened) before named
  no_more_ways cause is = (count, read, reads, inr (inl (refl, cause, is)))

  -- there are none any more
  pub all_ways_read : (size : ℕ) (names : List ℕ) → named ≡ and_call (Named folder (Ok (take size names))) read → size ≡ 0 → SyncsNamed folder done before named
  all_ways_read size names is none = (count, read, reads, inl (refl, is ∙ ap (λ (n : ℕ). and_call (Named folder (Ok (take n names))) read) none))

  module _ (bytes : List ℕ) (is : named ≡ and_call (Named folder (Ok bytes)) read) (after : Log) where
    -- more names were read
    pub more_ways_read : SyncsWays folder (names_in bytes) done named after → ReadsWays folder before (count + 1) after
    more_ways_read ways = ReadsMoreWays bytes reads (subst (λ (log : Log). SyncsWays folder (names_in bytes) done log after) is ways)

    -- what has one of them isn't made durable
    pub read_way_fails : (unsynced : Unsynced) → SyncsWays folder (names_in bytes) (Err unsynced) named after → SyncsNamed folder (Err unsynced) before after
    read_way_fails unsynced ways =
        (count, read, reads, inr (inr (inl (refl, bytes, subst (λ (log : Log). SyncsWays folder (names_in bytes) (Err unsynced) log after) is ways))))

-- what was told behind calls was told before them
pub makes_told : {IsSuch : Call → Type 0} {before after : Log} → Makes IsSuch before after → IsSome after → IsSome before
makes_told Still some = some
makes_told (Then more (call, such, is)) some = makes_told more (told_before call _ _ is some)

-- ---- which calls are made

module _ (IsSuch : Call → Type 0)
    (looked : (path : List ℕ) (told : Result Seen Cause) → IsSuch (Looked path told))
    (opened : (path : List ℕ) (out : Outcome) → IsSuch (Opened path out))
    (checked : (path : List ℕ) (told : Result Seen Cause) → IsSuch (Checked path told))
    (synced : (path : List ℕ) (out : Outcome) → IsSuch (Synced path out)) where
  opens_make : (path : List ℕ) (seen : Seen) (before after : Log) → OpensFile path seen before after → Makes IsSuch before after
  opens_make path seen before after (found, is_file, same, is) = Then (one_call (Opened path Done) (opened path Done) refl) (Checked path (Ok found), checked path (Ok found), is)

  unopened_make : (path : List ℕ) (seen : Seen) (cause : Cause) (before after : Log) → FailsToOpen path seen cause before after → Makes IsSuch before after
  unopened_make path seen cause before after (inl is) = one_call (Opened path (Failed cause)) (opened path (Failed cause)) is
  unopened_make path seen cause before after (inr (inl is)) = Then (one_call (Opened path Done) (opened path Done) refl) (Checked path (Err cause), checked path (Err cause), is)
  unopened_make path seen cause before after (inr (inr (kind, (found, other, is)))) =
      Then (one_call (Opened path Done) (opened path Done) refl) (Checked path (Ok found), checked path (Ok found), is)

  seen_make : (path : List ℕ) (seen : Seen) (result : Result (Unit {0}) Unsynced) (before after : Log) → SyncsSeen path seen result before after → Makes IsSuch before after
  seen_make path seen (Ok x) before after (at, opens, is) = Then (opens_make path seen before at opens) (Synced path Done, synced path Done, is)
  seen_make path seen (Err Lost) before after (at, cause, opens, is) = Then (opens_make path seen before at opens) (Synced path (Failed cause), synced path (Failed cause), is)
  seen_make path seen (Err NotOpened) before after (cause, fails) = unopened_make path seen cause before after fails

  entry_make : (path : List ℕ) (result : Result (Unit {0}) Unsynced) (before after : Log) → SyncsEntry path result before after → Makes IsSuch before after
  entry_make path result before after (inl (seen, is_file, syncs)) =
      steps_then (one_call (Looked path (Ok seen)) (looked path (Ok seen)) refl) (seen_make path seen result _ after syncs)
  entry_make path result before after (inr (inl (ok, told, none, is))) = one_call (Looked path told) (looked path told) is
  entry_make path result before after (inr (inr (not, cause, some, is))) = one_call (Looked path (Err cause)) (looked path (Err cause)) is

  way_make : (folder name : List ℕ) (result : Result (Unit {0}) Unsynced) (before after : Log) → SyncsWay folder name result before after → Makes IsSuch before after
  way_make folder name result before after (inl (never, ok, same)) = no_step same
  way_make folder name result before after (inr (way, syncs)) = entry_make (folder ++ name) result before after syncs

  pub ways_make : (folder : List ℕ) (names : List (List ℕ)) (result : Result (Unit {0}) Unsynced) (before after : Log) → SyncsWays folder names result before after → Makes IsSuch before after
  ways_make folder [] result before after (ok, same) = no_step same
  ways_make folder (name ∷ names) result before after (inl (fails, way)) = way_make folder name result before after way
  ways_make folder (name ∷ names) result before after (inr (between, way, more)) =
      steps_then (way_make folder name done before between way) (ways_make folder names result between after more)

  module _ (entered : (folder : List ℕ) (out : Outcome) → IsSuch (Entered folder out))
      (named : (folder : List ℕ) (told : Result (List ℕ) Cause) → IsSuch (Named folder told)) where
    reads_ways_make : (folder : List ℕ) {before : Log} {count : ℕ} {after : Log} → ReadsWays folder before count after → Makes IsSuch before after
    reads_ways_make folder NoWayRead = Still
    reads_ways_make folder (ReadsMoreWays {count} {read} {after} bytes reads ways) =
        steps_then (reads_ways_make folder reads)
        (steps_then (one_call (Named folder (Ok bytes)) (named folder (Ok bytes)) refl) (ways_make folder (names_in bytes) done _ after ways))

    named_make : (folder : List ℕ) (result : Result (Unit {0}) Unsynced) (before after : Log) → SyncsNamed folder result before after → Makes IsSuch before after
    named_make folder result before after (count, read, reads, inl (ok, is)) = Then (reads_ways_make folder reads) (Named folder (Ok []), named folder (Ok []), is)
    named_make folder result before after (count, read, reads, inr (inl (not, cause, is))) = Then (reads_ways_make folder reads) (Named folder (Err cause), named folder (Err cause), is)
    named_make folder result before after (count, read, reads, inr (inr (inl (fails, bytes, ways)))) =
        steps_then (reads_ways_make folder reads)
        (steps_then (one_call (Named folder (Ok bytes)) (named folder (Ok bytes)) refl) (ways_make folder (names_in bytes) result _ after ways))
    named_make folder result before after (count, read, reads, inr (inr (inr (not, many, same)))) = steps_then (reads_ways_make folder reads) (no_step same)

    pub all_ways_make : (top : List ℕ) (result : Result (Unit {0}) Unsynced) (before after : Log) → SyncsAllWays top result before after → Makes IsSuch before after
    unfolding SyncsAllWays
    all_ways_make top result before after (inl (long, not, same)) = no_step same
    all_ways_make top result before after (inr (inl (not, cause, is))) = one_call (Entered (with_slash top) (Failed cause)) (entered (with_slash top) (Failed cause)) is
    all_ways_make top result before after (inr (inr syncs)) =
        steps_then (one_call (Entered (with_slash top) Done) (entered (with_slash top) Done) refl) (named_make (with_slash top) result _ after syncs)
