-- Calls that came out well: each was made, or found nothing.
use Rattle.std.proofs.Common.{◌≡◌, ◌∷◌, [], Bool, true, false, List, ℕ, Option, Some, None, Ok, Err, refl, inl, inr, string_bytes, subst}
use Rattle.std.specs.declared.io.Error.{Error}
use Rattle.cv_system.specs.declared.seen.Seen.{Seen}
use Rattle.cv_system.specs.Calls.{Done, Failed, Locked, Log, Looked, Made, Opened, and_call}
use Rattle.cv_system.specs.Looks.{Looks, SeesFolders}
use Rattle.cv_base.specs.Path.{with_slash}
use Rattle.cv_system.specs.Names.{path_of}
use Rattle.cv_system.specs.Steps.{IsNothing, Then}
use Rattle.cv_system.proofs.Laws.{no_step, one_call, steps_then}
use Rattle.cv_folder.specs.declared.folder_vault.FolderVault.{FolderVault}
use Rattle.cv_folder.specs.declared.hold.Hold.{Hold}
use Rattle.cv_folder.specs.declared.hold.Hold.TheVariants.{Absent, Held, Refused, Unasked}
use Rattle.cv_folder.specs.FolderVault.{Acts, AsksAlone}
use Rattle.cv_folder.specs.FolderVaultInner.{FindsNamed}
use Rattle.cv_folder.specs.GoingOn.{GoesOn}
use Rattle.cv_folder.specs.Hold.{Asked, AskedAt, Asks, Begins, IsHeld, MakesRoot}
use Rattle.cv_folder.specs.Reads.{HasFile}
use Rattle.cv_folder.specs.Writes.{Leads, LeadsOn}

-- a look
pub looked_well : (path : List ℕ) (found : Option Seen) (before after : Log) → Looks path (Ok found) before after → GoesOn IsNothing before after
looked_well path (Some seen) before after is = one_call (Looked path (Ok seen)) tt is
looked_well path None before after (cause, nothing, is) = one_call (Looked path (Err cause)) nothing is

-- looks at folders
sees_well : (folders : List (List ℕ)) (before after : Log) → SeesFolders folders before after → GoesOn IsNothing before after
sees_well [] before after same = no_step same
sees_well (folder ∷ folders) before after (seen, is_folder, rest) = steps_then (one_call (Looked folder (Ok seen)) tt refl) (sees_well folders _ after rest)

-- folders that are made
on_well : (folder : List ℕ) (before after : Log) → LeadsOn folder before after → GoesOn IsNothing before after
on_well folder before after (inl (seen, is_folder, is)) = one_call (Looked folder (Ok seen)) tt is
on_well folder before after (inr (cause, nothing, is)) = Then (one_call (Looked folder (Err cause)) nothing refl) (Made folder Done, tt, is)

pub leads_well : (folders : List (List ℕ)) (before after : Log) → Leads folders before after → GoesOn IsNothing before after
leads_well [] before after same = no_step same
leads_well (folder ∷ folders) before after (between, on, rest) = steps_then (on_well folder before between on) (leads_well folders between after rest)

-- ---- a vault asks for its folder, or makes it

locks_well : (folder : List ℕ) (given : Bool) (before after : Log) → after ≡ and_call (Locked folder (Ok given)) (and_call (Opened folder Done) before) → GoesOn IsNothing before after
locks_well folder given before after is = Then (one_call (Opened folder Done) tt refl) (Locked folder (Ok given), tt, is)

asked_at_well : {F : Type 0} (folder : List ℕ) (hold : Hold F) (before after : Log) → (hold ≡ Unasked → ⊥) → AskedAt folder hold before after → GoesOn IsNothing before after
unfolding AskedAt
asked_at_well folder (Held file) before after not is = locks_well folder true before after is
asked_at_well folder Refused before after not is = locks_well folder false before after is
asked_at_well folder Absent before after not (cause, absent, is) = one_call (Opened folder (Failed cause)) (inl absent) is
asked_at_well folder Unasked before after not vain = absurd (not refl)

asked_well : {F : Type 0} (root : List ℕ) (hold : Hold F) (before after : Log) → (hold ≡ Unasked → ⊥) → Asked root hold before after → GoesOn IsNothing before after
unfolding Asked
asked_well root hold before after not (inl (is_root, at)) = asked_at_well (with_slash root) hold before after not at
asked_well root hold before after not (inr (never, refused, same)) = no_step same

asks_well : {F : Type 0} (root : List ℕ) (was hold : Hold F) (before after : Log) → (hold ≡ Unasked → ⊥) → Asks root was hold before after → GoesOn IsNothing before after
unfolding Asks
asks_well root Unasked hold before after not asked = asked_well root hold before after not asked
asks_well root (Held file) hold before after not (is, same) = no_step same
asks_well root Absent hold before after not (is, same) = no_step same
asks_well root Refused hold before after not (is, same) = no_step same

-- a vault that holds its folder has asked for it
pub held_asked : {F : Type 0} (hold : Hold F) → IsHeld hold → hold ≡ Unasked → ⊥
held_asked Unasked held is = held
held_asked (Held file) held is = cc
held_asked Absent held is = held
held_asked Refused held is = held

makes_well : {F : Type 0} (root : List ℕ) (hold : Hold F) (before after : Log) → IsHeld hold → MakesRoot root hold before after → GoesOn IsNothing before after
unfolding MakesRoot
makes_well root Unasked before after held makes = absurd held
makes_well root (Held file) before after held is = steps_then (one_call (Made root Done) tt refl) (locks_well (with_slash root) true _ after is)
makes_well root Absent before after held makes = absurd held
makes_well root Refused before after held makes = absurd held

-- a write begins
pub begins_well : {F : Type 0} (root : List ℕ) (was hold : Hold F) (is_unsettled : Bool) (noted : List ℕ → Bool) (before after : Log) → IsHeld hold
    → Begins root was hold is_unsettled noted before after → GoesOn IsNothing before after
unfolding Begins
begins_well root was hold is_unsettled noted before after held (found, asked, asks, first, inl (is, same)) =
    steps_then (asks_well root was found before asked (held_asked found (subst IsHeld is held)) asks) (no_step same)
begins_well root was hold is_unsettled noted before after held (found, asked, asks, first, inr (absent, makes, above)) =
    steps_then (asks_well root was found before asked (λ never. cc) asks) (makes_well root hold asked after held makes)

module _ {S F N : Type 0} (log : S → Log) (before after : FolderVault S F N) where
  pub alone_well : (after.hold ≡ Unasked → ⊥) → AsksAlone log before after → GoesOn IsNothing (log before.system) (log after.system)
  unfolding AsksAlone
  alone_well not asks = asks_well (string_bytes before.root) before.hold after.hold _ _ not asks

  -- a file was found
  pub found_well : (root name : List ℕ) (seen : Seen) → Acts log (FindsNamed {E = Error} root name after.hold (Ok (Some seen))) before after → GoesOn IsNothing (log before.system) (log after.system)
  unfolding Acts FindsNamed HasFile
  found_well root name seen (asked, asks, (held, named, (is_file, folders))) =
      steps_then (Then (asks_well (string_bytes before.root) before.hold after.hold _ asked (held_asked after.hold held) asks) (Looked (path_of root name) (Ok seen), tt, refl)) (sees_well _ _ _ folders)
