-- How the program may end where no count of its outside rose.
use Rattle.std.proofs.Common.{◌≡◌, ◌≢◌, true, ℕ, List, [], refl, sym, subst, ◌∙◌, inl, inr}
use Rattle.std.specs.declared.option.Option.{Option}
use Rattle.std.specs.declared.option.Option.TheVariants.{Some}
use Rattle.std.specs.declared.result.Result.TheVariants.{Ok, Err}
use Rattle.cv_keys.specs.declared.key.Key.{Key}
use Rattle.cv_ports.specs.Folder.{Folders}
use Rattle.cv_ports.specs.Streams.{Look}
use Rattle.cv_vault.specs.Disk.{Disk, Files, files_now}
use Rattle.cv_swap.specs.Init.{Answers}
use Rattle.cv_swap.specs.Kept.{Kept}
use Rattle.cv_swap.specs.Stands.{Stands as StandsKept}
use Rattle.cv_swap.specs.Opening.{MayRefuse}
use Rattle.cv_swap.specs.declared.init_fault.InitFault.{InitFault}
use Rattle.cv_swap.specs.declared.init_fault.InitFault.TheVariants as init_fault
use Rattle.cv_swap.specs.declared.open_fault.OpenFault.{OpenFault}
use Rattle.cv_swap.specs.declared.open_fault.OpenFault.TheVariants as fault
use Rattle.cv_session.specs.declared.session_end.SessionEnd.{SessionEnd}
use Rattle.cv_session.specs.declared.session_end.SessionEnd.TheVariants as session_end
use Rattle.cv_desk.specs.Gate.{GateOpens}
use Rattle.cv_top.specs.Complete.{Completes, IsVacant, ends_served, ends_made}
use Rattle.cv_client.specs.Exchange.{Links}
use Rattle.cv_top.specs.Runs.{Outside, Runs, Serves, Inits, HasKeys, usage, bad_keys, unsigned, no_seal, unbegun, init, stdio, look, shell, publish, ended, unopened, made, unsaid, refused}
use Rattle.cv_top.specs.Seal.{is_seal_by}
use Rattle.cv_top.specs.Status.{init_status, open_status, end_status}
use Rattle.cv_words.specs.Words.{Asks}
use Rattle.cv_top.specs.declared.status.Status.{Status}
use Rattle.cv_top.specs.declared.status.Status.TheVariants.{InputFailed, OutputFailed, StoreFailed}
use Rattle.cv_words.specs.declared.words.Command.TheVariants.{Init, Stdio}
use Rattle.cv_words.proofs.Laws.{not_both, one_name, no_init, no_stdio, no_shell_init, no_shell_stdio, no_publish_init, no_publish_stdio}
use Rattle.cv_top.proofs.Unserved.{RefusesFew}

-- no failure of the outside is the status
pub record Unfailed (status : Status) : Type 0 where
  pub reads : status ≡ InputFailed → ⊥
  pub writes : status ≡ OutputFailed → ⊥
  pub stores : status ≡ StoreFailed → ⊥

by_session : (end : SessionEnd) → Unfailed (end_status end) → ends_served (end_status end) ≡ true
by_session session_end.Clean fine = refl
by_session session_end.Closed fine = refl
by_session (session_end.Bad why) fine = refl
by_session session_end.ReadFault fine = absurd (fine.reads refl)
by_session session_end.WriteFault fine = absurd (fine.writes refl)
by_session session_end.JournalFull fine = refl
by_session session_end.NoMemory fine = refl

by_opening : (x : OpenFault) → MayRefuse x → Unfailed (open_status x) → ends_served (open_status x) ≡ true
by_opening fault.NoRepository may fine = absurd may
by_opening (fault.BadManifest why) may fine = absurd may
by_opening fault.OtherName may fine = absurd may
by_opening (fault.BadHistory why) may fine = absurd may
by_opening fault.BadEpoch may fine = absurd may
by_opening fault.EpochsSpent may fine = refl
by_opening fault.Failed may fine = absurd (fine.stores refl)
by_opening fault.NoMemory may fine = refl

module _ (d : Disk) (vacant : IsVacant d) (now : ℕ) where
  by_making : (x : InitFault) → Answers d now (Err x) → Unfailed (init_status x) → ends_made (init_status x) ≡ true
  by_making init_fault.Exists said fine = absurd (said vacant.head)
  by_making (init_fault.Collision id) said fine = absurd (vacant.same now id said.1)
  by_making init_fault.Failed said fine = absurd (fine.stores refl)
  by_making (init_fault.Damaged id found) said fine = absurd (vacant.undamaged now id found said.1)
  by_making init_fault.NoMemory said fine = refl

module _ {V : Type 0} (disk : V → Option Disk) (count : V → ℕ) (left : V → ℕ → Files → Type 0) (refuses : RefusesFew) where
  why_refused : (name seal : List ℕ) (d : Disk) (k : Kept) (v v' : V) (x : OpenFault) → StandsKept name (is_seal_by seal) (files_now d) k → GateOpens disk count left name is_seal_by seal d v (Err (x, v')) → MayRefuse x
  why_refused name seal d k v v' x kept (inl opens) = refuses name (is_seal_by seal) (files_now d) k x kept opens.finds
  why_refused name seal d k v v' x kept (inr both) = subst MayRefuse (sym both.0) tt

  module _ {R W C F N : Type 0} (faults : V → ℕ) (rest given : R → Option (List ℕ)) (looks : R → Look → Type 0) (taken passed : W → Option (List ℕ)) (moments : C → Option (ℕ → ℕ)) (words : List (List ℕ)) (keys seal : List ℕ) (a b : Outside V R W C F N) where
    served_ends : (name : List ℕ) (table : List Key) (status : Status) (d : Disk) (k : Kept) → disk a.vault ≡ Some d → StandsKept name (is_seal_by seal) (files_now d) k
        → Serves disk count left faults rest given looks taken passed moments name table seal a.vault b.vault a.input b.input a.output b.output a.clock b.clock status → Unfailed status → ends_served status ≡ true
    served_ends name table status d k told kept (ended gate desk' end opens new later talks served same) fine = by_session end fine
    served_ends name table status d k told kept (unopened x opens input output clock) fine = by_opening x (why_refused name seal d k a.vault b.vault x kept (opens d told)) fine

    made_ends : (name : List ℕ) (status : Status) (d : Disk) → disk a.vault ≡ Some d → IsVacant d → Inits disk count left taken moments name seal a.vault b.vault a.output b.output a.clock b.clock status → Unfailed status → ends_made status ≡ true
    made_ends name status d told vacant (made makes said) fine = refl
    made_ends name status d told vacant (unsaid makes wrote) fine = absurd (fine.writes refl)
    made_ends name status d told vacant (refused x makes same) fine = by_making d vacant makes.now x (makes.makes d told).answers fine

    serves : (holds : F → Option Folders) (named : F → Option (List ℕ)) (came : N → Links) (status : Status) → Unfailed status → Runs disk count left faults rest given looks taken passed moments holds named came words keys seal a b status → (name : List ℕ) → Asks words (Stdio name) → HasKeys (Stdio name) keys → seal ≢ []
        → (d : Disk) (k : Kept) → disk a.vault ≡ Some d → StandsKept name (is_seal_by seal) (files_now d) k → ends_served status ≡ true
    serves holds named came status fine (usage never same) name asks has some d k told kept = absurd (never (record { command = Stdio name; asks = asks }))
    serves holds named came status fine (bad_keys other asked fault same) name asks has some d k told kept = (let e : Ok has.0 ≡ Err fault.fault = sym has.1 ∙ fault.is in absurd cc)
    serves holds named came status fine (unsigned u path root asked fault same) name asks has some d k told kept = absurd (no_publish_stdio u path root name asked asks)
    serves holds named came status fine (no_seal command asked good empty same) name asks has some d k told kept = absurd (some empty)
    serves holds named came status fine (unbegun same) name asks has some d k told kept = refl
    serves holds named came status fine (init other how asked good inits same still near) name asks has some d k told kept = absurd (not_both other name asked asks)
    serves holds named came status fine (look u q how asked good looked same) name asks has some d k told kept = absurd (no_stdio u q name asked asks)
    serves holds named came status fine (shell u how asked good answers same) name asks has some d k told kept = absurd (no_shell_stdio u name asked asks)
    serves holds named came status fine (publish u path root table how asked are good publishes same near) name asks has some d k told kept = absurd (no_publish_stdio u path root name asked asks)
    serves holds named came status fine (stdio other table how asked are good served still near) name asks has some d k told kept =
        let is : other ≡ name = one_name other name asked asks in
        served_ends other table how d k told (subst (λ n. StandsKept n (is_seal_by seal) (files_now d) k) (sym is) kept) served fine

    makes : (holds : F → Option Folders) (named : F → Option (List ℕ)) (came : N → Links) (status : Status) → Unfailed status → Runs disk count left faults rest given looks taken passed moments holds named came words keys seal a b status → (name : List ℕ) → Asks words (Init name) → seal ≢ [] → (d : Disk) → disk a.vault ≡ Some d → IsVacant d → ends_made status ≡ true
    makes holds named came status fine (usage never same) name asks some d told vacant = absurd (never (record { command = Init name; asks = asks }))
    makes holds named came status fine (bad_keys other asked fault same) name asks some d told vacant = absurd (not_both name other asks asked)
    makes holds named came status fine (unsigned u path root asked fault same) name asks some d told vacant = absurd (no_publish_init u path root name asked asks)
    makes holds named came status fine (no_seal command asked good empty same) name asks some d told vacant = absurd (some empty)
    makes holds named came status fine (unbegun same) name asks some d told vacant = refl
    makes holds named came status fine (init other how asked good inits same still near) name asks some d told vacant = made_ends other how d told vacant inits fine
    makes holds named came status fine (look u q how asked good looked same) name asks some d told vacant = absurd (no_init u q name asked asks)
    makes holds named came status fine (shell u how asked good answers same) name asks some d told vacant = absurd (no_shell_init u name asked asks)
    makes holds named came status fine (publish u path root table how asked are good publishes same near) name asks some d told vacant = absurd (no_publish_init u path root name asked asks)
    makes holds named came status fine (stdio other table how asked are good served still near) name asks some d told vacant = absurd (not_both name other asks asked)

    pub completes : (holds : F → Option Folders) (named : F → Option (List ℕ)) (came : N → Links) (status : Status) → Unfailed status → Runs disk count left faults rest given looks taken passed moments holds named came words keys seal a b status → Completes words keys seal (disk a.vault) status
    completes holds named came status fine ran = record { serves = serves holds named came status fine ran; makes = makes holds named came status fine ran }
