-- A run that doesn't serve leaves what is kept as it was, opened once more at most; and what a run keeps.
use Rattle.std.proofs.Common.{◌≡◌, ◌⊎◌, ◌++◌, ℕ, List, [], ◌∷◌, refl, sym, ap, subst, inl, inr, arith}
use Rattle.std.specs.declared.option.Option.{Option}
use Rattle.std.specs.declared.option.Option.TheVariants.{Some}
use Rattle.std.specs.declared.result.Result.TheVariants.{Ok, Err}
use Rattle.cv_keys.specs.KeysText.{keys_of}
use Rattle.cv_keys.specs.declared.key.Key.{Key}
use Rattle.cv_ports.specs.Folder.{Folders}
use Rattle.cv_ports.specs.Streams.{Look}
use Rattle.cv_vault.specs.Disk.{Disk, Files, ImageOf, files_now}
use Rattle.cv_vault.specs.Moments.{LeavesOnly}
use Rattle.cv_vault.proofs.Laws.{leaves_more, gains_none}
use Rattle.cv_swap.specs.Kept.{Kept, IsKept, raised}
use Rattle.cv_swap.specs.Stands.{Stands as StandsKept}
use Rattle.cv_swap.specs.Opening.{Opened, Refuses, MayRefuse}
use Rattle.cv_swap.specs.declared.open_fault.OpenFault.{OpenFault}
use Rattle.cv_swap.specs.declared.open_fault.OpenFault.TheVariants as fault
use Rattle.cv_swap.proofs.Lemmas.{leaves_while, failed_stands, unraised_stands}
use Rattle.cv_gate.specs.State.{State}
use Rattle.cv_gate.specs.Sound.{AreLeases}
use Rattle.cv_gate.specs.Kept.{reopened}
use Rattle.cv_gate.specs.Lives.{Life, Lives}
use Rattle.cv_gate.specs.Desk.{Call}
use Rattle.cv_gate.specs.Solo.{AnswersAll}
use Rattle.cv_gate.specs.declared.entry.Entry.{Entry}
use Rattle.cv_gate.proofs.Lemmas.{opened}
use Rattle.cv_desk.specs.Gate.{GateOpens}
use Rattle.cv_top.specs.Headline.{OnLine, Remains, KeepsLine}
use Rattle.cv_client.specs.Exchange.{Links}
use Rattle.cv_top.specs.Runs.{Outside, Runs, Serves, HasLine, Keeps, usage, bad_keys, unsigned, no_seal, unbegun, init, stdio, look, shell, publish, ended, unopened, none, talked, calls_in, desk_over}
use Rattle.cv_top.specs.Seal.{is_seal_by}
use Rattle.cv_top.specs.declared.status.Status.{Status}
use Rattle.cv_words.specs.declared.words.Command.TheVariants.{Stdio}
use Rattle.cv_words.proofs.Laws.{not_both, one_name, no_stdio, no_shell_stdio, no_publish_stdio}
use Rattle.cv_top.proofs.Headlines.{KeepsRaised, now_image, raised_on_line, same_remains, opening_remains}

-- the law of files that stand for what is kept
abbrev pub RefusesFew : Type 0
RefusesFew = (name : List ℕ) (is_seal : List ℕ → List ℕ → _) (f : Files) (k : Kept) (x : OpenFault) → StandsKept name is_seal f k → Refuses name is_seal f x → MayRefuse x

module _ {V : Type 0} (disk : V → Option Disk) (count : V → ℕ) (left : V → ℕ → Files → Type 0) (only_now : (v : V) (f : Files) → left v (count v) f → ImageOf (disk v) f) (raises : KeepsRaised) (refuses : RefusesFew) where
  module _ (name seal : List ℕ) (d : Disk) (k : Kept) (kept : StandsKept name (is_seal_by seal) (files_now d) k) where
    no_leases : AreLeases (reopened k)
    no_leases = record {
      table = (opened (record k { epoch = 0 }) (record { sound = kept.kept.sound; epoch = omega arith }) (omega arith)).leases.table;
      granted = tt;
    }

    nothing_answered : (done more : List Call) (c : Call) → [] ≡ (done ++ c ∷ []) ++ more → ⊥
    nothing_answered [] more c e = absurd cc
    nothing_answered (x ∷ done) more c e = absurd cc

    none_live : (done more : List Call) → [] ≡ done ++ more → (entries : List Entry) × (st : State) × AnswersAll 0 (reopened k) done entries st × AreLeases st
    none_live [] more e = ([], reopened k, (refl, refl), no_leases)
    none_live (c ∷ done) more e = absurd cc

    -- how an opening that was refused left the files
    refused_files : (x : OpenFault) → MayRefuse x → (e : Disk) → Opened d (Err x) e → StandsKept name (is_seal_by seal) (files_now e) k ⊎ StandsKept name (is_seal_by seal) (files_now e) (raised k)
    refused_files fault.NoRepository may e is = absurd may
    refused_files (fault.BadManifest why) may e is = absurd may
    refused_files fault.OtherName may e is = absurd may
    refused_files (fault.BadHistory why) may e is = absurd may
    refused_files fault.BadEpoch may e is = absurd may
    refused_files fault.EpochsSpent may e is = inl (unraised_stands name (is_seal_by seal) d e k kept (gains_none is) (files_now e) (now_image e))
    refused_files fault.Failed may e is = failed_stands name (is_seal_by seal) d e k kept is
    refused_files fault.NoMemory may e is = inl (unraised_stands name (is_seal_by seal) d e k kept is (files_now e) (now_image e))

    module _ (first : Kept) (lives : List Life) (begun : IsKept first) (lived : Lives first lives k) where
      unserved : (v v' : V) → LeavesOnly count left (Remains name seal first lives k [] d) v v' → (e : Disk) → disk v' ≡ Some e → OnLine name seal first lives k [] [] (files_now e) → KeepsLine name seal first lives k [] disk count left d v v'
      unserved v v' any e told end = record {
        at_any_time = any;
        once_answered = λ done more c split. absurd (nothing_answered done more c split);
        end = e;
        told = told;
        in_the_end = end;
        apart = none_live;
      }

      untouched : (v : V) → disk v ≡ Some d → KeepsLine name seal first lives k [] disk count left d v v
      untouched v told = unserved v v
          (record {
            later = omega arith;
            each = λ f l. same_remains name seal first lives k [] begun lived d f (record { each = λ n off. inl (subst (λ (o : Option Disk). ImageOf o f) told (only_now v f l) n) });
            before = λ m f le l. inl l;
          })
          d told (raised_on_line name seal first lives k [] begun lived (files_now d) (inl kept))

      refused : (x : OpenFault) (v v' : V) → disk v ≡ Some d → GateOpens disk count left name is_seal_by seal d v (Err (x, v')) → KeepsLine name seal first lives k [] disk count left d v v'
      refused x v v' told (inl opens) = unserved v v'
          (leaves_more opens.leaves (λ f w. opening_remains name seal first lives k [] begun lived raises d kept f (leaves_while d (Err x) f w)))
          opens.end opens.told
          (raised_on_line name seal first lives k [] begun lived (files_now opens.end) (refused_files x (refuses name (is_seal_by seal) (files_now d) k x kept opens.finds) opens.end opens.opened))
      refused x v v' told (inr both) = subst (λ (u : V). KeepsLine name seal first lives k [] disk count left d v u) (sym both.1) (untouched v told)

  -- ---- words that ask to serve

  module _ {R W C F N : Type 0} (faults : V → ℕ) (rest given : R → Option (List ℕ)) (looks : R → Look → Type 0) (taken passed : W → Option (List ℕ)) (moments : C → Option (ℕ → ℕ)) (words : List (List ℕ)) (keys seal : List ℕ) (a b : Outside V R W C F N) where
    abbrev Has : List ℕ → Disk → Kept → Type 0
    Has name d k = HasLine disk count left faults rest given looks taken passed moments name keys seal d k a b

    has_none : (name : List ℕ) (d : Disk) (k : Kept) → disk a.vault ≡ Some d → StandsKept name (is_seal_by seal) (files_now d) k → b ≡ a → Has name d k
    has_none name d k told kept same = record {
      calls = [];
      made = none (ap (λ (o : Outside V R W C F N). o.input) same) (ap (λ (o : Outside V R W C F N). o.output) same);
      keeps = λ first lives begun lived. subst (λ (u : V). KeepsLine name seal first lives k [] disk count left d a.vault u) (sym (ap (λ (o : Outside V R W C F N). o.vault) same)) (untouched name seal d k kept first lives begun lived a.vault told);
    }

    serves_so : (name : List ℕ) (table : List Key) (status : Status) (d : Disk) (k : Kept) → keys_of keys ≡ Ok table → disk a.vault ≡ Some d → StandsKept name (is_seal_by seal) (files_now d) k
        → Serves disk count left faults rest given looks taken passed moments name table seal a.vault b.vault a.input b.input a.output b.output a.clock b.clock status → Has name d k
    serves_so name table status d k are told kept (ended gate desk' end opens new later talks served same) = record {
      calls = calls_in disk count left faults rest given looks taken passed moments talks;
      made = talked table (desk_over gate) desk' end are same talks;
      keeps = λ first lives begun lived. subst (λ (u : V). KeepsLine name seal first lives k (calls_in disk count left faults rest given looks taken passed moments talks) disk count left d a.vault u) (sym same) ((served d told k kept).line first lives begun lived);
    }
    serves_so name table status d k are told kept (unopened x opens input output clock) = record {
      calls = [];
      made = none input output;
      keeps = λ first lives begun lived. refused name seal d k kept first lives begun lived x a.vault b.vault told (opens d told);
    }

    pub keeps : (holds : F → Option Folders) (named : F → Option (List ℕ)) (came : N → Links) (status : Status) → Runs disk count left faults rest given looks taken passed moments holds named came words keys seal a b status → Keeps disk count left faults rest given looks taken passed moments words keys seal a b
    keeps holds named came status (usage never same) name asks d told k kept = absurd (never (record { command = Stdio name; asks = asks }))
    keeps holds named came status (bad_keys other asked has same) name asks d told k kept = has_none name d k told kept same
    keeps holds named came status (unsigned u path root asked has same) name asks d told k kept = has_none name d k told kept same
    keeps holds named came status (no_seal command asked has empty same) name asks d told k kept = has_none name d k told kept same
    keeps holds named came status (unbegun same) name asks d told k kept = has_none name d k told kept same
    keeps holds named came status (init other how asked some inits same near far) name asks d told k kept = absurd (not_both other name asked asks)
    keeps holds named came status (look u q how asked some looked same) name asks d told k kept = absurd (no_stdio u q name asked asks)
    keeps holds named came status (shell u how asked some answers same) name asks d told k kept = absurd (no_shell_stdio u name asked asks)
    keeps holds named came status (publish u path root table how asked are some publishes vault input) name asks d told k kept = absurd (no_publish_stdio u path root name asked asks)
    keeps holds named came status (stdio other table how asked are some serves near far) name asks d told k kept =
        let is : other ≡ name = one_name other name asked asks in
        subst (λ n. Has n d k) is (serves_so other table how d k are told (subst (λ n. StandsKept n (is_seal_by seal) (files_now d) k) (sym is) kept) serves)
