-- What the shell's command tells, line by line, of the tree at whose root its client is pinned.
use Rattle.std.proofs.Common.{◌≡◌, true, false, ℕ, List, refl, ap}
use Rattle.std.specs.declared.option.Option.{Option}
use Rattle.std.specs.declared.result.Result.TheVariants.{Ok}
use Rattle.cv_ports.specs.Folder.{Folders}
use Rattle.cv_ports.specs.Streams.{Look}
use Rattle.cv_vault.specs.Disk.{Disk, Files}
use Rattle.cv_resolver.specs.Resolver.{Client}
use Rattle.cv_client.specs.Exchange.{Links}
use Rattle.cv_client.specs.Pin.{Pins, pinned}
use Rattle.cv_client.specs.declared.ask_fault.AskFault.{AskFault}
use Rattle.cv_client.specs.declared.ask_fault.AskFault.TheVariants as ask_fault
use Rattle.cv_client.specs.declared.url.Url.{Url}
use Rattle.cv_shell.specs.declared.shell_end.ShellEnd.{ShellEnd}
use Rattle.cv_shell.proofs.Lemmas.{lines_tell}
use Rattle.cv_top.specs.Lines.{IsShell, Answering, AnswersLines, answered, unpinned, TellsLines, lines, silent, is_silent}
use Rattle.cv_top.specs.Runs.{Outside, Runs, usage, bad_keys, unsigned, no_seal, unbegun, init, stdio, look, shell, publish}
use Rattle.cv_top.specs.Seal.{is_seal_by}
use Rattle.cv_top.specs.Status.{ask_status, shell_status}
use Rattle.cv_words.specs.Words.{Asks}
use Rattle.cv_top.specs.declared.status.Status.{Status}
use Rattle.cv_words.specs.declared.words.Command.TheVariants.{Shell}
use Rattle.cv_words.proofs.Laws.{no_shell, no_shell_init, no_shell_stdio, no_publish_shell}
use Rattle.cv_top.proofs.Pinning.{is_refused, never_refused}

-- where no client is pinned, no question is refused
silent_fault : (fault : AskFault) → is_refused fault ≡ false → is_silent (ask_status fault) ≡ true
silent_fault ask_fault.LinkFailed none = refl
silent_fault ask_fault.BadReply none = refl
silent_fault ask_fault.BadManifest none = refl
silent_fault ask_fault.NoMemory none = refl
silent_fault (ask_fault.Refused fault) none = absurd cc

module _ {V : Type 0} (disk : V → Option Disk) (count : V → ℕ) (left : V → ℕ → Files → Type 0)
    {R W C F N : Type 0} (faults : V → ℕ) (rest given : R → Option (List ℕ)) (looks : R → Look → Type 0) (taken passed : W → Option (List ℕ)) (moments : C → Option (ℕ → ℕ)) (holds : F → Option Folders) (named : F → Option (List ℕ)) (came : N → Links)
    (words : List (List ℕ)) (keys seal : List ℕ) (a b : Outside V R W C F N) where
  abbrev Tells : Status → Type 0
  Tells = TellsLines rest given taken words seal (came a.dial) (came b.dial) a.input b.input a.output b.output

  pinned_tell : (u : Url) (mid : Links) (client client' : Client) (end : ShellEnd) → Asks words (Shell u) → Pins (is_seal_by seal) u (came a.dial) mid (Ok client)
      → Answering rest given looks taken passed seal u client client' mid (came b.dial) a.input b.input a.output b.output end → Tells (shell_status end)
  pinned_tell u mid client client' end asks (pinned first fetched) answering =
      let shells = answering.are in
      lines (record {
        url = u;
        asks = asks;
        first = first;
        mid = mid;
        fetched = fetched;
        read = answering.got;
        told = answering.told;
        gave = answering.gave;
        turns = shells.turns;
        client = client';
        end = end;
        ends = shells.ends;
        is = refl;
        tells = λ later links last runs. lines_tell (is_seal_by seal) u first mid runs;
      })

  answers_tell : (u : Url) (status : Status) → Asks words (Shell u) → AnswersLines rest given looks taken passed seal u (came a.dial) (came b.dial) a.input b.input a.output b.output status → Tells status
  answers_tell u status asks (answered mid client client' end pins answering) = pinned_tell u mid client client' end asks pins answering
  answers_tell u status asks (unpinned fault pins input output) = silent (silent_fault fault (never_refused fault pins)) input output

  untouched : {status : Status} → is_silent status ≡ true → b ≡ a → Tells status
  untouched is same = silent is (ap (λ (o : Outside V R W C F N). o.input) same) (ap (λ (o : Outside V R W C F N). o.output) same)

  pub lines_tell_truly : (status : Status) → Runs disk count left faults rest given looks taken passed moments holds named came words keys seal a b status → IsShell words → Tells status
  lines_tell_truly status (usage never same) asked = absurd (never (record { command = Shell asked.url; asks = asked.asks }))
  lines_tell_truly status (bad_keys name asks has same) asked = untouched refl same
  lines_tell_truly status (unsigned v path root asks has same) asked = untouched refl same
  lines_tell_truly status (no_seal command asks has empty same) asked = untouched refl same
  lines_tell_truly status (unbegun same) asked = untouched refl same
  lines_tell_truly status (init name how asks some inits same still near) asked = absurd (no_shell_init asked.url name asked.asks asks)
  lines_tell_truly status (stdio name table how asks are some serves still near) asked = absurd (no_shell_stdio asked.url name asked.asks asks)
  lines_tell_truly status (look u q how asks some looked same) asked = absurd (no_shell u asked.url q asks asked.asks)
  lines_tell_truly status (shell u how asks some answers same) asked = answers_tell u status asks answers
  lines_tell_truly status (publish v path root table how asks are some publishes same near) asked = absurd (no_publish_shell v asked.url path root asks asked.asks)
