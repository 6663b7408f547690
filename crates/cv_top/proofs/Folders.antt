-- Only `publish` ends by the folder of changes.
use Rattle.std.proofs.Common.{◌≢◌, ℕ, List}
use Rattle.std.specs.Prelude.{Option}
use Rattle.cv_ports.specs.Streams.{Look}
use Rattle.cv_vault.specs.Disk.{Disk, Files}
use Rattle.cv_keys.specs.declared.key.Key.{Key}
use Rattle.cv_swap.specs.declared.init_fault.InitFault.{InitFault}
use Rattle.cv_swap.specs.declared.init_fault.InitFault.TheVariants as init_fault
use Rattle.cv_swap.specs.declared.open_fault.OpenFault.{OpenFault}
use Rattle.cv_swap.specs.declared.open_fault.OpenFault.TheVariants as open_fault
use Rattle.cv_session.specs.declared.session_end.SessionEnd.{SessionEnd}
use Rattle.cv_session.specs.declared.session_end.SessionEnd.TheVariants as session_end
use Rattle.cv_resolver.specs.declared.found.ClientFault.{ClientFault}
use Rattle.cv_resolver.specs.declared.found.ClientFault.TheVariants as client_fault
use Rattle.cv_resolver.specs.declared.question.Question.{Question}
use Rattle.cv_client.specs.Exchange.{Links}
use Rattle.cv_client.specs.declared.ask_fault.AskFault.{AskFault}
use Rattle.cv_client.specs.declared.ask_fault.AskFault.TheVariants as ask_fault
use Rattle.cv_client.specs.declared.url.Url.{Url}
use Rattle.cv_shell.specs.declared.shell_end.ShellEnd.{ShellEnd}
use Rattle.cv_shell.specs.declared.shell_end.ShellEnd.TheVariants as shell_end
use Rattle.cv_top.specs.Lines as lines
use Rattle.cv_top.specs.Lines.{AnswersLines}
use Rattle.cv_top.specs.Looks as looked
use Rattle.cv_top.specs.Looks.{Looks, Prints}
use Rattle.cv_top.specs.Runs as runs
use Rattle.cv_top.specs.Runs.{Inits, Serves}
use Rattle.cv_top.specs.SealedInner.{Sealed, empty, unbegun, begun}
use Rattle.cv_top.specs.Status.{init_status, open_status, end_status, refused_status, ask_status, shell_status}
use Rattle.cv_top.specs.declared.status.Status.{Status}
use Rattle.cv_top.specs.declared.status.Status.TheVariants.{FolderFailed}

-- ---- by their faults and ends

init_fine : (x : InitFault) → init_status x ≢ FolderFailed
init_fine init_fault.Exists is = absurd cc
init_fine (init_fault.Collision id) is = absurd cc
init_fine init_fault.Failed is = absurd cc
init_fine (init_fault.Damaged id found) is = absurd cc
init_fine init_fault.NoMemory is = absurd cc

open_fine : (x : OpenFault) → open_status x ≢ FolderFailed
open_fine open_fault.NoRepository is = absurd cc
open_fine (open_fault.BadManifest fault) is = absurd cc
open_fine open_fault.OtherName is = absurd cc
open_fine (open_fault.BadHistory fault) is = absurd cc
open_fine open_fault.BadEpoch is = absurd cc
open_fine open_fault.EpochsSpent is = absurd cc
open_fine open_fault.Failed is = absurd cc
open_fine open_fault.NoMemory is = absurd cc

end_fine : (end : SessionEnd) → end_status end ≢ FolderFailed
end_fine session_end.Clean is = absurd cc
end_fine session_end.Closed is = absurd cc
end_fine (session_end.Bad fault) is = absurd cc
end_fine session_end.ReadFault is = absurd cc
end_fine session_end.WriteFault is = absurd cc
end_fine session_end.JournalFull is = absurd cc
end_fine session_end.NoMemory is = absurd cc

refused_fine : (x : ClientFault) → refused_status x ≢ FolderFailed
refused_fine client_fault.NotFound is = absurd cc
refused_fine client_fault.NotDirectory is = absurd cc
refused_fine client_fault.NotFile is = absurd cc
refused_fine client_fault.TooManyLinks is = absurd cc
refused_fine (client_fault.BadObject id found) is = absurd cc
refused_fine (client_fault.BadCatalogue id) is = absurd cc
refused_fine (client_fault.NotServed id) is = absurd cc
refused_fine client_fault.NoMemory is = absurd cc

ask_fine : (x : AskFault) → ask_status x ≢ FolderFailed
ask_fine ask_fault.LinkFailed is = absurd cc
ask_fine ask_fault.BadReply is = absurd cc
ask_fine ask_fault.BadManifest is = absurd cc
ask_fine (ask_fault.Refused fault) is = refused_fine fault is
ask_fine ask_fault.NoMemory is = absurd cc

shell_fine : (end : ShellEnd) → shell_status end ≢ FolderFailed
shell_fine shell_end.Ended is = absurd cc
shell_fine shell_end.LinkFailed is = absurd cc
shell_fine shell_end.BadReply is = absurd cc
shell_fine shell_end.TooLong is = absurd cc
shell_fine shell_end.InputFailed is = absurd cc
shell_fine shell_end.OutputFailed is = absurd cc
shell_fine shell_end.NoMemory is = absurd cc

-- ---- by what they do

pub sealed_fine : {Untouched : Type 0} {Does : Status → Type 0} {seal : List ℕ} {status : Status} → ((s : Status) → Does s → s ≢ FolderFailed) → Sealed seal Untouched Does status → status ≢ FolderFailed
sealed_fine fine (empty none same) is = absurd cc
sealed_fine fine (unbegun same) is = absurd cc
sealed_fine fine (begun s some does) is = fine s does is

prints_fine : {W : Type 0} {taken : W → Option (List ℕ)} {text : List ℕ} {o o' : W} {s : Status} → Prints taken text o o' s → s ≢ FolderFailed
prints_fine (looked.printed whole) is = absurd cc
prints_fine (looked.unprinted part) is = absurd cc
prints_fine (looked.unwritten same) is = absurd cc

pub looks_fine : {W N : Type 0} {taken : W → Option (List ℕ)} {came : N → Links} {seal : List ℕ} {u : Url} {q : Question} {o o' : W} {n n' : N} {s : Status} → Looks taken came seal u q o o' n n' s → s ≢ FolderFailed
looks_fine (looked.answered found status told prints) is = prints_fine prints is
looks_fine (looked.unanswered fault told same) is = ask_fine fault is

pub lines_fine : {R W : Type 0} {rest given : R → Option (List ℕ)} {looks : R → Look → Type 0} {taken passed : W → Option (List ℕ)} {seal : List ℕ} {u : Url} {before after : Links} {i i' : R} {o o' : W} {s : Status}
    → AnswersLines rest given looks taken passed seal u before after i i' o o' s → s ≢ FolderFailed
lines_fine (lines.answered mid client client' end pins answering) is = shell_fine end is
lines_fine (lines.unpinned fault pins input output) is = ask_fine fault is

module _ {V W C : Type 0} {disk : V → Option Disk} {count : V → ℕ} {left : V → ℕ → Files → Type 0} {taken : W → Option (List ℕ)} {moments : C → Option (ℕ → ℕ)} {name seal : List ℕ} {v v' : V} {o o' : W} {c c' : C} where
  pub inits_fine : {s : Status} → Inits disk count left taken moments name seal v v' o o' c c' s → s ≢ FolderFailed
  inits_fine (runs.made makes wrote) is = absurd cc
  inits_fine (runs.unsaid makes wrote) is = absurd cc
  inits_fine (runs.refused fault makes same) is = init_fine fault is

  pub serves_fine : {R : Type 0} {faults : V → ℕ} {rest given : R → Option (List ℕ)} {looks : R → Look → Type 0} {passed : W → Option (List ℕ)} {table : List Key} {i i' : R} {s : Status}
      → Serves disk count left faults rest given looks taken passed moments name table seal v v' i i' o o' c c' s → s ≢ FolderFailed
  serves_fine (runs.ended gate desk end opens new later talks served same) is = end_fine end is
  serves_fine (runs.unopened fault opens input output clock) is = open_fine fault is
