-- What the program does with its outside, by its words, its keys and its seal.
use Rattle.std.specs.Prelude.{◌≡◌, ◌≢◌, ◌≤◌, ℕ, List, [], ◌∷◌, ◌++◌, Option, codes}
use Rattle.std.specs.declared.result.Result.{Result}
use Rattle.std.specs.declared.result.Result.TheVariants.{Ok, Err}
use Rattle.cv_base.specs.Told.{WhereTold}
use Rattle.cv_base.specs.Path.{Path}
use Rattle.cv_ports.specs.Folder.{Folders}
use Rattle.cv_ports.specs.Streams.{Look, front, onto, Wrote}
use Rattle.cv_vault.specs.Disk.{Disk, Files, files_now}
use Rattle.cv_seal.specs.Hmac.{hmac_sha1}
use Rattle.cv_http.specs.declared.fault.HttpFault.TheVariants.{Short}
use Rattle.cv_keys.specs.KeysText.{keys_of}
use Rattle.cv_keys.specs.declared.key.Key.{Key}
use Rattle.cv_swap.specs.First.{first_revision}
use Rattle.cv_swap.specs.Init.{MakesFirst, WritesHead}
use Rattle.cv_swap.specs.Kept.{Kept, IsKept}
use Rattle.cv_swap.specs.Stands.{Stands as StandsKept, head_of, head_text}
use Rattle.cv_swap.specs.declared.init_fault.InitFault.{InitFault}
use Rattle.cv_swap.specs.declared.open_fault.OpenFault.{OpenFault}
use Rattle.cv_gate.specs.Desk.{DeskView, Call}
use Rattle.cv_gate.specs.Kept.{reopened}
use Rattle.cv_gate.specs.Lives.{Life, Lives}
use Rattle.cv_gate.specs.Solo.{Makes as MakesAlone}
use Rattle.cv_desk.specs.Gate.{GateView, GateOpens, IsNew}
use Rattle.cv_desk.specs.OneDesk.{OneDeskView, Stands, DoesEach, DoesCalls, first_view}
use Rattle.cv_resolver.specs.declared.question.Question.{Question}
use Rattle.cv_client.specs.Exchange.{Links}
use Rattle.cv_client.specs.declared.url.Url.{Url}
use Rattle.cv_session.specs.Sessions.{Session, ReadsUpToDate, PassedOn, calls_of}
use Rattle.cv_session.specs.Standing.{Gives, standing}
use Rattle.cv_session.specs.declared.session_end.SessionEnd.{SessionEnd}
use Rattle.cv_session.specs.declared.session_end.SessionEnd.TheVariants.{Clean, Bad}
use Rattle.cv_top.specs.Headline.{Lasts, KeepsLine}
use Rattle.cv_top.specs.Lines.{AnswersLines}
use Rattle.cv_top.specs.Looks.{Looks}
use Rattle.cv_top.specs.Publishes.{Publishes}
use Rattle.cv_top.specs.Seal.{is_seal_by}
use Rattle.cv_top.specs.Sealed.{HasFault}
use Rattle.cv_top.specs.Status.{init_status, open_status, end_status}
use Rattle.cv_words.specs.Words.{Asks, IsCommand}
use Rattle.cv_top.specs.declared.status.Status.{Status}
use Rattle.cv_top.specs.declared.status.Status.TheVariants.{Done, Usage, OutputFailed, BadKeys, OutOfMemory}
use Rattle.cv_words.specs.declared.words.Command.{Command}
use Rattle.cv_words.specs.declared.words.Command.TheVariants.{Init, Stdio, Look as Looking, Shell as Shelling, Publish as Publishing}

-- ---- keys

-- the keys that a command uses are those of this text, without a fault
abbrev pub HasKeys : Command → List ℕ → Type 0
HasKeys (Init name) text = Unit {0}
HasKeys (Stdio name) text = (keys : List Key) × (keys_of text ≡ Ok keys)
HasKeys (Looking url question) text = Unit {0}
HasKeys (Shelling url) text = Unit {0}
HasKeys (Publishing url path root) text = (keys : List Key) × (keys_of text ≡ Ok keys)

-- ---- the outside

-- the repository's files, where requests come from, where replies go, the time, where changes are, and where links to servers come from
pub record Outside (V R W C F N : Type 0) : Type 0 where
  pub vault : V
  pub input : R
  pub output : W
  pub clock : C
  pub folder : F
  pub dial : N

abbrev pub outside : {V R W C F N : Type 0} → V → R → W → C → F → N → Outside V R W C F N
outside vault input output clock folder dial = record { vault = vault; input = input; output = output; clock = clock; folder = folder; dial = dial }

-- a desk over a gate, which knows its newest head
abbrev pub desk_over : {V S : Type 0} → GateView V S → OneDeskView V S
desk_over gate = record { gate = gate; head = gate.state.line.head }

-- what `init` prints
abbrev pub first_line : List ℕ
first_line = codes "revision 1\n"

-- the disk that a vault tells, the number of its changes, and what a crash might have left
module _ {V : Type 0} (disk : V → Option Disk) (count : V → ℕ) (left : V → ℕ → Files → Type 0) where
  -- ---- init

  -- what an output took, and the moments that a clock will give
  module _ {W C : Type 0} (taken : W → Option (List ℕ)) (moments : C → Option (ℕ → ℕ)) where
    -- the first revision of a repository was made at the clock's moment, or wasn't by this fault; at its manifest's name comes its one
    -- spelling and no other text, then and at any crash
    pub record Makes (name seal : List ℕ) (v v' : V) (clock clock' : C) (r : Result (Unit {0}) InitFault) : Type 0 where
      pub now : ℕ
      pub moment : Gives (moments clock) (now ∷ []) (moments clock')
      pub makes : WhereTold (disk v) (λ d. MakesFirst disk count left name (is_seal_by seal) now d r v v')
      pub text : WhereTold (disk v) (λ d. WritesHead disk count left (head_text (hmac_sha1 seal) name (head_of (first_revision now))) d v v')

    pub data Inits (name seal : List ℕ) (v v' : V) (output output' : W) (clock clock' : C) : Status → Type 0 where
      -- it was made, and that was said
      made : Makes name seal v v' clock clock' (Ok tt) → taken output' ≡ onto (taken output) first_line → Inits name seal v v' output output' clock clock' Done
      -- it was made, and that wasn't said for sure
      unsaid : Makes name seal v v' clock clock' (Ok tt) → Wrote (taken output) (taken output') first_line → Inits name seal v v' output output' clock clock' OutputFailed
      refused : (fault : InitFault) → Makes name seal v v' clock clock' (Err fault) → output' ≡ output → Inits name seal v v' output output' clock clock' (init_status fault)

  -- ---- stdio

  -- whether a gate was opened, or why not
  abbrev pub OpensSo : List ℕ → List ℕ → V → Result (GateView V (List ℕ)) (OpenFault × V) → Type 0
  OpensSo name seal v r = WhereTold (disk v) (λ d. GateOpens disk count left name is_seal_by seal d v r)

  -- behind the first calls of a desk it stood so, and what is kept has their answers from then on
  pub record Behind (name seal : List ℕ) (d : Disk) (k : Kept) (least more : List Call) (v : V) (start desk : OneDeskView V (List ℕ)) : Type 0 where
    pub mid : OneDeskView V (List ℕ)
    pub front : DoesEach disk count left is_seal_by start least mid
    pub back : DoesEach disk count left is_seal_by mid more desk
    pub lasts : (first : Kept) (lives : List Life) → IsKept first → Lives first lives k
        → Lasts name seal first lives k count left d least more v mid.gate.state.line.vault desk.gate.state.line.vault

  -- What was kept was opened and served by these calls, from a vault, over a desk: the journal's entries run from the reopened state, each
  -- call is answered by the state behind the entries before it, and the gate stands for the last of these states. Whatever was kept first,
  -- what is kept stays on the line that leads from there, and what was answered lasts.
  pub record ServesKept (name seal : List ℕ) (d : Disk) (k : Kept) (calls : List Call) (v : V) (start desk : OneDeskView V (List ℕ)) : Type 0 where
    pub last : DeskView
    pub stands : Stands disk is_seal_by desk last
    pub makes : MakesAlone (first_view (reopened k)) calls last
    pub line : (first : Kept) (lives : List Life) → IsKept first → Lives first lives k → KeepsLine name seal first lives k calls disk count left d v desk.gate.state.line.vault
    pub behind : (least more : List Call) → calls ≡ least ++ more → Behind name seal d k least more v start desk

  -- a vault's faults; what an input has left and gave, and when its reads began; what an output took and passed on; and the moments that a
  -- clock will give
  module _ {R W C : Type 0} (faults : V → ℕ) (rest given : R → Option (List ℕ)) (looks : R → Look → Type 0) (taken passed : W → Option (List ℕ)) (moments : C → Option (ℕ → ℕ)) where
    -- from a desk to a desk, the session over the bytes that were read of the input, which it gave
    pub record Talks (name : List ℕ) (keys : List Key) (seal : List ℕ) (desk desk' : OneDeskView V (List ℕ)) (input input' : R) (output output' : W) (clock clock' : C) (end : SessionEnd) : Type 0 where
      pub read : List ℕ
      pub told : rest input ≡ front read (rest input')
      pub gave : given input' ≡ onto (given input) read
      pub held : List ℕ
      pub session : Session (DoesCalls disk count left is_seal_by) name keys (hmac_sha1 seal)
          (ReadsUpToDate name keys (hmac_sha1 seal) rest looks (record { source = input; held = [] }) (record { source = input'; held = held }) (taken output) (passed output))
          (PassedOn (taken output) (passed output) (passed output'))
          read held (taken output) (taken output')
          (standing desk (moments clock) (faults desk.gate.state.line.vault)) (standing desk' (moments clock') (faults desk'.gate.state.line.vault)) end
      -- nothing is left where it ended by the end of the input
      pub whole : end ≡ Clean → WhereTold (rest input') (λ l. l ≡ [])
      pub cut : end ≡ Bad Short → WhereTold (rest input') (λ l. l ≡ [])

    -- the calls that were made in a session
    abbrev pub calls_in : {name : List ℕ} {keys : List Key} {seal : List ℕ} {desk desk' : OneDeskView V (List ℕ)} {input input' : R} {output output' : W} {clock clock' : C} {end : SessionEnd}
        → Talks name keys seal desk desk' input input' output output' clock clock' end → List Call
    calls_in talks = calls_of talks.session.exchanges ++ talks.session.others

    pub data Serves (name : List ℕ) (keys : List Key) (seal : List ℕ) (v v' : V) (input input' : R) (output output' : W) (clock clock' : C) : Status → Type 0 where
      -- the repository was opened, and a session over its gate ended; where the files stood for what is kept, that was served
      ended : (gate : GateView V (List ℕ)) (desk' : OneDeskView V (List ℕ)) (end : SessionEnd) → OpensSo name seal v (Ok gate) → IsNew name seal gate
          → faults v ≤ faults gate.state.line.vault
          → (talks : Talks name keys seal (desk_over gate) desk' input input' output output' clock clock' end)
          → WhereTold (disk v) (λ d. (k : Kept) → StandsKept name (is_seal_by seal) (files_now d) k → ServesKept name seal d k (calls_in talks) v (desk_over gate) desk')
          → v' ≡ desk'.gate.state.line.vault
          → Serves name keys seal v v' input input' output output' clock clock' (end_status end)
      -- it wasn't opened: the rest isn't touched
      unopened : (fault : OpenFault) → OpensSo name seal v (Err (fault, v')) → input' ≡ input → output' ≡ output → clock' ≡ clock
          → Serves name keys seal v v' input input' output output' clock clock' (open_status fault)

    -- ---- the program

    -- what folders tell and which is open, and the links that came back to a dial
    module _ {F N : Type 0} (holds : F → Option Folders) (named : F → Option (List ℕ)) (came : N → Links) where
      -- The words are judged first, then the keys, then the seal. Where they are refused nothing is touched.
      pub data Runs (words : List (List ℕ)) (keys seal : List ℕ) (before after : Outside V R W C F N) : Status → Type 0 where
        usage : (IsCommand words → ⊥) → after ≡ before → Runs words keys seal before after Usage
        bad_keys : (name : List ℕ) → Asks words (Stdio name) → HasFault keys → after ≡ before → Runs words keys seal before after BadKeys
        unsigned : (u : Url) (path : Path) (root : List ℕ) → Asks words (Publishing u path root) → HasFault keys → after ≡ before → Runs words keys seal before after BadKeys
        no_seal : (command : Command) → Asks words command → HasKeys command keys → seal ≡ [] → after ≡ before → Runs words keys seal before after BadKeys
        -- memory was wanted before anything was touched
        unbegun : after ≡ before → Runs words keys seal before after OutOfMemory
        init : (name : List ℕ) (status : Status) → Asks words (Init name) → seal ≢ []
            → Inits taken moments name seal before.vault after.vault before.output after.output before.clock after.clock status
            → after.input ≡ before.input → after.folder ≡ before.folder → after.dial ≡ before.dial → Runs words keys seal before after status
        stdio : (name : List ℕ) (table : List Key) (status : Status) → Asks words (Stdio name) → keys_of keys ≡ Ok table → seal ≢ []
            → Serves name table seal before.vault after.vault before.input after.input before.output after.output before.clock after.clock status
            → after.folder ≡ before.folder → after.dial ≡ before.dial → Runs words keys seal before after status
        look : (u : Url) (q : Question) (status : Status) → Asks words (Looking u q) → seal ≢ []
            → Looks taken came seal u q before.output after.output before.dial after.dial status
            → after ≡ outside before.vault before.input after.output before.clock before.folder after.dial → Runs words keys seal before after status
        shell : (u : Url) (status : Status) → Asks words (Shelling u) → seal ≢ []
            → AnswersLines rest given looks taken passed seal u (came before.dial) (came after.dial) before.input after.input before.output after.output status
            → after ≡ outside before.vault after.input after.output before.clock before.folder after.dial → Runs words keys seal before after status
        publish : (u : Url) (path : Path) (root : List ℕ) (table : List Key) (status : Status) → Asks words (Publishing u path root) → keys_of keys ≡ Ok table → seal ≢ []
            → Publishes taken moments holds named came table seal u path root before.output after.output before.clock after.clock before.folder after.folder before.dial after.dial status
            → after.vault ≡ before.vault → after.input ≡ before.input → Runs words keys seal before after status

    -- ---- the headline

    module _ {F N : Type 0} where
      -- the calls that were made for what was read of the input, whose answers are those on the output; or none, and neither was touched
      pub data IsMade (name keys seal : List ℕ) (before after : Outside V R W C F N) : List Call → Type 0 where
        none : after.input ≡ before.input → after.output ≡ before.output → IsMade name keys seal before after []
        talked : (table : List Key) (desk desk' : OneDeskView V (List ℕ)) (end : SessionEnd) → keys_of keys ≡ Ok table → after.vault ≡ desk'.gate.state.line.vault
            → (talks : Talks name table seal desk desk' before.input after.input before.output after.output before.clock after.clock end) → IsMade name keys seal before after (calls_in talks)

      -- the headline holds of them, whatever was kept first, and whatever lives led from there to what is kept
      pub record HasLine (name keys seal : List ℕ) (d : Disk) (k : Kept) (before after : Outside V R W C F N) : Type 0 where
        pub calls : List Call
        pub made : IsMade name keys seal before after calls
        pub keeps : (first : Kept) (lives : List Life) → IsKept first → Lives first lives k → KeepsLine name seal first lives k calls disk count left d before.vault after.vault

      -- where the words ask to serve a repository, and its files stand for what is kept
      abbrev pub Keeps : List (List ℕ) → List ℕ → List ℕ → Outside V R W C F N → Outside V R W C F N → Type 0
      Keeps words keys seal before after = (name : List ℕ) → Asks words (Stdio name)
          → WhereTold (disk before.vault) (λ d. (k : Kept) → StandsKept name (is_seal_by seal) (files_now d) k → HasLine name keys seal d k before after)
