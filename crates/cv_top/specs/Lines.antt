-- What the shell's command does: it pins a client at the head that is served, and answers the lines of its input.
use Rattle.std.specs.Prelude.{◌≡◌, ℕ, Bool, true, false, List, Option}
use Rattle.std.specs.declared.result.Result.TheVariants.{Ok, Err}
use Rattle.cv_ports.specs.Streams.{Look, front, onto}
use Rattle.cv_http.specs.Wires.{Draws}
use Rattle.cv_manifest.specs.declared.manifest.Manifest.{Manifest}
use Rattle.cv_resolver.specs.Resolver.{Client}
use Rattle.cv_client.specs.Exchange.{Links}
use Rattle.cv_client.specs.Pin.{FetchesManifest, Pins, client_at}
use Rattle.cv_client.specs.declared.ask_fault.AskFault.{AskFault}
use Rattle.cv_client.specs.declared.url.Url.{Url}
use Rattle.cv_shell.specs.Shells.{unheld, Turn, Runs, Ends, ReadsUpToDate, Shells}
use Rattle.cv_shell.specs.Tells.{ToldSo}
use Rattle.cv_shell.specs.declared.shell_end.ShellEnd.{ShellEnd}
use Rattle.cv_top.specs.Seal.{is_seal_by}
use Rattle.cv_top.specs.Status.{ask_status, shell_status}
use Rattle.cv_words.specs.Words.{Asks}
use Rattle.cv_top.specs.declared.status.Status.{Status}
use Rattle.cv_top.specs.declared.status.Status.TheVariants.{LinkFailed, Served, BadReply, BadKeys, OutOfMemory}
use Rattle.cv_words.specs.declared.words.Command.TheVariants.{Shell}

-- the words ask for a shell
pub record IsShell (words : List (List ℕ)) : Type 0 where
  pub url : Url
  pub asks : Asks words (Shell url)

-- the statuses where no line was read
abbrev pub is_silent : Status → Bool
is_silent LinkFailed = true
is_silent (Served fault) = true
is_silent BadReply = true
is_silent BadKeys = true
is_silent OutOfMemory = true
is_silent other = false

-- what an input has left and gave, and when its reads began; what an output took and passed on
module _ {R W : Type 0} (rest given : R → Option (List ℕ)) (looks : R → Look → Type 0) (taken passed : W → Option (List ℕ)) where
  -- lines were read of the input and answered, by a client that was pinned when these links had come back
  abbrev pub Answering : (seal : List ℕ) → Url → Client → Client → (mid after : Links) → (input input' : R) → (output output' : W) → ShellEnd → Type 0
  Answering seal u client client' mid after input input' output output' end = Draws rest given (unheld input) (unheld input') (λ b.
      Shells (is_seal_by seal) u (ReadsUpToDate (is_seal_by seal) u rest looks (unheld input) (unheld input') mid client (taken output) (passed output))
      (rest input') b mid after client client' (taken output) (taken output') (passed output) (passed output') end)

  -- A client was pinned at the manifest of the first reply, under the seal, and answered lines until the shell ended; or it wasn't pinned,
  -- and the rest isn't touched.
  pub data AnswersLines (seal : List ℕ) (u : Url) (before after : Links) (input input' : R) (output output' : W) : Status → Type 0 where
    answered : (mid : Links) (client client' : Client) (end : ShellEnd) → Pins (is_seal_by seal) u before mid (Ok client)
        → Answering seal u client client' mid after input input' output output' end → AnswersLines seal u before after input input' output output' (shell_status end)
    unpinned : (fault : AskFault) → Pins (is_seal_by seal) u before after (Err fault) → input' ≡ input → output' ≡ output
        → AnswersLines seal u before after input input' output output' (ask_status fault)

-- what an input has left and gave, and what an output took
module _ {R W : Type 0} (rest given : R → Option (List ℕ)) (taken : W → Option (List ℕ)) where
  -- The manifest came in the first exchange, and has its seal. A client that was pinned there answered the lines of these turns, which
  -- the input gave, until the shell ended so; and by the links and the client to which they came, each text is so in the tree with the
  -- root of the manifest at which the client was pinned then.
  pub record LinesTold (words : List (List ℕ)) (seal : List ℕ) (before after : Links) (input input' : R) (output output' : W) (status : Status) : Type 0 where
    pub url : Url
    pub asks : Asks words (Shell url)
    pub first : Manifest
    pub mid : Links
    pub fetched : FetchesManifest (is_seal_by seal) url before mid (Ok first)
    pub read : List ℕ
    pub told : rest input ≡ front read (rest input')
    pub gave : given input' ≡ onto (given input) read
    pub turns : List Turn
    pub client : Client
    pub end : ShellEnd
    pub ends : Ends (is_seal_by seal) url (rest input') read mid after (client_at first) client (taken output) (taken output') turns end
    pub is : status ≡ shell_status end
    pub tells : (later : List ℕ) (links : Links) (pinned : Client) → Runs (is_seal_by seal) url (rest input') read mid (client_at first) turns later links pinned
        → ToldSo (is_seal_by seal) url first mid turns links pinned

  -- so it is, or no line was read and nothing was printed
  pub data TellsLines (words : List (List ℕ)) (seal : List ℕ) (before after : Links) (input input' : R) (output output' : W) (status : Status) : Type 0 where
    lines : LinesTold words seal before after input input' output output' status → TellsLines words seal before after input input' output output' status
    silent : is_silent status ≡ true → input' ≡ input → output' ≡ output → TellsLines words seal before after input input' output output' status
