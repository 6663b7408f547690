-- A shell over the bytes that it read.
use Rattle.std.specs.Prelude.{◌≡◌, ◌⊎◌, ◌++◌, ◌∷◌, ℕ, Bool, List, [], Option, Ok, Err}
use Rattle.std.specs.declared.option.Option.TheVariants.{Some, None}
use Rattle.std.specs.List.{flat_map}
use Rattle.cv_ports.specs.Streams.{Look, front, onto, Wrote}
use Rattle.cv_http.specs.Wires.{WireView, HasEnded}
use Rattle.cv_resolver.specs.Resolver.{Client}
use Rattle.cv_client.specs.Exchange.{Links}
use Rattle.cv_client.specs.declared.url.Url.{Url}
use Rattle.cv_shell.specs.Ends.{end_of_stop}
use Rattle.cv_shell.specs.Lines.{IsLine, IsTooLong, IsNext}
use Rattle.cv_shell.specs.Turns.{Turns}
use Rattle.cv_shell.specs.declared.turn.Stop.{Stop}
use Rattle.cv_shell.specs.declared.shell_end.ShellEnd.{ShellEnd}
use Rattle.cv_shell.specs.declared.shell_end.ShellEnd.TheVariants.{Ended, TooLong, InputFailed, OutputFailed, NoMemory}

-- a source of which nothing is held
abbrev pub unheld : {R : Type 0} → R → WireView R
unheld source = record { source = source; held = [] }

-- a line that was answered, and the text that was printed for it
pub record Turn : Type 0 where
  pub line : List ℕ
  pub text : List ℕ

-- all that was printed
abbrev pub printed : List Turn → List ℕ
printed = flat_map (λ t. t.text)

module _ (is_seal : List ℕ → List ℕ → Bool) (u : Url) where
  -- a line was answered, and its text was written; or the output failed in it; or the line ends the shell
  pub data Answered (line : List ℕ) (before after : Links) (r r' : Client) (taken taken' : Option (List ℕ)) : Option ShellEnd → Type 0 where
    written : (text : List ℕ) → Turns is_seal u line before after r r' (Ok text) → taken' ≡ onto taken text → Answered line before after r r' taken taken' None
    unwritten : (text : List ℕ) → Turns is_seal u line before after r r' (Ok text) → Wrote taken taken' text → Answered line before after r r' taken taken' (Some OutputFailed)
    stopped : (stop : Stop) → Turns is_seal u line before after r r' (Err stop) → taken' ≡ taken → Answered line before after r r' taken taken' (Some (end_of_stop stop))

  -- The bytes b begin with the lines of these turns, each of which was answered so, one after another, behind the links and with the
  -- client of the one before: what is left of the bytes, and the links and the client then. The source has this left behind b.
  pub data Runs (left : Option (List ℕ)) (b : List ℕ) (l : Links) (r : Client) : List Turn → List ℕ → Links → Client → Type 0 where
    begins : Runs left b l r [] b l r
    goes : {turns : List Turn} {rest later : List ℕ} {before after : Links} {c c' : Client} (t : Turn) → Runs left b l r turns rest before c → IsNext left rest t.line later
        → Turns is_seal u t.line before after c c' (Ok t.text) → Runs left b l r (turns ++ t ∷ []) later after c'

  -- How a shell ended behind these turns, over the bytes b that it read: the output took all that was printed.
  pub data Ends (left : Option (List ℕ)) (b : List ℕ) (l l' : Links) (r r' : Client) (taken taken' : Option (List ℕ)) (turns : List Turn) : ShellEnd → Type 0 where
    -- each line was answered, and nothing is left
    ended : Runs left b l r turns [] l' r' → HasEnded left → taken' ≡ onto taken (printed turns) → Ends left b l l' r r' taken taken' turns Ended
    -- the next line is too long
    too_long : (rest : List ℕ) → Runs left b l r turns rest l' r' → IsTooLong rest → taken' ≡ onto taken (printed turns) → Ends left b l l' r r' taken taken' turns TooLong
    -- the input failed where a part of a line was read, or nothing of one
    unread : (rest : List ℕ) → Runs left b l r turns rest l' r' → IsLine rest → taken' ≡ onto taken (printed turns) → Ends left b l l' r r' taken taken' turns InputFailed
    -- the next line ended it: it was stopped, or the output failed in its text
    by_line : (rest line later : List ℕ) (before : Links) (c : Client) (end : ShellEnd) → Runs left b l r turns rest before c → IsNext left rest line later
        → Answered line before l' c r' (onto taken (printed turns)) taken' (Some end) → Ends left b l l' r r' taken taken' turns end
    -- there was no memory for the next line
    no_memory : (rest : List ℕ) → Runs left b l r turns rest l' r' → taken' ≡ onto taken (printed turns) → Ends left b l l' r r' taken taken' turns NoMemory

  -- A read of a source that had this left, and of which this was held, began behind the first of the turns: no whole line was read but
  -- theirs, and all that was printed in them was passed on.
  pub record IsUpToDate (left : Option (List ℕ)) (held : List ℕ) (l : Links) (r : Client) (taken : Option (List ℕ)) (turns : List Turn) (look : Look) : Type 0 where
    pub got : List ℕ
    pub told : left ≡ front got look.left
    pub first : List Turn
    pub later : List Turn
    pub split : turns ≡ first ++ later
    pub rest : List ℕ
    pub before : Links
    pub client : Client
    pub runs : Runs look.left (held ++ got) l r first rest before client
    pub part : IsLine rest
    pub said : look.passed ≡ onto taken (printed first)

  -- each read of the source that began meanwhile did so, if all that the sink had taken was passed on at first
  abbrev pub ReadsUpToDate : {R : Type 0} → (R → Option (List ℕ)) → (R → Look → Type 0) → WireView R → WireView R → Links → Client → (taken passed : Option (List ℕ)) → List Turn → Type 0
  ReadsUpToDate left looks lines lines' l r taken passed turns = passed ≡ taken
      → (look : Look) → looks lines'.source look → looks lines.source look ⊎ IsUpToDate (left lines.source) lines.held l r taken turns look

  -- A shell over the bytes b that it read: its turns and its end, and the reads of the source fit the turns. Where the output failed, it
  -- had passed on by flushes what was printed in the turns, and no more, if all that it had taken was passed on at first: so the next line
  -- was answered at most, and no later one.
  pub record Shells (Fit : List Turn → Type 0) (left : Option (List ℕ)) (b : List ℕ) (l l' : Links) (r r' : Client) (taken taken' passed passed' : Option (List ℕ)) (end : ShellEnd) : Type 0 where
    pub turns : List Turn
    pub ends : Ends left b l l' r r' taken taken' turns end
    pub reads : Fit turns
    pub broke : end ≡ OutputFailed → passed ≡ taken → passed' ≡ onto taken (printed turns)
