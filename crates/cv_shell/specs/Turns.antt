-- What a line comes to.
use Rattle.std.specs.Prelude.{◌≡◌, ℕ, Bool, List, codes, Result, Ok, Err}
use Rattle.cv_base.specs.Unless.{IsUnless}
use Rattle.cv_manifest.specs.declared.manifest.Manifest.{Manifest}
use Rattle.cv_resolver.specs.Resolver.{Client, renewal, pinned_at}
use Rattle.cv_resolver.specs.declared.question.Question.{Question}
use Rattle.cv_resolver.specs.declared.found.Found.{Found}
use Rattle.cv_resolver.specs.declared.found.RenewFault.{RenewFault}
use Rattle.cv_client.specs.Answer.{Answers}
use Rattle.cv_client.specs.Exchange.{Links}
use Rattle.cv_client.specs.Pin.{FetchesManifest}
use Rattle.cv_client.specs.Served.{FetchesServed, AnswersServed}
use Rattle.cv_client.specs.declared.url.Url.{Url}
use Rattle.cv_client.specs.declared.ask_fault.AskFault.{AskFault}
use Rattle.cv_client.specs.declared.ask_fault.AskFault.TheVariants as ask_fault
use Rattle.cv_shell.specs.Line.{Says}
use Rattle.cv_shell.specs.Texts.{answer_text, revision_line, fault_text, renewal_text, refusal}
use Rattle.cv_shell.specs.declared.line.Line.{Line}
use Rattle.cv_shell.specs.declared.line.Line.TheVariants.{Ask, Renew}
use Rattle.cv_shell.specs.declared.turn.Stop.{Stop}
use Rattle.cv_shell.specs.declared.turn.Stop.TheVariants.{LinkFailed, BadReply, NoMemory}

-- what is printed, or why the shell ends
abbrev pub Said : Type 0
Said = Result (List ℕ) Stop

-- where there is no answer
abbrev pub said_of_fault : AskFault → Said
said_of_fault ask_fault.LinkFailed = Err LinkFailed
said_of_fault ask_fault.BadReply = Err BadReply
said_of_fault ask_fault.BadManifest = Ok (refusal (codes "bad manifest"))
said_of_fault (ask_fault.Refused fault) = Ok (refusal (fault_text fault))
said_of_fault ask_fault.NoMemory = Err NoMemory

-- where a question was asked
abbrev pub said : Result Found AskFault → Said
said (Ok found) = Ok (answer_text found)
said (Err fault) = said_of_fault fault

-- where a manifest was taken, or refused
abbrev pub said_of_renewal : Manifest → Result (Unit {0}) RenewFault → Said
said_of_renewal m (Ok done) = Ok (revision_line m.head.revision)
said_of_renewal m (Err fault) = Ok (refusal (renewal_text fault))

-- and the client then
abbrev pub after_renewal : Client → Manifest → Result (Unit {0}) RenewFault → Client
after_renewal r m (Ok done) = pinned_at r m
after_renewal r m (Err fault) = r

-- this is said, or there was no memory for its text
abbrev pub Prints : Said → Said → Type 0
Prints says told = IsUnless NoMemory told says

module _ (is_seal : List ℕ → List ℕ → Bool) (u : Url) where
  -- the manifest was fetched, and taken or refused; or it wasn't fetched
  pub data Renews (before after : Links) (r r' : Client) (told : Said) : Type 0 where
    offered : (m : Manifest) → FetchesManifest is_seal u before after (Ok m) → FetchesServed is_seal u before after (Ok m) → r' ≡ after_renewal r m (renewal r m)
        → Prints (said_of_renewal m (renewal r m)) told → Renews before after r r' told
    unfetched : (fault : AskFault) → FetchesManifest is_seal u before after (Err fault) → FetchesServed is_seal u before after (Err fault) → r' ≡ r
        → Prints (said_of_fault fault) told → Renews before after r r' told

  -- What a line came to, with the links that came back and the client, before and after it: its question was answered; the client was
  -- renewed, or not; or it is of another form. Or there was no memory to read it.
  pub data Turns (line : List ℕ) (before after : Links) (r r' : Client) (told : Said) : Type 0 where
    asks : (q : Question) (answer : Result Found AskFault) → Says line (Ask q) → Answers u q before after r r' answer → AnswersServed u q before after r answer
        → Prints (said answer) told → Turns line before after r r' told
    renews : Says line Renew → Renews before after r r' told → Turns line before after r r' told
    bad_line : ((asked : Line) → Says line asked → ⊥) → after ≡ before → r' ≡ r → Prints (Ok (refusal (codes "bad line"))) told → Turns line before after r r' told
    unread : after ≡ before → r' ≡ r → told ≡ Err NoMemory → Turns line before after r r' told
