-- What a client's command does: it asks one question at the head that is served, and prints the answer.
use Rattle.std.specs.Prelude.{◌≡◌, ℕ, List, Option}
use Rattle.std.specs.declared.result.Result.TheVariants.{Ok, Err}
use Rattle.cv_ports.specs.Streams.{onto, Wrote}
use Rattle.cv_resolver.specs.declared.question.Question.{Question}
use Rattle.cv_resolver.specs.declared.found.Found.{Found}
use Rattle.cv_client.specs.Exchange.{Links}
use Rattle.cv_client.specs.Texts.{found_text}
use Rattle.cv_client.specs.Told.{Told}
use Rattle.cv_client.specs.declared.ask_fault.AskFault.{AskFault}
use Rattle.cv_client.specs.declared.url.Url.{Url}
use Rattle.cv_top.specs.Seal.{is_seal_by}
use Rattle.cv_top.specs.Status.{ask_status}
use Rattle.cv_top.specs.declared.status.Status.{Status}
use Rattle.cv_top.specs.declared.status.Status.TheVariants.{Done, OutputFailed, OutOfMemory}

-- what an output took
module _ {W : Type 0} (taken : W → Option (List ℕ)) where
  -- a text was printed; or not for sure; or there was no memory for it
  pub data Prints (text : List ℕ) (output output' : W) : Status → Type 0 where
    printed : taken output' ≡ onto (taken output) text → Prints text output output' Done
    unprinted : Wrote (taken output) (taken output') text → Prints text output output' OutputFailed
    unwritten : output' ≡ output → Prints text output output' OutOfMemory

  -- and the links that came back to a dial
  module _ {N : Type 0} (came : N → Links) where
    pub data Looks (seal : List ℕ) (u : Url) (q : Question) (output output' : W) (dial dial' : N) : Status → Type 0 where
      answered : (found : Found) (status : Status) → Told (is_seal_by seal) u q (came dial) (came dial') (Ok found) → Prints (found_text found) output output' status
          → Looks seal u q output output' dial dial' status
      unanswered : (fault : AskFault) → Told (is_seal_by seal) u q (came dial) (came dial') (Err fault) → output' ≡ output
          → Looks seal u q output output' dial dial' (ask_status fault)
