-- What is still to be read, and what was read. What only this crate's own functions say.
use Rattle.std.specs.Prelude.{◌≡◌, ℕ, List, Option, Result, Ok, Err}
use Rattle.std.specs.declared.option.Option.TheVariants.{Some, None}
use Rattle.cv_http.specs.Forms.{Form, BeginsAs, RefusedAs}
use Rattle.cv_http.specs.declared.fault.HttpFault.{HttpFault}
use Rattle.cv_http.specs.declared.fault.HttpFault.TheVariants.{NoMemory}

-- the bytes are refused by this fault, or memory was wanted, and all are still held
abbrev pub HeadLost : {P H : Type 0} → Form P H → List ℕ → List ℕ → HttpFault → Type 0
HeadLost form b held NoMemory = held ≡ b
HeadLost form b held fault = RefusedAs form b fault × (held ≡ b)

-- what the bytes held are where a head is taken of them: a head, and then what is still held; or a part of one
abbrev pub HeadFound : {P H : Type 0} → Form P H → (List ℕ → Type 0) → List ℕ → List ℕ → Result (Option H) HttpFault → Type 0
HeadFound form IsPart b held (Ok (Some head)) = BeginsAs form b head held
HeadFound form IsPart b held (Ok None) = IsPart b × (held ≡ b)
HeadFound form IsPart b held (Err fault) = HeadLost form b held fault
