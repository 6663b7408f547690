-- What a payload asks: its message size is judged first, then the authorization, the message, the digest of the pack's header,
-- the pack, and the header's length. What only this crate's own functions say.
use Rattle.std.specs.Prelude.{◌≡◌, ◌++◌, ◌<◌, ℕ, List, Option, Result, Ok, Err, length}
use Rattle.cv_ports.specs.Streams.{Look}
use Rattle.cv_http.specs.Wires.{WireView, Draws, Looks, Beside, BodyRead}
use Rattle.cv_http.specs.declared.fault.HttpFault.{HttpFault}
use Rattle.cv_http.specs.declared.fault.HttpFault.TheVariants as http
use Rattle.cv_answers.specs.declared.reason.Reason.TheVariants as reason
use Rattle.cv_pack.specs.declared.pack_fault.PackFault.{PackFault}
use Rattle.cv_pack.specs.declared.pack_fault.PackFault.TheVariants.{BadHeader, TooLarge, TooMany, HashDiffers, Short, Trailing, Duplicate, NoMemory}
use Rattle.cv_session.specs.Turns.{denied}
use Rattle.cv_session.specs.TurnsInner.{IsGood}
use Rattle.cv_session.specs.declared.turn.Turn.{Turn}

-- a body says this turn, whose op the gate takes or whose refusal can be written
abbrev pub Says : (List ℕ → Turn) → List ℕ → Turn → Type 0
Says says body turn = (turn ≡ says body) × IsGood turn

-- ---- inside the reading of a payload

-- a body of so many bytes was read, of which this was made, or not for a fault
abbrev pub ReadsBody : {R A : Type 0} → (R → Option (List ℕ)) → (R → Option (List ℕ)) → WireView R → WireView R → ℕ → (List ℕ → A → Type 0) → Result A HttpFault → Type 0
ReadsBody left given wire wire' size Made result = Draws left given wire wire' (λ b. BodyRead size Made b wire'.held result)

-- each read of the source began where this was passed on and fewer bytes were there
abbrev pub LooksWithin : {R : Type 0} → (R → Option (List ℕ)) → (R → Look → Type 0) → WireView R → WireView R → Option (List ℕ) → ℕ → Type 0
LooksWithin left looks wire wire' passed size = Looks left looks wire wire' (Beside passed (λ b. length b < size))

-- so many bytes came, which are so, and then what is held
pub record Came (count : ℕ) (So : List ℕ → Type 0) (b held : List ℕ) : Type 0 where
  pub body : List ℕ
  pub split : b ≡ body ++ held
  pub size : length body ≡ count
  pub so : So body

-- the turn of a pack with a fault, unless memory was wanted
abbrev pub refused_pack : PackFault → Result Turn HttpFault
refused_pack (BadHeader at) = Ok (denied reason.BadPack)
refused_pack TooLarge = Ok (denied reason.BadPack)
refused_pack TooMany = Ok (denied reason.BadPack)
refused_pack (HashDiffers index) = Ok (denied reason.BadPack)
refused_pack Short = Ok (denied reason.BadPack)
refused_pack Trailing = Ok (denied reason.BadPack)
refused_pack (Duplicate index) = Ok (denied reason.BadPack)
refused_pack NoMemory = Err http.NoMemory
