-- What is still to be read, and what was read.
use Rattle.std.specs.Prelude.{◌≡◌, ◌<◌, ◌++◌, ◌⊎◌, ℕ, List, [], length, Option, Result, Ok, Err}
use Rattle.std.specs.declared.option.Option.TheVariants.{Some, None}
use Rattle.cv_base.specs.Told.{WhereTold}
use Rattle.cv_ports.specs.Streams.{Look, front, onto}
use Rattle.cv_http.specs.Forms.{Form, BeginsAs, RefusedAs, AwaitedAs, CutAs}
use Rattle.cv_http.specs.Heads.{request_form}
use Rattle.cv_http.specs.declared.head.RequestHead.{RequestHead}
use Rattle.cv_http.specs.declared.fault.HttpFault.{HttpFault}
use Rattle.cv_http.specs.declared.fault.HttpFault.TheVariants.{BadHead, HeadTooLarge, BodyTooLarge, NoLength, Coding, Short, ReadFault, NoMemory}

-- a source, and what it gave that wasn't used yet
pub record WireView (R : Type 0) : Type 0 where
  pub source : R
  pub held : List ℕ

-- the bytes that weren't used yet, where they are told
abbrev pub rest : {R : Type 0} → (R → Option (List ℕ)) → WireView R → Option (List ℕ)
rest left wire = front wire.held (left wire.source)

-- the source has nothing left, where it tells
abbrev pub HasEnded : Option (List ℕ) → Type 0
HasEnded left = WhereTold left (λ l. l ≡ [])

-- the bytes that were read meanwhile, those held before and then those got of the source, are so
pub record Reads {R : Type 0} (left : R → Option (List ℕ)) (wire wire' : WireView R) (Are : List ℕ → Type 0) : Type 0 where
  pub got : List ℕ
  pub told : left wire.source ≡ front got (left wire'.source)
  pub are : Are (wire.held ++ got)

-- the bytes that were read meanwhile are so, and the source tells that it gave those that weren't held before
pub record Draws {R : Type 0} (left given : R → Option (List ℕ)) (wire wire' : WireView R) (Are : List ℕ → Type 0) : Type 0 where
  pub got : List ℕ
  pub told : left wire.source ≡ front got (left wire'.source)
  pub gave : given wire'.source ≡ onto (given wire.source) got
  pub are : Are (wire.held ++ got)

-- a read of the source began when so much had been got of it, and with what was held before and what the sink beside it had passed
-- on, that is so
pub record LookedAt (left : Option (List ℕ)) (held : List ℕ) (Are : List ℕ → Option (List ℕ) → Type 0) (look : Look) : Type 0 where
  pub got : List ℕ
  pub told : left ≡ front got look.left
  pub are : Are (held ++ got) look.passed

-- each read of the source that began meanwhile did so when the bytes read and what the sink had passed on were so
abbrev pub Looks : {R : Type 0} → (R → Option (List ℕ)) → (R → Look → Type 0) → WireView R → WireView R → (List ℕ → Option (List ℕ) → Type 0) → Type 0
Looks left looks wire wire' Are = (look : Look) → looks wire'.source look → looks wire.source look ⊎ LookedAt (left wire.source) wire.held Are look

-- such bytes were read when this had been passed on
abbrev pub Beside : Option (List ℕ) → (List ℕ → Type 0) → List ℕ → Option (List ℕ) → Type 0
Beside passed Are b passed' = Are b × (passed' ≡ passed)

-- what the bytes read are where a head of a form was asked for, and which of them are still held
abbrev pub HeadReadAs : {P H : Type 0} → Form P H → List ℕ → List ℕ → Result (Option H) HttpFault → Type 0
HeadReadAs form b held (Ok (Some head)) = BeginsAs form b head held
HeadReadAs form b held (Ok None) = (b ≡ []) × (held ≡ b)
HeadReadAs form b held (Err Short) = CutAs form b × (held ≡ b)
HeadReadAs form b held (Err ReadFault) = AwaitedAs form b × (held ≡ b)
HeadReadAs form b held (Err NoMemory) = held ≡ b
HeadReadAs form b held (Err BadHead) = RefusedAs form b BadHead × (held ≡ b)
HeadReadAs form b held (Err HeadTooLarge) = RefusedAs form b HeadTooLarge × (held ≡ b)
HeadReadAs form b held (Err BodyTooLarge) = RefusedAs form b BodyTooLarge × (held ≡ b)
HeadReadAs form b held (Err NoLength) = RefusedAs form b NoLength × (held ≡ b)
HeadReadAs form b held (Err Coding) = RefusedAs form b Coding × (held ≡ b)

-- the same where a request's head was asked for
abbrev pub HeadRead : List ℕ → List ℕ → Result (Option RequestHead) HttpFault → Type 0
HeadRead = HeadReadAs request_form

-- what the bytes read are where so many bytes were asked for: a body of which this was made, and then what is still held;
-- or fewer, where the input ended or the source failed
abbrev pub BodyRead : {A : Type 0} → ℕ → (List ℕ → A → Type 0) → List ℕ → List ℕ → Result A HttpFault → Type 0
BodyRead size Made b held (Ok made) = (body : List ℕ) × (b ≡ body ++ held) × (length body ≡ size) × Made body made
BodyRead size Made b held (Err Short) = length b < size
BodyRead size Made b held (Err BadHead) = Unit {0}
BodyRead size Made b held (Err HeadTooLarge) = Unit {0}
BodyRead size Made b held (Err BodyTooLarge) = Unit {0}
BodyRead size Made b held (Err NoLength) = Unit {0}
BodyRead size Made b held (Err Coding) = Unit {0}
BodyRead size Made b held (Err ReadFault) = length b < size
BodyRead size Made b held (Err NoMemory) = Unit {0}

-- the same where a piece was asked for, one byte at least
abbrev pub PieceRead : List ℕ → List ℕ → Result (List ℕ) HttpFault → Type 0
PieceRead b held (Ok piece) = b ≡ piece ++ held
PieceRead b held (Err Short) = b ≡ []
PieceRead b held (Err BadHead) = Unit {0}
PieceRead b held (Err HeadTooLarge) = Unit {0}
PieceRead b held (Err BodyTooLarge) = Unit {0}
PieceRead b held (Err NoLength) = Unit {0}
PieceRead b held (Err Coding) = Unit {0}
PieceRead b held (Err ReadFault) = b ≡ []
PieceRead b held (Err NoMemory) = Unit {0}

-- so much was got of the source, which tells that it gave it, and is held behind what was held
pub record Gets {R : Type 0} (left given : R → Option (List ℕ)) (wire wire' : WireView R) : Type 0 where
  pub got : List ℕ
  pub told : left wire.source ≡ front got (left wire'.source)
  pub gave : given wire'.source ≡ onto (given wire.source) got
  pub more : wire'.held ≡ wire.held ++ got
