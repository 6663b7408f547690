-- What bytes are judged to begin.
use Rattle.std.specs.Prelude.{◌≡◌, ◌≤◌, ℕ, List, length, drop, Option, Some, None}
use Rattle.cv_http.specs.Forms.{Form, BeginsAs, UnfinishedAs, RefusedAs}
use Rattle.cv_http.specs.declared.fault.HttpFault.{HttpFault}
use Rattle.cv_http.specs.declared.judge.Judged.{Judged}
use Rattle.cv_http.specs.declared.judge.Judged.TheVariants as judged

-- a whole head of so many bytes, which has this fault or else says this, is judged so
abbrev pub JudgesWhole : {H : Type 0} → Option HttpFault → H → ℕ → Judged H → Type 0
JudgesWhole found says size (judged.Whole head count) = (found ≡ None) × (head ≡ says) × (count ≡ size)
JudgesWhole found says size judged.More = ⊥
JudgesWhole found says size (judged.Refused fault) = found ≡ Some fault

-- the bytes are judged so
abbrev pub Judges : {P H : Type 0} → Form P H → List ℕ → Judged H → Type 0
Judges form bytes (judged.Whole head size) = (size ≤ length bytes) × BeginsAs form bytes head (drop size bytes)
Judges form bytes judged.More = UnfinishedAs form bytes
Judges form bytes (judged.Refused fault) = RefusedAs form bytes fault
