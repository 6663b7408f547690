-- A reader of packs, and the bytes that it was fed.
use Rattle.std.specs.Prelude.{◌≡◌, ◌≢◌, ℕ, List, [], ◌++◌, length, Option, Some, None, Result, Ok, Err}
use Rattle.sha1.specs.Sha1.{sha1, Holds}
use Rattle.cv_base.specs.Sequence.{◌>>=◌}
use Rattle.cv_base.specs.declared.object.Object.{Object}
use Rattle.cv_pack.specs.declared.contents_reader.ContentsReader.{ContentsReader}
use Rattle.cv_pack.specs.declared.entry.Entry.{Entry}
use Rattle.cv_pack.specs.declared.header_reader.HeaderReader.{HeaderReader}
use Rattle.sha1.specs.declared.Sha1.{Sha1}
use Rattle.cv_pack.specs.declared.field.Field.TheVariants as fields
use Rattle.cv_pack.specs.declared.pack.Pack.{Pack}
use Rattle.cv_pack.specs.declared.pack_fault.PackFault.{PackFault}
use Rattle.cv_pack.specs.declared.pack_reader.PackReader.{PackReader}
use Rattle.cv_pack.specs.ContentsState.{IsOpen, contents_on, so_far}
use Rattle.cv_pack.specs.HeaderState.{Faults, header_on}
use Rattle.cv_pack.specs.Pack.{IsPack, header_bytes, pack_bytes}
use Rattle.cv_pack.specs.Reading.{header_at, contents_at, reading}

-- the readers of the header and of the contents have taken these bytes, each its own
pub record HasTaken (hasher : Sha1) (h : HeaderReader) (c : ContentsReader) (header contents : List ℕ) : Type 0 where
  pub hash : Holds hasher header
  pub at : h.at ≡ length header
  pub header_reads : (text : List ℕ) → header_at (header ++ text) ≡ header_on h text
  pub nothing : h.field ≢ fields.Whole → contents ≡ []
  pub is_open : (es : List Entry) → (h.field ≡ fields.Whole → es ≡ h.entries) → IsOpen c es
  pub reads : (es : List Entry) → (h.field ≡ fields.Whole → es ≡ h.entries) → (text : List ℕ) → contents_at 0 es (contents ++ text) ≡ contents_on c es text

-- the reader was fed these bytes, and has met no fault
pub record IsFed (r : PackReader) (bytes : List ℕ) : Type 0 where
  pub header : List ℕ
  pub contents : List ℕ
  pub parts : bytes ≡ header ++ contents
  pub taken : HasTaken r.header_hash r.header r.contents header contents
  pub ends : r.header.field ≡ fields.Whole → reading bytes ≡ so_far r.contents r.header.entries

-- the fault that a reader has met
abbrev pub fault_of : PackReader → Option PackFault
fault_of r = r.fault

abbrev pub FedWith : Option PackFault → PackReader → List ℕ → Type 0
FedWith None r bytes = IsFed r bytes
FedWith (Some fault) r bytes = (text : List ℕ) → Faults fault (reading (bytes ++ text))

-- the reader was fed these bytes
abbrev pub Fed : PackReader → List ℕ → Type 0
Fed r bytes = FedWith r.fault r bytes

-- the fault of an answer
abbrev pub answer_of : Result Unit PackFault → Option PackFault
answer_of (Ok _) = None
answer_of (Err fault) = Some fault

-- the pack of these objects, as it is given
abbrev pub pack_of : List Object → Pack
pack_of os = record { objects = os; header = length (header_bytes os); digest = sha1 (header_bytes os) }

-- the pack that all the bytes are, or their fault
abbrev pub pack_in : List ℕ → Result Pack PackFault
pack_in bytes = reading bytes >>= λ os. Ok (pack_of os)

-- these bytes are those of this pack, and no others
pub record IsFoundIn (bytes : List ℕ) (pack : Pack) : Type 0 where
  pub is_pack : IsPack pack.objects
  pub spelled : bytes ≡ pack_bytes pack.objects
  pub whole : pack ≡ pack_of pack.objects
