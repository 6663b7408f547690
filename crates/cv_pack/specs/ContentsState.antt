-- Contents that were begun: what reading them on from there gives.
use Rattle.std.specs.Prelude.{◌≡◌, ℕ, ◌≤◌, List, [], ◌∷◌, ◌++◌, length, drop, nat_lt, if◌then◌else◌, Result, Ok, Err}
use Rattle.sha1.specs.Sha1.{Holds}
use Rattle.cv_base.specs.declared.object.Object.{Object}
use Rattle.cv_pack.specs.declared.contents_reader.ContentsReader.{ContentsReader}
use Rattle.cv_pack.specs.declared.entry.Entry.{Entry}
use Rattle.cv_pack.specs.declared.pack_fault.PackFault.{PackFault}
use Rattle.cv_pack.specs.declared.pack_fault.PackFault.TheVariants.{Short}
use Rattle.cv_base.specs.Sequence.{◌>>=◌}
use Rattle.cv_pack.specs.Reading.{contents_at}

-- objects that were read, and those that are still read
abbrev pub with_front : List Object → Result (List Object) PackFault → Result (List Object) PackFault
with_front front read = read >>= λ os. Ok (front ++ os)

-- what reading the contents of these entries on gives
abbrev pub contents_on : ContentsReader → List Entry → List ℕ → Result (List Object) PackFault
contents_on r es text =
    with_front r.objects.items (contents_at (length r.objects.items) (drop (length r.objects.items) es) (r.begun.items ++ text))

-- these bytes are a beginning of the content of the first entry, or none where there is no entry
abbrev pub BeginsFirst : List Entry → List ℕ → Type 0
BeginsFirst [] bytes = bytes ≡ []
BeginsFirst (e ∷ es) bytes = length bytes ≤ e.size

-- the reader is inside the contents of these entries
pub record IsOpen (r : ContentsReader) (es : List Entry) : Type 0 where
  pub hash : Holds r.hasher r.begun.items
  pub count : length r.objects.items ≤ length es
  pub first : BeginsFirst (drop (length r.objects.items) es) r.begun.items

-- what the contents that were read give, if no more come
abbrev pub so_far : ContentsReader → List Entry → Result (List Object) PackFault
so_far r es = if nat_lt (length r.objects.items) (length es) then Err Short else Ok r.objects.items
