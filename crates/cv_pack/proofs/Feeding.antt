-- A reader that is fed bytes, more and more.
use Rattle.std.proofs.Common.{◌≡◌, ℕ, zero, suc, ◌+◌, ◌-◌, ◌<◌, ◌≤◌, true, false, List, [], ◌++◌, length, take, drop, Result, Ok, Err, refl, nat_lt, sym, ap, subst, ◌∙◌, inl, inr, ◌⊎◌, arith, append_assoc, length-append, length-take, take-append-drop}
use Rattle.std.proofs.lemmas.List.{append-nil, nil_from_length, length-drop}
use Rattle.std.proofs.lemmas.Bool.{cases_lt, cases_Bool, lt-ltb, le-ltb}
use Rattle.sha1.specs.declared.Sha1.{Sha1}
use Rattle.sha1.specs.Sha1.{sha1, Holds}
use Rattle.cv_base.specs.declared.object.Object.{Object}
use Rattle.cv_pack.specs.declared.contents_reader.ContentsReader.{ContentsReader}
use Rattle.cv_pack.specs.declared.entry.Entry.{Entry}
use Rattle.cv_pack.specs.declared.field.Field.{Field}
use Rattle.cv_pack.specs.declared.field.Field.TheVariants as fields
use Rattle.cv_pack.specs.declared.field.Mark.TheVariants.{FormatLetter, FormatDigit, FormatEnd, TotalLetter, CountLetter, FirstDash, SecondDash, LineLetter, LineBlank}
use Rattle.cv_pack.specs.declared.header_reader.HeaderReader.{HeaderReader}
use Rattle.cv_pack.specs.declared.pack.Pack.{Pack}
use Rattle.cv_pack.specs.declared.pack_fault.PackFault.{PackFault}
use Rattle.cv_pack.specs.declared.pack_fault.PackFault.TheVariants.{Short, NoMemory}
use Rattle.cv_pack.specs.declared.pack_reader.PackReader.{PackReader}
use Rattle.cv_pack.specs.Pack.{IsPack, header_of, header_bytes, pack_bytes}
use Rattle.cv_pack.proofs.Lines.{header_takes}
use Rattle.cv_pack.proofs.Packs.{contents_take, pack_takes, pack_again}
use Rattle.cv_base.specs.Sequence.{◌>>=◌}
use Rattle.cv_base.specs.Unless.{IsUnless}
use Rattle.cv_base.proofs.Laws.{bind_ok, ok_is}
use Rattle.cv_pack.specs.Reading.{Header, hash_from, header_at, contents_at, reading, shown, unless_short}
use Rattle.cv_pack.specs.HeaderState.{Progress, progress, after_line, from_field, header_on, Faults}
use Rattle.cv_pack.specs.HeaderStateInner.{TakesPart}
use Rattle.cv_pack.specs.ContentsState.{contents_on, so_far, IsOpen}
use Rattle.cv_pack.specs.ContentsStateInner.{Goes}
use Rattle.cv_pack.specs.PackReader.{HasTaken, IsFed, IsFoundIn, pack_of, pack_in}

pub whole_or_not : (f : Field) → (f ≡ fields.Whole) ⊎ (f ≡ fields.Whole → ⊥)
whole_or_not (fields.Mark m) = inr (λ e. cc)
whole_or_not (fields.Total v) = inr (λ e. cc)
whole_or_not (fields.Count v) = inr (λ e. cc)
whole_or_not fields.DashesEnd = inr (λ e. cc)
whole_or_not fields.Hash = inr (λ e. cc)
whole_or_not (fields.SizeBlank id) = inr (λ e. cc)
whole_or_not (fields.Size id v) = inr (λ e. cc)
whole_or_not fields.Whole = inl refl

-- a header whose bytes end
short_hash : (k : Entry → ℕ → List ℕ → Result Header PackFault) (es : List Entry) (line n : ℕ) (digits : List ℕ) (at : ℕ) → hash_from k es line n digits at [] ≡ Err Short
short_hash k es line zero digits at = refl
short_hash k es line (suc n) digits at = refl

short_field : (p : Progress) (f : Field) (line at : ℕ) → (f ≡ fields.Whole → ⊥) → from_field p f line at [] ≡ Err Short
short_field p (fields.Mark FormatLetter) line at other = refl
short_field p (fields.Mark FormatDigit) line at other = refl
short_field p (fields.Mark FormatEnd) line at other = refl
short_field p (fields.Mark TotalLetter) line at other = refl
short_field p (fields.Mark CountLetter) line at other = refl
short_field p (fields.Mark FirstDash) line at other = refl
short_field p (fields.Mark SecondDash) line at other = refl
short_field p (fields.Mark LineLetter) line at other = refl
short_field p (fields.Mark LineBlank) line at other = refl
short_field p (fields.Total v) line at other = refl
short_field p (fields.Count v) line at other = refl
short_field p fields.DashesEnd line at other = refl
short_field p fields.Hash line at other = short_hash (after_line p) p.entries line (40 - length p.digits) p.digits at
short_field p (fields.SizeBlank id) line at other = refl
short_field p (fields.Size id v) line at other = refl
short_field p fields.Whole line at other = absurd (other refl)

-- a header that was read
whole_header : (h : HeaderReader) (text : List ℕ) → h.field ≡ fields.Whole → header_on h text ≡ Ok (h.entries, h.at, text)
whole_header h text is = ap (λ (f : Field). from_field (progress h) f h.line h.at text) is

-- a fault of what is read first, but for want of memory
unless_first : {A B : Type 0} (read : Result A PackFault) (k : A → Result B PackFault) (fault : PackFault) → IsUnless NoMemory (Err fault) read → IsUnless NoMemory (Err fault) (read >>= k)
unless_first read k fault h = elim h [ inl lacking ↦ inl lacking | inr is ↦ inr (rw (← is) refl) ]

-- and but for that bytes are lacking
fault_first : {A B : Type 0} (read : Result A PackFault) (k : A → Result B PackFault) (fault : PackFault) → Faults fault read → Faults fault (read >>= k)
fault_first read k Short h = h
fault_first read k fault h = unless_first read k fault h

-- what reading is where the header was read
read_header : (header contents text : List ℕ) (hasher : Sha1) (h : HeaderReader) (c : ContentsReader) → HasTaken hasher h c header contents → h.field ≡ fields.Whole
    → reading (header ++ (contents ++ text)) ≡ contents_on c h.entries text
read_header header contents text hasher h c taken whole =
    ap (λ (x : Result Header PackFault). x >>= λ r. contents_at 0 r.0 r.2) (taken.header_reads (contents ++ text) ∙ whole_header h (contents ++ text) whole)
    ∙ taken.reads h.entries (λ is. refl) text

-- the bytes of a header that goes on
pub short_taken : (header contents : List ℕ) (hasher : Sha1) (h : HeaderReader) (c : ContentsReader) → HasTaken hasher h c header contents → (h.field ≡ fields.Whole → ⊥) → reading (header ++ contents) ≡ Err Short
short_taken header contents hasher h c taken other =
    let short : header_at (header ++ contents) ≡ Err Short = ap (λ (x : List ℕ). header_at (header ++ x)) (taken.nothing other) ∙ taken.header_reads [] ∙ short_field (progress h) h.field h.line h.at other in
    ap (λ (x : Result Header PackFault). x >>= λ r. contents_at 0 r.0 r.2) short

-- all the bytes where the header was read
pub ends_taken : (header contents : List ℕ) (hasher : Sha1) (h : HeaderReader) (c : ContentsReader) → HasTaken hasher h c header contents → h.field ≡ fields.Whole
    → contents_on c h.entries [] ≡ so_far c h.entries → reading (header ++ contents) ≡ so_far c h.entries
ends_taken header contents hasher h c taken whole ends = ap (λ (x : List ℕ). reading (header ++ x)) (sym (append-nil contents)) ∙ read_header header contents [] hasher h c taken whole ∙ ends

-- a reader without a fault was fed bytes that show none
quiet_end : (c : ContentsReader) (es : List Entry) → Ok tt ≡ unless_short (so_far c es)
quiet_end c es = elim (cases_Bool (nat_lt (length c.objects.items) (length es))) [
  | inl short ↦ rw short refl
  | inr whole ↦ rw whole refl
]

pub quiet_fed : (r : PackReader) (bytes : List ℕ) → IsFed r bytes → Ok tt ≡ shown bytes
quiet_fed r bytes fed = elim (whole_or_not r.header.field) [
  | inl whole ↦ quiet_end r.contents r.header.entries ∙ ap unless_short (sym (fed.ends whole))
  | inr other ↦ ap unless_short (sym (ap reading fed.parts ∙ short_taken fed.header fed.contents r.header_hash r.header r.contents fed.taken other))
]

-- a fault of the header
pub fault_of_header : (header contents piece text : List ℕ) (hasher : Sha1) (old new : HeaderReader) (c : ContentsReader) (result : Result ℕ PackFault) (fault : PackFault) → HasTaken hasher old c header contents
    → (old.field ≡ fields.Whole → (result ≡ Ok 0) × (new ≡ old)) → result ≡ Err fault → TakesPart old new piece (Err fault) → Faults fault (reading (((header ++ contents) ++ piece) ++ text))
fault_of_header header contents piece text hasher old new c result fault taken stays failed takes =
    let other : old.field ≡ fields.Whole → ⊥ = λ whole. let ok = (stays whole).0 in cc in
    let all : ((header ++ contents) ++ piece) ++ text ≡ header ++ (piece ++ text) =
    ap (λ (x : List ℕ). ((header ++ x) ++ piece) ++ text) (taken.nothing other) ∙ ap (λ (x : List ℕ). (x ++ piece) ++ text) (append-nil header) ∙ append_assoc header piece text in
    let first : Faults fault (header_at (((header ++ contents) ++ piece) ++ text)) =
    subst (λ (x : Result Header PackFault). Faults fault x) (sym (ap header_at all ∙ taken.header_reads (piece ++ text))) (takes text) in
    fault_first (header_at (((header ++ contents) ++ piece) ++ text)) (λ r. contents_at 0 r.0 r.2) fault first

fault_shown : (bytes : List ℕ) (fault : PackFault) → Faults fault (reading bytes) → IsUnless NoMemory (Err fault) (shown bytes)
fault_shown bytes Short h = absurd h
fault_shown bytes fault h = elim h [ inl lacking ↦ inl lacking | inr is ↦ inr (ap unless_short is) ]

-- what stays of a header that was read to its end
entries_stay : (old new : HeaderReader) (es : List Entry) → new ≡ old → (new.field ≡ fields.Whole → es ≡ new.entries) → old.field ≡ fields.Whole → es ≡ old.entries
entries_stay old new es same given whole = given (ap (λ (h : HeaderReader). h.field) same ∙ whole) ∙ ap (λ (h : HeaderReader). h.entries) same

-- the header has taken its part of a piece
pub header_taken : (header contents piece front : List ℕ) (hasher grown : Sha1) (old new : HeaderReader) (c : ContentsReader) (used : ℕ) → HasTaken hasher old c header contents
    → (old.field ≡ fields.Whole → new ≡ old) → TakesPart old new piece (Ok used) → front ≡ take used piece → new.at ≡ old.at + used
    → ((m : List ℕ) → Holds hasher m → Holds grown (m ++ front)) → HasTaken grown new c (header ++ front) contents
header_taken header contents piece front hasher grown old new c used taken stays takes front-is at-is updates =
    let entries : (es : List Entry) → (new.field ≡ fields.Whole → es ≡ new.entries) → old.field ≡ fields.Whole → es ≡ old.entries =
    λ es given whole. entries_stay old new es (stays whole) given whole in
    record {
      hash = updates header taken.hash;
      at = at-is ∙ omega (arith, taken.at, length-append header front, ap length front-is, length-take used piece, takes.0);
      header_reads = λ text. ap header_at (append_assoc header front text) ∙ taken.header_reads (front ++ text) ∙ ap (λ (x : List ℕ). header_on old (x ++ text)) front-is ∙ takes.2 text;
      nothing = λ other. taken.nothing (λ whole. other (ap (λ (h : HeaderReader). h.field) (stays whole) ∙ whole));
      is_open = λ es given. taken.is_open es (entries es given);
      reads = λ es given. taken.reads es (entries es given);
    }

-- where the parts of the bytes lie
pub parts_taken : (bytes header contents piece front after : List ℕ) (hasher : Sha1) (old : HeaderReader) (c : ContentsReader) (used : ℕ) → HasTaken hasher old c header contents
    → (old.field ≡ fields.Whole → used ≡ 0) → bytes ≡ header ++ contents → front ≡ take used piece → after ≡ drop used piece → bytes ++ piece ≡ (header ++ front) ++ (contents ++ after)
parts_taken bytes header contents piece front after hasher old c used taken stays parts front-is after-is =
    let whole-piece : piece ≡ front ++ after = rw (front-is, after-is) (sym (take-append-drop used piece)) in
    elim (whole_or_not old.field) [
      | inl whole ↦
          let nothing : front ≡ [] = front-is ∙ ap (λ (n : ℕ). take n piece) (stays whole) in
          rw (parts, whole-piece, nothing) (append_assoc header contents after ∙ ap (λ (x : List ℕ). x ++ (contents ++ after)) (sym (append-nil header)))
      | inr other ↦
          rw (parts, whole-piece, taken.nothing other) (ap (λ (x : List ℕ). x ++ (front ++ after)) (append-nil header) ∙ sym (append_assoc header front after))
    ]

-- the contents have taken theirs
pub contents_taken : (header contents after : List ℕ) (hasher : Sha1) (h : HeaderReader) (old new : ContentsReader) → HasTaken hasher h old header contents → h.field ≡ fields.Whole
    → Goes old new h.entries after → HasTaken hasher h new header (contents ++ after)
contents_taken header contents after hasher h old new taken whole goes = record {
  hash = taken.hash;
  at = taken.at;
  header_reads = taken.header_reads;
  nothing = λ other. absurd (other whole);
  is_open = λ es given. subst (λ (x : List Entry). IsOpen new x) (sym (given whole)) goes.is_open;
  reads = λ es given text.
      ap (contents_at 0 es) (append_assoc contents after text) ∙ taken.reads es given (after ++ text)
      ∙ ap (λ (x : List Entry). contents_on old x (after ++ text)) (given whole) ∙ goes.reads text ∙ ap (λ (x : List Entry). contents_on new x text) (sym (given whole));
}

-- a fault of the contents
pub fault_of_contents : (bytes header contents after text : List ℕ) (hasher : Sha1) (h : HeaderReader) (c : ContentsReader) (fault : PackFault) → HasTaken hasher h c header contents → h.field ≡ fields.Whole
    → bytes ≡ header ++ (contents ++ after) → Faults fault (contents_on c h.entries (after ++ text)) → Faults fault (reading (bytes ++ text))
fault_of_contents bytes header contents after text hasher h c fault taken whole parts faults =
    let all : bytes ++ text ≡ header ++ (contents ++ (after ++ text)) =
    ap (λ (x : List ℕ). x ++ text) parts ∙ append_assoc header (contents ++ after) text ∙ ap (λ (x : List ℕ). header ++ x) (append_assoc contents after text) in
    subst (λ (x : Result (List Object) PackFault). Faults fault x) (sym (ap reading all ∙ read_header header contents (after ++ text) hasher h c taken whole)) faults

-- no bytes are left for the contents where the header goes on
pub nothing_after : (old new : HeaderReader) (piece after : List ℕ) (used : ℕ) → TakesPart old new piece (Ok used) → (new.field ≡ fields.Whole → ⊥) → after ≡ drop used piece → after ≡ []
nothing_after old new piece after used takes other after-is = elim (cases_lt used (length piece)) [
  | inl below ↦ absurd (other (takes.1 below))
  | inr past ↦ after-is ∙ nil_from_length (drop used piece) (omega (arith, length-drop used piece))
]

-- the fault of reading on is the one that is shown
pub shown_fault : (bytes : List ℕ) (fault : PackFault) → ((text : List ℕ) → Faults fault (reading (bytes ++ text))) → IsUnless NoMemory (Err fault) (shown bytes)
shown_fault bytes fault faults = fault_shown bytes fault (subst (λ (x : List ℕ). Faults fault (reading x)) (append-nil bytes) (faults []))

-- ---- the end

end_of_fault : (bytes : List ℕ) (fault : PackFault) → Faults fault (reading bytes) → IsUnless NoMemory (Err fault) (pack_in bytes)
end_of_fault bytes Short h = absurd h
end_of_fault bytes fault h = unless_first (reading bytes) (λ os. Ok (pack_of os)) fault h

pub fault_ends : (bytes : List ℕ) (fault : PackFault) → ((text : List ℕ) → Faults fault (reading (bytes ++ text))) → IsUnless NoMemory (Err fault) (pack_in bytes)
fault_ends bytes fault faults = end_of_fault bytes fault (subst (λ (x : List ℕ). Faults fault (reading x)) (append-nil bytes) (faults []))

-- bytes are lacking
short_ends : (bytes : List ℕ) → reading bytes ≡ Err Short → IsUnless NoMemory (Err Short) (pack_in bytes)
short_ends bytes short = inr (ap (λ (read : Result (List Object) PackFault). read >>= λ os. Ok (pack_of os)) (sym short))

pub short_fed : (r : PackReader) (bytes : List ℕ) → IsFed r bytes → (r.header.field ≡ fields.Whole → ⊥) → IsUnless NoMemory (Err Short) (pack_in bytes)
short_fed r bytes fed other = short_ends bytes (ap reading fed.parts ∙ short_taken fed.header fed.contents r.header_hash r.header r.contents fed.taken other)

-- the header of the pack that was read
header_fed : (r : PackReader) (bytes : List ℕ) (os : List Object) (fed : IsFed r bytes) → r.header.field ≡ fields.Whole → reading bytes ≡ Ok os → fed.header ≡ header_bytes os
header_fed r bytes os fed whole read =
    let at_end : header_at (fed.header ++ []) ≡ Ok (r.header.entries, r.header.at, []) = fed.taken.header_reads [] ∙ whole_header r.header [] whole in
    let own = (header_takes (fed.header ++ []) (r.header.entries, r.header.at, []) at_end).0 in
    let spelled : fed.header ≡ header_of r.header.entries = sym (append-nil fed.header) ∙ own ∙ append-nil (header_of r.header.entries) in
    let all : contents_at 0 r.header.entries fed.contents ≡ Ok os =
    sym (ap reading fed.parts ∙ ap (λ (x : Result Header PackFault). x >>= λ h. contents_at 0 h.0 h.2) (fed.taken.header_reads fed.contents ∙ whole_header r.header fed.contents whole)) ∙ read in
    spelled ∙ ap header_of (contents_take 0 r.header.entries fed.contents os all).entries

pub pack_fed : (r : PackReader) (bytes : List ℕ) (os : List Object) → IsFed r bytes → r.header.field ≡ fields.Whole → reading bytes ≡ Ok os
    → (r.header.at ≡ length (header_bytes os)) × Holds r.header_hash (header_bytes os)
pack_fed r bytes os fed whole read =
    let header = header_fed r bytes os fed whole read in
    (fed.taken.at ∙ ap length header, subst (λ (x : List ℕ). Holds r.header_hash x) header fed.taken.hash)

-- a content is lacking
pub short_contents : (r : PackReader) (bytes : List ℕ) → IsFed r bytes → r.header.field ≡ fields.Whole → length r.contents.objects.items < length r.header.entries → IsUnless NoMemory (Err Short) (pack_in bytes)
short_contents r bytes fed whole short =
    let test : nat_lt (length r.contents.objects.items) (length r.header.entries) ≡ true = lt-ltb _ _ short in
    short_ends bytes (fed.ends whole ∙ rw test refl)

-- the pack is there
pub whole_pack : (r : PackReader) (bytes digest : List ℕ) (os : List Object) → IsFed r bytes → r.header.field ≡ fields.Whole → length r.header.entries ≤ length r.contents.objects.items → os ≡ r.contents.objects.items
    → ((m : List ℕ) → Holds r.header_hash m → digest ≡ sha1 m) → IsUnless NoMemory (Ok (record { objects = os; header = r.header.at; digest = digest })) (pack_in bytes)
whole_pack r bytes digest os fed whole long os-is finalized =
    let test : nat_lt (length r.contents.objects.items) (length r.header.entries) ≡ false = le-ltb _ _ long in
    let read : reading bytes ≡ Ok os = fed.ends whole ∙ rw (test, os-is) refl in
    let facts = pack_fed r bytes os fed whole read in
    rw (facts.0, finalized (header_bytes os) facts.1) (ap (λ (r : Result (List Object) PackFault). r >>= λ o. Ok (pack_of o)) (sym read))

pub finish_found : (bytes : List ℕ) (pack : Pack) → Ok pack ≡ pack_in bytes → IsFoundIn bytes pack
finish_found bytes pack f =
    let read = bind_ok (reading bytes) (λ os. Ok (pack_of os)) pack (sym f) in
    let t = pack_takes bytes read.0 read.1 in
    subst (IsFoundIn bytes) (ok_is (pack_of read.0) pack read.2) (record { is_pack = t.0; spelled = t.1; whole = refl })

pub finish_only : (os : List Object) (result : Result Pack PackFault) → IsPack os → IsUnless NoMemory result (pack_in (pack_bytes os)) → IsUnless NoMemory result (Ok (pack_of os))
finish_only os result is f = subst (IsUnless NoMemory result) (ap (λ (read : Result (List Object) PackFault). read >>= λ o. Ok (pack_of o)) (pack_again os is)) f
