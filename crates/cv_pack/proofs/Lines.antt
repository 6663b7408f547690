-- The lines of a header, written and read.
use Rattle.std.proofs.Common.{◌≡◌, ℕ, zero, suc, ◌+◌, ◌*◌, ◌≤◌, true, false, cond, ltb, eqb, List, [], ◌∷◌, ◌++◌, length, decimal, codes, Result, Ok, Err, None, refl, sym, ap, subst, ◌∙◌, inl, inr, ◌⊎◌, arith, append_assoc, length-append, add-zero, lit<}
use Rattle.std.proofs.lemmas.Bool.{lt-ltb, eqb-true, eq-eqb}
use Rattle.std.proofs.lemmas.List.{append-nil}
use Rattle.std.proofs.lemmas.List.Concat.{flat_map-cons}
use Rattle.std.proofs.lemmas.Fmt.{length-decimal-le}
use Rattle.std.specs.List.{flat_map, list_all}
use Rattle.hex.specs.Hex.{encode_lower, lower_digits, decode_sized}
use Rattle.hex.specs.declared.error.FromHexError.{FromHexError}
use Rattle.hex.proofs.HexLemmas.{length-encode_with, decode_sized-encode_lower}
use Rattle.cv_base.specs.Digest.{IsDigest}
use Rattle.cv_base.specs.ObjectId.{object_id, suffix_of}
use Rattle.cv_base.specs.declared.id.Kind.{Kind}
use Rattle.cv_base.specs.declared.id.Kind.TheVariants.{Plain, Catalogue, History}
use Rattle.cv_base.specs.declared.id.ObjectId.{ObjectId}
use Rattle.cv_pack.specs.declared.entry.Entry.{Entry}
use Rattle.cv_pack.specs.declared.pack_fault.PackFault.{PackFault}
use Rattle.cv_pack.specs.declared.pack_fault.PackFault.TheVariants.{BadHeader, TooLarge, TooMany, Duplicate}
use Rattle.cv_pack.specs.Pack.{entry, line, total_size, header_of}
use Rattle.cv_base.specs.Sequence.{◌>>=◌}
use Rattle.cv_base.proofs.Laws.{bind_ok, either, ok_is}
use Rattle.cv_pack.specs.Reading.{Header, text_at, is_hash_digit, digits_at, number_at, hash_named, fresh, id_from, is_named, size_from, blank_from, suffix_from, hash_from, line_from, lines_from, dashes_from, count_from, count_line_from, total_from, total_line_from, header_at}
use Rattle.cv_pack.proofs.Numbers.{chosen, text_takes, text_again, number_takes, number_again}
use Rattle.cv_pack.proofs.Hashes.{hash_digits, digits_pass, digits_take, digits_again}

-- an entry that a header may have
pub record IsLine (e : Entry) : Type 0 where
  pub digest : IsDigest e.id.hash
  pub kind : e.id.kind ≡ History → ⊥
  pub size : e.size ≤ 16777216

-- entries that may follow these
abbrev pub AreLines : List Entry → List Entry → Type 0
AreLines before [] = Unit {0}
AreLines before (e ∷ es) = IsLine e × (is_named before e.id ≡ false) × AreLines (before ++ e ∷ []) es

-- the entries of a header
pub record IsHeader (es : List Entry) : Type 0 where
  pub lines : AreLines [] es
  pub count : length es ≤ 10000
  pub total : total_size es ≤ 33554432

-- ---- an id

named_takes : (at : ℕ) (read : Result (List ℕ) FromHexError) (hash : List ℕ) → hash_named at read ≡ Ok hash → read ≡ Ok hash
named_takes at (Ok x) hash e = let same : x ≡ hash = ok_is x hash e in ap (λ (y : List ℕ). Ok y) same
named_takes at (Err f) hash e = absurd cc

pub record TakesId (before : List Entry) (kind : Kind) (digits : List ℕ) (id : ObjectId) : Type 0 where
  pub hash : encode_lower id.hash ≡ digits
  pub digest : IsDigest id.hash
  pub kind_is : id.kind ≡ kind
  pub new : is_named before id ≡ false

fresh_takes : (before : List Entry) (id found : ObjectId) → fresh before id ≡ Ok found → (is_named before id ≡ false) × (id ≡ found)
fresh_takes before id found e = elim (either (is_named before id) (Err (Duplicate (length before))) (Ok id) (Ok found) e) [
  | inl named ↦ absurd (let wrong = named.1 in cc)
  | inr new ↦ (new.0, ok_is id found new.1)
]

id_takes : (before : List Entry) (at : ℕ) (kind : Kind) (digits : List ℕ) (id : ObjectId) → list_all is_hash_digit digits ≡ true → id_from before at kind digits ≡ Ok id → TakesId before kind digits id
id_takes before at kind digits id all e =
    let hash = bind_ok (hash_named at (decode_sized digits 20)) (λ hash. fresh before (object_id hash kind)) id e in
    let read = named_takes at (decode_sized digits 20) hash.0 hash.1 in
    let back = hash_digits digits hash.0 all read in
    let new = fresh_takes before (object_id hash.0 kind) id hash.2 in
    subst (λ (x : ObjectId). TakesId before kind digits x) new.1 (record { hash = back.0; digest = back.1; kind_is = refl; new = new.0 })

id_again : (before : List Entry) (at : ℕ) (kind : Kind) (hash : List ℕ) → IsDigest hash → is_named before (object_id hash kind) ≡ false → id_from before at kind (encode_lower hash) ≡ Ok (object_id hash kind)
id_again before at kind hash is new =
    let read : decode_sized (encode_lower hash) 20 ≡ Ok hash = decode_sized-encode_lower hash 20 is.size is.bytes in
    rw (read, new) refl

-- ---- what follows the digits

pub record TakesRest (k : Entry → ℕ → List ℕ → Result Header PackFault) (before : List Entry) (digits text : List ℕ) (h : Header) : Type 0 where
  pub id : ObjectId
  pub size : ℕ
  pub place : ℕ
  pub rest : List ℕ
  pub hash : encode_lower id.hash ≡ digits
  pub is_line : IsLine (entry id size)
  pub new : is_named before id ≡ false
  pub parts : text ≡ suffix_of id.kind ++ 32 ∷ (decimal size ++ 10 ∷ rest)
  pub goes : k (entry id size) place rest ≡ Ok h

not_history : (kind : Kind) → (kind ≡ Plain) ⊎ (kind ≡ Catalogue) → kind ≡ History → ⊥
not_history kind (inl p) h = let wrong : Plain ≡ History = sym p ∙ h in cc
not_history kind (inr c) h = let wrong : Catalogue ≡ History = sym c ∙ h in cc

size_takes : (k : Entry → ℕ → List ℕ → Result Header PackFault) (at place : ℕ) (id : ObjectId) (text : List ℕ) (h : Header) → size_from k at id None place text ≡ Ok h
    → (s : ℕ × ℕ × List ℕ) × (text ≡ decimal s.0 ++ 10 ∷ s.2) × (s.0 ≤ 16777216) × (k (entry id s.0) s.1 s.2 ≡ Ok h)
size_takes k at place id text h e =
    let s = bind_ok (number_at at 16777216 TooLarge None place text) (λ s. k (entry id s.0) s.1 s.2) h e in
    let n = number_takes at 16777216 TooLarge place text s.0 (lit< tt) s.1 in
    (s.0, n.0, n.1, s.2)

suffix_takes : (k : Entry → ℕ → List ℕ → Result Header PackFault) (before : List Entry) (at : ℕ) (digits : List ℕ) (place : ℕ) (text : List ℕ) (h : Header) → list_all is_hash_digit digits ≡ true
    → suffix_from k before at digits place text ≡ Ok h → TakesRest k before digits text h
suffix_takes k before at digits place [] h all e = absurd cc
suffix_takes k before at digits place (b ∷ text) h all e =
    let plain = id_from before at Plain digits >>= λ id. size_from k at id None (place + 1) text in
    let catalogue = id_from before at Catalogue digits >>= λ id. blank_from k at id (place + 1) text in
    let inside = chosen (ltb place 1048576) (cond (eqb b 32) plain (cond (eqb b 67) catalogue (Err (BadHeader at)))) (BadHeader 0) h e in
    elim (either (eqb b 32) plain (cond (eqb b 67) catalogue (Err (BadHeader at))) (Ok h) inside.1) [
      | inl blank ↦
          let id = bind_ok (id_from before at Plain digits) (λ id. size_from k at id None (place + 1) text) h blank.1 in
          let is = id_takes before at Plain digits id.0 all id.1 in
          let s = size_takes k at (place + 1) id.0 text h id.2 in
          let b-is : b ≡ 32 = eqb-true b 32 blank.0 in
          record {
            id = id.0;
            size = s.0.0;
            place = s.0.1;
            rest = s.0.2;
            hash = is.hash;
            is_line = record { digest = is.digest; kind = not_history id.0.kind (inl is.kind_is); size = s.2 };
            new = is.new;
            parts = ap (λ (x : ℕ). x ∷ text) b-is ∙ ap (λ (x : List ℕ). 32 ∷ x) s.1 ∙ ap (λ (x : Kind). suffix_of x ++ 32 ∷ (decimal s.0.0 ++ 10 ∷ s.0.2)) (sym is.kind_is);
            goes = s.3;
          }
      | inr other ↦
          let letter = chosen (eqb b 67) catalogue (BadHeader at) h other.1 in
          let id = bind_ok (id_from before at Catalogue digits) (λ id. blank_from k at id (place + 1) text) h letter.1 in
          let is = id_takes before at Catalogue digits id.0 all id.1 in
          let a = bind_ok (text_at at (32 ∷ []) (place + 1) text) (λ a. size_from k at id.0 None a.0 a.1) h id.2 in
          let after = text_takes at (32 ∷ []) (place + 1) text a.0 a.1 in
          let s = size_takes k at a.0.0 id.0 a.0.1 h a.2 in
          let b-is : b ≡ 67 = eqb-true b 67 letter.0 in
          record {
            id = id.0;
            size = s.0.0;
            place = s.0.1;
            rest = s.0.2;
            hash = is.hash;
            is_line = record { digest = is.digest; kind = not_history id.0.kind (inr is.kind_is); size = s.2 };
            new = is.new;
            parts = ap (λ (x : ℕ). x ∷ text) b-is ∙ ap (λ (x : List ℕ). 67 ∷ x) after ∙ ap (λ (x : List ℕ). 67 ∷ 32 ∷ x) s.1 ∙ ap (λ (x : Kind). suffix_of x ++ 32 ∷ (decimal s.0.0 ++ 10 ∷ s.0.2)) (sym is.kind_is);
            goes = s.3;
          }
    ]

-- ---- a line

-- a line with its parts to the right
pub line_is : (e : Entry) (rest : List ℕ) → line e ++ rest ≡ 67 ∷ 32 ∷ (encode_lower e.id.hash ++ (suffix_of e.id.kind ++ 32 ∷ (decimal e.size ++ 10 ∷ rest)))
line_is e rest = simp append_assoc

pub record TakesLine (k : Entry → ℕ → List ℕ → Result Header PackFault) (before : List Entry) (text : List ℕ) (h : Header) : Type 0 where
  pub read : Entry
  pub place : ℕ
  pub rest : List ℕ
  pub is_line : IsLine read
  pub new : is_named before read.id ≡ false
  pub parts : text ≡ line read ++ rest
  pub goes : k read place rest ≡ Ok h

line_takes : (k : Entry → ℕ → List ℕ → Result Header PackFault) (before : List Entry) (at place : ℕ) (text : List ℕ) (h : Header) → line_from k before at (codes "C ") place text ≡ Ok h → TakesLine k before text h
line_takes k before at place text h e =
    let a = bind_ok (text_at at (codes "C ") place text) (λ a. hash_from k before at 40 [] a.0 a.1) h e in
    let front = text_takes at (codes "C ") place text a.0 a.1 in
    let d = bind_ok (digits_at at 40 [] a.0.0 a.0.1) (λ d. suffix_from k before at d.0 d.1 d.2) h a.2 in
    let digits = digits_take at 40 [] a.0.0 a.0.1 d.0 d.1 in
    let r = suffix_takes k before at d.0.0 d.0.1 d.0.2 h (subst (λ (x : List ℕ). list_all is_hash_digit x ≡ true) (sym digits.grown) digits.passes) d.2 in
    let hash : encode_lower r.id.hash ≡ digits.digits = r.hash ∙ digits.grown in
    let all : text ≡ 67 ∷ 32 ∷ (encode_lower r.id.hash ++ (suffix_of r.id.kind ++ 32 ∷ (decimal r.size ++ 10 ∷ r.rest))) =
    front ∙ ap (λ (x : List ℕ). 67 ∷ 32 ∷ x) (digits.parts ∙ ap (λ (x : List ℕ). x ++ d.0.2) (sym hash) ∙ ap (λ (x : List ℕ). encode_lower r.id.hash ++ x) r.parts) in
    record {
      read = entry r.id r.size;
      place = r.place;
      rest = r.rest;
      is_line = r.is_line;
      new = r.new;
      parts = all ∙ sym (line_is (entry r.id r.size) r.rest);
      goes = r.goes;
    }

-- ---- the lines

pub record TakesLines (total n : ℕ) (before : List Entry) (text : List ℕ) (h : Header) : Type 0 where
  pub more : List Entry
  pub all : h.0 ≡ before ++ more
  pub parts : text ≡ flat_map line more ++ h.2
  pub count : length more ≡ n
  pub are_lines : AreLines before more
  pub sum : total_size h.0 ≡ total

lines_take : (total n : ℕ) (before : List Entry) (at : ℕ) (text : List ℕ) (h : Header) → lines_from total n before at text ≡ Ok h → TakesLines total n before text h
unfolding lines_from
lines_take total zero before at text h e =
    let c = chosen (eqb (total_size before) total) (Ok (before, at, text)) (BadHeader 3) h e in
    let same : (before, at, text) ≡ h = ok_is (before, at, text) h c.1 in
    subst (λ (x : Header). TakesLines total zero before text x) same (record { more = []; all = sym (append-nil before); parts = refl; count = refl; are_lines = tt; sum = eqb-true _ _ c.0 })
lines_take total (suc n) before at text h e =
    let first = line_takes (λ x place rest. lines_from total n (before ++ x ∷ []) place rest) before at at text h e in
    let rest = lines_take total n (before ++ first.read ∷ []) first.place first.rest h first.goes in
    record {
      more = first.read ∷ rest.more;
      all = rest.all ∙ append_assoc before (first.read ∷ []) rest.more;
      parts = first.parts ∙ ap (λ (x : List ℕ). line first.read ++ x) rest.parts ∙ sym (append_assoc (line first.read) (flat_map line rest.more) h.2)
          ∙ ap (λ (x : List ℕ). x ++ h.2) (sym (flat_map-cons line first.read rest.more));
      count = ap suc rest.count;
      are_lines = (first.is_line, first.new, rest.are_lines);
      sum = rest.sum;
    }

-- ---- the header

-- a header with its parts to the right
pub header_is : (es : List Entry) (rest : List ℕ) → header_of es ++ rest
    ≡ 86 ∷ 50 ∷ 10 ∷ 83 ∷ (decimal (total_size es) ++ 10 ∷ 78 ∷ (decimal (length es) ++ 10 ∷ 45 ∷ 45 ∷ 10 ∷ (flat_map line es ++ rest)))
header_is es rest = simp append_assoc

-- what is read as a header is one
pub header_takes : (text : List ℕ) (h : Header) → header_at text ≡ Ok h → (text ≡ header_of h.0 ++ h.2) × IsHeader h.0
header_takes text h e =
    let a = bind_ok (text_at 0 (codes "V2\n") 0 text) (λ a. total_line_from [] a.0 a.0 a.1) h e in
    let a-is = text_takes 0 (codes "V2\n") 0 text a.0 a.1 in
    let b = bind_ok (text_at a.0.0 (codes "S") a.0.0 a.0.1) (λ b. total_from [] a.0.0 None b.0 b.1) h a.2 in
    let b-is = text_takes a.0.0 (codes "S") a.0.0 a.0.1 b.0 b.1 in
    let t = bind_ok (number_at a.0.0 33554432 TooLarge None b.0.0 b.0.1) (λ t. count_line_from t.0 [] t.1 t.1 t.2) h b.2 in
    let t-is = number_takes a.0.0 33554432 TooLarge b.0.0 b.0.1 t.0 (lit< tt) t.1 in
    let c = bind_ok (text_at t.0.1 (codes "N") t.0.1 t.0.2) (λ c. count_from t.0.0 [] t.0.1 None c.0 c.1) h t.2 in
    let c-is = text_takes t.0.1 (codes "N") t.0.1 t.0.2 c.0 c.1 in
    let n = bind_ok (number_at t.0.1 10000 TooMany None c.0.0 c.0.1) (λ n. dashes_from t.0.0 n.0 [] n.1 (codes "--\n") n.1 n.2) h c.2 in
    let n-is = number_takes t.0.1 10000 TooMany c.0.0 c.0.1 n.0 (lit< tt) n.1 in
    let d = bind_ok (text_at n.0.1 (codes "--\n") n.0.1 n.0.2) (λ d. lines_from t.0.0 n.0.0 [] d.0 d.1) h n.2 in
    let d-is = text_takes n.0.1 (codes "--\n") n.0.1 n.0.2 d.0 d.1 in
    let l = lines_take t.0.0 n.0.0 [] d.0.0 d.0.1 h d.2 in
    let count : length h.0 ≡ n.0.0 = ap length l.all ∙ l.count in
    let dashes : n.0.2 ≡ 45 ∷ 45 ∷ 10 ∷ (flat_map line h.0 ++ h.2) = d-is ∙ ap (λ (x : List ℕ). 45 ∷ 45 ∷ 10 ∷ x) (l.parts ∙ ap (λ (x : List Entry). flat_map line x ++ h.2) (sym l.all)) in
    let number : c.0.1 ≡ decimal (length h.0) ++ 10 ∷ 45 ∷ 45 ∷ 10 ∷ (flat_map line h.0 ++ h.2) = n-is.0 ∙ ap (λ (x : ℕ). decimal x ++ 10 ∷ n.0.2) (sym count) ∙ ap (λ (x : List ℕ). decimal (length h.0) ++ 10 ∷ x) dashes in
    let total : b.0.1 ≡ decimal (total_size h.0) ++ 10 ∷ 78 ∷ c.0.1 = t-is.0 ∙ ap (λ (x : ℕ). decimal x ++ 10 ∷ t.0.2) (sym l.sum) ∙ ap (λ (x : List ℕ). decimal (total_size h.0) ++ 10 ∷ x) c-is in
    let whole : text ≡ 86 ∷ 50 ∷ 10 ∷ 83 ∷ (decimal (total_size h.0) ++ 10 ∷ 78 ∷ (decimal (length h.0) ++ 10 ∷ 45 ∷ 45 ∷ 10 ∷ (flat_map line h.0 ++ h.2))) =
    a-is ∙ ap (λ (x : List ℕ). 86 ∷ 50 ∷ 10 ∷ x) (b-is ∙ ap (λ (x : List ℕ). 83 ∷ x) (total ∙ ap (λ (x : List ℕ). decimal (total_size h.0) ++ 10 ∷ 78 ∷ x) number)) in (
      whole ∙ sym (header_is h.0 h.2),
      record {
        lines = subst (λ (x : List Entry). AreLines [] x) (sym l.all) l.are_lines;
        count = omega (arith, count, n-is.1);
        total = omega (arith, l.sum, t-is.1);
      },
    )

-- ---- what is spelled so is read

suffix_again : (k : Entry → ℕ → List ℕ → Result Header PackFault) (before : List Entry) (at : ℕ) (hash : List ℕ) (kind : Kind) (size place : ℕ) (rest : List ℕ)
    → IsDigest hash → (kind ≡ History → ⊥) → size ≤ 16777216 → is_named before (object_id hash kind) ≡ false → place + length (suffix_of kind) + 1 + length (decimal size) + 1 ≤ 1048576
    → suffix_from k before at (encode_lower hash) place (suffix_of kind ++ 32 ∷ (decimal size ++ 10 ∷ rest)) ≡ k (entry (object_id hash kind) size) (place + length (suffix_of kind) + 1 + length (decimal size) + 1) rest
suffix_again k before at hash Plain size place rest is other small new room =
    let below : ltb place 1048576 ≡ true = lt-ltb _ _ (omega arith) in
    let id = id_again before at Plain hash is new in
    let place-is : place + 1 ≡ place + 0 + 1 = omega arith in
    let number = number_again at 16777216 TooLarge size (place + 1) rest small (omega arith) (omega arith) in
    rw (below, id, number) (ap (λ (x : ℕ). k (entry (object_id hash Plain) size) (x + length (decimal size) + 1) rest) place-is)
suffix_again k before at hash Catalogue size place rest is other small new room =
    let below : ltb place 1048576 ≡ true = lt-ltb _ _ (omega arith) in
    let id = id_again before at Catalogue hash is new in
    let blank = text_again at (32 ∷ []) (place + 1) (decimal size ++ 10 ∷ rest) (omega arith) in
    let number = number_again at 16777216 TooLarge size (place + 1 + 1) rest small (omega arith) (omega arith) in
    rw (below, id, blank, number) refl
suffix_again k before at hash History size place rest is other small new room = absurd (other refl)

-- the length of a line
pub length-line : (e : Entry) → IsDigest e.id.hash → length (line e) ≡ 2 + 40 + length (suffix_of e.id.kind) + 1 + length (decimal e.size) + 1
length-line e is =
    let whole = ap length (sym (append-nil (line e)) ∙ line_is e []) in
    let digits : length (encode_lower e.id.hash) ≡ 40 = let size = is.size in omega (arith, length-encode_with lower_digits e.id.hash, size) in
    whole ∙ simp length-append (omega (arith, digits))

line_again : (k : Entry → ℕ → List ℕ → Result Header PackFault) (before : List Entry) (place : ℕ) (e : Entry) (rest : List ℕ) → IsLine e → is_named before e.id ≡ false → place + length (line e) ≤ 1048576
    → line_from k before place (codes "C ") place (line e ++ rest) ≡ k e (place + length (line e)) rest
line_again k before place e rest is new room =
    let size = length-line e is.digest in
    let digits : length (encode_lower e.id.hash) ≡ 40 = let twenty = is.digest.size in omega (arith, length-encode_with lower_digits e.id.hash, twenty) in
    let front = text_again place (codes "C ") place (encode_lower e.id.hash ++ (suffix_of e.id.kind ++ 32 ∷ (decimal e.size ++ 10 ∷ rest))) (omega (arith, size)) in
    let hash = digits_again place 40 [] (encode_lower e.id.hash) (place + 2) (suffix_of e.id.kind ++ 32 ∷ (decimal e.size ++ 10 ∷ rest)) digits (digits_pass e.id.hash is.digest.bytes) (omega (arith, size)) in
    let tail = suffix_again k before place e.id.hash e.id.kind e.size (place + 2 + 40) rest is.digest is.kind is.size new (omega (arith, size)) in
    let place-is : place + 2 + 40 + length (suffix_of e.id.kind) + 1 + length (decimal e.size) + 1 ≡ place + length (line e) = omega (arith, size) in
    ap (line_from k before place (codes "C ") place) (line_is e rest) ∙ rw (front, hash, tail) (ap (λ (x : ℕ). k e x rest) place-is)

lines_again : (total : ℕ) (before es : List Entry) (place : ℕ) (rest : List ℕ) → AreLines before es → total_size (before ++ es) ≡ total → place + length (flat_map line es) ≤ 1048576
    → lines_from total (length es) before place (flat_map line es ++ rest) ≡ Ok (before ++ es, place + length (flat_map line es), rest)
unfolding lines_from
lines_again total before [] place rest are sum room =
    let same : eqb (total_size before) total ≡ true = eq-eqb _ _ (ap total_size (sym (append-nil before)) ∙ sum) in
    rw same (ap (λ (x : List Entry). Ok (x, place, rest)) (sym (append-nil before)) ∙ ap (λ (x : ℕ). Ok (before ++ [], x, rest)) (sym (add-zero place)))
lines_again total before (e ∷ es) place rest are sum room =
    let size : length (flat_map line (e ∷ es)) ≡ length (line e) + length (flat_map line es) = ap length (flat_map-cons line e es) ∙ length-append (line e) (flat_map line es) in
    let text-is : flat_map line (e ∷ es) ++ rest ≡ line e ++ (flat_map line es ++ rest) = ap (λ (x : List ℕ). x ++ rest) (flat_map-cons line e es) ∙ append_assoc (line e) (flat_map line es) rest in
    let all : before ++ e ∷ [] ++ es ≡ before ++ e ∷ es = append_assoc before (e ∷ []) es in
    let first = line_again (λ x p r. lines_from total (length es) (before ++ x ∷ []) p r) before place e (flat_map line es ++ rest) are.0 are.1 (omega (arith, size)) in
    let others = lines_again total (before ++ e ∷ []) es (place + length (line e)) rest are.2 (ap total_size all ∙ sum) (omega (arith, size)) in
    let place-is : place + length (line e) + length (flat_map line es) ≡ place + length (flat_map line (e ∷ es)) = omega (arith, size) in
    ap (lines_from total (suc (length es)) before place) text-is ∙ first ∙ others
    ∙ ap (λ (x : List Entry). Ok (x, place + length (line e) + length (flat_map line es), rest)) all ∙ ap (λ (x : ℕ). Ok (before ++ e ∷ es, x, rest)) place-is

-- the lengths of a header and of its parts
suffix_short : (kind : Kind) → length (suffix_of kind) ≤ 1
suffix_short Plain = omega arith
suffix_short Catalogue = omega arith
suffix_short History = omega arith

lines_short : (before es : List Entry) → AreLines before es → length (flat_map line es) ≤ 53 * length es
lines_short before [] are = omega arith
lines_short before (e ∷ es) are =
    let size : length (flat_map line (e ∷ es)) ≡ length (line e) + length (flat_map line es) = ap length (flat_map-cons line e es) ∙ length-append (line e) (flat_map line es) in
    let digits = length-decimal-le 8 e.size (lit< tt) (let small = are.0.size in omega arith) (let small = are.0.size in omega arith) in
    omega (arith, size, length-line e are.0.digest, suffix_short e.id.kind, digits, lines_short (before ++ e ∷ []) es are.2)

pub length-header : (es : List Entry) → length (header_of es) ≡ 4 + length (decimal (total_size es)) + 2 + length (decimal (length es)) + 4 + length (flat_map line es)
length-header es = ap length (sym (append-nil (header_of es)) ∙ header_is es []) ∙ simp (length-append, append-nil) (omega arith)

-- no header passes its limit
pub header_short : (es : List Entry) → IsHeader es → length (header_of es) ≤ 530023
header_short es is =
    let total = length-decimal-le 8 (total_size es) (lit< tt) (let small = is.total in omega arith) (let small = is.total in omega arith) in
    let count = length-decimal-le 5 (length es) (lit< tt) (let small = is.count in omega arith) (let small = is.count in omega arith) in
    let few = is.count in
    omega (arith, length-header es, total, count, few, lines_short [] es is.lines)

-- what is a header is read as one
pub header_again : (es : List Entry) (rest : List ℕ) → IsHeader es → header_at (header_of es ++ rest) ≡ Ok (es, length (header_of es), rest)
header_again es rest is =
    let t : ℕ = total_size es in
    let n : ℕ = length es in
    let after_total : ℕ = 4 + length (decimal t) + 1 in
    let after_count : ℕ = after_total + 1 + length (decimal n) + 1 in
    let size = header_short es is in
    let parts = length-header es in
    let dashes : List ℕ = 45 ∷ 45 ∷ 10 ∷ (flat_map line es ++ rest) in
    let small_total = is.total in
    let small_count = is.count in
    let total = number_again 3 33554432 TooLarge t 4 (78 ∷ (decimal n ++ 10 ∷ dashes)) is.total (omega arith) (omega arith) in
    let letter = text_again after_total (codes "N") after_total (decimal n ++ 10 ∷ dashes) (omega arith) in
    let count = number_again after_total 10000 TooMany n (after_total + 1) dashes is.count (omega arith) (omega arith) in
    let end = text_again after_count (codes "--\n") after_count (flat_map line es ++ rest) (omega arith) in
    let lines = lines_again t [] es (after_count + 3) rest is.lines refl (omega arith) in
    let place-is : after_count + 3 + length (flat_map line es) ≡ length (header_of es) = omega arith in
    ap header_at (header_is es rest) ∙ rw (total, letter, count, end) (lines ∙ ap (λ (x : ℕ). Ok (es, x, rest)) place-is)
