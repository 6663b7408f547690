-- What is read of a field is spelled there, and what is spelled so is read.
use Rattle.std.proofs.Common.{◌≡◌, ℕ, ◌^◌, ◌<◌, ◌≤◌, ◌==◌, Bool, true, List, ◌++◌, length, codes, Option, Some, Result, Ok, Err, refl, ap, subst, ◌∙◌, append_assoc, arith}
use Rattle.std.specs.Prelude.{bytes_eq, nat_le}
use Rattle.std.specs.Int.{w16, w64, to_be_bytes}
use Rattle.std.proofs.lemmas.Bool.{leb-true, le-leb}
use Rattle.std.proofs.lemmas.Slice.Eq.{bytes_eq-Decides}
use Rattle.hex.specs.Hex.{IsBytes}
use Rattle.cv_base.specs.Sequence.{◌>>=◌}
use Rattle.cv_base.specs.Digest.{IsDigest}
use Rattle.cv_base.specs.Fields.{accepted, bad, number_at, bytes_at, length_at, text_field, Takes}
use Rattle.cv_base.specs.declared.limits.TheConstants.{LAST_TIME}
use Rattle.cv_base.specs.declared.token.Token.{Token}
use Rattle.cv_base.proofs.Laws.{bind_ok, guard_ended, accepted_ok, Takes-then, wide64, number_takes, number_again, bytes_take, bytes_again, length_takes, length_again, text_taken, bytes_eq-own, ok_is}
use Rattle.cv_history.specs.Reading.{Read, right_at, where_first, is_format, is_revision, revision_at, hash_at, count_at, token_at, time_at, text_at}
use Rattle.cv_history.specs.declared.record_fault.RecordFault.{RecordFault}
use Rattle.cv_history.specs.declared.record_fault.RecordFault.TheVariants.{BadRecord}

abbrev pub done : {A : Type 0} → A → Result A RecordFault
done x = Ok x

-- the value of a step that did not fail, for what follows
pub bind_then : {A B : Type 0} (read : Result A RecordFault) (next : A → Result B RecordFault) (y : B) (Found : Type 0) → (read >>= next) ≡ Ok y → ((x : A) → read ≡ Ok x → next x ≡ Ok y → Found) → Found
bind_then read next y Found e k =
    let b = bind_ok read next y e in
    k b.0 b.1 b.2

-- what was read is right
right_read : {A : Type 0} (all : ℕ) (text : List ℕ) (is_right : A → Bool) (read : Read A) (x : A) (rest : List ℕ) → right_at all text is_right read ≡ Ok (x, rest) → (read ≡ Ok (x, rest)) × (is_right x ≡ true)
right_read {A} all text is_right (Ok found) x rest e =
    let y : A × List ℕ = (x, rest) in
    let g = guard_ended (is_right found.0) (bad BadRecord all text) found y e in
    (ap done g.1, subst (λ (z : A × List ℕ). is_right z.0 ≡ true) g.1 g.0)
right_read all text is_right (Err fault) x rest e = absurd cc

right_again : {A : Type 0} (all : ℕ) (text : List ℕ) (is_right : A → Bool) (read : Read A) (x : A) (rest : List ℕ) → read ≡ Ok (x, rest) → is_right x ≡ true → right_at all text is_right read ≡ Ok (x, rest)
right_again all text is_right read x rest e right = rw (e, right) refl

-- ---- the revision

pub revision_takes : (all : ℕ) (text : List ℕ) (n : ℕ) (rest : List ℕ) → IsBytes text → revision_at all text ≡ Ok (n, rest) → Takes text (codes "CVH1" ++ to_be_bytes w64 n) rest × (is_revision n ≡ true)
unfolding revision_at
revision_takes all text n rest fits e =
    let x : ℕ × List ℕ = (n, rest) in
    let a = bind_ok (right_at all text is_format (bytes_at (BadRecord all) 4 text)) (λ format. right_at all format.1 is_revision (number_at (BadRecord all) w64 format.1)) x e in
    let f = right_read all text is_format (bytes_at (BadRecord all) 4 text) a.0.0 a.0.1 a.1 in
    let r = right_read all a.0.1 is_revision (number_at (BadRecord all) w64 a.0.1) n rest a.2 in
    let t = bytes_take (BadRecord all) 4 text a.0.0 a.0.1 fits f.0 in
    let number = number_takes (BadRecord all) w64 (2 ^ 64) wide64 a.0.1 n rest t.takes.rest_fits r.0 in
    let named : Takes text (codes "CVH1") a.0.1 = subst (λ (l : List ℕ). Takes text l a.0.1) ((bytes_eq-Decides a.0.0 (codes "CVH1")).0 f.1) t.takes in
    (Takes-then text (codes "CVH1") a.0.1 (to_be_bytes w64 n) rest named number.0, r.1)

pub revision_again : (all n : ℕ) (rest : List ℕ) → n < 2 ^ 64 → is_revision n ≡ true → revision_at all (codes "CVH1" ++ (to_be_bytes w64 n ++ rest)) ≡ Ok (n, rest)
unfolding revision_at
revision_again all n rest small is =
    let after : List ℕ = to_be_bytes w64 n ++ rest in
    let text : List ℕ = codes "CVH1" ++ after in
    rw (
      right_again all text is_format (bytes_at (BadRecord all) 4 text) (codes "CVH1") after (bytes_again (BadRecord all) 4 (codes "CVH1") after refl) (bytes_eq-own (codes "CVH1")),
      right_again all after is_revision (number_at (BadRecord all) w64 after) n rest (number_again (BadRecord all) w64 (2 ^ 64) wide64 n rest small) is,
    ) refl

-- ---- hashes

-- a digest was taken
pub record TakesHash (text hash rest : List ℕ) : Type 0 where
  pub takes : Takes text hash rest
  pub digest : IsDigest hash

pub root_takes : (all : ℕ) (text hash rest : List ℕ) → IsBytes text → bytes_at (BadRecord all) 20 text ≡ Ok (hash, rest) → TakesHash text hash rest
root_takes all text hash rest fits e =
    let t = bytes_take (BadRecord all) 20 text hash rest fits e in
    record { takes = t.takes; digest = record { size = t.size; bytes = t.fits } }

pub hash_takes : (all : ℕ) (first : Bool) (wanted text hash rest : List ℕ) → IsBytes text → hash_at all first wanted text ≡ Ok (hash, rest) → TakesHash text hash rest × (where_first first (bytes_eq hash wanted) ≡ true)
unfolding hash_at
hash_takes all first wanted text hash rest fits e =
    let r = right_read all text (λ (hash : List ℕ). where_first first (bytes_eq hash wanted)) (bytes_at (BadRecord all) 20 text) hash rest e in
    (root_takes all text hash rest fits r.0, r.1)

pub hash_again : (all : ℕ) (first : Bool) (wanted hash rest : List ℕ) → length hash ≡ 20 → where_first first (bytes_eq hash wanted) ≡ true → hash_at all first wanted (hash ++ rest) ≡ Ok (hash, rest)
unfolding hash_at
hash_again all first wanted hash rest size is =
    right_again all (hash ++ rest) (λ (hash : List ℕ). where_first first (bytes_eq hash wanted)) (bytes_at (BadRecord all) 20 (hash ++ rest)) hash rest (bytes_again (BadRecord all) 20 hash rest size) is

-- ---- the token

-- a number of a token was taken
record TakesCount (first : Bool) (text : List ℕ) (n : ℕ) (rest : List ℕ) : Type 0 where
  takes : Takes text (to_be_bytes w64 n) rest
  small : n < 2 ^ 64
  none : where_first first (n == 0) ≡ true

count_takes : (all : ℕ) (first : Bool) (text : List ℕ) (n : ℕ) (rest : List ℕ) → IsBytes text → count_at all first text ≡ Ok (n, rest) → TakesCount first text n rest
unfolding count_at
count_takes all first text n rest fits e =
    let r = right_read all text (λ (count : ℕ). where_first first (count == 0)) (number_at (BadRecord all) w64 text) n rest e in
    let t = number_takes (BadRecord all) w64 (2 ^ 64) wide64 text n rest fits r.0 in
    record { takes = t.0; small = t.1; none = r.1 }

count_again : (all : ℕ) (first : Bool) (n : ℕ) (rest : List ℕ) → n < 2 ^ 64 → where_first first (n == 0) ≡ true → count_at all first (to_be_bytes w64 n ++ rest) ≡ Ok (n, rest)
unfolding count_at
count_again all first n rest small is =
    right_again all (to_be_bytes w64 n ++ rest) (λ (count : ℕ). where_first first (count == 0)) (number_at (BadRecord all) w64 (to_be_bytes w64 n ++ rest)) n rest (number_again (BadRecord all) w64 (2 ^ 64) wide64 n rest small) is

-- a token as it may stand
pub record IsToken (first : Bool) (token : Token) : Type 0 where
  pub epoch : token.epoch < 2 ^ 64
  pub number : token.number < 2 ^ 64
  pub no_epoch : where_first first (token.epoch == 0) ≡ true
  pub no_number : where_first first (token.number == 0) ≡ true

abbrev pub token_bytes : Token → List ℕ
token_bytes token = to_be_bytes w64 token.epoch ++ to_be_bytes w64 token.number

pub token_takes : (all : ℕ) (first : Bool) (text : List ℕ) (token : Token) (rest : List ℕ) → IsBytes text → token_at all first text ≡ Ok (token, rest) → Takes text (token_bytes token) rest × IsToken first token
unfolding token_at
token_takes all first text token rest fits e =
    let x : Token × List ℕ = (token, rest) in
    let a = bind_ok (count_at all first text) (λ epoch. count_at all first epoch.1 >>= λ number. Ok (record { epoch = epoch.0; number = number.0 }, number.1)) x e in
    let b = bind_ok (count_at all first a.0.1) (λ number. Ok (record { epoch = a.0.0; number = number.0 }, number.1)) x a.2 in
    let epoch = count_takes all first text a.0.0 a.0.1 fits a.1 in
    let number = count_takes all first a.0.1 b.0.0 b.0.1 epoch.takes.rest_fits b.1 in
    let made : Token × List ℕ = (record { epoch = a.0.0; number = b.0.0 }, b.0.1) in
    let is : IsToken first made.0 = record { epoch = epoch.small; number = number.small; no_epoch = epoch.none; no_number = number.none } in
    subst (λ (z : Token × List ℕ). Takes text (token_bytes z.0) z.1 × IsToken first z.0) (ok_is made x b.2)
    (Takes-then text (to_be_bytes w64 a.0.0) a.0.1 (to_be_bytes w64 b.0.0) b.0.1 epoch.takes number.takes, is)

pub token_again : (all : ℕ) (first : Bool) (token : Token) (rest : List ℕ) → IsToken first token → token_at all first (to_be_bytes w64 token.epoch ++ (to_be_bytes w64 token.number ++ rest)) ≡ Ok (token, rest)
unfolding token_at
token_again all first token rest is =
    rw (count_again all first token.epoch (to_be_bytes w64 token.number ++ rest) is.epoch is.no_epoch, count_again all first token.number rest is.number is.no_number) refl

-- ---- the time

pub time_takes : (all : ℕ) (text : List ℕ) (n : ℕ) (rest : List ℕ) → IsBytes text → time_at all text ≡ Ok (n, rest) → Takes text (to_be_bytes w64 n) rest × (n ≤ LAST_TIME)
unfolding time_at
time_takes all text n rest fits e =
    let r = right_read all text (λ (time : ℕ). nat_le time LAST_TIME) (number_at (BadRecord all) w64 text) n rest e in
    ((number_takes (BadRecord all) w64 (2 ^ 64) wide64 text n rest fits r.0).0, leb-true n LAST_TIME r.1)

pub time_again : (all n : ℕ) (rest : List ℕ) → n ≤ LAST_TIME → time_at all (to_be_bytes w64 n ++ rest) ≡ Ok (n, rest)
unfolding time_at
time_again all n rest early =
    right_again all (to_be_bytes w64 n ++ rest) (λ (time : ℕ). nat_le time LAST_TIME) (number_at (BadRecord all) w64 (to_be_bytes w64 n ++ rest)) n rest
    (number_again (BadRecord all) w64 (2 ^ 64) wide64 n rest (omega (arith, early))) (le-leb n LAST_TIME early)

-- ---- texts

-- these bytes were taken as a text, which says this
pub record TakesText {A : Type 0} (limit : ℕ) (said : List ℕ → Option A) (bytes text : List ℕ) (x : A) (rest : List ℕ) : Type 0 where
  pub takes : Takes text (text_field bytes) rest
  pub short : length bytes ≤ limit
  pub says : said bytes ≡ Some x

-- where bytes say this, they are its own
pub text_takes : {A : Type 0} (all limit : ℕ) (said : List ℕ → Option A) (own : A → List ℕ) → ((bytes : List ℕ) (x : A) → said bytes ≡ Some x → bytes ≡ own x)
    → (text : List ℕ) (x : A) (rest : List ℕ) → IsBytes text → text_at all limit said text ≡ Ok (x, rest) → TakesText limit said (own x) text x rest
unfolding text_at
text_takes {A} all limit said own only text x rest fits e =
    let read : A × List ℕ = (x, rest) in
    let Found : Type 0 = TakesText limit said (own x) text x rest in
    bind_then (length_at (BadRecord all) (bad BadRecord all text) limit text) (λ size. bytes_at (BadRecord all) size.0 size.1 >>= λ bytes. accepted (bad BadRecord all size.1) (said bytes.0) >>= λ value. Ok (value, bytes.1)) read Found e (λ n sized e.
    bind_then (bytes_at (BadRecord all) n.0 n.1) (λ bytes. accepted (bad BadRecord all n.1) (said bytes.0) >>= λ value. Ok (value, bytes.1)) read Found e (λ b taken e.
    bind_then (accepted (bad BadRecord all n.1) (said b.0)) (λ value. Ok (value, b.1)) read Found e (λ y says e.
    let size = length_takes (BadRecord all) (bad BadRecord all text) limit text n.0 n.1 fits sized in
    let t = bytes_take (BadRecord all) n.0 n.1 b.0 b.1 size.0.rest_fits taken in
    let found : TakesText limit said b.0 text y b.1 = record {
      takes = text_taken text n.0 n.1 b.0 b.1 size.0 t;
      short = rw t.size (leb-true n.0 limit size.1);
      says = accepted_ok (bad BadRecord all n.1) (said b.0) y says;
    } in
    let made : A × List ℕ = (y, b.1) in
    subst (λ (z : A × List ℕ). TakesText limit said (own z.0) text z.0 z.1) (ok_is made read e)
    (subst (λ (l : List ℕ). TakesText limit said l text y b.1) (only b.0 y found.says) found))))

pub text_again : {A : Type 0} (all limit : ℕ) (said : List ℕ → Option A) (bytes : List ℕ) (x : A) (rest : List ℕ) → length bytes < 2 ^ 16 → length bytes ≤ limit → said bytes ≡ Some x
    → text_at all limit said (text_field bytes ++ rest) ≡ Ok (x, rest)
unfolding text_at
text_again all limit said bytes x rest small short says =
    let text : List ℕ = to_be_bytes w16 (length bytes) ++ (bytes ++ rest) in
    ap (text_at all limit said) (append_assoc (to_be_bytes w16 (length bytes)) bytes rest) ∙ rw (
      length_again (BadRecord all) (bad BadRecord all text) limit (length bytes) (bytes ++ rest) small (le-leb (length bytes) limit short),
      bytes_again (BadRecord all) (length bytes) bytes rest refl,
      says,
    ) refl
