-- The fields of a row, written and read.
use Rattle.std.proofs.Common.{◌≡◌, ℕ, suc, ◌+◌, ◌-◌, ◌^◌, ◌<◌, true, not, cond, ltb, leb, eqb, ◌&&◌, List, [], ◌∷◌, ◌++◌, length, Option, Some, None, Result, Ok, Err, refl, sym, ap, subst, ◌∙◌, append_assoc, arith, inl, inr}
use Rattle.std.specs.Prelude.{IsSomeAnd}
use Rattle.std.specs.Int.{w16, w32, w64, to_be_bytes}
use Rattle.std.proofs.lemmas.Bool.{eqb-true, not-false}
use Rattle.std.proofs.lemmas.Bool.Decides.{nat_tests}
use Rattle.hex.specs.Hex.{IsBytes}
use Rattle.cv_base.specs.Attr.{IsAttr}
use Rattle.cv_base.specs.Sequence.{◌>>=◌}
use Rattle.cv_base.specs.Digest.{IsDigest}
use Rattle.cv_base.specs.Path.{is_path_byte, is_dots}
use Rattle.cv_base.specs.Target.{is_target}
use Rattle.cv_base.specs.declared.attr.Attr.{Attr}
use Rattle.std.specs.List.{list_all}
use Rattle.std.specs.Str.{is_utf8}
use Rattle.cv_base.proofs.Laws.{first_true, second_true, ok_is}
use Rattle.cv_rows.specs.declared.row_kind.RowKind.{RowKind}
use Rattle.cv_rows.specs.declared.row_kind.RowKind.TheVariants.{Directory, Transition, NestedRoot, File, Link}
use Rattle.cv_rows.specs.declared.row_fault.RowFault.{RowFault}
use Rattle.cv_rows.specs.declared.row_fault.RowFault.TheVariants.{Short, BadField}
use Rattle.cv_rows.specs.Row.{flags_of, type_bits, is_row_name, hash_field}
use Rattle.cv_base.specs.Fields.{accepted, bad, number_at, bytes_at, length_at, text_field, Takes, TakesBytes}
use Rattle.cv_rows.specs.Reading.{kind_of, kind_at, permissions, attr_at, is_size, size_at, hash_at, name_at, target_limit, is_size_of, target_at}
use Rattle.cv_base.proofs.Laws.{either, bind_ok, guard_ended, passes, accepted_ok, Takes-then, wide16, wide32, wide64, number_takes, number_again, bytes_take, bytes_again, length_takes, length_again, text_taken}

abbrev some : {A : Type 0} → A → Option A
some x = Some x

some_is : {A : Type 0} (x y : A) → some x ≡ some y → x ≡ y
some_is x y e = cc

-- ---- flags

flag_case : (f n : ℕ) (k0 k : RowKind) (other : Option RowKind) → flags_of k0 ≡ n → cond (eqb f n) (Some k0) other ≡ Some k → (other ≡ Some k → f ≡ flags_of k) → f ≡ flags_of k
flag_case f n k0 k other flags e next =
    elim (either (eqb f n) (Some k0) other (Some k) e) [
      | inl this ↦ eqb-true f n this.0 ∙ sym flags ∙ ap flags_of (some_is k0 k this.1)
      | inr that ↦ next that.1
    ]

kind_flags : (f : ℕ) (k : RowKind) → kind_of f ≡ Some k → f ≡ flags_of k
kind_flags f k e =
    flag_case f 1 Directory k _ refl e (λ e1. flag_case f 3 Transition k _ refl e1 (λ e2. flag_case f 33 NestedRoot k _ refl e2 (λ e3.
    flag_case f 4 File k _ refl e3 (λ e4. flag_case f 12 Link k _ refl e4 (λ e5. absurd cc)))))

kind_again : (k : RowKind) → kind_of (flags_of k) ≡ Some k
kind_again Directory = refl
kind_again Transition = refl
kind_again NestedRoot = refl
kind_again File = refl
kind_again Link = refl

flags_fit : (k : RowKind) → flags_of k < 2 ^ 32
flags_fit Directory = omega arith
flags_fit Transition = omega arith
flags_fit NestedRoot = omega arith
flags_fit File = omega arith
flags_fit Link = omega arith

pub kind_takes : (all : ℕ) (text : List ℕ) (kind : RowKind) (rest : List ℕ) → IsBytes text → kind_at all text ≡ Ok (kind, rest) → Takes text (to_be_bytes w32 (flags_of kind)) rest
unfolding kind_at
kind_takes all text kind rest fits e =
    let a = bind_ok (number_at Short w32 text) (λ flags. accepted (bad BadField all text) (kind_of flags.0) >>= λ kind. Ok (kind, flags.1)) (kind, rest) e in
    let b = bind_ok (accepted (bad BadField all text) (kind_of a.0.0)) (λ kind. Ok (kind, a.0.1)) (kind, rest) a.2 in
    let flags = kind_flags a.0.0 b.0 (accepted_ok (bad BadField all text) (kind_of a.0.0) b.0 b.1) in
    let t = number_takes Short w32 (2 ^ 32) wide32 text a.0.0 a.0.1 fits a.1 in
    let same : Takes text (to_be_bytes w32 (flags_of b.0)) a.0.1 = subst (λ (n : ℕ). Takes text (to_be_bytes w32 n) a.0.1) flags t.0 in
    subst (λ (x : RowKind × List ℕ). Takes text (to_be_bytes w32 (flags_of x.0)) x.1) (ok_is (b.0, a.0.1) (kind, rest) b.2) same

pub kind_reads : (all : ℕ) (kind : RowKind) (rest : List ℕ) → kind_at all (to_be_bytes w32 (flags_of kind) ++ rest) ≡ Ok (kind, rest)
unfolding kind_at
kind_reads all kind rest = rw (number_again Short w32 (2 ^ 32) wide32 (flags_of kind) rest (flags_fit kind), kind_again kind) refl

-- ---- attributes

abbrev pub attr_bytes : RowKind → Attr → List ℕ
attr_bytes kind a = to_be_bytes w32 (type_bits kind + a.mode) ++ (to_be_bytes w64 a.mtime ++ (to_be_bytes w32 a.uid ++ to_be_bytes w32 a.gid))

within : (t m x : ℕ) → cond (leb t m && ltb m (t + 4096)) (Some (m - t)) None ≡ Some x → (m ≡ t + x) × (x < 4096)
within t m x e =
    elim (either (leb t m && ltb m (t + 4096)) (Some (m - t)) None (Some x) e) [
      | inl inside ↦
          let low = first_true (leb t m) (ltb m (t + 4096)) inside.0 in
          let high = second_true (leb t m) (ltb m (t + 4096)) inside.0 in
          let x-is : m - t ≡ x = some_is (m - t) x inside.1 in
          (grind (arith, nat_tests), grind (arith, nat_tests))
      | inr outside ↦ absurd (let wrong = outside.1 in cc)
    ]

within_again : (t x : ℕ) → x < 4096 → cond (leb t (t + x) && ltb (t + x) (t + 4096)) (Some (t + x - t)) None ≡ Some x
within_again t x lt =
    let low : leb t (t + x) ≡ true = grind (arith, nat_tests) in
    let high : ltb (t + x) (t + 4096) ≡ true = grind (arith, nat_tests) in
    let back : t + x - t ≡ x = omega arith in
    rw (low, high, back) refl

bits_fit : (kind : RowKind) (x : ℕ) → x < 4096 → type_bits kind + x < 2 ^ 32
bits_fit Directory x lt = omega arith
bits_fit Transition x lt = omega arith
bits_fit NestedRoot x lt = omega arith
bits_fit File x lt = omega arith
bits_fit Link x lt = omega arith

pub attr_takes : (all : ℕ) (kind : RowKind) (text : List ℕ) (a : Attr) (rest : List ℕ) → IsBytes text → attr_at all kind text ≡ Ok (a, rest) → Takes text (attr_bytes kind a) rest × IsAttr a
unfolding attr_at
attr_takes all kind text attr rest fits e =
    let a = bind_ok (number_at Short w32 text) (λ bits. accepted (bad BadField all text) (permissions kind bits.0) >>= λ mode. number_at Short w64 bits.1 >>= λ mtime. number_at Short w32 mtime.1 >>= λ uid. number_at Short w32 uid.1 >>= λ gid. Ok (record { mode = mode; mtime = mtime.0; uid = uid.0; gid = gid.0 }, gid.1)) (attr, rest) e in
    let m = bind_ok (accepted (bad BadField all text) (permissions kind a.0.0)) (λ mode. number_at Short w64 a.0.1 >>= λ mtime. number_at Short w32 mtime.1 >>= λ uid. number_at Short w32 uid.1 >>= λ gid. Ok (record { mode = mode; mtime = mtime.0; uid = uid.0; gid = gid.0 }, gid.1)) (attr, rest) a.2 in
    let b = bind_ok (number_at Short w64 a.0.1) (λ mtime. number_at Short w32 mtime.1 >>= λ uid. number_at Short w32 uid.1 >>= λ gid. Ok (record { mode = m.0; mtime = mtime.0; uid = uid.0; gid = gid.0 }, gid.1)) (attr, rest) m.2 in
    let c = bind_ok (number_at Short w32 b.0.1) (λ uid. number_at Short w32 uid.1 >>= λ gid. Ok (record { mode = m.0; mtime = b.0.0; uid = uid.0; gid = gid.0 }, gid.1)) (attr, rest) b.2 in
    let d = bind_ok (number_at Short w32 c.0.1) (λ gid. Ok (record { mode = m.0; mtime = b.0.0; uid = c.0.0; gid = gid.0 }, gid.1)) (attr, rest) c.2 in
    let mode = within (type_bits kind) a.0.0 m.0 (accepted_ok (bad BadField all text) (permissions kind a.0.0) m.0 m.1) in
    let ta = number_takes Short w32 (2 ^ 32) wide32 text a.0.0 a.0.1 fits a.1 in
    let tb = number_takes Short w64 (2 ^ 64) wide64 a.0.1 b.0.0 b.0.1 ta.0.rest_fits b.1 in
    let tc = number_takes Short w32 (2 ^ 32) wide32 b.0.1 c.0.0 c.0.1 tb.0.rest_fits c.1 in
    let td = number_takes Short w32 (2 ^ 32) wide32 c.0.1 d.0.0 d.0.1 tc.0.rest_fits d.1 in
    let first : Takes text (to_be_bytes w32 (type_bits kind + m.0)) a.0.1 = subst (λ (n : ℕ). Takes text (to_be_bytes w32 n) a.0.1) mode.0 ta.0 in
    let cd = Takes-then b.0.1 (to_be_bytes w32 c.0.0) c.0.1 (to_be_bytes w32 d.0.0) d.0.1 tc.0 td.0 in
    let bd = Takes-then a.0.1 (to_be_bytes w64 b.0.0) b.0.1 (to_be_bytes w32 c.0.0 ++ to_be_bytes w32 d.0.0) d.0.1 tb.0 cd in
    let ad = Takes-then text (to_be_bytes w32 (type_bits kind + m.0)) a.0.1 (to_be_bytes w64 b.0.0 ++ (to_be_bytes w32 c.0.0 ++ to_be_bytes w32 d.0.0)) d.0.1 first bd in
    let made : Attr × List ℕ = (record { mode = m.0; mtime = b.0.0; uid = c.0.0; gid = d.0.0 }, d.0.1) in
    subst (λ (x : Attr × List ℕ). Takes text (attr_bytes kind x.0) x.1 × IsAttr x.0) (ok_is made (attr, rest) d.2) (ad, record { mode = mode.1; mtime = tb.1; uid = tc.1; gid = td.1 })

pub attr_reads : (all : ℕ) (kind : RowKind) (a : Attr) (rest : List ℕ) → IsAttr a → attr_at all kind (attr_bytes kind a ++ rest) ≡ Ok (a, rest)
unfolding attr_at
attr_reads all kind a rest fits =
    let regrouped : attr_bytes kind a ++ rest ≡ to_be_bytes w32 (type_bits kind + a.mode) ++ (to_be_bytes w64 a.mtime ++ (to_be_bytes w32 a.uid ++ (to_be_bytes w32 a.gid ++ rest))) = simp append_assoc in
    ap (attr_at all kind) regrouped ∙ rw (number_again Short w32 (2 ^ 32) wide32 (type_bits kind + a.mode) (to_be_bytes w64 a.mtime ++ (to_be_bytes w32 a.uid ++ (to_be_bytes w32 a.gid ++ rest))) (bits_fit kind a.mode fits.mode), within_again (type_bits kind) a.mode fits.mode, number_again Short w64 (2 ^ 64) wide64 a.mtime (to_be_bytes w32 a.uid ++ (to_be_bytes w32 a.gid ++ rest)) fits.mtime, number_again Short w32 (2 ^ 32) wide32 a.uid (to_be_bytes w32 a.gid ++ rest) fits.uid, number_again Short w32 (2 ^ 32) wide32 a.gid rest fits.gid) refl

-- ---- size

pub size_takes : (all : ℕ) (kind : RowKind) (text : List ℕ) (n : ℕ) (rest : List ℕ) → IsBytes text → size_at all kind text ≡ Ok (n, rest) → Takes text (to_be_bytes w64 n) rest × (is_size kind n ≡ true)
unfolding size_at
size_takes all kind text n rest fits e =
    let a = bind_ok (number_at Short w64 text) (λ size. cond (is_size kind size.0) (Ok size) (Err (bad BadField all text))) (n, rest) e in
    let g = guard_ended (is_size kind a.0.0) (bad BadField all text) a.0 (n, rest) a.2 in
    let t = number_takes Short w64 (2 ^ 64) wide64 text a.0.0 a.0.1 fits a.1 in
    subst (λ (x : ℕ × List ℕ). Takes text (to_be_bytes w64 x.0) x.1 × (is_size kind x.0 ≡ true)) g.1 (t.0, g.0)

pub size_reads : (all : ℕ) (kind : RowKind) (n : ℕ) (rest : List ℕ) → n < 2 ^ 64 → is_size kind n ≡ true → size_at all kind (to_be_bytes w64 n ++ rest) ≡ Ok (n, rest)
unfolding size_at
size_reads all kind n rest lt is = rw (number_again Short w64 (2 ^ 64) wide64 n rest lt, is) refl

-- ---- hash

-- the hash that stands in a row of this kind
abbrev pub HashFits : RowKind → Option (List ℕ) → Type 0
HashFits File o = IsSomeAnd o IsDigest
HashFits kind o = o ≡ None

IsBytes-rest : (b : ℕ) (bytes : List ℕ) → IsBytes (b ∷ bytes) → IsBytes bytes
IsBytes-rest b bytes h i = h (suc i)

abbrev Hash : Type 0
Hash = Option (List ℕ) × List ℕ

abbrev no_hash_read : List ℕ → Result Hash RowFault
no_hash_read rest = Ok (None, rest)

abbrev some_hash_read : List ℕ → Result Hash RowFault
some_hash_read rest = bytes_at Short 20 rest >>= λ hash. Ok (Some hash.0, hash.1)

abbrev read_as : Option (List ℕ) → List ℕ → Result Hash RowFault
read_as o after = Ok (o, after)

no_hash : (len : ℕ) (rest : List ℕ) (o : Option (List ℕ)) (after text : List ℕ) (fault : RowFault) → IsBytes (len ∷ rest) → cond (eqb len 0) (no_hash_read rest) (Err fault) ≡ read_as o after → Takes (len ∷ rest) (hash_field o) after × (o ≡ None)
no_hash len rest o after text fault fits e =
    let made : Hash = (None, rest) in
    let read : Hash = (o, after) in
    let g = guard_ended (eqb len 0) fault made read e in
    let len-is : len ≡ 0 = eqb-true len 0 g.0 in
    subst (λ (x : Option (List ℕ) × List ℕ). Takes (len ∷ rest) (hash_field x.0) x.1 × (x.0 ≡ None)) g.1
    (record { parts = ap (λ (b : ℕ). b ∷ rest) len-is; rest_fits = IsBytes-rest len rest fits }, refl)

some_hash : (len : ℕ) (rest : List ℕ) (o : Option (List ℕ)) (after : List ℕ) (fault : RowFault) → IsBytes (len ∷ rest) → cond (eqb len 20) (some_hash_read rest) (Err fault) ≡ read_as o after → Takes (len ∷ rest) (hash_field o) after × IsSomeAnd o IsDigest
some_hash len rest o after fault fits e =
    elim (either (eqb len 20) (some_hash_read rest) (Err fault) (read_as o after) e) [
      | inl long ↦
          let len-is : len ≡ 20 = eqb-true len 20 long.0 in
          let read : Hash = (o, after) in
          let b = bind_ok (bytes_at Short 20 rest) (λ hash. read_as (Some hash.0) hash.1) read long.1 in
          let t = bytes_take Short 20 rest b.0.0 b.0.1 (IsBytes-rest len rest fits) b.1 in
          let made : Option (List ℕ) × List ℕ = (Some b.0.0, b.0.1) in
          subst (λ (x : Option (List ℕ) × List ℕ). Takes (len ∷ rest) (hash_field x.0) x.1 × IsSomeAnd x.0 IsDigest) (ok_is made read b.2)
          (record { parts = ap (λ (b : ℕ). b ∷ rest) len-is ∙ ap (λ (x : List ℕ). 20 ∷ x) t.takes.parts; rest_fits = t.takes.rest_fits }, record { size = t.size; bytes = t.fits })
      | inr other ↦ absurd (let wrong = other.1 in cc)
    ]

pub hash_takes : (all : ℕ) (kind : RowKind) (text : List ℕ) (o : Option (List ℕ)) (after : List ℕ) → IsBytes text → hash_at all kind text ≡ Ok (o, after) → Takes text (hash_field o) after × HashFits kind o
unfolding hash_at
hash_takes all kind [] o after fits e = absurd cc
hash_takes all Directory (len ∷ rest) o after fits e = no_hash len rest o after (len ∷ rest) (bad BadField all (len ∷ rest)) fits e
hash_takes all Transition (len ∷ rest) o after fits e = no_hash len rest o after (len ∷ rest) (bad BadField all (len ∷ rest)) fits e
hash_takes all NestedRoot (len ∷ rest) o after fits e = no_hash len rest o after (len ∷ rest) (bad BadField all (len ∷ rest)) fits e
hash_takes all File (len ∷ rest) o after fits e = some_hash len rest o after (bad BadField all (len ∷ rest)) fits e
hash_takes all Link (len ∷ rest) o after fits e = no_hash len rest o after (len ∷ rest) (bad BadField all (len ∷ rest)) fits e

none_reads : (all : ℕ) (kind : RowKind) (rest : List ℕ) → HashFits kind None → hash_at all kind (0 ∷ rest) ≡ Ok (None, rest)
unfolding hash_at
none_reads all Directory rest h = refl
none_reads all Transition rest h = refl
none_reads all NestedRoot rest h = refl
none_reads all File rest h = absurd h
none_reads all Link rest h = refl

some_reads : (all : ℕ) (kind : RowKind) (hash rest : List ℕ) → HashFits kind (Some hash) → hash_at all kind (20 ∷ (hash ++ rest)) ≡ Ok (Some hash, rest)
unfolding hash_at
some_reads all Directory hash rest h = absurd cc
some_reads all Transition hash rest h = absurd cc
some_reads all NestedRoot hash rest h = absurd cc
some_reads all File hash rest h = rw (bytes_again Short 20 hash rest h.size) refl
some_reads all Link hash rest h = absurd cc

pub hash_reads : (all : ℕ) (kind : RowKind) (o : Option (List ℕ)) (rest : List ℕ) → HashFits kind o → hash_at all kind (hash_field o ++ rest) ≡ Ok (o, rest)
hash_reads all kind None rest h = none_reads all kind rest h
hash_reads all kind (Some hash) rest h = some_reads all kind hash rest h

-- ---- texts

pub name_takes : (all : ℕ) (parent text name rest : List ℕ) → IsBytes text → name_at all parent text ≡ Ok (name, rest) → Takes text (text_field name) rest × (is_row_name parent name ≡ true)
unfolding name_at
name_takes all parent text name rest fits e =
    let a = bind_ok (length_at Short (bad BadField all text) 255 text) (λ len. bytes_at Short len.0 len.1 >>= λ name. cond (is_row_name parent name.0) (Ok name) (Err (bad BadField all len.1))) (name, rest) e in
    let b = bind_ok (bytes_at Short a.0.0 a.0.1) (λ name. cond (is_row_name parent name.0) (Ok name) (Err (bad BadField all a.0.1))) (name, rest) a.2 in
    let g = guard_ended (is_row_name parent b.0.0) (bad BadField all a.0.1) b.0 (name, rest) b.2 in
    let len = length_takes Short (bad BadField all text) 255 text a.0.0 a.0.1 fits a.1 in
    let t = bytes_take Short a.0.0 a.0.1 b.0.0 b.0.1 len.0.rest_fits b.1 in
    subst (λ (x : List ℕ × List ℕ). Takes text (text_field x.0) x.1 × (is_row_name parent x.0 ≡ true)) g.1 (text_taken text a.0.0 a.0.1 b.0.0 b.0.1 len.0 t, g.0)

-- a name has at most 255 bytes
name_size : (parent name : List ℕ) → is_row_name parent name ≡ true → leb (length name) 255 ≡ true
name_size parent [] h = refl
name_size parent (b ∷ name) h =
    let bytes = b ∷ name in
    let four = first_true (is_utf8 bytes && leb 1 (length bytes) && leb (length bytes) 255 && list_all is_path_byte bytes) (not (is_dots bytes)) h in
    let three = first_true (is_utf8 bytes && leb 1 (length bytes) && leb (length bytes) 255) (list_all is_path_byte bytes) four in
    second_true (is_utf8 bytes && leb 1 (length bytes)) (leb (length bytes) 255) three

short_text : (n : ℕ) → leb n 4095 ≡ true → n < 2 ^ 16
short_text n h = grind (arith, nat_tests)

short_name : (n : ℕ) → leb n 255 ≡ true → n < 2 ^ 16
short_name n h = grind (arith, nat_tests)

pub name_reads : (all : ℕ) (parent name rest : List ℕ) → is_row_name parent name ≡ true → name_at all parent (text_field name ++ rest) ≡ Ok (name, rest)
unfolding name_at
name_reads all parent name rest is =
    let size = name_size parent name is in
    let regrouped : text_field name ++ rest ≡ to_be_bytes w16 (length name) ++ (name ++ rest) = append_assoc (to_be_bytes w16 (length name)) name rest in
    ap (name_at all parent) regrouped ∙ rw (length_again Short (bad BadField all (to_be_bytes w16 (length name) ++ (name ++ rest))) 255 (length name) (name ++ rest) (short_name (length name) size) size, bytes_again Short (length name) name rest refl, is) refl

-- what a target is in a row of this kind and this size
pub record TargetFits (kind : RowKind) (size : ℕ) (target : List ℕ) : Type 0 where
  pub limit : leb (length target) (target_limit kind) ≡ true
  pub size_is : is_size_of kind size target ≡ true
  pub text : is_target target ≡ true

pub target_takes : (all : ℕ) (kind : RowKind) (size : ℕ) (sized text target rest : List ℕ) → IsBytes text → target_at all kind size sized text ≡ Ok (target, rest) → Takes text (text_field target) rest × TargetFits kind size target
unfolding target_at
target_takes all kind size sized text target rest fits e =
    let a = bind_ok (length_at Short (bad BadField all text) (target_limit kind) text) (λ len. bytes_at Short len.0 len.1 >>= λ target. cond (not (is_size_of kind size target.0)) (Err (bad BadField all sized)) (cond (is_target target.0) (Ok target) (Err (bad BadField all len.1)))) (target, rest) e in
    let b = bind_ok (bytes_at Short a.0.0 a.0.1) (λ target. cond (not (is_size_of kind size target.0)) (Err (bad BadField all sized)) (cond (is_target target.0) (Ok target) (Err (bad BadField all a.0.1)))) (target, rest) a.2 in
    let p = passes (not (is_size_of kind size b.0.0)) (bad BadField all sized) (cond (is_target b.0.0) (Ok b.0) (Err (bad BadField all a.0.1))) (target, rest) b.2 in
    let g = guard_ended (is_target b.0.0) (bad BadField all a.0.1) b.0 (target, rest) p.1 in
    let len = length_takes Short (bad BadField all text) (target_limit kind) text a.0.0 a.0.1 fits a.1 in
    let t = bytes_take Short a.0.0 a.0.1 b.0.0 b.0.1 len.0.rest_fits b.1 in
    let fit : TargetFits kind size b.0.0 = record { limit = rw t.size len.1; size_is = not-false (is_size_of kind size b.0.0) p.0; text = g.0 } in
    subst (λ (x : List ℕ × List ℕ). Takes text (text_field x.0) x.1 × TargetFits kind size x.0) g.1 (text_taken text a.0.0 a.0.1 b.0.0 b.0.1 len.0 t, fit)

target_short : (kind : RowKind) (n : ℕ) → leb n (target_limit kind) ≡ true → n < 2 ^ 16
target_short Directory n h = grind (arith, nat_tests)
target_short Transition n h = grind (arith, nat_tests)
target_short NestedRoot n h = grind (arith, nat_tests)
target_short File n h = grind (arith, nat_tests)
target_short Link n h = short_text n h

pub target_reads : (all : ℕ) (kind : RowKind) (size : ℕ) (sized target rest : List ℕ) → TargetFits kind size target → target_at all kind size sized (text_field target ++ rest) ≡ Ok (target, rest)
unfolding target_at
target_reads all kind size sized target rest fits =
    let regrouped : text_field target ++ rest ≡ to_be_bytes w16 (length target) ++ (target ++ rest) = append_assoc (to_be_bytes w16 (length target)) target rest in
    ap (target_at all kind size sized) regrouped ∙ rw (length_again Short (bad BadField all (to_be_bytes w16 (length target) ++ (target ++ rest))) (target_limit kind) (length target) (target ++ rest) (target_short kind (length target) fits.limit) fits.limit, bytes_again Short (length target) target rest refl, fits.size_is, fits.text) refl
