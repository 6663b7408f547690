-- What is read of a row file is spelled so, and what is spelled so is read.
use Rattle.std.proofs.Common.{◌≡◌, ℕ, zero, suc, ◌^◌, ◌<◌, ◌≤◌, Bool, true, false, not, cond, ltb, leb, eqb, ◌&&◌, List, [], ◌∷◌, ◌++◌, length, take, drop, codes, Result, Ok, Err, refl, sym, ap, subst, ◌∙◌, append_assoc, append-nil, length-append, arith}
use Rattle.std.specs.Prelude.{bytes_eq}
use Rattle.std.specs.Int.{w16, w32, w64, to_be_bytes}
use Rattle.std.specs.List.{flat_map, AllByRecursion}
use Rattle.std.proofs.lemmas.Bool.{eqb-true, le-leb, ltb-false, le-ltb}
use Rattle.std.proofs.lemmas.Bool.Decides.{nat_tests}
use Rattle.std.proofs.lemmas.List.{nil_from_length, take-append-drop, length-take, length-drop, drop-drop}
use Rattle.std.proofs.lemmas.List.Concat.{flat_map-cons}
use Rattle.std.proofs.lemmas.Slice.Eq.{bytes_eq-Decides}
use Rattle.hex.specs.Hex.{IsBytes}
use Rattle.cv_base.specs.Sequence.{◌>>=◌}
use Rattle.cv_base.specs.Path.{Path, IsPath, text_of}
use Rattle.cv_base.specs.PathText.{path_named}
use Rattle.cv_rows.specs.declared.row.Row.{Row}
use Rattle.cv_rows.specs.declared.nested.Nested.{Nested}
use Rattle.cv_rows.specs.declared.row_fault.RowFault.{RowFault}
use Rattle.cv_rows.specs.declared.row_fault.RowFault.TheVariants.{Short, BadField, BadMagic, TrailingBytes, TooLarge}
use Rattle.cv_rows.specs.Row.{IsRow, row_bytes}
use Rattle.cv_rows.specs.Nested.{IsNested, nested_bytes}
use Rattle.cv_rows.specs.Catalogue.{file_of}
use Rattle.cv_base.specs.Fields.{accepted, bad, number_at, bytes_at, length_at, text_field, Takes}
use Rattle.cv_rows.specs.Reading.{row_at, path_at, nested_at, many_at, Entries, entries_at, number_in, is_too_large, entries_of}
use Rattle.cv_base.proofs.Laws.{path_named-own, path_named-is, bind_ok, guard_ended, passes, accepted_ok, IsBytes-drop, IsBytes-take, Takes-then, wide32, wide64, number_takes, number_again, bytes_take, bytes_again, length_takes, length_again, text_taken, ok_is}
use Rattle.cv_rows.proofs.RowLaws.{row_takes, row_reads}
use Rattle.cv_rows.proofs.Sizes.{nested_le}

-- ---- a nested entry

path_takes : (all : ℕ) (text : List ℕ) (path : Path) (rest : List ℕ) → IsBytes text → path_at all text ≡ Ok (path, rest) → Takes text (text_field (text_of path)) rest × IsPath path
unfolding path_at
path_takes all text path rest fits e =
    let x : Path × List ℕ = (path, rest) in
    let a = bind_ok (length_at Short (bad BadField all text) 4095 text) (λ len. bytes_at Short len.0 len.1 >>= λ name. accepted (bad BadField all len.1) (path_named name.0) >>= λ path. Ok (path, name.1)) x e in
    let b = bind_ok (bytes_at Short a.0.0 a.0.1) (λ name. accepted (bad BadField all a.0.1) (path_named name.0) >>= λ path. Ok (path, name.1)) x a.2 in
    let p = bind_ok (accepted (bad BadField all a.0.1) (path_named b.0.0)) (λ path. Ok (path, b.0.1)) x b.2 in
    let is = path_named-is b.0.0 p.0 (accepted_ok (bad BadField all a.0.1) (path_named b.0.0) p.0 p.1) in
    let len = length_takes Short (bad BadField all text) 4095 text a.0.0 a.0.1 fits a.1 in
    let t = bytes_take Short a.0.0 a.0.1 b.0.0 b.0.1 len.0.rest_fits b.1 in
    let whole : Takes text (text_field (text_of p.0)) b.0.1 = subst (λ (w : List ℕ). Takes text (text_field w) b.0.1) is.text_is (text_taken text a.0.0 a.0.1 b.0.0 b.0.1 len.0 t) in
    let y : Path × List ℕ = (p.0, b.0.1) in
    subst (λ (z : Path × List ℕ). Takes text (text_field (text_of z.0)) z.1 × IsPath z.0) (ok_is y x p.2) (whole, is.is_path)

path_reads : (all : ℕ) (path : Path) (rest : List ℕ) → IsPath path → path_at all (text_field (text_of path) ++ rest) ≡ Ok (path, rest)
unfolding path_at
path_reads all path rest is =
    let name = text_of path in
    let short : leb (length name) 4095 ≡ true = le-leb (length name) 4095 is.size in
    let fits : length name < 2 ^ 16 = omega (arith, is.size) in
    let regrouped : text_field name ++ rest ≡ to_be_bytes w16 (length name) ++ (name ++ rest) = append_assoc (to_be_bytes w16 (length name)) name rest in
    ap (path_at all) regrouped ∙ rw (length_again Short (bad BadField all (to_be_bytes w16 (length name) ++ (name ++ rest))) 4095 (length name) (name ++ rest) fits short, bytes_again Short (length name) name rest refl, path_named-own path is) refl

-- a nested entry with its parts to the right
nested_parts : (n : Nested) (rest : List ℕ) → nested_bytes n ++ rest ≡ text_field (text_of n.path) ++ (n.hash ++ (to_be_bytes w64 n.size ++ rest))
nested_parts n rest = simp append_assoc

pub nested_takes : (all : ℕ) (text : List ℕ) (n : Nested) (rest : List ℕ) → IsBytes text → nested_at all text ≡ Ok (n, rest) → Takes text (nested_bytes n) rest × IsNested n
unfolding nested_at
nested_takes all text n rest fits e =
    let x : Nested × List ℕ = (n, rest) in
    let a = bind_ok (path_at all text) (λ p. bytes_at Short 20 p.1 >>= λ h. number_at Short w64 h.1 >>= λ s. Ok (record { path = p.0; hash = h.0; size = s.0 }, s.1)) x e in
    let b = bind_ok (bytes_at Short 20 a.0.1) (λ h. number_at Short w64 h.1 >>= λ s. Ok (record { path = a.0.0; hash = h.0; size = s.0 }, s.1)) x a.2 in
    let c = bind_ok (number_at Short w64 b.0.1) (λ s. Ok (record { path = a.0.0; hash = b.0.0; size = s.0 }, s.1)) x b.2 in
    let ta = path_takes all text a.0.0 a.0.1 fits a.1 in
    let tb = bytes_take Short 20 a.0.1 b.0.0 b.0.1 ta.0.rest_fits b.1 in
    let tc = number_takes Short w64 (2 ^ 64) wide64 b.0.1 c.0.0 c.0.1 tb.takes.rest_fits c.1 in
    let found : Nested = record { path = a.0.0; hash = b.0.0; size = c.0.0 } in
    let whole : text ≡ nested_bytes found ++ c.0.1 =
    ta.0.parts ∙ ap (λ (y : List ℕ). text_field (text_of a.0.0) ++ y) (tb.takes.parts ∙ ap (λ (y : List ℕ). b.0.0 ++ y) tc.0.parts) ∙ sym (nested_parts found c.0.1) in
    let is : IsNested found = record { path = ta.1; hash = record { size = tb.size; bytes = tb.fits }; size = tc.1 } in
    let y : Nested × List ℕ = (found, c.0.1) in
    subst (λ (z : Nested × List ℕ). Takes text (nested_bytes z.0) z.1 × IsNested z.0) (ok_is y x c.2) (record { parts = whole; rest_fits = tc.0.rest_fits }, is)

pub nested_reads : (all : ℕ) (n : Nested) (rest : List ℕ) → IsNested n → nested_at all (nested_bytes n ++ rest) ≡ Ok (n, rest)
unfolding nested_at
nested_reads all n rest is =
    ap (nested_at all) (nested_parts n rest) ∙ rw (path_reads all n.path (n.hash ++ (to_be_bytes w64 n.size ++ rest)) is.path, bytes_again Short 20 n.hash (to_be_bytes w64 n.size ++ rest) is.hash.size, number_again Short w64 (2 ^ 64) wide64 n.size rest is.size) refl

-- ---- many

-- what is read of each is spelled so
record IsTaken {A : Type 0} (one : List ℕ → Result (A × List ℕ) RowFault) (spelling : A → List ℕ) (Good : A → Type 0) : Type 0 where
  takes : (text : List ℕ) (x : A) (rest : List ℕ) → IsBytes text → one text ≡ Ok (x, rest) → Takes text (spelling x) rest × Good x
  reads : (x : A) (rest : List ℕ) → Good x → one (spelling x ++ rest) ≡ Ok (x, rest)

-- so many were taken
record TakesMany {A : Type 0} (spelling : A → List ℕ) (Good : A → Type 0) (n : ℕ) (text : List ℕ) (xs : List A) (rest : List ℕ) : Type 0 where
  takes : Takes text (flat_map spelling xs) rest
  each : AllByRecursion Good xs
  count : length xs ≡ n

many_takes : {A : Type 0} (one : List ℕ → Result (A × List ℕ) RowFault) (spelling : A → List ℕ) (Good : A → Type 0) → IsTaken one spelling Good
    → (n : ℕ) (text : List ℕ) (xs : List A) (rest : List ℕ) → IsBytes text → many_at one n text ≡ Ok (xs, rest) → TakesMany spelling Good n text xs rest
unfolding many_at
many_takes {A} one spelling Good h zero text xs rest fits e =
    let x : List A × List ℕ = (xs, rest) in
    let y : List A × List ℕ = ([], text) in
    subst (λ (z : List A × List ℕ). TakesMany spelling Good 0 text z.0 z.1) (ok_is y x e) (record { takes = record { parts = refl; rest_fits = fits }; each = tt; count = refl })
many_takes {A} one spelling Good h (suc n) text xs rest fits e =
    let x : List A × List ℕ = (xs, rest) in
    let a = bind_ok (one text) (λ first. many_at one n first.1 >>= λ others. Ok (first.0 ∷ others.0, others.1)) x e in
    let b = bind_ok (many_at one n a.0.1) (λ others. Ok (a.0.0 ∷ others.0, others.1)) x a.2 in
    let first = h.takes text a.0.0 a.0.1 fits a.1 in
    let others = many_takes one spelling Good h n a.0.1 b.0.0 b.0.1 first.0.rest_fits b.1 in
    let y : List A × List ℕ = (a.0.0 ∷ b.0.0, b.0.1) in
    let together = Takes-then text (spelling a.0.0) a.0.1 (flat_map spelling b.0.0) b.0.1 first.0 others.takes in
    let whole : Takes text (flat_map spelling (a.0.0 ∷ b.0.0)) b.0.1 = subst (λ (w : List ℕ). Takes text w b.0.1) (sym (flat_map-cons spelling a.0.0 b.0.0)) together in
    subst (λ (z : List A × List ℕ). TakesMany spelling Good (suc n) text z.0 z.1) (ok_is y x b.2) (record { takes = whole; each = (first.1, others.each); count = ap suc others.count })

many_reads : {A : Type 0} (one : List ℕ → Result (A × List ℕ) RowFault) (spelling : A → List ℕ) (Good : A → Type 0) → IsTaken one spelling Good
    → (xs : List A) (rest : List ℕ) → AllByRecursion Good xs → many_at one (length xs) (flat_map spelling xs ++ rest) ≡ Ok (xs, rest)
unfolding many_at
many_reads one spelling Good h [] rest all = refl
many_reads one spelling Good h (x ∷ xs) rest all =
    let regrouped : flat_map spelling (x ∷ xs) ++ rest ≡ spelling x ++ (flat_map spelling xs ++ rest) = ap (λ (w : List ℕ). w ++ rest) (flat_map-cons spelling x xs) ∙ append_assoc (spelling x) (flat_map spelling xs) rest in
    ap (many_at one (suc (length xs))) regrouped ∙ rw (h.reads x (flat_map spelling xs ++ rest) all.0, many_reads one spelling Good h xs rest all.1) refl

rows_taken : (all : ℕ) → IsTaken (row_at all) row_bytes IsRow
rows_taken all = record { takes = row_takes all; reads = row_reads all }

nested_taken : (all : ℕ) → IsTaken (nested_at all) nested_bytes IsNested
nested_taken all = record { takes = nested_takes all; reads = nested_reads all }

-- ---- the whole file

-- these rows and nested entries have a row file: each has a spelling, and the limits are kept
pub record HasFile (rows : List Row) (nested : List Nested) : Type 0 where
  pub spelled : AllByRecursion IsRow rows
  pub nested_spelled : AllByRecursion IsNested nested
  pub count : length rows ≤ 50000
  pub size : length (file_of rows nested) ≤ 16777216

-- what follows the counts
record TakesEntries (row_count nested_count : ℕ) (text : List ℕ) (rows : List Row) (nested : List Nested) : Type 0 where
  spelled : AllByRecursion IsRow rows
  nested_spelled : AllByRecursion IsNested nested
  rows_are : length rows ≡ row_count
  nested_are : length nested ≡ nested_count
  whole : text ≡ flat_map row_bytes rows ++ flat_map nested_bytes nested

entries_take : (all row_count nested_count : ℕ) (text : List ℕ) (rows : List Row) (nested : List Nested) → IsBytes text → entries_at all row_count nested_count text ≡ Ok (rows, nested) → TakesEntries row_count nested_count text rows nested
unfolding entries_at
entries_take all row_count nested_count text rows nested fits e =
    let x : Entries = (rows, nested) in
    let a = bind_ok (many_at (row_at all) row_count text) (λ rs. many_at (nested_at all) nested_count rs.1 >>= λ ns. cond (eqb (length ns.1) 0) (Ok (rs.0, ns.0)) (Err TrailingBytes)) x e in
    let b = bind_ok (many_at (nested_at all) nested_count a.0.1) (λ ns. cond (eqb (length ns.1) 0) (Ok (a.0.0, ns.0)) (Err TrailingBytes)) x a.2 in
    let y : Entries = (a.0.0, b.0.0) in
    let g = guard_ended (eqb (length b.0.1) 0) TrailingBytes y x b.2 in
    let none : b.0.1 ≡ [] = nil_from_length b.0.1 (eqb-true (length b.0.1) 0 g.0) in
    let ra = many_takes (row_at all) row_bytes IsRow (rows_taken all) row_count text a.0.0 a.0.1 fits a.1 in
    let rb = many_takes (nested_at all) nested_bytes IsNested (nested_taken all) nested_count a.0.1 b.0.0 b.0.1 ra.takes.rest_fits b.1 in
    let whole : text ≡ flat_map row_bytes a.0.0 ++ flat_map nested_bytes b.0.0 =
    ra.takes.parts ∙ ap (λ (w : List ℕ). flat_map row_bytes a.0.0 ++ w) (rb.takes.parts ∙ ap (λ (w : List ℕ). flat_map nested_bytes b.0.0 ++ w) none ∙ append-nil (flat_map nested_bytes b.0.0)) in
    subst (λ (z : Entries). TakesEntries row_count nested_count text z.0 z.1) g.1 (record { spelled = ra.each; nested_spelled = rb.each; rows_are = ra.count; nested_are = rb.count; whole = whole })

entries_read : (all : ℕ) (rows : List Row) (nested : List Nested) → AllByRecursion IsRow rows → AllByRecursion IsNested nested → entries_at all (length rows) (length nested) (flat_map row_bytes rows ++ flat_map nested_bytes nested) ≡ Ok (rows, nested)
unfolding entries_at
entries_read all rows nested good good_nested =
    let last : many_at (nested_at all) (length nested) (flat_map nested_bytes nested) ≡ Ok (nested, []) =
    ap (many_at (nested_at all) (length nested)) (sym (append-nil (flat_map nested_bytes nested))) ∙ many_reads (nested_at all) nested_bytes IsNested (nested_taken all) nested [] good_nested in
    rw (many_reads (row_at all) row_bytes IsRow (rows_taken all) rows (flat_map nested_bytes nested) good, last) refl

-- the first twelve bytes are three fields of four
twelve : (bytes : List ℕ) → bytes ≡ take 4 bytes ++ (take 4 (drop 4 bytes) ++ (take 4 (drop 8 bytes) ++ drop 12 bytes))
twelve bytes =
    let first = sym (take-append-drop 4 bytes) in
    let second = sym (take-append-drop 4 (drop 4 bytes)) in
    let third = sym (take-append-drop 4 (drop 8 bytes)) in
    first ∙ ap (λ (y : List ℕ). take 4 bytes ++ y) (second ∙ ap (λ (y : List ℕ). take 4 (drop 4 bytes) ++ y) (drop-drop 4 4 bytes ∙ third ∙ ap (λ (y : List ℕ). take 4 (drop 8 bytes) ++ y) (drop-drop 4 8 bytes)))

-- fields that are those of the file
file_whole : (bytes : List ℕ) (rows : List Row) (nested : List Nested) (m r n text : List ℕ) → bytes ≡ m ++ (r ++ (n ++ text)) → m ≡ codes "CVR1" → to_be_bytes w32 (length rows) ≡ r → to_be_bytes w32 (length nested) ≡ n
    → text ≡ flat_map row_bytes rows ++ flat_map nested_bytes nested → bytes ≡ file_of rows nested
file_whole bytes rows nested m r n text parts magic rows_are nested_are rest =
    parts ∙ ap (λ (y : List ℕ). y ++ (r ++ (n ++ text))) magic ∙ ap (λ (y : List ℕ). codes "CVR1" ++ (y ++ (n ++ text))) (sym rows_are)
    ∙ ap (λ (y : List ℕ). codes "CVR1" ++ (to_be_bytes w32 (length rows) ++ (y ++ text))) (sym nested_are)
    ∙ ap (λ (y : List ℕ). codes "CVR1" ++ (to_be_bytes w32 (length rows) ++ (to_be_bytes w32 (length nested) ++ y))) rest

pub file_takes : (bytes : List ℕ) (rows : List Row) (nested : List Nested) → IsBytes bytes → entries_of bytes ≡ Ok (rows, nested) → HasFile rows nested × (bytes ≡ file_of rows nested)
unfolding entries_of
file_takes bytes rows nested fits e =
    let x : Entries = (rows, nested) in
    let after_short = entries_at (length bytes) (number_in 4 bytes) (number_in 8 bytes) (drop 12 bytes) in
    let after_magic = cond (ltb (length bytes) 12) (Err Short) after_short in
    let after_size = cond (leb 4 (length bytes) && not (bytes_eq (take 4 bytes) (codes "CVR1"))) (Err BadMagic) after_magic in
    let a = passes (is_too_large bytes) TooLarge after_size x e in
    let b = passes (leb 4 (length bytes) && not (bytes_eq (take 4 bytes) (codes "CVR1"))) BadMagic after_magic x a.1 in
    let c = passes (ltb (length bytes) 12) Short after_short x b.1 in
    let long : 12 ≤ length bytes = ltb-false (length bytes) 12 c.0 in
    let t = entries_take (length bytes) (number_in 4 bytes) (number_in 8 bytes) (drop 12 bytes) rows nested (IsBytes-drop 12 bytes fits) c.1 in
    let magic : take 4 bytes ≡ codes "CVR1" = (bytes_eq-Decides (take 4 bytes) (codes "CVR1")).0 (is_magic (leb 4 (length bytes)) (bytes_eq (take 4 bytes) (codes "CVR1")) (le-leb 4 (length bytes) (omega arith)) b.0) in
    let rows_field : to_be_bytes w32 (length rows) ≡ take 4 (drop 4 bytes) = rw t.rows_are (wide32.back (take 4 (drop 4 bytes)) (omega (arith, length-take 4 (drop 4 bytes), length-drop 4 bytes)) (IsBytes-take 4 (drop 4 bytes) (IsBytes-drop 4 bytes fits))) in
    let nested_field : to_be_bytes w32 (length nested) ≡ take 4 (drop 8 bytes) = rw t.nested_are (wide32.back (take 4 (drop 8 bytes)) (omega (arith, length-take 4 (drop 8 bytes), length-drop 8 bytes)) (IsBytes-take 4 (drop 8 bytes) (IsBytes-drop 8 bytes fits))) in
    let limits = not_large (length bytes) (number_in 4 bytes) (leb 8 (length bytes)) (le-leb 8 (length bytes) (omega arith)) a.0 in
    let whole : bytes ≡ file_of rows nested = file_whole bytes rows nested (take 4 bytes) (take 4 (drop 4 bytes)) (take 4 (drop 8 bytes)) (drop 12 bytes) (twelve bytes) magic rows_field nested_field t.whole in
    (record { spelled = t.spelled; nested_spelled = t.nested_spelled; count = rw t.rows_are limits.1; size = subst (λ (b : List ℕ). length b ≤ 16777216) whole limits.0 }, whole)
  where
    is_magic : (long same : Bool) → long ≡ true → (long && not same) ≡ false → same ≡ true
    is_magic long same l h = elim same as (λ s. (long && not s) ≡ false → s ≡ true) [ true ↦ λ k. refl | false ↦ λ k. cc ] h

    not_large : (n count : ℕ) (counted : Bool) → counted ≡ true → cond (ltb 16777216 n) true (counted && ltb 50000 count) ≡ false → (n ≤ 16777216) × (count ≤ 50000)
    not_large n count counted is h = grind (arith, nat_tests)

pass : {A : Type 0} (a b c : Bool) (d e f : RowFault) (r : Result A RowFault) → a ≡ false → b ≡ false → c ≡ false → cond a (Err d) (cond b (Err e) (cond c (Err f) r)) ≡ r
pass a b c d e f r ha hb hc = rw (ha, hb, hc) refl

small_file : (n count : ℕ) (counted : Bool) → n ≤ 16777216 → count ≤ 50000 → cond (ltb 16777216 n) true (counted && ltb 50000 count) ≡ false
small_file n count true small few = rw (le-ltb 16777216 n small, le-ltb 50000 count few) refl
small_file n count false small few = rw (le-ltb 16777216 n small) refl

and_not : (a b : Bool) → b ≡ true → (a && not b) ≡ false
and_not true b h = rw h refl
and_not false b h = refl

pub file_reads : (rows : List Row) (nested : List Nested) → HasFile rows nested → entries_of (file_of rows nested) ≡ Ok (rows, nested)
unfolding entries_of
file_reads rows nested has =
    let bytes = file_of rows nested in
    let rows_are : number_in 4 bytes ≡ length rows = wide32.again (length rows) (omega (arith, has.count)) in
    let nested_are : number_in 8 bytes ≡ length nested = wide32.again (length nested) (omega (arith, nested_le rows nested, has.size)) in
    let small : is_too_large bytes ≡ false = small_file (length bytes) (number_in 4 bytes) (leb 8 (length bytes)) has.size (omega (arith, rows_are, has.count)) in
    let magic : (leb 4 (length bytes) && not (bytes_eq (take 4 bytes) (codes "CVR1"))) ≡ false = and_not (leb 4 (length bytes)) (bytes_eq (take 4 bytes) (codes "CVR1")) ((bytes_eq-Decides (codes "CVR1") (codes "CVR1")).1 refl) in
    let long : ltb (length bytes) 12 ≡ false = le-ltb (length bytes) 12 (omega (arith, length-append (codes "CVR1" ++ to_be_bytes w32 (length rows) ++ to_be_bytes w32 (length nested) ++ flat_map row_bytes rows) (flat_map nested_bytes nested), length-append (codes "CVR1" ++ to_be_bytes w32 (length rows) ++ to_be_bytes w32 (length nested)) (flat_map row_bytes rows))) in
    pass (is_too_large bytes) (leb 4 (length bytes) && not (bytes_eq (take 4 bytes) (codes "CVR1"))) (ltb (length bytes) 12) TooLarge BadMagic Short (entries_at (length bytes) (number_in 4 bytes) (number_in 8 bytes) (drop 12 bytes)) small magic long
    ∙ ap (λ (k : ℕ). entries_at (length bytes) k (number_in 8 bytes) (drop 12 bytes)) rows_are
    ∙ ap (λ (k : ℕ). entries_at (length bytes) (length rows) k (drop 12 bytes)) nested_are
    ∙ entries_read (length bytes) rows nested has.spelled has.nested_spelled

-- one spelling: rows and nested entries with the same row file are the same
pub one_file : (rows others : List Row) (nested more : List Nested) → HasFile rows nested → HasFile others more → file_of rows nested ≡ file_of others more → (rows ≡ others) × (nested ≡ more)
one_file rows others nested more has had same =
    let read = sym (file_reads rows nested has) ∙ ap entries_of same ∙ file_reads others more had in
    let x : Entries = (rows, nested) in
    let y : Entries = (others, more) in
    let both : x ≡ y = ok_is x y read in
    (ap (λ (z : Entries). z.0) both, ap (λ (z : Entries). z.1) both)
