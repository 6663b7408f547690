-- Packs, written and read.
use Rattle.std.proofs.Common.{◌≡◌, ◌≢◌, ℕ, suc, ◌+◌, ◌<◌, ◌≤◌, Bool, true, false, cond, ◌||◌, ltb, List, [], ◌∷◌, ◌++◌, length, map, take, drop, Result, Ok, Err, refl, sym, ap, subst, ◌∙◌, inl, inr, arith, append_assoc, length-append, take-append-drop, zero-add, get_or}
use Rattle.std.specs.Prelude.{bytes_eq, AllPairs, Contains}
use Rattle.std.proofs.lemmas.List.Quantifiers.{all_pairs_push}
use Rattle.std.specs.Bool.{Decides}
use Rattle.std.specs.List.{AllByRecursion, IsDistinct}
use Rattle.std.proofs.lemmas.Bool.{ltb-false, le-ltb, and_parts}
use Rattle.std.proofs.lemmas.List.{take_at, drop_at, length-take-le, map-append, length-map, get_or-map, take_more}
use Rattle.std.proofs.lemmas.List.Sums.{sum_by-append}
use Rattle.std.proofs.lemmas.List.Elements.{Contains-get_or, Contains-push_cases}
use Rattle.std.proofs.lemmas.List.Folds.{list_any-append}
use Rattle.std.proofs.lemmas.List.Concat.{flat_map-cons}
use Rattle.std.proofs.lemmas.Slice.Eq.{bytes_eq-Decides}
use Rattle.std.proofs.lemmas.Map.Made.{AllPairs-from_IsDistinct, IsDistinct-from_AllPairs}
use Rattle.sha1.specs.Sha1.{sha1}
use Rattle.cv_base.specs.Digest.{IsDigest}
use Rattle.cv_base.specs.ObjectId.{object_id, same_kind, same_id}
use Rattle.cv_base.specs.declared.id.Kind.{Kind}
use Rattle.cv_base.specs.declared.id.ObjectId.{ObjectId}
use Rattle.cv_base.specs.declared.object.Object.{Object}
use Rattle.cv_base.proofs.Laws.{either, digest_sha1, same_kind-eq, same_id-own, ok_is, bind_ok}
use Rattle.cv_pack.specs.declared.entry.Entry.{Entry}
use Rattle.cv_pack.specs.declared.pack_fault.PackFault.{PackFault}
use Rattle.cv_pack.specs.declared.pack_fault.PackFault.TheVariants.{HashDiffers, Short}
use Rattle.cv_pack.specs.Pack.{entry, entry_of, ids, total_size, header_of, header_bytes, contents, contents_size, pack_bytes, IsPacked, IsPack}
use Rattle.cv_base.specs.Sequence.{◌>>=◌}
use Rattle.cv_pack.specs.Reading.{Header, object, is_named, header_at, contents_at, reading}
use Rattle.cv_pack.proofs.Numbers.{chosen}
use Rattle.cv_pack.proofs.Lines.{IsLine, AreLines, IsHeader, header_takes, header_again}

-- ---- the same id

pub same_id-Decides : (a b : ObjectId) → Decides (same_id a b) (a ≡ b)
same_id-Decides a b = (
  λ e.
      let parts = and_parts (bytes_eq a.hash b.hash) (same_kind a.kind b.kind) e in
      ap (λ (h : List ℕ). object_id h a.kind) ((bytes_eq-Decides a.hash b.hash).0 parts.0) ∙ ap (λ (k : Kind). object_id b.hash k) (same_kind-eq a.kind b.kind parts.1),
  λ e. ap (λ (x : ObjectId). same_id a x) (sym e) ∙ same_id-own a,
)

-- ---- ids that are named once

split_three : (a b c : Bool) → (a || (b || c)) ≡ false → ((a || c) ≡ false) × (b ≡ false)
split_three false false false e = (refl, refl)
split_three false false true e = absurd cc
split_three false true c e = absurd cc
split_three true b c e = absurd cc

join_three : (a b c : Bool) → (a || c) ≡ false → b ≡ false → (a || (b || c)) ≡ false
join_three false false false e h = refl
join_three false false true e h = absurd cc
join_three false true c e h = absurd cc
join_three true b c e h = absurd cc

abbrev names : ObjectId → Entry → Bool
names id e = same_id e.id id

named_parts : (before after : List Entry) (e : Entry) (id : ObjectId) → is_named (before ++ e ∷ after) id ≡ (is_named before id || (names id e || is_named after id))
named_parts before after e id = list_any-append (names id) before (e ∷ after)

named_without : (before after : List Entry) (id : ObjectId) → is_named (before ++ after) id ≡ (is_named before id || is_named after id)
named_without before after id = list_any-append (names id) before after

-- lines after an entry name other objects
spread : (before after : List Entry) (e : Entry) (es : List Entry) → AreLines (before ++ e ∷ after) es → AreLines (before ++ after) es × AllByRecursion (λ x. same_id e.id x.id ≡ false) es
spread before after e [] are = (tt, tt)
spread before after e (x ∷ es) are =
    let here = split_three (is_named before x.id) (names x.id e) (is_named after x.id) (sym (named_parts before after e x.id) ∙ are.1) in
    let rest = spread before (after ++ x ∷ []) e es (subst (λ (b : List Entry). AreLines b es) (append_assoc before (e ∷ after) (x ∷ [])) are.2) in
    ((are.0, named_without before after x.id ∙ here.0, subst (λ (b : List Entry). AreLines b es) (sym (append_assoc before after (x ∷ []))) rest.0), (here.1, rest.1))

gather : (before after : List Entry) (e : Entry) (es : List Entry) → AreLines (before ++ after) es → AllByRecursion (λ x. same_id e.id x.id ≡ false) es → AreLines (before ++ e ∷ after) es
gather before after e [] are others = tt
gather before after e (x ∷ es) are others =
    let here = join_three (is_named before x.id) (names x.id e) (is_named after x.id) (sym (named_without before after x.id) ∙ are.1) others.0 in
    let rest = gather before (after ++ x ∷ []) e es (subst (λ (b : List Entry). AreLines b es) (append_assoc before after (x ∷ [])) are.2) others.1 in
    (are.0, named_parts before after e x.id ∙ here, subst (λ (b : List Entry). AreLines b es) (sym (append_assoc before (e ∷ after) (x ∷ []))) rest)

all_mapped : (id : ObjectId) (os : List Object) → AllByRecursion (λ (x : Entry). same_id id x.id ≡ false) (map entry_of os) → AllByRecursion (λ (y : ObjectId). same_id id y ≡ false) (ids os)
all_mapped id [] all = tt
all_mapped id (o ∷ os) all = (all.0, all_mapped id os all.1)

all_entries : (id : ObjectId) (os : List Object) → AllByRecursion (λ (y : ObjectId). same_id id y ≡ false) (ids os) → AllByRecursion (λ (x : Entry). same_id id x.id ≡ false) (map entry_of os)
all_entries id [] all = tt
all_entries id (o ∷ os) all = (all.0, all_entries id os all.1)

distinct_from_lines : (os : List Object) → AreLines [] (map entry_of os) → IsDistinct same_id (ids os)
unfolding IsDistinct
distinct_from_lines [] are = tt
distinct_from_lines (o ∷ os) are =
    let s = spread [] [] (entry_of o) (map entry_of os) are.2 in
    (all_mapped o.id os s.1, distinct_from_lines os s.0)

lines_from_distinct : (os : List Object) → AllByRecursion IsLine (map entry_of os) → IsDistinct same_id (ids os) → AreLines [] (map entry_of os)
unfolding IsDistinct
lines_from_distinct [] each distinct = tt
lines_from_distinct (o ∷ os) each distinct =
    (each.0, refl, gather [] [] (entry_of o) (map entry_of os) (lines_from_distinct os each.1 distinct.1) (all_entries o.id os distinct.0))

-- ---- contents

abbrev HasHash : Object → Type 0
HasHash o = o.id.hash ≡ sha1 o.bytes

pub record TakesContents (es : List Entry) (text : List ℕ) (os : List Object) : Type 0 where
  pub entries : es ≡ map entry_of os
  pub parts : text ≡ contents os
  pub hashes : AllByRecursion HasHash os

pub contents_take : (k : ℕ) (es : List Entry) (text : List ℕ) (os : List Object) → contents_at k es text ≡ Ok os → TakesContents es text os
unfolding contents_at
contents_take k [] [] os e = subst (λ (x : List Object). TakesContents [] [] x) (ok_is [] os e) (record { entries = refl; parts = refl; hashes = tt })
contents_take k [] (b ∷ text) os e = absurd cc
contents_take k (e ∷ es) text os is =
    let bytes : List ℕ = take e.size text in
    let after = contents_at (k + 1) es (drop e.size text) >>= λ os. Ok (object e.id bytes ∷ os) in
    elim (either (ltb (length text) e.size) (Err Short) (cond (bytes_eq (sha1 bytes) e.id.hash) after (Err (HashDiffers k))) (Ok os) is) [
      | inl short ↦ absurd (let wrong = short.1 in cc)
      | inr long ↦
          let room : e.size ≤ length text = ltb-false _ _ long.0 in
          let same = chosen (bytes_eq (sha1 bytes) e.id.hash) after (HashDiffers k) os long.1 in
          let hash : e.id.hash ≡ sha1 bytes = sym ((bytes_eq-Decides (sha1 bytes) e.id.hash).0 same.0) in
          let rest = bind_ok (contents_at (k + 1) es (drop e.size text)) (λ os. Ok (object e.id bytes ∷ os)) os same.1 in
          let more = contents_take (k + 1) es (drop e.size text) rest.0 rest.1 in
          let size : length bytes ≡ e.size = length-take-le e.size text room in
          let all : TakesContents (e ∷ es) text (object e.id bytes ∷ rest.0) = record {
            entries = ap (λ (n : ℕ). entry e.id n ∷ es) (sym size) ∙ ap (λ (x : List Entry). entry e.id (length bytes) ∷ x) more.entries;
            parts = sym (take-append-drop e.size text) ∙ ap (λ (x : List ℕ). bytes ++ x) more.parts ∙ sym (flat_map-cons (λ (o : Object). o.bytes) (object e.id bytes) rest.0);
            hashes = (hash, more.hashes);
          } in
          subst (λ (x : List Object). TakesContents (e ∷ es) text x) (ok_is (object e.id bytes ∷ rest.0) os rest.2) all
    ]

pub contents_again : (k : ℕ) (os : List Object) → AllByRecursion HasHash os → contents_at k (map entry_of os) (contents os) ≡ Ok os
unfolding contents_at
contents_again k [] all = refl
contents_again k (o ∷ os) all =
    let rest : List ℕ = contents os in
    let text-is : contents (o ∷ os) ≡ o.bytes ++ rest = flat_map-cons (λ (x : Object). x.bytes) o os in
    let long : ltb (length (o.bytes ++ rest)) (length o.bytes) ≡ false = le-ltb _ _ (omega (arith, length-append o.bytes rest)) in
    let same : bytes_eq (sha1 o.bytes) o.id.hash ≡ true = (bytes_eq-Decides (sha1 o.bytes) o.id.hash).1 (sym all.0) in
    let more = contents_again (k + 1) os all.1 in
    ap (contents_at k (map entry_of (o ∷ os))) text-is ∙ rw (long, take_at o.bytes rest (length o.bytes) refl, drop_at o.bytes rest (length o.bytes) refl, same, more) refl

-- ---- packs

packed : (before : List Entry) (os : List Object) → AreLines before (map entry_of os) → AllByRecursion HasHash os → AllByRecursion IsPacked os
packed before [] are all = tt
packed before (o ∷ os) are all = (record { hash = all.0; kind = are.0.kind; size = are.0.size }, packed (before ++ entry_of o ∷ []) os are.2 all.1)

lines_packed : (os : List Object) → AllByRecursion IsPacked os → AllByRecursion IsLine (map entry_of os)
lines_packed [] each = tt
lines_packed (o ∷ os) each =
    (record { digest = subst IsDigest (sym each.0.hash) (digest_sha1 o.bytes); kind = each.0.kind; size = each.0.size }, lines_packed os each.1)

hashes_packed : (os : List Object) → AllByRecursion IsPacked os → AllByRecursion HasHash os
hashes_packed [] each = tt
hashes_packed (o ∷ os) each = (each.0.hash, hashes_packed os each.1)

count_entries : (os : List Object) → length (map entry_of os) ≡ length os
count_entries [] = refl
count_entries (o ∷ os) = ap suc (count_entries os)

-- the header of a pack is one
pub is_header : (os : List Object) → IsPack os → IsHeader (map entry_of os)
is_header os is = record {
  lines = lines_from_distinct os (lines_packed os is.each) (IsDistinct-from_AllPairs same_id-Decides (ids os) is.distinct);
  count = let few = is.count in omega (arith, count_entries os);
  total = is.total;
}

-- what is read is a pack, all of its bytes
pub pack_takes : (text : List ℕ) (os : List Object) → reading text ≡ Ok os → IsPack os × (text ≡ pack_bytes os)
pack_takes text os e =
    let h = bind_ok (header_at text) (λ h. contents_at 0 h.0 h.2) os e in
    let header = header_takes text h.0 h.1 in
    let c = contents_take 0 h.0.0 h.0.2 os h.2 in
    let is : IsHeader (map entry_of os) = subst IsHeader c.entries header.1 in (
      record {
        each = packed [] os is.lines c.hashes;
        distinct = AllPairs-from_IsDistinct same_id-Decides (ids os) (distinct_from_lines os is.lines);
        count = let few = is.count in omega (arith, count_entries os);
        total = is.total;
      },
      header.0 ∙ ap (λ (x : List Entry). header_of x ++ h.0.2) c.entries ∙ ap (λ (x : List ℕ). header_bytes os ++ x) c.parts,
    )

-- a pack is read as its objects
pub pack_again : (os : List Object) → IsPack os → reading (pack_bytes os) ≡ Ok os
pack_again os is =
    ap (λ (x : Result Header PackFault). x >>= λ h. contents_at 0 h.0 h.2) (header_again (map entry_of os) (contents os) (is_header os is)) ∙ contents_again 0 os (hashes_packed os is.each)

-- ---- one object more

each_more : (os : List Object) (o : Object) → AllByRecursion IsPacked os → IsPacked o → AllByRecursion IsPacked (os ++ o ∷ [])
each_more [] o each is = (is, tt)
each_more (x ∷ os) o each is = (each.0, each_more os o each.1 is)

ids_more : (os : List Object) (o : Object) → ids (os ++ o ∷ []) ≡ ids os ++ o.id ∷ []
ids_more [] o = refl
ids_more (x ∷ os) o = ap (λ (l : List ObjectId). x.id ∷ l) (ids_more os o)

pub size_more : (os : List Object) (o : Object) → contents_size (os ++ o ∷ []) ≡ contents_size os + length o.bytes
size_more os o =
    let all : contents_size (os ++ o ∷ []) ≡ contents_size os + total_size (entry_of o ∷ []) = ap total_size (map-append entry_of os (o ∷ [])) ∙ sum_by-append (λ (e : Entry). e.size) (map entry_of os) (entry_of o ∷ []) in
    let one : total_size (entry_of o ∷ []) ≡ length o.bytes = zero-add (length o.bytes) in
    all ∙ ap (λ (n : ℕ). contents_size os + n) one

pub pack_more : (os : List Object) (o : Object) → IsPack os → IsPacked o → (Contains (ids os) o.id → ⊥) → length os < 10000 → contents_size os + length o.bytes ≤ 33554432 → IsPack (os ++ o ∷ [])
pack_more os o is packed_ new room fits = record {
  each = each_more os o is.each packed_;
  distinct = subst (AllPairs (λ a b. a ≢ b)) (sym (ids_more os o)) (all_pairs_push (λ a b. a ≢ b) (ids os) o.id is.distinct (λ k d within same. new (subst (Contains (ids os)) same (Contains-get_or (ids os) k d within))));
  count = omega (arith, length-append os (o ∷ []));
  total = omega (arith, size_more os o);
}

-- ---- whether an id is among those of objects

pub has_at : (os : List Object) (i : ℕ) (d : Object) (id : ObjectId) → i < length os → (get_or os i d).id ≡ id → Contains (ids os) id
has_at os i d id within is =
    let at : get_or (ids os) i d.id ≡ id = get_or-map (λ (o : Object). o.id) os i d d.id within ∙ is in
    subst (Contains (ids os)) at (Contains-get_or (ids os) i d.id (omega (arith, length-map os (λ (o : Object). o.id))))

pub has_not_more : (os : List Object) (i : ℕ) (d : Object) (id : ObjectId) → i < length os → (Contains (ids (take i os)) id → ⊥) → ((get_or os i d).id ≡ id → ⊥) → Contains (ids (take (i + 1) os)) id → ⊥
has_not_more os i d id within before here has =
    let parts : ids (take (i + 1) os) ≡ ids (take i os) ++ (get_or os i d).id ∷ [] = ap ids (take_more os i d within) ∙ ids_more (take i os) (get_or os i d) in
    elim (Contains-push_cases (ids (take i os)) (get_or os i d).id id (subst (λ (l : List ObjectId). Contains l id) parts has)) [
      | inl earlier ↦ before earlier
      | inr same ↦ here same
    ]
