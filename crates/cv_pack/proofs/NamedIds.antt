-- The sets of hashes, with one more.
use Rattle.std.proofs.Common.{◌≡◌, ℕ, Bool, true, false, cond, ◌||◌, ◌&&◌, List, [], ◌∷◌, ◌++◌, refl, sym, ap, ◌∙◌}
use Rattle.std.specs.Ordering.{is_eq}
use Rattle.std.specs.Str.{bytes_eq}
use Rattle.std.specs.BTreeSet.{BTreeSet, contains, Updates}
use Rattle.std.proofs.lemmas.Map.Text.{is_eq-slice_cmp}
use Rattle.std.proofs.lemmas.List.Folds.{list_any-append}
use Rattle.std.proofs.Math.Bool.{and-true, and-false}
use Rattle.cv_base.specs.BytesOrder.{bytes_cmp}
use Rattle.cv_base.specs.ObjectId.{object_id, same_kind}
use Rattle.cv_base.specs.declared.id.Kind.{Kind}
use Rattle.cv_base.specs.declared.id.Kind.TheVariants.{Plain, Catalogue, History}
use Rattle.cv_base.specs.declared.id.ObjectId.{ObjectId}
use Rattle.cv_base.proofs.Laws.{same_kind-own}
use Rattle.cv_pack.specs.declared.entry.Entry.{Entry}
use Rattle.cv_pack.specs.Reading.{is_named}
use Rattle.cv_pack.specs.NamedInner.{HasHashes, AreHashes}

or_last : (a b : Bool) → (a || (b || false)) ≡ cond b true a
or_last true true = refl
or_last true false = refl
or_last false true = refl
or_last false false = refl

-- an id is named by one entry more where it is that entry's
is_named-more : (es : List Entry) (e : Entry) (id : ObjectId)
    → is_named (es ++ e ∷ []) id ≡ cond (bytes_eq e.id.hash id.hash && same_kind e.id.kind id.kind) true (is_named es id)
is_named-more es e id =
    list_any-append (λ (x : Entry). bytes_eq x.id.hash id.hash && same_kind x.id.kind id.kind) es (e ∷ []) ∙ or_last (is_named es id) (bytes_eq e.id.hash id.hash && same_kind e.id.kind id.kind)

-- the set of the entry's own kind has its hash
with_hash : (kind : Kind) (es : List Entry) (e : Entry) (s n : BTreeSet (List ℕ)) → e.id.kind ≡ kind → HasHashes kind es s
    → Updates bytes_cmp s n e.id.hash true → HasHashes kind (es ++ e ∷ []) n
with_hash kind es e s n k h u hash =
    let named = is_named-more es e (object_id hash kind) in
    let own : same_kind e.id.kind kind ≡ true = ap (λ (x : Kind). same_kind x kind) k ∙ same_kind-own kind in
    let test : (bytes_eq e.id.hash hash && same_kind e.id.kind kind) ≡ is_eq (bytes_cmp e.id.hash hash) =
    ap (λ (b : Bool). bytes_eq e.id.hash hash && b) own ∙ and-true (bytes_eq e.id.hash hash) ∙ sym (is_eq-slice_cmp e.id.hash hash) in
    u.0 hash ∙ sym (named ∙ ap (λ (b : Bool). cond b true (is_named es (object_id hash kind))) test
    ∙ ap (λ (b : Bool). cond (is_eq (bytes_cmp e.id.hash hash)) true b) (sym (h hash)))

-- another kind's set stays
without_hash : (kind : Kind) (es : List Entry) (e : Entry) (s : BTreeSet (List ℕ)) → same_kind e.id.kind kind ≡ false → HasHashes kind es s → HasHashes kind (es ++ e ∷ []) s
without_hash kind es e s k h hash =
    let named = is_named-more es e (object_id hash kind) in
    let test : (bytes_eq e.id.hash hash && same_kind e.id.kind kind) ≡ false =
    ap (λ (b : Bool). bytes_eq e.id.hash hash && b) k ∙ and-false (bytes_eq e.id.hash hash) in
    h hash ∙ sym (named ∙ ap (λ (b : Bool). cond b true (is_named es (object_id hash kind))) test)

not_plain : (kind : Kind) → (kind ≡ Plain → ⊥) → (kind ≡ History → ⊥) → kind ≡ Catalogue
not_plain Plain p h = absurd (p refl)
not_plain Catalogue p h = refl
not_plain History p h = absurd (h refl)

pub push_plain : (es : List Entry) (e : Entry) (s n c : BTreeSet (List ℕ)) → e.id.kind ≡ Plain → AreHashes es s c
    → Updates bytes_cmp s n e.id.hash true → AreHashes (es ++ e ∷ []) n c
push_plain es e s n c k h u = record {
  of_plain = with_hash Plain es e s n k h.of_plain u;
  of_catalogues = without_hash Catalogue es e c (ap (λ (x : Kind). same_kind x Catalogue) k) h.of_catalogues;
}

pub push_catalogue : (es : List Entry) (e : Entry) (p s n : BTreeSet (List ℕ)) → e.id.kind ≡ Catalogue → AreHashes es p s
    → Updates bytes_cmp s n e.id.hash true → AreHashes (es ++ e ∷ []) p n
push_catalogue es e p s n k h u = record {
  of_plain = without_hash Plain es e p (ap (λ (x : Kind). same_kind x Plain) k) h.of_plain;
  of_catalogues = with_hash Catalogue es e s n k h.of_catalogues u;
}

pub push_history : (es : List Entry) (e : Entry) (p c : BTreeSet (List ℕ)) → e.id.kind ≡ History → AreHashes es p c → AreHashes (es ++ e ∷ []) p c
push_history es e p c k h = record {
  of_plain = without_hash Plain es e p (ap (λ (x : Kind). same_kind x Plain) k) h.of_plain;
  of_catalogues = without_hash Catalogue es e c (ap (λ (x : Kind). same_kind x Catalogue) k) h.of_catalogues;
}

-- the sets tell of an id whether it is named
pub has_plain : (es : List Entry) (id : ObjectId) (p c : BTreeSet (List ℕ)) → AreHashes es p c → id.kind ≡ Plain → contains bytes_cmp p id.hash ≡ is_named es id
has_plain es id p c h k = h.of_plain id.hash ∙ ap (λ (x : Kind). is_named es (object_id id.hash x)) (sym k)

pub has_catalogue : (es : List Entry) (id : ObjectId) (p c : BTreeSet (List ℕ)) → AreHashes es p c → (id.kind ≡ Plain → ⊥) → (id.kind ≡ History → ⊥)
    → contains bytes_cmp c id.hash ≡ is_named es id
has_catalogue es id p c h not_p not_h = h.of_catalogues id.hash ∙ ap (λ (x : Kind). is_named es (object_id id.hash x)) (sym (not_plain id.kind not_p not_h))
