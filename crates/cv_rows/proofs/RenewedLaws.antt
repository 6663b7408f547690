-- A catalogue of which a nested entry comes to name another catalogue is a catalogue.
use Rattle.std.proofs.Common.{◌≡◌, ℕ, ◌<◌, ◌^◌, true, false, cond, List, [], ◌∷◌, ◌++◌, map, length, refl, sym, ap, subst, ◌∙◌, arith, length-append}
use Rattle.std.specs.Int.{w64, to_be_bytes}
use Rattle.std.specs.List.{AllByRecursion, flat_map}
use Rattle.std.specs.List.Sorted.{IsStrictlySortedBy}
use Rattle.std.specs.declared.cmp.Ordering.TheVariants.{Less}
use Rattle.std.proofs.lemmas.List.Concat.{flat_map-cons}
use Rattle.std.proofs.lemmas.List.Elements.{All-from_recursion, recursion_from_All, All-map, All-weaker}
use Rattle.cv_base.specs.BytesOrder.{bytes_cmp}
use Rattle.cv_base.specs.Digest.{IsDigest}
use Rattle.cv_base.specs.Path.{Path, same_path, text_of}
use Rattle.cv_base.proofs.Laws.{goes_to}
use Rattle.cv_base.specs.Fields.{text_field}
use Rattle.cv_rows.specs.Nested.{IsNested, nested_bytes}
use Rattle.cv_rows.specs.Places.{StandsAt}
use Rattle.cv_rows.specs.Catalogue.{Contents, IsCatalogue, IsTransitionAt, IsListed, nested_cmp}
use Rattle.cv_rows.specs.Renewed.{renewed}
use Rattle.cv_rows.specs.declared.nested.Nested.{Nested}
use Rattle.cv_rows.proofs.Regions.{file_len}

size_bytes : (m n : ℕ) → length (to_be_bytes w64 m) ≡ length (to_be_bytes w64 n)
size_bytes m n = refl

-- entries of one path, and of hashes of one length, are as long
pub entry_len : (m n : Nested) → m.path ≡ n.path → length m.hash ≡ length n.hash → length (nested_bytes m) ≡ length (nested_bytes n)
entry_len m n path hashes =
    let text = ap (λ (p : Path). length (text_field (text_of p))) path in
    let sizes = size_bytes m.size n.size in
    omega (
      arith,
      text,
      hashes,
      sizes,
      length-append (text_field (text_of m.path) ++ m.hash) (to_be_bytes w64 m.size),
      length-append (text_field (text_of m.path)) m.hash,
      length-append (text_field (text_of n.path) ++ n.hash) (to_be_bytes w64 n.size),
      length-append (text_field (text_of n.path)) n.hash,
    )

module _ (p : Path) (hash : List ℕ) (size : ℕ) (digest : IsDigest hash) (small : size < 2 ^ 64) where
  pub renewed_path : (n : Nested) → (renewed p hash size n).path ≡ n.path
  renewed_path n = elim (same_path n.path p) as (λ b. (cond b (record { path = n.path; hash = hash; size = size }) n).path ≡ n.path) [ true ↦ refl | false ↦ refl ]

  still_nested : (n : Nested) → IsNested n → IsNested (renewed p hash size n)
  still_nested n is = elim (same_path n.path p) as (λ b. IsNested (cond b (record { path = n.path; hash = hash; size = size }) n)) [
    | true ↦ record { path = is.path; hash = digest; size = small }
    | false ↦ is
  ]

  renewed_len : (n : Nested) → IsNested n → length (nested_bytes (renewed p hash size n)) ≡ length (nested_bytes n)
  renewed_len n is =
      elim (same_path n.path p) as (λ b. length (nested_bytes (cond b (record { path = n.path; hash = hash; size = size }) n)) ≡ length (nested_bytes n)) [
        | true ↦ entry_len (record { path = n.path; hash = hash; size = size }) n refl (digest.size ∙ sym is.hash.size)
        | false ↦ refl
      ]

  -- so many bytes as before
  entries_len : (ns : List Nested) → AllByRecursion IsNested ns → length (flat_map nested_bytes (map (renewed p hash size) ns)) ≡ length (flat_map nested_bytes ns)
  entries_len [] all = refl
  entries_len (n ∷ ns) all =
      let one = renewed_len n all.0 in
      let more = entries_len ns all.1 in
      omega (
        arith,
        one,
        more,
        ap length (flat_map-cons nested_bytes n ns),
        ap length (flat_map-cons nested_bytes (renewed p hash size n) (map (renewed p hash size) ns)),
        length-append (nested_bytes n) (flat_map nested_bytes ns),
        length-append (nested_bytes (renewed p hash size n)) (flat_map nested_bytes (map (renewed p hash size) ns)),
      )

  above_still : (n m : Nested) (ns : List Nested) → m.path ≡ n.path → AllByRecursion (λ y. nested_cmp n y ≡ Less) ns → AllByRecursion (λ y. nested_cmp m y ≡ Less) (map (renewed p hash size) ns)
  above_still n m [] path h = tt
  above_still n m (x ∷ ns) path h = ((λ i. bytes_cmp (text_of (path i)) (text_of (renewed_path x i))) ∙ h.0, above_still n m ns path h.1)

  renewed_rise : (ns : List Nested) → IsStrictlySortedBy nested_cmp ns → IsStrictlySortedBy nested_cmp (map (renewed p hash size) ns)
  unfolding IsStrictlySortedBy
  renewed_rise [] h = tt
  renewed_rise (n ∷ ns) h = (above_still n (renewed p hash size n) ns (renewed_path n) h.0, renewed_rise ns h.1)

  pub renewed_is : (c : Contents) → IsCatalogue c → IsCatalogue (record { at = c.at; rows = c.rows; nested = map (renewed p hash size) c.nested })
  renewed_is c is = record {
    region = record {
      place = is.region.place;
      spelled = is.region.spelled;
      nested_spelled = recursion_from_All IsNested (map (renewed p hash size) c.nested)
          (All-map IsNested (renewed p hash size) c.nested (All-weaker IsNested (λ n. IsNested (renewed p hash size n)) still_nested c.nested (All-from_recursion IsNested c.nested is.region.nested_spelled)));
      root = is.region.root;
      placed = is.region.placed;
      marked = is.region.marked;
      named = All-map (λ (n : Nested). IsTransitionAt c.at c.rows n.path) (renewed p hash size) c.nested
          (All-weaker (λ (n : Nested). IsTransitionAt c.at c.rows n.path) (λ n. IsTransitionAt c.at c.rows (renewed p hash size n).path) (λ n h. subst (λ (q : Path). IsTransitionAt c.at c.rows q) (sym (renewed_path n)) h) c.nested is.region.named);
      listed = All-weaker (IsListed c.at c.rows c.nested) (IsListed c.at c.rows (map (renewed p hash size) c.nested)) (λ r h kind.
          let n = h kind in
          (renewed p hash size n.0, goes_to (renewed p hash size) c.nested n.0 n.1, subst (λ (q : Path). StandsAt c.at c.rows r q) (sym (renewed_path n.0)) n.2)) c.rows is.region.listed;
    };
    ordered = is.ordered;
    nested_ordered = renewed_rise c.nested is.nested_ordered;
    count = is.count;
    size = (let e = entries_len c.nested is.region.nested_spelled in omega (arith, e, is.size, file_len c.rows c.nested, file_len c.rows (map (renewed p hash size) c.nested)));
  }
