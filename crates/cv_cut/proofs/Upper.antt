-- The catalogues further above the path of a replacement: one nested entry changes, and nothing else.
use Rattle.std.proofs.Common.{◌≡◌, ◌≢◌, ℕ, ◌<◌, ◌^◌, true, false, cond, not, List, [], ◌∷◌, ◌++◌, map, length, refl, sym, ap, subst, ◌∙◌, inl, inr, arith, length-append}
use Rattle.std.specs.Prelude.{Contains}
use Rattle.std.specs.List.{flat_map, AllByRecursion}
use Rattle.std.specs.declared.cmp.Ordering.TheVariants.{Less}
use Rattle.std.proofs.lemmas.List.Concat.{flat_map-cons}
use Rattle.std.specs.List.Sorted.{IsStrictlySortedBy}
use Rattle.std.proofs.lemmas.List.Folds.{list_all_at}
use Rattle.cv_base.specs.BytesOrder.{bytes_cmp}
use Rattle.cv_base.specs.Marker.{marker, ends_in}
use Rattle.cv_base.specs.Path.{Path, covers, same_path, text_of}
use Rattle.cv_base.proofs.Laws.{digest_sha1}
use Rattle.cv_tree.specs.Tree.{Nodes, at, put}
use Rattle.cv_rows.specs.Catalogue.{Contents, catalogue_bytes, nested_cmp}
use Rattle.cv_rows.specs.Nested.{nested_bytes}
use Rattle.cv_rows.specs.declared.row.Row.{Row}
use Rattle.cv_rows.specs.declared.nested.Nested.{Nested}
use Rattle.cv_rows.proofs.Lemmas.{entry_len, file_len}
use Rattle.cv_cut.specs.Cuts.{is_cut, is_marked, is_near, between, region}
use Rattle.cv_cut.specs.Catalogues.{rows_of, nested_of, entry_of, cat, IsFull}
use Rattle.cv_cut.proofs.Canonical.{cat_is, cat-put_apart}
use Rattle.cv_cut.proofs.CanonicalRules.{cut_some}
use Rattle.cv_cut.specs.Catalogues.{contents_of}
use Rattle.cv_cut.proofs.Members.{first_there, later_there}
use Rattle.cv_cut.proofs.RegionRules.{StandsAtCut, stands_at_cut}
use Rattle.cv_cut.proofs.Between.{between_has}
use Rattle.cv_cut.proofs.MarkLaws.{longer_covers_not, marked-out}
use Rattle.cv_cut.proofs.Joined.{covers-shift, rest_behind, was_near-out}
use Rattle.cv_cut.proofs.Renewed.{renewed, rows_kept, entries_renewed, none_near}
use Rattle.cv_cut.proofs.Lists.{sorted_apart}
use Rattle.cv_cut.proofs.Contents.{rows_rise, entries_rise, same_rows, same_entries, rows_count}
use Rattle.cv_cut.proofs.Told.{rows_are, entries_are}
use Rattle.cv_cut.proofs.Trees.{at-put_below, cut-out, ends-behind}
use Rattle.cv_cut.proofs.Holder.{apart_ways}
use Rattle.cv_cut.specs.Region.{KeysApart, IsOther, AreRowsOf, AreEntriesOf}
use Rattle.cv_cut.specs.Replaced.{IsPassed}

-- two beginnings of one path: the one begins the other
pub data AreNested (a b : Path) : Type 0 where
  is_same : a ≡ b → AreNested a b
  is_longer : (x : Path) → x ≢ [] → b ≡ a ++ x → AreNested a b
  is_shorter : (x : Path) → x ≢ [] → a ≡ b ++ x → AreNested a b

pub nested_ways : (a b x y : Path) → a ++ x ≡ b ++ y → AreNested a b
nested_ways [] [] x y h = is_same refl
nested_ways [] (d ∷ b) x y h = is_longer (d ∷ b) (λ e. cc) refl
nested_ways (c ∷ a) [] x y h = is_shorter (c ∷ a) (λ e. cc) refl
nested_ways (c ∷ a) (d ∷ b) x y h =
    let head : c ≡ d = cc in
    elim (nested_ways a b x y cc) [
      | is_same is ↦ is_same (λ i. head i ∷ is i)
      | is_longer z some is ↦ is_longer z some (λ i. sym head i ∷ is i)
      | is_shorter z some is ↦ is_shorter z some (λ i. head i ∷ is i)
    ]

-- a marked path stands between a near path and the cut nowhere
pub blocked : (u : Nodes) (a x : Path) → a ≢ [] → x ≢ [] → is_marked u a ≡ true → is_near u (a ++ x) ≡ true → ⊥
blocked u a x some more marked near =
    let here = between_has a x some more in
    let far : is_near u (a ++ x) ≡ false = list_all_at (λ y. not (is_marked u y)) (between (a ++ x)) here.0 a here.1 (ap (λ y. not (is_marked u y)) here.2 ∙ ap not marked) in
    let wrong : true ≡ false = sym near ∙ far in cc

-- ---- bytes

renewed_len : (p : Path) (bytes : List ℕ) (n : Nested) → length n.hash ≡ 20 → length (nested_bytes (renewed p bytes n)) ≡ length (nested_bytes n)
renewed_len p bytes n hash =
    elim (same_path n.path p) as (λ b. same_path n.path p ≡ b → length (nested_bytes (cond b (entry_of n.path bytes) n)) ≡ length (nested_bytes n)) [
      | true ↦ λ h. entry_len (entry_of n.path bytes) n refl ((digest_sha1 bytes).size ∙ sym hash)
      | false ↦ λ h. refl
    ] refl

-- so many bytes as before
pub entries_len : (p : Path) (bytes : List ℕ) (ns : List Nested) → ((n : Nested) → Contains ns n → length n.hash ≡ 20) → length (flat_map nested_bytes (map (renewed p bytes) ns)) ≡ length (flat_map nested_bytes ns)
entries_len p bytes [] hashes = refl
entries_len p bytes (n ∷ ns) hashes =
    let one = renewed_len p bytes n (hashes n (first_there n ns)) in
    let more = entries_len p bytes ns (λ m has. hashes m (later_there n ns m has)) in
    omega (
      arith,
      one,
      more,
      ap length (flat_map-cons nested_bytes n ns),
      ap length (flat_map-cons nested_bytes (renewed p bytes n) (map (renewed p bytes) ns)),
      length-append (nested_bytes n) (flat_map nested_bytes ns),
      length-append (nested_bytes (renewed p bytes n)) (flat_map nested_bytes (map (renewed p bytes) ns)),
    )

renewed_path : (q : Path) (bytes : List ℕ) (n : Nested) → (renewed q bytes n).path ≡ n.path
renewed_path q bytes n = elim (same_path n.path q) as (λ b. same_path n.path q ≡ b → (cond b (entry_of n.path bytes) n).path ≡ n.path) [
  | true ↦ λ h. refl
  | false ↦ λ h. refl
] refl

-- in their order
above_still : (q : Path) (bytes : List ℕ) (n m : Nested) (ns : List Nested) → m.path ≡ n.path → AllByRecursion (λ y. nested_cmp n y ≡ Less) ns → AllByRecursion (λ y. nested_cmp m y ≡ Less) (map (renewed q bytes) ns)
above_still q bytes n m [] path h = tt
above_still q bytes n m (x ∷ ns) path h = (
  (λ i. bytes_cmp (text_of (path i)) (text_of (renewed_path q bytes x i))) ∙ h.0,
  above_still q bytes n m ns path h.1,
)

pub renewed_rise : (q : Path) (bytes : List ℕ) (ns : List Nested) → IsStrictlySortedBy nested_cmp ns → IsStrictlySortedBy nested_cmp (map (renewed q bytes) ns)
unfolding IsStrictlySortedBy
renewed_rise q bytes [] h = tt
renewed_rise q bytes (n ∷ ns) h = (above_still q bytes n (renewed q bytes n) ns (renewed_path q bytes n) h.0, renewed_rise q bytes ns h.1)

-- ---- trees

module _ (t : Nodes) (p : Path) (s : Nodes) (c r e f : Path) (a : IsPassed t p s c r e f) where
  some : r ≢ []
  some h = not_empty e f a.passes.way.some (sym a.passes.way.is ∙ h)
    where
      not_empty : (e f : Path) → e ≢ [] → e ++ f ≡ [] → ⊥
      not_empty [] f some h = some refl
      not_empty (x ∷ e) f some h = cc

  pub unmarked_r : ends_in marker r ≡ false
  unmarked_r = sym (ends-behind marker c r some) ∙ ap (ends_in marker) (sym a.passes.is) ∙ a.unmarked

  pub at_cut : at (put t p s) c ≡ put (at t c) r s
  at_cut = ap (λ (x : Path). at (put t x s) c) a.passes.is ∙ at-put_below t c r s

  covers_p : (q : Path) → covers p (c ++ q) ≡ covers r q
  covers_p q = ap (λ (x : Path). covers x (c ++ q)) a.passes.is ∙ covers-shift c r q

  pub above_cut : is_cut (put t p s) c ≡ true
  above_cut = cut-out t p s c a.unmarked (subst (λ (x : Path). covers x c ≡ false) (sym a.passes.is) (longer_covers_not c r some)) ∙ a.passes.cut

  -- the keys of its region stay apart
  pub above_keys : KeysApart c (at (put t p s) c)
  above_keys = subst (KeysApart c) (sym at_cut) (record {
    each = λ q x m k has had keys.
        let marked = marked_then in
        let out = none_near c (at t c) r s e f a.passes.way unmarked_r (put (at t c) r s) marked q has.near in
        let out_ = none_near c (at t c) r s e f a.passes.way unmarked_r (put (at t c) r s) marked x had.near in
        a.apart.each q x m k (was_near-out c (at t c) r s unmarked_r q m out has) (was_near-out c (at t c) r s unmarked_r x k out_ had) keys;
  })
    where
      marked_then : is_marked (put (at t c) r s) e ≡ true
      marked_then = marked-out (at t c) r s e unmarked_r (subst (λ (x : Path). covers x e ≡ false) (sym a.passes.way.is) (longer_covers_not e f a.passes.way.more)) ∙ a.passes.way.marked

  rows_there : AreRowsOf c (at (put t p s) c) (rows_of c (at t c))
  rows_there = subst (λ (w : Nodes). AreRowsOf c w (rows_of c (at t c))) (sym at_cut) (rows_kept c (at t c) r s e f a.passes.way unmarked_r (rows_of c (at t c)) (rows_are c (at t c) a.apart))

  -- its rows stay
  pub above_rows : rows_of c (at (put t p s) c) ≡ rows_of c (at t c)
  above_rows = same_rows c (at (put t p s) c) (rows_of c (at (put t p s) c)) (rows_of c (at t c)) (rows_rise c (at (put t p s) c) above_keys) (rows_rise c (at t c) a.apart) (rows_are c (at (put t p s) c) above_keys) rows_there

  here : StandsAtCut c (at t c)
  here = stands_at_cut t c a.tree a.passes.cut

  here_after : StandsAtCut c (at (put t p s) c)
  here_after = stands_at_cut (put t p s) c a.after above_cut

  abbrev file : Path → List ℕ
  file = λ (q : Path). cat t (c ++ q)

  abbrev made : Path → List ℕ
  made = λ (q : Path). cat (put t p s) (c ++ q)

  others_stay : (q : Path) → IsOther (at t c) q → q ≢ e → cat (put t p s) (c ++ q) ≡ cat t (c ++ q)
  others_stay q o differs = cat-put_apart t s p (c ++ q) (apart_ways p (c ++ q) (covers_p q ∙ none_near c (at t c) r s e f a.passes.way unmarked_r (at t c) a.passes.way.marked q o.there.near)
      (ap (covers (c ++ q)) a.passes.is ∙ covers-shift c q r ∙ elim (covers q r) as (λ b. covers q r ≡ b → b ≡ false) [
        | true ↦ λ h.
            let in' = rest_behind q r h in
            elim (nested_ways q e in'.0 f (sym in'.1 ∙ a.passes.way.is)) [
              | is_same is ↦ absurd (differs is)
              | is_longer x more is ↦ absurd (blocked (at t c) q x o.below more o.marked (subst (λ (y : Path). is_near (at t c) y ≡ true) is a.passes.near))
              | is_shorter x more is ↦ absurd (blocked (at t c) e x a.passes.way.some more a.passes.way.marked (subst (λ (y : Path). is_near (at t c) y ≡ true) is o.there.near))
            ]
        | false ↦ λ h. refl
      ] refl))

  entries_there : AreEntriesOf c (at (put t p s) c) made (map (renewed (c ++ e) (cat (put t p s) (c ++ e))) (nested_of c (at t c) file))
  entries_there = subst (λ (w : Nodes). AreEntriesOf c w made (map (renewed (c ++ e) (cat (put t p s) (c ++ e))) (nested_of c (at t c) file))) (sym at_cut)
      (entries_renewed c (at t c) r s e f a.passes.way unmarked_r file made (nested_of c (at t c) file) (entries_are c (at t c) file here) others_stay)

  -- and so do its nested entries, but for that of the cut between
  pub above_entries : nested_of c (at (put t p s) c) made ≡ map (renewed (c ++ e) (cat (put t p s) (c ++ e))) (nested_of c (at t c) file)
  above_entries = same_entries c (at (put t p s) c) made (nested_of c (at (put t p s) c) made) (map (renewed (c ++ e) (cat (put t p s) (c ++ e))) (nested_of c (at t c) file))
      (entries_rise c (at (put t p s) c) made here_after) (renewed_rise (c ++ e) (cat (put t p s) (c ++ e)) (nested_of c (at t c) file) (entries_rise c (at t c) file here))
      (entries_are c (at (put t p s) c) made here_after) entries_there

  -- the canonical catalogue afterwards is the one before with one nested entry renewed
  pub above_contents : contents_of (put t p s) c ≡ record (contents_of t c) { nested = map (renewed (c ++ e) (cat (put t p s) (c ++ e))) (contents_of t c).nested }
  above_contents = λ i. record { at = c; rows = above_rows i; nested = above_entries i }

  hashes : (n : Nested) → Contains (nested_of c (at t c) file) n → length n.hash ≡ 20
  hashes n has = let i = (entries_are c (at t c) file here).each n has in ap (λ (m : Nested). length m.hash) i.2 ∙ (digest_sha1 (cat t (c ++ i.0))).size

  -- it has as many bytes as before, and its region as many paths
  pub above_size : length (cat (put t p s) c) ≡ length (cat t c)
  above_size =
      let after = ap length (cat_is (put t p s) c a.after (cut_some (put t p s) c a.after above_cut)) ∙ ap (λ (x : Contents). length (catalogue_bytes x)) above_contents in
      let before = ap length (cat_is t c a.tree (cut_some t c a.tree a.passes.cut)) in
      let entries = entries_len (c ++ e) (cat (put t p s) (c ++ e)) (nested_of c (at t c) file) hashes in
      omega (arith, after, before, entries, file_len (rows_of c (at t c)) (nested_of c (at t c) file), file_len (rows_of c (at t c)) (map (renewed (c ++ e) (cat (put t p s) (c ++ e))) (nested_of c (at t c) file)))

  pub above_count : length (region (at (put t p s) c)) ≡ length (region (at t c))
  above_count =
      sym (rows_count c (at (put t p s) c) (rows_of c (at t c)) above_keys rows_there (sorted_apart (λ (x : Row). x.key.0) (rows_of c (at t c)) (rows_rise c (at t c) a.apart)))
      ∙ rows_count c (at t c) (rows_of c (at t c)) a.apart (rows_are c (at t c) a.apart) (sorted_apart (λ (x : Row). x.key.0) (rows_of c (at t c)) (rows_rise c (at t c) a.apart))

  -- so it is full just where it was
  pub above_full : IsFull (put t p s) c → IsFull t c
  above_full full = record {
    is_cut_ = a.passes.cut;
    passes = elim full.passes [
      | inl many ↦ inl (subst (λ k. 50000 < k) above_count many)
      | inr long ↦ inr (subst (λ k. 2 ^ 24 < k) above_size long)
    ];
  }
