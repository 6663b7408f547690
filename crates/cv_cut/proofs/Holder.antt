-- The catalogue that directly holds the path of a replacement, by the catalogues of both trees that hold it.
use Rattle.std.proofs.Common.{◌≡◌, ◌≢◌, ℕ, ◌<◌, Bool, true, false, not, List, [], ◌++◌, filter, length, refl, sym, ap, subst, ◌∙◌, append-nil, append_assoc, inl, inr}
use Rattle.std.specs.Prelude.{Contains}
use Rattle.std.proofs.lemmas.Bool.{not-true}
use Rattle.std.proofs.lemmas.List.Folds.{list_all_at}
use Rattle.std.proofs.lemmas.List.{map-append}
use Rattle.cv_base.specs.Marker.{marker, ends_in}
use Rattle.cv_base.specs.Path.{Path, covers, overlap, text_of, key_of, IsPath}
use Rattle.cv_base.proofs.Laws.{text_of-injective, covers_itself}
use Rattle.cv_tree.specs.Tree.{Nodes, at, put}
use Rattle.cv_tree.specs.declared.node.Node.{Node}
use Rattle.cv_tree.proofs.Laws.{at-at}
use Rattle.cv_rows.specs.Catalogue.{Contents, catalogue_bytes, file_of}
use Rattle.cv_rows.specs.Made.{AreApart, PassesLimit, keys_of, texts_of, in_order}
use Rattle.cv_rows.specs.Without.{IsWithout}
use Rattle.cv_rows.specs.declared.row.Row.{Row}
use Rattle.cv_rows.specs.declared.nested.Nested.{Nested}
use Rattle.cv_cut.specs.Cuts.{is_cut, is_marked, is_near, between}
use Rattle.cv_cut.specs.Catalogues.{rows_of, nested_of, cat, IsFull}
use Rattle.cv_cut.proofs.Canonical.{cat_is, cat-put_apart, cat-put_below}
use Rattle.cv_cut.proofs.CanonicalRules.{cut_some, order_length}
use Rattle.cv_cut.specs.Catalogues.{contents_of}
use Rattle.cv_cut.proofs.Members.{comes_from, passes, passing}
use Rattle.cv_cut.proofs.RowFacts.{row_key}
use Rattle.cv_cut.proofs.Regions.{stands}
use Rattle.cv_cut.proofs.RegionRules.{StandsAtCut, stands_at_cut, path_there}
use Rattle.cv_rows.specs.Within.{IsWithin}
use Rattle.cv_cut.proofs.Between.{between_has}
use Rattle.cv_cut.proofs.MarkLaws.{covers_append, longer_covers_not}
use Rattle.cv_cut.proofs.Joined.{covers-shift, rest_behind, AreHolders, joined, path-in, was_near-out, was_near-in, rows_joined, entries_joined}
use Rattle.cv_cut.proofs.Lists.{kept_apart, apart_append}
use Rattle.cv_cut.proofs.Contents.{rows_rise, entries_rise, rows_in_order, entries_in_order, rows_count}
use Rattle.cv_cut.proofs.Told.{rows_are, entries_are}
use Rattle.cv_cut.proofs.Trees.{at-put_below, cut-out, ends-behind}
use Rattle.cv_cut.specs.Region.{row_at, IsNear, KeysApart, IsOther, AreRowsOf, AreEntriesOf}
use Rattle.cv_cut.specs.Replaced.{Grafting}
use Rattle.cv_cut.proofs.Ends.{same_rest}

-- another cut doesn't stand above a path that is near
pub not_on_way : (u : Nodes) (q r : Path) → IsOther u q → is_near u r ≡ true → covers r q ≡ false → covers q r ≡ false
not_on_way u q r o near out =
    elim (covers q r) as (λ b. covers q r ≡ b → b ≡ false) [
      | true ↦ λ h.
          let in' = rest_behind q r h in
          let more : in'.0 ≢ [] = λ none. (let r-is : r ≡ q = in'.1 ∙ ap (λ (x : Path). q ++ x) none ∙ append-nil q in let yes : covers r q ≡ true = ap (λ (x : Path). covers x q) r-is ∙ covers_itself q in let wrong : true ≡ false = sym yes ∙ out in cc) in
          let here : Contains (between r) q = subst (λ (x : Path). Contains (between x) q) (sym in'.1) (between_has q in'.0 o.below more) in
          let far : is_near u r ≡ false = list_all_at (λ x. not (is_marked u x)) (between r) here.0 q here.1 (ap (λ x. not (is_marked u x)) here.2 ∙ ap not o.marked) in
          absurd (let wrong : true ≡ false = sym near ∙ far in cc)
      | false ↦ λ h. refl
    ] refl

-- paths of which neither covers the other
pub apart_ways : (a b : Path) → covers a b ≡ false → covers b a ≡ false → overlap a b ≡ false
apart_ways a b h k = rw (h, k) refl

module _ (t n : Nodes) (p c r d v : Path) (g : Grafting t n p c r d v) where
  abbrev pub grafted : Nodes
  grafted = put t p (at n p)

  pub holders : AreHolders c (at t c) r d (at n d) v
  holders = record {
    path = sym g.holds.is ∙ g.held.is;
    unmarked = sym (ends-behind marker c r g.holds.some) ∙ ap (ends_in marker) (sym g.holds.is) ∙ g.unmarked;
    unmarked_ = sym (ends-behind marker d v g.held.some) ∙ ap (ends_in marker) (sym g.held.is) ∙ g.unmarked;
    some = g.holds.some;
    some_ = g.held.some;
    near = g.holds.near;
    near_ = g.held.near;
  }

  pub at_cut : at (put t p (at n p)) c ≡ joined c (at t c) r d (at n d) v holders
  at_cut =
      ap (λ (x : Path). at (put t x (at n p)) c) g.holds.is ∙ at-put_below t c r (at n p)
      ∙ ap (λ (x : Path). put (at t c) r (at n x)) g.held.is ∙ ap (put (at t c) r) (sym (at-at n d v))

  pub covers_p : (q : Path) → covers p (c ++ q) ≡ covers r q
  covers_p q = ap (λ (x : Path). covers x (c ++ q)) g.holds.is ∙ covers-shift c r q

  covers_p_ : (q : Path) → covers p (d ++ q) ≡ covers v q
  covers_p_ q = ap (λ (x : Path). covers x (d ++ q)) g.held.is ∙ covers-shift d v q

  pub here : StandsAtCut c (at t c)
  here = stands_at_cut t c g.tree g.holds.cut

  pub there : StandsAtCut d (at n d)
  there = stands_at_cut n d g.other g.held.cut

  module _ (rest : Contents) (rows : List Row) (nested : List Nested) (without : IsWithout (contents_of t c) p rest) (within : IsWithin (contents_of n d) p rows nested) where
    pub stays_at : (q : Path) (x : Node) → IsNear (at t c) q x → without.stays (row_at c (at t c) q x) ≡ not (covers r q)
    stays_at q x has = without.stays_is _ (c ++ q) (stands c (at t c) (rows_of c (at t c)) here.part g.apart (rows_are c (at t c) g.apart) q x has) ∙ ap not (covers_p q)

    pub goes_at : (q : Path) (x : Node) → IsNear (at n d) q x → within.goes (row_at d (at n d) q x) ≡ covers v q
    goes_at q x has = within.goes_is _ (d ++ q) (stands d (at n d) (rows_of d (at n d)) there.part g.apart_ (rows_are d (at n d) g.apart_) q x has) ∙ covers_p_ q

    pub row_stays : (q : Path) (x : Node) → IsNear (at t c) q x → covers r q ≡ false → Contains rest.rows (row_at c (at t c) q x)
    row_stays q x has out = subst (λ (rs : List Row). Contains rs (row_at c (at t c) q x)) (sym without.rows)
        (passing without.stays (rows_of c (at t c)) _ ((rows_are c (at t c) g.apart).all q x has) (stays_at q x has ∙ ap not out))

    pub row_goes : (q : Path) (x : Node) → IsNear (at n d) q x → covers v q ≡ true → Contains rows (row_at d (at n d) q x)
    row_goes q x has in' = subst (λ (rs : List Row). Contains rs (row_at d (at n d) q x)) (sym within.rows_are)
        (passing within.goes (rows_of d (at n d)) _ ((rows_are d (at n d) g.apart_).all q x has) (goes_at q x has ∙ in'))

    -- all rows of the region afterwards
    pub rows_after : AreRowsOf c (at (put t p (at n p)) c) (rest.rows ++ rows)
    rows_after =
        let are = rows_joined c (at t c) r d (at n d) v holders (rows_of c (at t c)) (rows_of d (at n d)) without.stays within.goes
        (rows_are c (at t c) g.apart) (rows_are d (at n d) g.apart_) stays_at goes_at in
        subst (λ (w : Nodes). AreRowsOf c w (rest.rows ++ rows)) (sym at_cut)
        (subst (AreRowsOf c (joined c (at t c) r d (at n d) v holders)) (λ i. sym without.rows i ++ sym within.rows_are i) are)

    outside : (q : Path) → IsOther (at t c) q → covers r q ≡ false → cat (put t p (at n p)) (c ++ q) ≡ cat t (c ++ q)
    outside q o out = cat-put_apart t (at n p) p (c ++ q) (apart_ways p (c ++ q) (covers_p q ∙ out)
        (ap (covers (c ++ q)) g.holds.is ∙ covers-shift c q r ∙ not_on_way (at t c) q r o g.holds.near out))

    inside : (q : Path) → IsOther (at n d) (v ++ q) → cat (put t p (at n p)) (c ++ (r ++ q)) ≡ cat n (d ++ (v ++ q))
    inside q o =
        let one : c ++ (r ++ q) ≡ p ++ q = sym (append_assoc c r q) ∙ ap (λ (x : Path). x ++ q) (sym g.holds.is) in
        let other : p ++ q ≡ d ++ (v ++ q) = ap (λ (x : Path). x ++ q) g.held.is ∙ append_assoc d v q in
        ap (cat (put t p (at n p))) one ∙ cat-put_below t n p q ∙ ap (cat n) other

    -- and all its nested entries
    pub entries_after : AreEntriesOf c (at (put t p (at n p)) c) (λ q. cat (put t p (at n p)) (c ++ q)) (rest.nested ++ nested)
    entries_after =
        let file = λ (q : Path). cat t (c ++ q) in
        let other = λ (q : Path). cat n (d ++ q) in
        let made = λ (q : Path). cat (put t p (at n p)) (c ++ q) in
        let are = entries_joined c (at t c) r d (at n d) v holders file other made (nested_of c (at t c) file) (nested_of d (at n d) other)
        (entries_are c (at t c) file here) (entries_are d (at n d) other there) outside inside in
        subst (λ (w : Nodes). AreEntriesOf c w made (rest.nested ++ nested)) (sym at_cut)
        (subst (AreEntriesOf c (joined c (at t c) r d (at n d) v holders) made)
        (ap (λ (x : Path). filter (λ (m : Nested). not (covers x m.path)) (nested_of c (at t c) file) ++ filter (λ (m : Nested). covers x m.path) (nested_of d (at n d) other)) (sym g.holds.is)
        ∙ (λ i. sym without.nested i ++ sym within.nested_are i)) are)

    -- no row that stays has the key of one that comes
    abbrev pub AreCrossed : Type 0
    AreCrossed = (a b : Row) → Contains rest.rows a → Contains rows b → a.key.0 ≡ b.key.0 → ⊥

    apart_from : AreCrossed → (q : Path) (x : Node) (q' : Path) (y : Node) → IsNear (at t c) q x → covers r q ≡ false → IsNear (at n d) (v ++ q') y → key_of (c ++ q) ≡ key_of (c ++ (r ++ q')) → ⊥
    apart_from cross q x q' y has out had keys =
        cross (row_at c (at t c) q x) (row_at d (at n d) (v ++ q') y) (row_stays q x has out) (row_goes (v ++ q') y had (covers_append v q'))
        (row_key _ (c ++ q) x ∙ keys ∙ ap key_of (sym (path-in c (at t c) r d (at n d) v holders q')) ∙ sym (row_key _ (d ++ (v ++ q')) y))

    -- so the keys of the region are apart
    pub keys_after : AreCrossed → KeysApart c (at (put t p (at n p)) c)
    keys_after cross = subst (KeysApart c) (sym at_cut) (record { each = λ q x m k has had keys. by_sides q x m k has had keys (covers r q) refl (covers r x) refl })
      where
        by_sides : (q x : Path) (m k : Node) → IsNear (joined c (at t c) r d (at n d) v holders) q m → IsNear (joined c (at t c) r d (at n d) v holders) x k → key_of (c ++ q) ≡ key_of (c ++ x)
            → (a : Bool) → covers r q ≡ a → (b : Bool) → covers r x ≡ b → q ≡ x
        by_sides q x m k has had keys false out false out_ =
            g.apart.each q x m k (was_near-out c (at t c) r (at (at n d) v) holders.unmarked q m out has) (was_near-out c (at t c) r (at (at n d) v) holders.unmarked x k out_ had) keys
        by_sides q x m k has had keys true in' false out =
            let a = rest_behind r q in' in
            let one = was_near-in c (at t c) r d (at n d) v holders a.0 m (subst (λ (y : Path). IsNear (joined c (at t c) r d (at n d) v holders) y m) a.1 has) in
            absurd (apart_from cross x k a.0 m (was_near-out c (at t c) r (at (at n d) v) holders.unmarked x k out had) out one (sym keys ∙ ap (λ (y : Path). key_of (c ++ y)) a.1))
        by_sides q x m k has had keys false out true in' =
            let b = rest_behind r x in' in
            let other = was_near-in c (at t c) r d (at n d) v holders b.0 k (subst (λ (y : Path). IsNear (joined c (at t c) r d (at n d) v holders) y k) b.1 had) in
            absurd (apart_from cross q m b.0 k (was_near-out c (at t c) r (at (at n d) v) holders.unmarked q m out has) out other (keys ∙ ap (λ (y : Path). key_of (c ++ y)) b.1))
        by_sides q x m k has had keys true in' true in_ =
            let a = rest_behind r q in' in
            let b = rest_behind r x in_ in
            let one = was_near-in c (at t c) r d (at n d) v holders a.0 m (subst (λ (y : Path). IsNear (joined c (at t c) r d (at n d) v holders) y m) a.1 has) in
            let other = was_near-in c (at t c) r d (at n d) v holders b.0 k (subst (λ (y : Path). IsNear (joined c (at t c) r d (at n d) v holders) y k) b.1 had) in
            let path = λ (y : Path). path-in c (at t c) r d (at n d) v holders y in
            let same = g.apart_.each (v ++ a.0) (v ++ b.0) m k one other
            (ap key_of (path a.0) ∙ ap (λ (y : Path). key_of (c ++ y)) (sym a.1) ∙ keys ∙ ap (λ (y : Path). key_of (c ++ y)) b.1 ∙ ap key_of (sym (path b.0))) in
            a.1 ∙ ap (λ (y : Path). r ++ y) (same_rest v a.0 b.0 same) ∙ sym b.1

    -- ---- the catalogue afterwards

    pub cut_after : is_cut (put t p (at n p)) c ≡ true
    cut_after = cut-out t p (at n p) c g.unmarked (subst (λ (x : Path). covers x c ≡ false) (sym g.holds.is) (longer_covers_not c r g.holds.some)) ∙ g.holds.cut

    here_after : StandsAtCut c (at (put t p (at n p)) c)
    here_after = stands_at_cut (put t p (at n p)) c g.after cut_after

    abbrev made : Path → List ℕ
    made = λ (q : Path). cat (put t p (at n p)) (c ++ q)

    left_path : (x : Nested) → Contains rest.nested x → IsPath x.path × (covers p x.path ≡ false)
    left_path x has =
        let was = passes (λ (m : Nested). not (covers p m.path)) (nested_of c (at t c) (λ q. cat t (c ++ q))) x (subst (λ (ns : List Nested). Contains ns x) without.nested has) in
        let e = (entries_are c (at t c) (λ q. cat t (c ++ q)) here).each x was.0 in
        (subst IsPath (sym (ap (λ (m : Nested). m.path) e.2)) (path_there c (at t c) here e.0 e.1.node_ e.1.there), not-true (covers p x.path) was.1)

    right_path : (x : Nested) → Contains nested x → IsPath x.path × (covers p x.path ≡ true)
    right_path x has =
        let was = passes (λ (m : Nested). covers p m.path) (nested_of d (at n d) (λ q. cat n (d ++ q))) x (subst (λ (ns : List Nested). Contains ns x) within.nested_are has) in
        let e = (entries_are d (at n d) (λ q. cat n (d ++ q)) there).each x was.0 in
        (subst IsPath (sym (ap (λ (m : Nested). m.path) e.2)) (path_there d (at n d) there e.0 e.1.node_ e.1.there), was.1)

    pub texts_apart_after : AreApart (texts_of (rest.nested ++ nested))
    texts_apart_after =
        let text = λ (m : Nested). text_of m.path in
        let left = subst (λ (ns : List Nested). AreApart (texts_of ns)) (sym without.nested) (kept_apart text (λ (m : Nested). not (covers p m.path)) (nested_of c (at t c) (λ q. cat t (c ++ q))) (entries_rise c (at t c) (λ q. cat t (c ++ q)) here)) in
        let right = subst (λ (ns : List Nested). AreApart (texts_of ns)) (sym within.nested_are) (kept_apart text (λ (m : Nested). covers p m.path) (nested_of d (at n d) (λ q. cat n (d ++ q))) (entries_rise d (at n d) (λ q. cat n (d ++ q)) there)) in
        subst AreApart (sym (map-append text rest.nested nested)) (apart_append (texts_of rest.nested) (texts_of nested) left right (λ x has had.
        let a = comes_from text rest.nested x has in
        let b = comes_from text nested x had in
        let one = left_path a.0 a.1 in
        let other = right_path b.0 b.1 in
        let same = text_of-injective a.0.path b.0.path one.0 other.0 (a.2 ∙ sym b.2) in
        let wrong : true ≡ false = sym other.1 ∙ ap (covers p) (sym same) ∙ one.1 in cc))

    pub keys_apart_after : AreCrossed → AreApart (keys_of (rest.rows ++ rows))
    keys_apart_after cross =
        let key = λ (x : Row). x.key.0 in
        let left = subst (λ (rs : List Row). AreApart (keys_of rs)) (sym without.rows) (kept_apart key without.stays (rows_of c (at t c)) (rows_rise c (at t c) g.apart)) in
        let right = subst (λ (rs : List Row). AreApart (keys_of rs)) (sym within.rows_are) (kept_apart key within.goes (rows_of d (at n d)) (rows_rise d (at n d) g.apart_)) in
        subst AreApart (sym (map-append key rest.rows rows)) (apart_append (keys_of rest.rows) (keys_of rows) left right (λ x has had.
        let a = comes_from key rest.rows x has in
        let b = comes_from key rows x had in
        cross a.0 b.0 a.1 b.1 (a.2 ∙ sym b.2)))

    -- the canonical catalogue of the cut afterwards: the rows and nested entries that stay and those that come, in order
    pub contents_after : AreCrossed → contents_of (put t p (at n p)) c ≡ in_order c (rest.rows ++ rows) (rest.nested ++ nested)
    contents_after cross =
        let rows_is = rows_in_order c (at (put t p (at n p)) c) (rest.rows ++ rows) (keys_after cross) rows_after (keys_apart_after cross) in
        let entries_is = entries_in_order c (at (put t p (at n p)) c) made (rest.nested ++ nested) here_after entries_after texts_apart_after in
        λ i. record { at = c; rows = sym rows_is i; nested = sym entries_is i }

    pub cat_after : AreCrossed → cat (put t p (at n p)) c ≡ catalogue_bytes (in_order c (rest.rows ++ rows) (rest.nested ++ nested))
    cat_after cross = cat_is (put t p (at n p)) c g.after (cut_some (put t p (at n p)) c g.after cut_after) ∙ ap catalogue_bytes (contents_after cross)

    size_after : AreCrossed → length (file_of (rest.rows ++ rows) (rest.nested ++ nested)) ≡ length (cat (put t p (at n p)) c)
    size_after cross = sym (order_length c (rest.rows ++ rows) (rest.nested ++ nested) (keys_apart_after cross) texts_apart_after) ∙ ap length (sym (cat_after cross))

    -- it is full just where they pass a limit
    pub full_after : AreCrossed → PassesLimit (rest.rows ++ rows) (rest.nested ++ nested) → IsFull (put t p (at n p)) c
    full_after cross passes = record {
      is_cut_ = cut_after;
      passes = elim passes [
        | inl many ↦ inl (subst (λ k. 50000 < k) (rows_count c (at (put t p (at n p)) c) (rest.rows ++ rows) (keys_after cross) rows_after (keys_apart_after cross)) many)
        | inr long ↦ inr (subst (λ k. 16777216 < k) (size_after cross) long)
      ];
    }

    pub not_full_after : AreCrossed → (PassesLimit (rest.rows ++ rows) (rest.nested ++ nested) → ⊥) → IsFull (put t p (at n p)) c → ⊥
    not_full_after cross none full = none (elim full.passes [
      | inl many ↦ inl (subst (λ k. 50000 < k) (sym (rows_count c (at (put t p (at n p)) c) (rest.rows ++ rows) (keys_after cross) rows_after (keys_apart_after cross))) many)
      | inr long ↦ inr (subst (λ k. 16777216 < k) (sym (size_after cross)) long)
    ])
