-- The catalogue that directly holds a path, where a part is set there: m is a tree in which the part stands at p, and no cut
-- but the root's is above p. No catalogue of m's root is made, and keys of its region may be shared.
use Rattle.std.proofs.Common.{◌≡◌, ◌≢◌, ℕ, ◌<◌, Bool, true, false, not, List, [], ◌∷◌, ◌++◌, filter, map, length, refl, sym, ap, subst, ◌∙◌, append_assoc, inl, inr}
use Rattle.std.specs.Prelude.{Contains}
use Rattle.std.proofs.lemmas.Bool.{not-true}
use Rattle.std.proofs.lemmas.List.Elements.{Contains-append_left, Contains-append_right, Contains-append_cases}
use Rattle.cv_base.specs.Marker.{marker, ends_in}
use Rattle.cv_base.specs.Path.{Path, covers, key_of}
use Rattle.cv_tree.specs.Tree.{Nodes, IsTree, at, put}
use Rattle.cv_tree.specs.declared.node.Node.{Node}
use Rattle.cv_tree.proofs.Laws.{at-at}
use Rattle.cv_rows.specs.Catalogue.{Contents, catalogue_bytes, file_of}
use Rattle.cv_rows.specs.Made.{AreApart, PassesLimit, keys_of, texts_of, in_order}
use Rattle.cv_rows.specs.Without.{IsWithout}
use Rattle.cv_rows.specs.declared.row.Row.{Row}
use Rattle.cv_rows.specs.declared.nested.Nested.{Nested}
use Rattle.cv_cut.specs.Above.{Holds}
use Rattle.cv_cut.specs.Cuts.{is_cut, is_inner, is_marked, region}
use Rattle.cv_cut.specs.Catalogues.{rows_of, nested_of, entry_of, cat, contents_of, IsFull}
use Rattle.cv_cut.specs.Cut.{is_other, nested_in, row_in, region_at}
use Rattle.cv_cut.specs.Piece.{region_within}
use Rattle.cv_cut.specs.Region.{row_at, IsNear, KeysApart, IsOther, AreRowsOf, AreEntriesOf}
use Rattle.cv_cut.proofs.Canonical.{cat_is, cat-put_apart, cat-put_below}
use Rattle.cv_cut.proofs.CanonicalRules.{cut_some, order_length}
use Rattle.cv_cut.proofs.Contents.{rows_in_order, entries_in_order, rows_count}
use Rattle.cv_cut.proofs.Holder.{apart_ways, not_on_way}
use Rattle.cv_cut.proofs.Joined.{covers-shift, rest_behind, AreHolders, joined, path-in, row-in, row-out, is_near-in, is_near-out, was_near-in, was_near-out, other-in, other-out, was_other-in, was_other-out}
use Rattle.cv_cut.proofs.MarkLaws.{covers_append, longer_covers_not}
use Rattle.cv_cut.proofs.Members.{comes_from, goes_to, passes, passing}
use Rattle.cv_cut.proofs.RegionLists.{region_near, near_region}
use Rattle.cv_cut.proofs.RegionRules.{StandsAtCut, stands_at_cut}
use Rattle.cv_cut.proofs.Regions.{stands}
use Rattle.cv_cut.proofs.RowFacts.{row_key}
use Rattle.cv_cut.proofs.Told.{rows_are, entries_are}
use Rattle.cv_cut.proofs.Trees.{at-put_below, cut-out, ends-behind}

-- what is asked of both trees
pub record Placing (t m : Nodes) (p c r : Path) : Type 0 where
  pub tree : IsTree t
  pub other : IsTree m
  pub after : IsTree (put t p (at m p))
  pub unmarked : ends_in marker p ≡ false
  pub holds : Holds t p c r
  pub held : Holds m p [] p
  pub apart : KeysApart c (at t c)

-- ---- what m's root region has at the path and below

module _ (m : Nodes) (p : Path) where
  pub record Inside (e : Path × Node) : Type 0 where
    pub rest : Path
    pub is : e.0 ≡ p ++ rest
    pub near : IsNear (at m []) (p ++ rest) e.1

  pub inside_each : (e : Path × Node) → Contains (region_within m p) e → Inside e
  inside_each e has =
      let was = passes (λ x. covers p x.0) (region_at m []) e has in
      let f = comes_from {Y = Path × Node} (λ x. ([] ++ x.0, x.1)) (region (at m [])) e was.0 in
      let near : IsNear (at m []) e.0 e.1 = subst (λ (x : Path × Node). IsNear (at m []) x.0 x.1) f.2 (region_near (at m []) f.0.0 f.0.1 f.1) in
      let b = rest_behind p e.0 was.1 in
      record { rest = b.0; is = b.1; near = subst (λ (x : Path). IsNear (at m []) x e.1) b.1 near }

  pub inside_all : (q : Path) (n : Node) → IsNear (at m []) (p ++ q) n → Contains (region_within m p) (p ++ q, n)
  inside_all q n near =
      passing (λ x. covers p x.0) (region_at m []) (p ++ q, n) (goes_to {Y = Path × Node} (λ x. ([] ++ x.0, x.1)) (region (at m [])) (p ++ q, n) (near_region (at m []) (p ++ q) n near)) (covers_append p q)

inner_is : (u : Nodes) (x : Path) → x ≢ [] → is_inner u x ≡ is_marked u x
inner_is u [] some = absurd (some refl)
inner_is u (a ∷ x) some = refl

inner_some : (u : Nodes) (x : Path) → is_inner u x ≡ true → x ≢ []
inner_some u [] h = cc
inner_some u (a ∷ x) h = λ e. cc

module _ (t m : Nodes) (p c r : Path) (g : Placing t m p c r) where
  pub holders : AreHolders c (at t c) r [] (at m []) p
  holders = record {
    path = sym g.holds.is;
    unmarked = sym (ends-behind marker c r g.holds.some) ∙ ap (ends_in marker) (sym g.holds.is) ∙ g.unmarked;
    unmarked_ = g.unmarked;
    some = g.holds.some;
    some_ = g.held.some;
    near = g.holds.near;
    near_ = g.held.near;
  }

  pub at_cut : at (put t p (at m p)) c ≡ joined c (at t c) r [] (at m []) p holders
  at_cut = ap (λ (x : Path). at (put t x (at m p)) c) g.holds.is ∙ at-put_below t c r (at m p) ∙ ap (put (at t c) r) (sym (at-at m [] p))

  pub covers_p : (q : Path) → covers p (c ++ q) ≡ covers r q
  covers_p q = ap (λ (x : Path). covers x (c ++ q)) g.holds.is ∙ covers-shift c r q

  here : StandsAtCut c (at t c)
  here = stands_at_cut t c g.tree g.holds.cut

  there : StandsAtCut [] (at m [])
  there = stands_at_cut m [] g.other refl

  abbrev pub rows : List Row
  rows = map (row_in m []) (region_within m p)

  abbrev pub nested : List Nested
  nested = map (λ e. nested_in m e.0) (filter (λ e. is_other m [] e.0) (region_within m p))

  row_comes : (q : Path) (n : Node) → IsNear (at m []) (p ++ q) n → Contains (map (row_in m []) (region_within m p)) (row_at [] (at m []) (p ++ q) n)
  row_comes q n near = goes_to (row_in m []) (region_within m p) (p ++ q, n) (inside_all m p q n near)

  module _ (rest : Contents) (without : IsWithout (contents_of t c) p rest) where
    pub stays_at : (q : Path) (x : Node) → IsNear (at t c) q x → without.stays (row_at c (at t c) q x) ≡ not (covers r q)
    stays_at q x has = without.stays_is _ (c ++ q) (stands c (at t c) (rows_of c (at t c)) here.part g.apart (rows_are c (at t c) g.apart) q x has) ∙ ap not (covers_p q)

    pub row_stays : (q : Path) (x : Node) → IsNear (at t c) q x → covers r q ≡ false → Contains rest.rows (row_at c (at t c) q x)
    row_stays q x has out = subst (λ (rs : List Row). Contains rs (row_at c (at t c) q x)) (sym without.rows)
        (passing without.stays (rows_of c (at t c)) _ ((rows_are c (at t c) g.apart).all q x has) (stays_at q x has ∙ ap not out))

    -- all rows of the region afterwards
    pub rows_after : AreRowsOf c (at (put t p (at m p)) c) (rest.rows ++ map (row_in m []) (region_within m p))
    rows_after = subst (λ (w : Nodes). AreRowsOf c w (rest.rows ++ map (row_in m []) (region_within m p))) (sym at_cut) (record {
      each = λ x has. elim (Contains-append_cases rest.rows (map (row_in m []) (region_within m p)) x has) [
        | inl left ↦
            let was = passes without.stays (rows_of c (at t c)) x (subst (λ (l : List Row). Contains l x) without.rows left) in
            let e = (rows_are c (at t c) g.apart).each x was.0 in
            let out : covers r e.0 ≡ false = not-true (covers r e.0) (sym (stays_at e.0 e.1 e.2) ∙ ap without.stays (sym e.3) ∙ was.1) in
            (e.0, e.1, is_near-out c (at t c) r (at (at m []) p) holders.unmarked e.0 e.1 out e.2, e.3 ∙ row-out c (at t c) r (at (at m []) p) holders.unmarked e.0 e.1 out)
        | inr right ↦
            let e = comes_from (row_in m []) (region_within m p) x right in
            let w = inside_each m p e.0 e.1 in (
              r ++ w.rest,
              e.0.1,
              is_near-in c (at t c) r [] (at m []) p holders w.rest e.0.1 w.near,
              sym e.2 ∙ ap (λ (y : Path). row_at [] (at m []) y e.0.1) w.is ∙ row-in c (at t c) r [] (at m []) p holders w.rest e.0.1,
            )
      ];
      all = λ q n has.
          elim (covers r q) as (λ b. covers r q ≡ b → Contains (rest.rows ++ map (row_in m []) (region_within m p)) (row_at c (joined c (at t c) r [] (at m []) p holders) q n)) [
            | true ↦ λ e.
                let b = rest_behind r q e in
                let near = was_near-in c (at t c) r [] (at m []) p holders b.0 n (subst (λ (y : Path). IsNear (joined c (at t c) r [] (at m []) p holders) y n) b.1 has) in
                subst (Contains (rest.rows ++ map (row_in m []) (region_within m p)))
                (row-in c (at t c) r [] (at m []) p holders b.0 n ∙ ap (λ (y : Path). row_at c (joined c (at t c) r [] (at m []) p holders) y n) (sym b.1))
                (Contains-append_right rest.rows (map (row_in m []) (region_within m p)) _ (row_comes b.0 n near))
            | false ↦ λ out.
                let near = was_near-out c (at t c) r (at (at m []) p) holders.unmarked q n out has in
                subst (Contains (rest.rows ++ map (row_in m []) (region_within m p))) (row-out c (at t c) r (at (at m []) p) holders.unmarked q n out)
                (Contains-append_left rest.rows (map (row_in m []) (region_within m p)) _ (row_stays q n near out))
          ] refl;
    })

    -- ---- nested entries

    outside : (q : Path) → IsOther (at t c) q → covers r q ≡ false → cat (put t p (at m p)) (c ++ q) ≡ cat t (c ++ q)
    outside q o out = cat-put_apart t (at m p) p (c ++ q) (apart_ways p (c ++ q) (covers_p q ∙ out)
        (ap (covers (c ++ q)) g.holds.is ∙ covers-shift c q r ∙ not_on_way (at t c) q r o g.holds.near out))

    inside : (q : Path) → cat m (p ++ q) ≡ cat (put t p (at m p)) (c ++ (r ++ q))
    inside q =
        let one : c ++ (r ++ q) ≡ p ++ q = sym (append_assoc c r q) ∙ ap (λ (x : Path). x ++ q) (sym g.holds.is) in
        sym (cat-put_below t m p q) ∙ ap (cat (put t p (at m p))) (sym one)

    entry-in : (q : Path) → nested_in m (p ++ q) ≡ entry_of (c ++ (r ++ q)) (cat (put t p (at m p)) (c ++ (r ++ q)))
    entry-in q = let path = path-in c (at t c) r [] (at m []) p holders q in let file = inside q in λ i. entry_of (path i) (file i)

    record Comes (x : Nested) : Type 0 where
      back : Path
      other : IsOther (at m []) (p ++ back)
      is : x ≡ nested_in m (p ++ back)

    entry_from : (x : Nested) → Contains (map (λ e. nested_in m e.0) (filter (λ e. is_other m [] e.0) (region_within m p))) x → Comes x
    entry_from x has =
        let e = comes_from (λ (y : Path × Node). nested_in m y.0) (filter (λ y. is_other m [] y.0) (region_within m p)) x has in
        let was = passes (λ y. is_other m [] y.0) (region_within m p) e.0 e.1 in
        let w = inside_each m p e.0 was.0 in
        let inner : is_inner (at m []) (p ++ w.rest) ≡ true = ap (is_inner (at m [])) (sym w.is) ∙ was.1 in
        let some = inner_some (at m []) (p ++ w.rest) inner in
        record {
          back = w.rest;
          other = record { node_ = e.0.1; there = w.near; below = some; marked = sym (inner_is (at m []) (p ++ w.rest) some) ∙ inner };
          is = sym e.2 ∙ ap (nested_in m) w.is;
        }

    entry_comes : (q : Path) → IsOther (at m []) (p ++ q) → Contains (map (λ e. nested_in m e.0) (filter (λ e. is_other m [] e.0) (region_within m p))) (nested_in m (p ++ q))
    entry_comes q o = goes_to (λ (y : Path × Node). nested_in m y.0) (filter (λ y. is_other m [] y.0) (region_within m p)) (p ++ q, o.node_)
        (passing (λ y. is_other m [] y.0) (region_within m p) (p ++ q, o.node_) (inside_all m p q o.node_ o.there) (inner_is (at m []) (p ++ q) o.below ∙ o.marked))

    abbrev made : Path → List ℕ
    made = λ (q : Path). cat (put t p (at m p)) (c ++ q)

    pub entries_after : AreEntriesOf c (at (put t p (at m p)) c) (λ q. cat (put t p (at m p)) (c ++ q)) (rest.nested ++ map (λ e. nested_in m e.0) (filter (λ e. is_other m [] e.0) (region_within m p)))
    entries_after =
        let more = map (λ (e : Path × Node). nested_in m e.0) (filter (λ e. is_other m [] e.0) (region_within m p)) in
        let stays = λ (n : Nested). not (covers p n.path) in
        let file = λ (q : Path). cat t (c ++ q) in
        subst (λ (w : Nodes). AreEntriesOf c w made (rest.nested ++ more)) (sym at_cut) (record {
          each = λ x has. elim (Contains-append_cases rest.nested more x has) [
            | inl left ↦
                let was = passes stays (nested_of c (at t c) file) x (subst (λ (l : List Nested). Contains l x) without.nested left) in
                let e = (entries_are c (at t c) file here).each x was.0 in
                let out : covers r e.0 ≡ false = not-true (covers r e.0) (ap not (sym (covers_p e.0) ∙ ap (λ (y : Nested). covers p y.path) (sym e.2)) ∙ was.1) in
                (e.0, other-out c (at t c) r (at (at m []) p) holders.unmarked e.0 out e.1, e.2 ∙ ap (entry_of (c ++ e.0)) (sym (outside e.0 e.1 out)))
            | inr right ↦
                let w = entry_from x right in
                (r ++ w.back, other-in c (at t c) r [] (at m []) p holders w.back w.other, w.is ∙ entry-in w.back)
          ];
          all = λ q o.
              elim (covers r q) as (λ b. covers r q ≡ b → Contains (rest.nested ++ more) (entry_of (c ++ q) (made q))) [
                | true ↦ λ e.
                    let b = rest_behind r q e in
                    let was = was_other-in c (at t c) r [] (at m []) p holders b.0 (subst (IsOther (joined c (at t c) r [] (at m []) p holders)) b.1 o) in
                    subst (Contains (rest.nested ++ more)) (entry-in b.0 ∙ ap (λ (y : Path). entry_of (c ++ y) (made y)) (sym b.1)) (Contains-append_right rest.nested more _ (entry_comes b.0 was))
                | false ↦ λ out.
                    let was = was_other-out c (at t c) r (at (at m []) p) holders.unmarked q out o in
                    let had = passing stays (nested_of c (at t c) file) (entry_of (c ++ q) (file q)) ((entries_are c (at t c) file here).all q was) (ap not (covers_p q ∙ out)) in
                    subst (Contains (rest.nested ++ more)) (ap (entry_of (c ++ q)) (sym (outside q was out)))
                    (Contains-append_left rest.nested more _ (subst (λ (l : List Nested). Contains l (entry_of (c ++ q) (file q))) (sym without.nested) had))
              ] refl;
        })

    -- ---- keys

    -- no row that stays has the key of a path that comes
    abbrev pub AreCrossed : Type 0
    AreCrossed = (a : Row) (e : Path × Node) → Contains rest.rows a → Contains (region_within m p) e → a.key.0 ≡ key_of e.0 → ⊥

    -- and no two paths that come have one key
    abbrev pub ComeApart : Type 0
    ComeApart = (q x : Path) (n k : Node) → IsNear (at m []) (p ++ q) n → IsNear (at m []) (p ++ x) k → key_of (p ++ q) ≡ key_of (p ++ x) → q ≡ x

    key_in : (q : Path) → key_of (c ++ (r ++ q)) ≡ key_of (p ++ q)
    key_in q = ap key_of (sym (path-in c (at t c) r [] (at m []) p holders q))

    pub keys_after : AreCrossed → ComeApart → KeysApart c (at (put t p (at m p)) c)
    keys_after cross come = subst (KeysApart c) (sym at_cut) (record { each = λ q x n k has had keys. by_sides q x n k has had keys (covers r q) refl (covers r x) refl })
      where
        apart_from : (q : Path) (n : Node) (x : Path) (k : Node) → IsNear (joined c (at t c) r [] (at m []) p holders) q n → covers r q ≡ false → IsNear (at m []) (p ++ x) k → key_of (c ++ q) ≡ key_of (p ++ x) → ⊥
        apart_from q n x k has out had keys =
            let was = was_near-out c (at t c) r (at (at m []) p) holders.unmarked q n out has in
            cross (row_at c (at t c) q n) (p ++ x, k) (row_stays q n was out) (inside_all m p x k had) (row_key _ (c ++ q) n ∙ keys)

        inner : (q : Path) (n : Node) → IsNear (joined c (at t c) r [] (at m []) p holders) q n → covers r q ≡ true → (x : Path) × (q ≡ r ++ x) × IsNear (at m []) (p ++ x) n
        inner q n has in' =
            let b = rest_behind r q in' in
            (b.0, b.1, was_near-in c (at t c) r [] (at m []) p holders b.0 n (subst (λ (y : Path). IsNear (joined c (at t c) r [] (at m []) p holders) y n) b.1 has))

        by_sides : (q x : Path) (n k : Node) → IsNear (joined c (at t c) r [] (at m []) p holders) q n → IsNear (joined c (at t c) r [] (at m []) p holders) x k → key_of (c ++ q) ≡ key_of (c ++ x) → (a : Bool) → covers r q ≡ a → (b : Bool) → covers r x ≡ b → q ≡ x
        by_sides q x n k has had keys false out false out_ =
            g.apart.each q x n k (was_near-out c (at t c) r (at (at m []) p) holders.unmarked q n out has) (was_near-out c (at t c) r (at (at m []) p) holders.unmarked x k out_ had) keys
        by_sides q x n k has had keys true in' false out =
            let a = inner q n has in' in
            absurd (apart_from x k a.0 n had out a.2 (sym keys ∙ ap (λ (y : Path). key_of (c ++ y)) a.1 ∙ key_in a.0))
        by_sides q x n k has had keys false out true in' =
            let b = inner x k had in' in
            absurd (apart_from q n b.0 k has out b.2 (keys ∙ ap (λ (y : Path). key_of (c ++ y)) b.1 ∙ key_in b.0))
        by_sides q x n k has had keys true in' true in_ =
            let a = inner q n has in' in
            let b = inner x k had in_ in
            let same = come a.0 b.0 n k a.2 b.2 (sym (key_in a.0) ∙ ap (λ (y : Path). key_of (c ++ y)) (sym a.1) ∙ keys ∙ ap (λ (y : Path). key_of (c ++ y)) b.1 ∙ key_in b.0) in
            a.1 ∙ ap (λ (y : Path). r ++ y) same ∙ sym b.1

    -- ---- the catalogue afterwards

    pub cut_after : is_cut (put t p (at m p)) c ≡ true
    cut_after = cut-out t p (at m p) c g.unmarked (subst (λ (x : Path). covers x c ≡ false) (sym g.holds.is) (longer_covers_not c r g.holds.some)) ∙ g.holds.cut

    here_after : StandsAtCut c (at (put t p (at m p)) c)
    here_after = stands_at_cut (put t p (at m p)) c g.after cut_after

    module _ (rows_apart : AreApart (keys_of (rest.rows ++ map (row_in m []) (region_within m p))))
        (texts : AreApart (texts_of (rest.nested ++ map (λ e. nested_in m e.0) (filter (λ e. is_other m [] e.0) (region_within m p))))) (keys : KeysApart c (at (put t p (at m p)) c)) where
      abbrev pub all_rows : List Row
      all_rows = rest.rows ++ map (row_in m []) (region_within m p)

      abbrev pub all_nested : List Nested
      all_nested = rest.nested ++ map (λ (e : Path × Node). nested_in m e.0) (filter (λ e. is_other m [] e.0) (region_within m p))

      pub contents_after : contents_of (put t p (at m p)) c ≡ in_order c all_rows all_nested
      contents_after =
          let one = rows_in_order c (at (put t p (at m p)) c) all_rows keys rows_after rows_apart in
          let other = entries_in_order c (at (put t p (at m p)) c) made all_nested here_after entries_after texts in
          λ i. record { at = c; rows = sym one i; nested = sym other i }

      pub cat_after : cat (put t p (at m p)) c ≡ catalogue_bytes (in_order c all_rows all_nested)
      cat_after = cat_is (put t p (at m p)) c g.after (cut_some (put t p (at m p)) c g.after cut_after) ∙ ap catalogue_bytes contents_after

      size_after : length (file_of all_rows all_nested) ≡ length (cat (put t p (at m p)) c)
      size_after = sym (order_length c all_rows all_nested rows_apart texts) ∙ ap length (sym cat_after)

      count_after : length all_rows ≡ length (region (at (put t p (at m p)) c))
      count_after = rows_count c (at (put t p (at m p)) c) all_rows keys rows_after rows_apart

      -- it is full just where they pass a limit
      pub full_after : PassesLimit all_rows all_nested → IsFull (put t p (at m p)) c
      full_after passes = record {
        is_cut_ = cut_after;
        passes = elim passes [
          | inl many ↦ inl (subst (λ k. 50000 < k) count_after many)
          | inr long ↦ inr (subst (λ k. 16777216 < k) size_after long)
        ];
      }

      pub not_full_after : (PassesLimit all_rows all_nested → ⊥) → IsFull (put t p (at m p)) c → ⊥
      not_full_after none full = none (elim full.passes [
        | inl many ↦ inl (subst (λ k. 50000 < k) (sym count_after) many)
        | inr long ↦ inr (subst (λ k. 16777216 < k) (sym size_after) long)
      ])
