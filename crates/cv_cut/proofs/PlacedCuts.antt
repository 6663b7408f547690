-- The cuts and catalogues of a part that is set at a path, and what is wrong with them, by a tree m that has the part there.
use Rattle.std.proofs.Common.{◌≡◌, ◌<◌, ◌^◌, true, false, List, [], ◌∷◌, ◌++◌, map, reverse, length, get_or, IsSome, is_some, refl, sym, ap, subst, ◌∙◌, inl, inr}
use Rattle.std.specs.Prelude.{Contains}
use Rattle.std.specs.FinMap.{get, keys}
use Rattle.std.proofs.lemmas.List.{get_or_default}
use Rattle.std.proofs.lemmas.List.Sorted.{IsPermutation-reverse, IsPermutation-sym, Contains-permutation}
use Rattle.sha1.specs.Sha1.{sha1}
use Rattle.cv_base.specs.Path.{Path, covers, overlap, key_of}
use Rattle.cv_base.specs.ObjectId.{object_id}
use Rattle.cv_base.specs.declared.id.Kind.TheVariants.{Catalogue}
use Rattle.cv_base.proofs.Laws.{some_there, path_total}
use Rattle.cv_tree.specs.Tree.{Nodes, IsTree, at, put}
use Rattle.cv_tree.specs.declared.node.Node.{Node}
use Rattle.cv_tree.proofs.Laws.{at-at, at-put}
use Rattle.cv_rows.specs.Made.{AreApart}
use Rattle.cv_cut.specs.Cuts.{is_cut, is_near, cuts_of, region}
use Rattle.cv_cut.specs.Catalogues.{cat, catalogue_of, IsFull, IsInRegion}
use Rattle.cv_cut.specs.Cut.{catalogue_object, keys_at}
use Rattle.cv_cut.specs.Piece.{HasOnly, SharesWithin, cuts_within, region_within}
use Rattle.cv_cut.specs.Region.{IsNear}
use Rattle.cv_cut.specs.Replaced.{SharesOver}
use Rattle.cv_cut.proofs.Canonical.{cat-put_below}
use Rattle.cv_cut.proofs.Collisions.{cut_of_tree, key_there}
use Rattle.cv_cut.proofs.CutOrder.{within_rise}
use Rattle.cv_cut.proofs.Joined.{rest_behind, is_near-in, path-in}
use Rattle.cv_cut.proofs.Members.{first_there, later_there, passes, passing}
use Rattle.cv_cut.proofs.PlacedLaws.{same_below}
use Rattle.cv_cut.proofs.Placing.{Placing, holders, at_cut, inside_all}
use Rattle.cv_cut.proofs.Sameness.{same_list}
use Rattle.cv_cut.proofs.Trees.{cut-in, cut-out}
use Rattle.cv_cut.proofs.MarkLaws.{covers_append, longer_covers_not}
use Rattle.cv_cut.proofs.Twice.{one_place}
use Rattle.cv_cut.proofs.Ends.{same_rest}

-- ---- the cuts

cuts_into : (a b : Nodes) (p : Path) → IsTree b → ((q : Path) → is_cut b (p ++ q) ≡ is_cut a (p ++ q)) → (x : Path) → Contains (cuts_within a p) x → Contains (cuts_within b p) x
cuts_into a b p tree same x has =
    let was = passes (λ c. covers p c) (cuts_of a) x has in
    let cut = (passes (is_cut a) (keys a) x was.0).1 in
    let y = rest_behind p x was.1 in
    let there = subst (λ z. is_cut b z ≡ true) (sym y.1) (same y.0 ∙ subst (λ z. is_cut a z ≡ true) y.1 cut) in
    passing (λ c. covers p c) (cuts_of b) x (cut_of_tree b x tree there) was.1

pub cuts_same : (t m : Nodes) (p : Path) → IsTree m → IsTree (put t p (at m p)) → cuts_within m p ≡ cuts_within (put t p (at m p)) p
cuts_same t m p tree after = same_list path_total (cuts_within m p) (cuts_within (put t p (at m p)) p) (within_rise m p) (within_rise (put t p (at m p)) p)
    (cuts_into m (put t p (at m p)) p after (λ q. cut-in t m p q)) (cuts_into (put t p (at m p)) m p tree (λ q. sym (cut-in t m p q)))

-- ---- their catalogues

cat_same : (t m : Nodes) (p d : Path) → covers p d ≡ true → cat m d ≡ cat (put t p (at m p)) d
cat_same t m p d inside = let b = rest_behind p d inside in ap (cat m) b.1 ∙ sym (cat-put_below t m p b.0) ∙ ap (cat (put t p (at m p))) (sym b.1)

same_objects : (t m : Nodes) (p : Path) (ds : List Path) → ((x : Path) → Contains ds x → covers p x ≡ true) → map (catalogue_object m) ds ≡ map (catalogue_object (put t p (at m p))) ds
same_objects t m p [] inside = refl
same_objects t m p (d ∷ ds) inside =
    let bytes = cat_same t m p d (inside d (first_there d ds)) in
    let more = same_objects t m p ds (λ x has. inside x (later_there d ds x has)) in
    λ i. record { id = object_id (sha1 (bytes i)) Catalogue; bytes = bytes i } ∷ more i

pub part_objects : (t m : Nodes) (p : Path) → IsTree m → IsTree (put t p (at m p)) → map (catalogue_object m) (reverse (cuts_within m p)) ≡ map (catalogue_object (put t p (at m p))) (reverse (cuts_within (put t p (at m p)) p))
part_objects t m p tree after =
    same_objects t m p (reverse (cuts_within m p)) (λ x has.
    (passes (λ c. covers p c) (cuts_of m) x (Contains-permutation (reverse (cuts_within m p)) (cuts_within m p) x (IsPermutation-sym (cuts_within m p) (reverse (cuts_within m p)) (IsPermutation-reverse (cuts_within m p))) has)).1)
    ∙ ap (λ (ds : List Path). map (catalogue_object (put t p (at m p))) (reverse ds)) (cuts_same t m p tree after)

-- ---- a full one

pub full_below : (t m : Nodes) (p d : Path) → IsTree t → IsTree (put t p (at m p)) → covers p d ≡ true → IsFull m d → IsFull (put t p (at m p)) d
full_below t m p d tree after inside full =
    let b = rest_behind p d inside in
    let same : at m d ≡ at (put t p (at m p)) d = ap (at m) b.1 ∙ place b.0 ∙ ap (at (put t p (at m p))) (sym b.1) in
    record {
      is_cut_ = subst (λ x. is_cut (put t p (at m p)) x ≡ true) (sym b.1) (cut-in t m p b.0 ∙ subst (λ x. is_cut m x ≡ true) b.1 full.is_cut_);
      passes = elim full.passes [
        | inl many ↦ inl (subst (λ (w : Nodes). 50000 < length (region w)) same many)
        | inr long ↦ inr (subst (λ (w : Nodes). 2 ^ 24 < length (catalogue_of d w)) same long)
      ];
    }
  where
    place : (q : Path) → at m (p ++ q) ≡ at (put t p (at m p)) (p ++ q)
    place q = sym (at-at m p q) ∙ ap (λ (w : Nodes). at w q) (sym (at-put t p (at m p))) ∙ at-at (put t p (at m p)) p q

-- ---- keys

-- entries with one key are one, where the keys differ
pub one_entry : (es : List (Path × Node)) (a b : Path × Node) → AreApart (keys_at es) → Contains es a → Contains es b → key_of a.0 ≡ key_of b.0 → a ≡ b
one_entry es a b apart has had keys =
    let one = key_there es has.0 a (key_of a.0) has.1 (ap (λ (e : Path × Node). key_of e.0) (sym has.2)) in
    let other = key_there es had.0 b (key_of a.0) had.1 (keys ∙ ap (λ (e : Path × Node). key_of e.0) (sym had.2)) in
    let place : has.0 ≡ had.0 = one_place (keys_at es) (key_of a.0) has.0 had.0 apart one other in
    sym has.2 ∙ get_or_default es has.0 a b has.1 ∙ ap (λ k. get_or es k b) place ∙ had.2

pub come_apart : (m : Nodes) (p : Path) → AreApart (keys_at (region_within m p)) → (q x : Path) (n k : Node) → IsNear (at m []) (p ++ q) n → IsNear (at m []) (p ++ x) k → key_of (p ++ q) ≡ key_of (p ++ x) → q ≡ x
come_apart m p apart q x n k near other keys =
    let same = one_entry (region_within m p) (p ++ q, n) (p ++ x, k) apart (inside_all m p q n near) (inside_all m p x k other) keys in
    same_rest p q x (ap (λ (e : Path × Node). e.0) same)

-- ---- paths that share one

module _ (t m : Nodes) (p c r : Path) (g : Placing t m p c r) where
  region_above : (a : Path) → IsInRegion m [] a → covers p a ≡ true → IsInRegion (put t p (at m p)) c a
  region_above a h inside =
      let b = rest_behind p a inside in
      let n = some_there (get (at m []) h.0) h.2 in
      let near : IsNear (at m []) (p ++ b.0) n.0 = subst (λ (x : Path). IsNear (at m []) x n.0) (sym h.1 ∙ b.1) (record { there = n.1; near = h.3 }) in
      let after = subst (λ (u : Nodes). IsNear u (r ++ b.0) n.0) (sym (at_cut t m p c r g)) (is_near-in c (at t c) r [] (at m []) p (holders t m p c r g) b.0 n.0 near) in
      (r ++ b.0, b.1 ∙ path-in c (at t c) r [] (at m []) p (holders t m p c r g) b.0, ap is_some after.there, after.near)

  region_below : (d a : Path) → covers p d ≡ true → IsInRegion m d a → IsInRegion (put t p (at m p)) d a
  region_below d a inside h =
      let b = rest_behind p d inside in
      let same : at m d ≡ at (put t p (at m p)) d = ap (at m) b.1 ∙ same_below ⊥ t m p g.tree g.after g.unmarked b.0 ∙ ap (at (put t p (at m p))) (sym b.1) in
      (h.0, h.1, subst (λ (w : Nodes). IsSome (get w h.0)) same h.2, subst (λ (w : Nodes). is_near w h.0 ≡ true) same h.3)

  cut_there : is_cut (put t p (at m p)) c ≡ true
  cut_there = cut-out t p (at m p) c g.unmarked (subst (λ (x : Path). covers x c ≡ false) (sym g.holds.is) (longer_covers_not c r g.holds.some)) ∙ g.holds.cut

  over_above : overlap p c ≡ true
  over_above =
      let out : covers p c ≡ false = subst (λ (x : Path). covers x c ≡ false) (sym g.holds.is) (longer_covers_not c r g.holds.some) in
      let in' : covers c p ≡ true = ap (covers c) g.holds.is ∙ covers_append c r in
      rw (out, in') refl

  over_below : (d : Path) → covers p d ≡ true → overlap p d ≡ true
  over_below d inside = rw inside refl

  pub shares_over : (s : Nodes) (a b : Path) → HasOnly m p s → SharesWithin m p a b → SharesOver (put t p (at m p)) p a b
  shares_over s a b only h = of h.shares.cut refl
    where
      of : (d : Path) → h.shares.cut ≡ d → SharesOver (put t p (at m p)) p a b
      of [] e = record {
        shares = record {
          cut = c;
          is_cut_ = cut_there;
          first = region_above a (subst (λ (x : Path). IsInRegion m x a) e h.shares.first) h.first;
          second = region_above b (subst (λ (x : Path). IsInRegion m x b) e h.shares.second) h.second;
          differ = h.shares.differ;
          keys = h.shares.keys;
        };
        over = over_above;
      }
      of (x ∷ d) e =
          let inside : covers p h.shares.cut ≡ true = only.only h.shares.cut h.shares.is_cut_ (λ none. (let wrong : x ∷ d ≡ [] = sym e ∙ none in cc)) in
          let y = rest_behind p h.shares.cut inside in
          record {
            shares = record {
              cut = h.shares.cut;
              is_cut_ = subst (λ z. is_cut (put t p (at m p)) z ≡ true) (sym y.1) (cut-in t m p y.0 ∙ subst (λ z. is_cut m z ≡ true) y.1 h.shares.is_cut_);
              first = region_below h.shares.cut a inside h.shares.first;
              second = region_below h.shares.cut b inside h.shares.second;
              differ = h.shares.differ;
              keys = h.shares.keys;
            };
            over = over_below h.shares.cut inside;
          }
