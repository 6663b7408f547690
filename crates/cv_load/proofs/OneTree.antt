-- On a shelf a hash means one tree at most.
use Rattle.std.proofs.Common.{◌≡◌, ℕ, zero, suc, ◌+◌, ◌<◌, ◌≤◌, true, false, ◌&&◌, List, [], ◌∷◌, ◌++◌, length, Some, None, IsTrue, IsSome, refl, sym, ap, ◌∙◌, arith, length-append}
use Rattle.std.specs.FinMap.{get, same_map}
use Rattle.sha1.specs.Sha1.{sha1}
use Rattle.cv_base.specs.Path.{Path}
use Rattle.cv_base.specs.ObjectId.{object_id}
use Rattle.cv_base.specs.declared.id.Kind.TheVariants.{Catalogue}
use Rattle.cv_ports.specs.Shelf.{Shelf}
use Rattle.cv_tree.specs.Tree.{Nodes, IsTree, at}
use Rattle.cv_tree.specs.declared.node.Node.{Node}
use Rattle.cv_base.proofs.Laws.{first_true, some_there, path_total, path_exact}
use Rattle.cv_tree.proofs.Laws.{get-at, at-at, some_directory}
use Rattle.cv_rows.specs.Catalogue.{catalogue_bytes}
use Rattle.cv_rows.proofs.Lemmas.{one_file, has_file}
use Rattle.cv_cut.specs.Cuts.{is_near, is_inner, is_cut}
use Rattle.cv_cut.specs.Catalogues.{cat}
use Rattle.cv_cut.specs.Means.{Means}
use Rattle.cv_cut.proofs.Lemmas.{cat_is, is_behind, at-root, marked-at}
use Rattle.cv_load.proofs.Kept.{AreKept, kept}
use Rattle.cv_load.proofs.CutRows.{shared, one_hash, contents_at, transition_of_inner, inner_of_transition}
use Rattle.cv_cut.specs.Region.{IsNear}

-- ---- what stands at two cuts is the same where their regions are, and what stands at the other cuts

inner_there : (u : Nodes) (d : Path) → IsTrue (is_inner u d) → (node : Node) × (get u d ≡ Some node)
inner_there u [] h = absurd cc
inner_there u (a ∷ p) h = some_there (get u (a ∷ p)) (some_directory (get u (a ∷ p)) (first_true _ _ h))

-- the paths of one region are paths of another, and so are its other cuts, at which the same stands
record GoesOver (u v : Nodes) : Type 0 where
  region : (q : Path) (node : Node) → IsNear u q node → IsNear v q node
  below : (d : Path) (node : Node) → IsNear u d node → IsTrue (is_inner u d) → at u d ≡ at v d

behind_same : (u v : Nodes) (q : Path) → GoesOver u v → is_near u q ≡ false → get u q ≡ get v q
behind_same u v q over far =
    let b = is_behind u q far in
    let there = inner_there u b.cut b.inner in
    let same = over.below b.cut there.0 (record { there = there.1; near = b.near }) b.inner in
    ap (get u) b.is ∙ sym (get-at u b.cut b.rest) ∙ ap (λ (w : Nodes). get w b.rest) same ∙ get-at v b.cut b.rest ∙ sym (ap (get v) b.is)

near_same : (u v : Nodes) (q : Path) → GoesOver u v → GoesOver v u → IsTrue (is_near u q) → IsTrue (is_near v q) → get u q ≡ get v q
near_same u v q over back near close = elim (get u q) as (λ o. get u q ≡ o → o ≡ get v q) [
  | Some node ↦ λ e. sym ((over.region q node (record { there = e; near = near })).there)
  | None ↦ λ e. elim (get v q) as (λ o. get v q ≡ o → None ≡ o) [
    | Some node ↦ λ f. sym e ∙ (back.region q node (record { there = f; near = close })).there
    | None ↦ λ f. refl
  ] refl
] refl

inner_long : (u : Nodes) (d : Path) → IsTrue (is_inner u d) → 0 < length d
inner_long u [] h = absurd cc
inner_long u (a ∷ p) h = omega arith

same_nodes : (u v : Nodes) → GoesOver u v → GoesOver v u → u ≡ v
same_nodes u v over back = same_map path_total path_exact u v (λ q.
    elim (is_near u q) as (λ b. is_near u q ≡ b → get u q ≡ get v q) [
      | false ↦ λ far. behind_same u v q over far
      | true ↦ λ near. elim (is_near v q) as (λ b. is_near v q ≡ b → get u q ≡ get v q) [
        | false ↦ λ far. sym (behind_same v u q back far)
        | true ↦ λ close. near_same u v q over back near close
      ] refl
    ] refl)

-- ---- cuts of a tree

-- another cut of what stands at a place is a cut of the tree
pub inner_cut : (t : Nodes) (c d : Path) → IsTrue (is_inner (at t c) d) → IsTrue (is_cut t (c ++ d))
inner_cut t c [] h = absurd cc
inner_cut t [] (a ∷ p) h = marked-at t [] (a ∷ p) ∙ h
inner_cut t (b ∷ c) (a ∷ p) h = marked-at t (b ∷ c) (a ∷ p) ∙ h

pub cut_there : (t : Nodes) (c : Path) → IsTree t → IsTrue (is_cut t c) → IsSome (get t c)
cut_there t [] tree h = tree.part.root
cut_there t (a ∷ p) tree h = some_directory (get t (a ∷ p)) (first_true _ _ h)

-- ---- trees with the same catalogues

module _ (shelf : Shelf) (hash : List ℕ) (t u : Nodes) (is : Means shelf hash t) (was : Means shelf hash u) (kept : AreKept t) (held : AreKept u) where
  -- catalogues of one hash are equal
  by_hash : (c : Path) → IsTrue (is_cut t c) → IsTrue (is_cut u c) → sha1 (cat t c) ≡ sha1 (cat u c) → cat t c ≡ cat u c
  by_hash c cut other same =
      let e : Some (cat t c) ≡ Some (cat u c) = sym (is.catalogues c cut) ∙ ap (λ (h : List ℕ). shelf (object_id h Catalogue)) same ∙ was.catalogues c other in
      cc

  goes_over : (n : ℕ) (c : Path) → 65 ≤ length c + suc n → IsTrue (is_cut t c) → IsTrue (is_cut u c) → cat t c ≡ cat u c
      → ((d : Path) → 65 ≤ length d + n → IsTrue (is_cut t d) → IsTrue (is_cut u d) → cat t d ≡ cat u d → at t d ≡ at u d) → GoesOver (at t c) (at u c)
  goes_over n c enough cut other same deeper =
      let one = kept c cut in
      let two = held c other in
      let bytes : catalogue_bytes (contents_at c (at t c) (λ d. cat t (c ++ d))) ≡ catalogue_bytes (contents_at c (at u c) (λ d. cat u (c ++ d))) =
      sym (cat_is t c is.tree (cut_there t c is.tree cut)) ∙ same ∙ cat_is u c was.tree (cut_there u c was.tree other) in
      let parts = one_file _ _ _ _ (has_file _ one.catalogue) (has_file _ two.catalogue) bytes in
      record {
        region = λ q node near. (shared c (at t c) (at u c) _ _ one two parts.0 q node near).near;
        below = λ d node near inner.
            let both = shared c (at t c) (at u c) _ _ one two parts.0 d node near in
            let also : IsTrue (is_inner (at u c) d) = inner_of_transition c (at u c) d node (sym both.kind ∙ transition_of_inner c (at t c) d node near inner) in
            let cuts = inner_cut t c d inner in
            let others = inner_cut u c d also in
            let hashes : sha1 (cat t (c ++ d)) ≡ sha1 (cat u (c ++ d)) = one_hash c (at t c) (at u c) (λ p. cat t (c ++ p)) (λ p. cat u (c ++ p)) one two parts.1 d node near inner in
            let long = length-append c d in
            let some = inner_long (at t c) d inner in
            at-at t c d ∙ deeper (c ++ d) (omega (arith, enough, long, some)) cuts others (by_hash (c ++ d) cuts others hashes) ∙ sym (at-at u c d);
      }

-- where the catalogues at a place are equal, so is what stands there
same_at : (shelf : Shelf) (hash : List ℕ) (t u : Nodes) → Means shelf hash t → Means shelf hash u → AreKept t → AreKept u
    → (n : ℕ) (c : Path) → 65 ≤ length c + n → IsTrue (is_cut t c) → IsTrue (is_cut u c) → cat t c ≡ cat u c → at t c ≡ at u c
same_at shelf hash t u is was kept held zero c enough cut other same =
    let limit = (is.tree.part.paths c (cut_there t c is.tree cut)).depth in
    absurd (omega (arith, enough, limit))
same_at shelf hash t u is was kept held (suc n) c enough cut other same =
    same_nodes (at t c) (at u c)
    (goes_over shelf hash t u is was kept held n c enough cut other same (same_at shelf hash t u is was kept held n))
    (goes_over shelf hash u t was is held kept n c enough other cut (sym same) (λ d long a b e. sym (same_at shelf hash t u is was kept held n d long b a (sym e))))

pub one_tree : (shelf : Shelf) (hash : List ℕ) (t u : Nodes) → Means shelf hash t → Means shelf hash u → t ≡ u
one_tree shelf hash t u is was =
    let mine = kept t is.tree is.fits in
    let other = kept u was.tree was.fits in
    let roots = by_hash shelf hash t u is was mine other [] refl refl (sym is.root ∙ was.root) in
    sym (at-root t) ∙ same_at shelf hash t u is was mine other 65 [] (omega arith) refl refl roots ∙ at-root u
