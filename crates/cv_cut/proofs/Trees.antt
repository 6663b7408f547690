-- Trees of which a subtree is replaced: what stands at a cut, and which cuts there are.
use Rattle.std.proofs.Common.{◌≡◌, ◌≢◌, false, List, [], ◌∷◌, ◌++◌, refl, sym, ◌∙◌}
use Rattle.std.specs.FinMap.{get, same_map}
use Rattle.cv_base.specs.Marker.{marker, ends_in}
use Rattle.cv_base.specs.Path.{Path, covers}
use Rattle.cv_base.proofs.Laws.{path_total, path_exact}
use Rattle.cv_tree.specs.Tree.{Nodes, at, put}
use Rattle.cv_tree.proofs.Laws.{at_rest, get-at, get-put}
use Rattle.cv_cut.specs.Cuts.{is_marked, is_cut}
use Rattle.cv_cut.proofs.Between.{marked-at}
use Rattle.cv_cut.proofs.MarkLaws.{marked-out, marked-in}
use Rattle.cv_cut.proofs.Joined.{behind-shift}

-- a replacement below a place, seen from the place
pub at-put_below : (t : Nodes) (c r : Path) (s : Nodes) → at (put t (c ++ r) s) c ≡ put (at t c) r s
at-put_below t c r s = same_map path_total path_exact _ _ (λ q.
    get-at (put t (c ++ r) s) c q ∙ get-put t (c ++ r) s (c ++ q)
    ∙ (λ i. at_rest (behind-shift c r q i) (get s) (sym (get-at t c q) i))
    ∙ sym (get-put (at t c) r s q))

-- a cut that the path doesn't cover stays one, and none comes
pub cut-out : (t : Nodes) (p : Path) (s : Nodes) (c : Path) → ends_in marker p ≡ false → covers p c ≡ false → is_cut (put t p s) c ≡ is_cut t c
cut-out t p s [] unmarked out = refl
cut-out t p s (a ∷ c) unmarked out = marked-out t p s (a ∷ c) unmarked out

-- at the path and below the cuts are those of the other tree
pub cut-in : (t n : Nodes) (p q : Path) → is_cut (put t p (at n p)) (p ++ q) ≡ is_cut n (p ++ q)
cut-in t n p q = named (p ++ q) (marked-in t p (at n p) q ∙ sym (marked-at n p q))
  where
    named : (x : Path) → is_marked (put t p (at n p)) x ≡ is_marked n x → is_cut (put t p (at n p)) x ≡ is_cut n x
    named [] h = refl
    named (a ∷ x) h = h

-- a path ends as what is behind its front
pub ends-behind : (name : List _) (c r : Path) → r ≢ [] → ends_in name (c ++ r) ≡ ends_in name r
ends-behind name [] r some = refl
ends-behind name (a ∷ []) [] some = absurd (some refl)
ends-behind name (a ∷ []) (b ∷ r) some = refl
ends-behind name (a ∷ b ∷ c) r some = ends-behind name (b ∷ c) r some
