-- The tree in which a part is set at a path, by a tree m that has the part there: what fits, and which cuts there are.
use Rattle.std.proofs.Common.{◌≡◌, ◌≢◌, ℕ, zero, suc, ◌+◌, ◌≤◌, true, false, [], ◌∷◌, ◌++◌, length, length-append, refl, sym, ap, subst, ◌∙◌, append-nil, append_assoc, arith}
use Rattle.cv_base.specs.Marker.{marker, ends_in}
use Rattle.cv_base.specs.Path.{Path, covers, overlap}
use Rattle.cv_base.proofs.Laws.{second_covers}
use Rattle.cv_tree.specs.Tree.{Nodes, IsTree, at, put}
use Rattle.cv_tree.proofs.Laws.{at-at, at-put}
use Rattle.cv_cut.specs.Above.{Holds, OnWay}
use Rattle.cv_cut.specs.Cuts.{is_cut, is_marked, is_near}
use Rattle.cv_cut.specs.Catalogues.{IsFull}
use Rattle.cv_cut.specs.Piece.{HasOnly}
use Rattle.cv_cut.specs.Region.{FitsAtCut, KeysApart}
use Rattle.cv_cut.specs.Replaced.{AreKeysApart, FitsOver, IsPassed, IsSound}
use Rattle.cv_cut.proofs.Fitting.{moved_sound, one_holder, passes_of}
use Rattle.cv_cut.proofs.Joined.{rest_behind}
use Rattle.cv_cut.proofs.Between.{marked-at}
use Rattle.cv_cut.proofs.MarkLaws.{covers_append, longer_covers_not}
use Rattle.cv_cut.proofs.Trees.{cut-in, cut-out}
use Rattle.cv_cut.proofs.Upper.{above_keys, above_full}

-- ---- the cut that holds a path

-- from a cut above a path on, one holds it
pub holder_from : (t : Nodes) (p : Path) (k : ℕ) (c r : Path) → length r ≤ k → OnWay t p c r → (d : Path) × (v : Path) × Holds t p d v
holder_from t p zero c [] le w = absurd (w.some refl)
holder_from t p zero c (a ∷ r) le w = absurd (omega arith)
holder_from t p (suc k) c r le w =
    elim (is_near (at t c) r) as (λ b. is_near (at t c) r ≡ b → (d : Path) × (v : Path) × Holds t p d v) [
      | true ↦ λ near. (c, r, record { is = w.is; some = w.some; cut = w.cut; near = near })
      | false ↦ λ far.
          let way = passes_of t p c r w.is w.cut far in
          let x = way.2 in
          let long : length way.1 ≤ k = shorter way.0 way.1 r x.way.some (omega (arith, ap (λ (y : Path). length y) x.way.is, length-append way.0 way.1)) le in
          holder_from t p k (c ++ way.0) way.1 long (record {
            is = x.is ∙ ap (λ (y : Path). c ++ y) x.way.is ∙ sym (append_assoc c way.0 way.1);
            some = x.way.more;
            cut = below_cut c way.0 x.way.some x.way.marked;
          })
    ] refl
  where
    shorter : (e f r : Path) → e ≢ [] → length r ≡ length e + length f → length r ≤ suc k → length f ≤ k
    shorter [] f r some long le = absurd (some refl)
    shorter (a ∷ e) f r some long le = omega (arith, long, le)

    below_cut : (c e : Path) → e ≢ [] → is_marked (at t c) e ≡ true → is_cut t (c ++ e) ≡ true
    below_cut c [] some marked = absurd (some refl)
    below_cut [] (a ∷ e) some marked = marked-at t [] (a ∷ e) ∙ marked
    below_cut (b ∷ c) (a ∷ e) some marked = marked-at t (b ∷ c) (a ∷ e) ∙ marked

pub holder_of : (t : Nodes) (p : Path) → p ≢ [] → (d : Path) × (v : Path) × Holds t p d v
holder_of t p some = holder_from t p (length p) [] p (omega arith) (record { is = refl; some = some; cut = refl })

-- where no cut but the root's is outside a path, the root's holds it
pub alone_holds : (m : Nodes) (p : Path) (s : Nodes) → p ≢ [] → HasOnly m p s → Holds m p [] p
alone_holds m p s some only = of (holder_of m p some)
  where
    of : (d : Path) × (v : Path) × Holds m p d v → Holds m p [] p
    of ([], v, h) = subst (λ (x : Path). Holds m p [] x) (sym h.is) h
    of (a ∷ d, v, h) =
        let inside = only.only (a ∷ d) h.cut (λ e. cc) in
        let out = longer_covers_not (a ∷ d) v h.some in
        absurd (let wrong : true ≡ false = sym inside ∙ ap (λ (x : Path). covers x (a ∷ d)) h.is ∙ out in cc)

-- ---- what fits

module _ (P : Type 0) (t m : Nodes) (p : Path) (tree : IsTree t) (after : IsTree (put t p (at m p))) (unmarked : ends_in marker p ≡ false) where
  pub same_below : (q : Path) → at m (p ++ q) ≡ at (put t p (at m p)) (p ++ q)
  same_below q = sym (at-at m p q) ∙ ap (λ (w : Nodes). at w q) (sym (at-put t p (at m p))) ∙ at-at (put t p (at m p)) p q

  module _ (fits : (c : Path) → is_cut t c ≡ true → covers c p ≡ true → p ≢ c → FitsAtCut t c) (below : (d : Path) → is_cut m d ≡ true → covers p d ≡ true → IsSound P m d)
      (c r : Path) (holds : Holds t p c r) (here : IsSound P (put t p (at m p)) c) where
    apart_of : (d : Path) → covers p d ≡ false → p ≢ d
    apart_of d out same = let wrong : true ≡ false = sym (ap (covers p) (sym (append-nil p)) ∙ covers_append p []) ∙ ap (covers p) same ∙ out in cc

    sound_above : (d v : Path) → is_cut (put t p (at m p)) d ≡ true → covers p d ≡ false → p ≡ d ++ v → IsSound P (put t p (at m p)) d
    sound_above d v cut out is =
        let was = sym (cut-out t p (at m p) d unmarked out) ∙ cut in
        let some : v ≢ [] = λ none. apart_of d out (is ∙ ap (λ (x : Path). d ++ x) none ∙ append-nil d) in
        let fit = fits d was (ap (covers d) is ∙ covers_append d v) (apart_of d out) in
        elim (is_near (at t d) v) as (λ b. is_near (at t d) v ≡ b → IsSound P (put t p (at m p)) d) [
          | true ↦ λ near. subst (IsSound P (put t p (at m p))) (one_holder t p c r d v holds (record { is = is; some = some; cut = was; near = near })) here
          | false ↦ λ far.
              let way = passes_of t p d v is was far in
              let a : IsPassed t p (at m p) d v way.0 way.1 = record { tree = tree; after = after; unmarked = unmarked; passes = way.2; apart = fit.apart } in
              record { keys = above_keys t p (at m p) d v way.0 way.1 a; fits = λ _ full. fit.limits (above_full t p (at m p) d v way.0 way.1 a full) }
        ] refl

    pub over_sound : (d : Path) → is_cut (put t p (at m p)) d ≡ true → overlap p d ≡ true → IsSound P (put t p (at m p)) d
    over_sound d cut over =
        elim (covers p d) as (λ b. covers p d ≡ b → IsSound P (put t p (at m p)) d) [
          | true ↦ λ h.
              let b = rest_behind p d h in
              let there = subst (λ (x : Path). is_cut (put t p (at m p)) x ≡ true) b.1 cut in
              subst (IsSound P (put t p (at m p))) (sym b.1) (moved_sound P m (put t p (at m p)) (p ++ b.0) (same_below b.0) there (below (p ++ b.0) (sym (cut-in t m p b.0) ∙ there) (covers_append p b.0)))
          | false ↦ λ out. let b = rest_behind d p (second_covers p d out over) in sound_above d b.0 cut out b.1
        ] refl

-- no two paths share a key, where none does at the cut that holds the path, and none of the part
pub keys_over : (t m : Nodes) (p c r : Path) → IsTree t → IsTree (put t p (at m p)) → ends_in marker p ≡ false → ((d : Path) → is_cut t d ≡ true → covers d p ≡ true → p ≢ d → FitsAtCut t d)
    → ((d : Path) → is_cut m d ≡ true → covers p d ≡ true → KeysApart d (at m d)) → Holds t p c r → KeysApart c (at (put t p (at m p)) c) → AreKeysApart (put t p (at m p)) p
keys_over t m p c r tree after unmarked fits below holds here d cut over =
    (over_sound ⊥ t m p tree after unmarked fits (λ x has inside. record { keys = below x has inside; fits = λ no_proof. absurd no_proof }) c r holds (record { keys = here; fits = λ no_proof. absurd no_proof }) d cut over).keys

-- and all fits, where that cut's catalogue and those of the part do
pub fits_over : (t m : Nodes) (p c r : Path) → IsTree t → IsTree (put t p (at m p)) → ends_in marker p ≡ false → ((d : Path) → is_cut t d ≡ true → covers d p ≡ true → p ≢ d → FitsAtCut t d)
    → ((d : Path) → is_cut m d ≡ true → covers p d ≡ true → KeysApart d (at m d)) → ((d : Path) → is_cut m d ≡ true → covers p d ≡ true → IsFull m d → ⊥)
    → Holds t p c r → KeysApart c (at (put t p (at m p)) c) → (IsFull (put t p (at m p)) c → ⊥) → FitsOver (put t p (at m p)) p
fits_over t m p c r tree after unmarked fits below limits holds here limit =
    let sound = over_sound (Unit {0}) t m p tree after unmarked fits (λ x has inside. record { keys = below x has inside; fits = λ _ full. limits x has inside full }) c r holds (record { keys = here; fits = λ _ full. limit full }) in
    record { keys = λ d cut over. (sound d cut over).keys; limits = λ d cut over full. (sound d cut over).fits tt full }
