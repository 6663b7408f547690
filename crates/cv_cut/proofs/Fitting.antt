-- Whether the tree after a replacement fits, by the catalogue that directly holds the path alone.
use Rattle.std.proofs.Common.{◌≡◌, ◌≢◌, ◌<◌, ◌^◌, true, false, [], ◌∷◌, ◌++◌, length, refl, sym, ap, subst, ◌∙◌, append-nil, inl, inr}
use Rattle.std.specs.FinMap.{get, same_map}
use Rattle.cv_base.specs.Path.{Path, covers, key_of}
use Rattle.cv_base.proofs.Laws.{some_there, covers_itself, path_total, path_exact}
use Rattle.cv_tree.specs.Tree.{Nodes, at, put}
use Rattle.cv_tree.proofs.Laws.{get-at, get-put, at-put, at-at, at-put_apart}
use Rattle.cv_cut.specs.Cuts.{is_cut, is_marked, is_near, region}
use Rattle.cv_cut.specs.Catalogues.{catalogue_of, Fits, SharesKey}
use Rattle.cv_cut.proofs.CanonicalRules.{region_apart}
use Rattle.cv_cut.proofs.RegionLists.{inner_is}
use Rattle.cv_cut.proofs.Between.{marked-at}
use Rattle.cv_cut.proofs.Joined.{rest_behind}
use Rattle.cv_cut.proofs.Behind.{is_behind}
use Rattle.cv_cut.proofs.Trees.{cut-out, cut-in}
use Rattle.cv_cut.proofs.Holder.{apart_ways}
use Rattle.cv_cut.proofs.Upper.{is_same, is_longer, is_shorter, nested_ways, blocked, above_keys, above_full}
use Rattle.cv_cut.specs.Above.{Holds}
use Rattle.cv_cut.specs.Region.{KeysApart, Passes}
use Rattle.cv_cut.specs.Replaced.{IsPassed, IsSound, Replacing}

-- ---- who holds a path

-- the cut at c holds the path, or another cut stands between
pub passes_of : (t : Nodes) (p c r : Path) → p ≡ c ++ r → is_cut t c ≡ true → is_near (at t c) r ≡ false → (e : Path) × (f : Path) × Passes t p c r e f
passes_of t p c r is cut far =
    let b = is_behind (at t c) r far in
    let inner = inner_is (at t c) b.cut b.inner in
    let more : b.rest ≢ [] = λ none. (let r-is : r ≡ b.cut = b.is ∙ ap (λ (x : Path). b.cut ++ x) none ∙ append-nil b.cut in let wrong : true ≡ false = sym b.near ∙ ap (is_near (at t c)) (sym r-is) ∙ far in cc) in
    (b.cut, b.rest, record { is = is; cut = cut; way = record { is = b.is; some = inner.0; more = more; marked = inner.1 }; near = b.near })

cut_marked : (t : Nodes) (c x : Path) → x ≢ [] → is_cut t (c ++ x) ≡ true → is_marked (at t c) x ≡ true
cut_marked t c [] some cut = absurd (some refl)
cut_marked t [] (a ∷ x) some cut = sym (marked-at t [] (a ∷ x)) ∙ cut
cut_marked t (b ∷ c) (a ∷ x) some cut = sym (marked-at t (b ∷ c) (a ∷ x)) ∙ cut

-- one cut holds a path
pub one_holder : (t : Nodes) (p c r d v : Path) → Holds t p c r → Holds t p d v → c ≡ d
one_holder t p c r d v h g =
    elim (nested_ways c d r v (sym h.is ∙ g.is)) [
      | is_same is ↦ is
      | is_longer x some is ↦ absurd (between_them t p c r d v x h g some is)
      | is_shorter x some is ↦ absurd (between_them t p d v c r x g h some is)
    ]
  where
    tail : (c x v r : Path) → c ++ r ≡ (c ++ x) ++ v → r ≡ x ++ v
    tail [] x v r h = h
    tail (a ∷ c) x v r h = tail c x v r cc

    between_them : (t : Nodes) (p c r d v x : Path) → Holds t p c r → Holds t p d v → x ≢ [] → d ≡ c ++ x → ⊥
    between_them t p c r d v x h g some is =
        let rest : r ≡ x ++ v = tail c x v r (sym h.is ∙ g.is ∙ ap (λ (y : Path). y ++ v) is) in
        blocked (at t c) x v some g.some (cut_marked t c x some (subst (λ (y : Path). is_cut t y ≡ true) is g.cut)) (subst (λ (y : Path). is_near (at t c) y ≡ true) rest h.near)

-- ---- regions

sound_apart_ : (P : Type 0) (t : Nodes) → ((c : Path) → is_cut t c ≡ true → IsSound P t c) → (p q : Path) → SharesKey t p q → ⊥
sound_apart_ P t sound p q s =
    let keys = (sound s.cut s.is_cut_).keys in
    let one = some_there (get (at t s.cut) s.first.0) s.first.2 in
    let other = some_there (get (at t s.cut) s.second.0) s.second.2 in
    let same = keys.each s.first.0 s.second.0 one.0 other.0 (record { there = one.1; near = s.first.3 }) (record { there = other.1; near = s.second.3 })
    (ap key_of (sym s.first.1) ∙ s.keys ∙ ap key_of s.second.1) in
    s.differ (s.first.1 ∙ ap (λ (x : Path). s.cut ++ x) same ∙ sym s.second.1)

pub sound_fits : (t : Nodes) → ((c : Path) → is_cut t c ≡ true → IsSound (Unit {0}) t c) → Fits t
sound_fits t sound = record { apart = sound_apart_ (Unit {0}) t sound; limits = λ c full. (sound c full.is_cut_).fits tt full }

pub was_sound : (P : Type 0) (t : Nodes) (c : Path) → Fits t → is_cut t c ≡ true → IsSound P t c
was_sound P t c fits cut = record { keys = region_apart t c cut fits.apart; fits = λ _ full. fits.limits c full }

-- where the same stands at a cut, it is sound there as well
pub moved_sound : (P : Type 0) (t u : Nodes) (c : Path) → at t c ≡ at u c → is_cut u c ≡ true → IsSound P t c → IsSound P u c
moved_sound P t u c same cut s = record {
  keys = subst (KeysApart c) same s.keys;
  fits = λ p full. s.fits p (record {
    is_cut_ = was;
    passes = elim full.passes [
      | inl many ↦ inl (subst (λ (w : Nodes). 50000 < length (region w)) (sym same) many)
      | inr long ↦ inr (subst (λ (w : Nodes). 2 ^ 24 < length (catalogue_of c w)) (sym same) long)
    ];
  });
}
  where
    named : (c : Path) → at t c ≡ at u c → is_cut u c ≡ true → is_cut t c ≡ true
    named [] same cut = refl
    named (a ∷ c) same cut = ap (is_marked t) (sym (append-nil (a ∷ c))) ∙ marked-at t (a ∷ c) [] ∙ ap (λ (w : Nodes). is_marked w []) same ∙ sym (marked-at u (a ∷ c) []) ∙ ap (is_marked u) (append-nil (a ∷ c)) ∙ cut

    was : is_cut t c ≡ true
    was = named c same cut

-- ---- the tree afterwards

module _ (P : Type 0) (t n : Nodes) (p c r : Path) (g : Replacing t n p c r) where
  abbrev after : Nodes
  after = put t p (at n p)

  sound_below : (q : Path) → is_cut (put t p (at n p)) (p ++ q) ≡ true → IsSound P (put t p (at n p)) (p ++ q)
  sound_below q cut =
      let is = sym (cut-in t n p q) ∙ cut in
      let same : at n (p ++ q) ≡ at (put t p (at n p)) (p ++ q) = sym (at-at n p q) ∙ ap (λ (w : Nodes). at w q) (sym (at-put t p (at n p))) ∙ at-at (put t p (at n p)) p q in
      moved_sound P n (put t p (at n p)) (p ++ q) same cut (was_sound P n (p ++ q) g.fits_ is)

  sound_apart : (d : Path) → is_cut (put t p (at n p)) d ≡ true → covers p d ≡ false → covers d p ≡ false → IsSound P (put t p (at n p)) d
  sound_apart d cut out away =
      let is = sym (cut-out t p (at n p) d g.unmarked out) ∙ cut in
      moved_sound P t (put t p (at n p)) d (sym (at-put_apart t p d (at n p) (apart_ways p d out away))) cut (was_sound P t d g.fits is)

  sound_above : (d v : Path) → is_cut (put t p (at n p)) d ≡ true → covers p d ≡ false → p ≡ d ++ v → IsSound P (put t p (at n p)) c → IsSound P (put t p (at n p)) d
  sound_above d v cut out is here =
      let was = sym (cut-out t p (at n p) d g.unmarked out) ∙ cut in
      elim (is_near (at t d) v) as (λ b. is_near (at t d) v ≡ b → IsSound P (put t p (at n p)) d) [
        | true ↦ λ near.
            let some : v ≢ [] = λ none. (let wrong : true ≡ false = sym (covers_itself p) ∙ ap (covers p) (is ∙ ap (λ (x : Path). d ++ x) none ∙ append-nil d) ∙ out in cc) in
            let same_cut = one_holder t p c r d v g.holds (record { is = is; some = some; cut = was; near = near }) in
            subst (IsSound P (put t p (at n p))) same_cut here
        | false ↦ λ far.
            let way = passes_of t p d v is was far in
            let a : IsPassed t p (at n p) d v way.0 way.1 = record { tree = g.tree; after = g.after; unmarked = g.unmarked; passes = way.2; apart = region_apart t d was g.fits.apart } in
            record { keys = above_keys t p (at n p) d v way.0 way.1 a; fits = λ _ full. g.fits.limits d (above_full t p (at n p) d v way.0 way.1 a full) }
      ] refl

  pub all_sound : IsSound P (put t p (at n p)) c → (d : Path) → is_cut (put t p (at n p)) d ≡ true → IsSound P (put t p (at n p)) d
  all_sound here = (λ d cut.
      elim (covers p d) as (λ b. covers p d ≡ b → IsSound P (put t p (at n p)) d) [
        | true ↦ λ h. let b = rest_behind p d h in subst (IsSound P (put t p (at n p))) (sym b.1) (sound_below b.0 (subst (λ (x : Path). is_cut (put t p (at n p)) x ≡ true) b.1 cut))
        | false ↦ λ out. elim (covers d p) as (λ b. covers d p ≡ b → IsSound P (put t p (at n p)) d) [
          | true ↦ λ h. let b = rest_behind d p h in sound_above d b.0 cut out b.1 here
          | false ↦ λ away. sound_apart d cut out away
        ] refl
      ] refl)

-- it fits where the catalogue that directly holds the path does
pub fits_after : (t n : Nodes) (p c r : Path) → Replacing t n p c r → IsSound (Unit {0}) (put t p (at n p)) c → Fits (put t p (at n p))
fits_after t n p c r g here = sound_fits (put t p (at n p)) (all_sound (Unit {0}) t n p c r g here)

-- and no keys are shared where those of its region are apart
pub apart_after : (t n : Nodes) (p c r : Path) → Replacing t n p c r → KeysApart c (at (put t p (at n p)) c) → (a b : Path) → SharesKey (put t p (at n p)) a b → ⊥
apart_after t n p c r g here = sound_apart_ ⊥ (put t p (at n p)) (all_sound ⊥ t n p c r g (record { keys = here; fits = λ no_proof. absurd no_proof }))

-- at the root the whole tree is replaced
pub put-root : (t n : Nodes) → put t [] (at n []) ≡ n
put-root t n = same_map path_total path_exact _ _ (λ q. get-put t [] (at n []) q ∙ get-at n [] q)
