-- How many cuts are left.
use Rattle.std.proofs.Common.{◌≡◌, ◌≢◌, ℕ, ◌<◌, ◌≤◌, Bool, true, false, cond, List, [], ◌∷◌, ◌++◌, length, refl, sym, ap, subst, ◌∙◌, arith, inl, inr}
use Rattle.std.specs.Prelude.{Contains, filter}
use Rattle.std.proofs.lemmas.Bool.{and_from, and_parts, false_from_ne_true, or_left, or_right}
use Rattle.std.proofs.lemmas.List.Elements.{Contains-append_cases}
use Rattle.cv_base.specs.Path.{Path, covers, overlap}
use Rattle.cv_base.proofs.Laws.{covers_itself}
use Rattle.cv_tree.specs.Tree.{Nodes}
use Rattle.cv_cut.specs.Cuts.{cuts_of}
use Rattle.cv_cut.specs.Catalogues.{contents_of}
use Rattle.cv_cut.specs.Own.{AreOwn}
use Rattle.cv_cut.proofs.Lemmas.{first_or_later, none_there, cut_of_tree}
use Rattle.cv_checkout.specs.Wanting.{is_covered}
use Rattle.cv_checkout.specs.Progress.{Progress}
use Rattle.cv_checkout.specs.Giving.{Takes}
use Rattle.cv_checkout.specs.InTree.{AreApart, IsOn, cuts_toward, is_left, left_in}
use Rattle.cv_checkout.specs.declared.wanted.Wanted.{Wanted}
use Rattle.cv_checkout.proofs.Covering.{below_place, coverer, covered_by, named_of}
use Rattle.cv_checkout.proofs.Coming.{TakenIn, taken_in}

-- ---- tests that fewer pass

module _ {X : Type 0} (f g : X → Bool) (weaker : (x : X) → f x ≡ true → g x ≡ true) where
  pub no_more : (xs : List X) → length (filter f xs) ≤ length (filter g xs)
  no_more [] = omega arith
  no_more (x ∷ xs) = by (f x) refl (no_more xs)
    where
      by : (b : Bool) → f x ≡ b → length (filter f xs) ≤ length (filter g xs) → length (filter f (x ∷ xs)) ≤ length (filter g (x ∷ xs))
      by true h le = rw (h, weaker x h) (omega arith)
      by false h le = rw h (elim (g x) as (λ b. length (filter f xs) ≤ length (cond b (x ∷ filter g xs) (filter g xs))) [
        | true ↦ omega arith
        | false ↦ le
      ])

  pub fewer : (xs : List X) (x : X) → Contains xs x → g x ≡ true → f x ≡ false → length (filter f xs) < length (filter g xs)
  fewer [] x has passed failed = absurd (none_there x has)
  fewer (y ∷ xs) x has passed failed = elim (first_or_later y xs x has) [
    | inl same ↦ rw (ap g same ∙ passed, ap f same ∙ failed) (let le = no_more xs in omega arith)
    | inr later ↦ by (f y) refl (fewer xs x later passed failed)
  ]
    where
      by : (b : Bool) → f y ≡ b → length (filter f xs) < length (filter g xs) → length (filter f (y ∷ xs)) < length (filter g (y ∷ xs))
      by true h less = rw (h, weaker y h) (omega arith)
      by false h less = rw h (elim (g y) as (λ b. length (filter f xs) < length (cond b (y ∷ filter g xs) (filter g xs))) [
        | true ↦ omega arith
        | false ↦ less
      ])

-- ---- cuts

-- at most all of them are left
pub most : (t : Nodes) (s : Progress) → left_in t s ≤ length (cuts_toward t s.path)
most t s = no_more (is_left s) (λ c. overlap s.path c) (λ c h. (and_parts (overlap s.path c) (is_covered s.wanted c) h).0) (cuts_of t)

module _ (t : Nodes) (s new : Progress) (bytes : List ℕ) (on : IsOn t s) (takes : Takes s bytes new) (i : TakenIn t s takes) where
  abbrev c : Path
  c = takes.first.path

  under_named : (q : Path) → is_covered takes.named q ≡ true → (covers c q ≡ true) × (q ≢ c)
  under_named q h =
      let w = coverer takes.named q h in
      below_place (contents_of t c) s.path q w.0 i.wanted.decodes.is (named_of (contents_of t c) s.path takes.named i.names w.0 w.1) w.2

  now_covered : (q : Path) → is_covered new.wanted q ≡ true → is_covered (takes.named ++ takes.rest) q ≡ true
  now_covered q h = subst (λ (ws : List Wanted). is_covered ws q ≡ true) takes.wanted_is h

  before_covered : (q : Path) → is_covered (takes.first ∷ takes.rest) q ≡ true → is_covered s.wanted q ≡ true
  before_covered q h = subst (λ (ws : List Wanted). is_covered ws q ≡ true) (sym takes.is) h

  -- what is covered afterwards was covered
  pub still_covered : (q : Path) → is_covered new.wanted q ≡ true → is_covered s.wanted q ≡ true
  still_covered q h =
      let w = coverer (takes.named ++ takes.rest) q (now_covered q h) in
      before_covered q (elim (Contains-append_cases takes.named takes.rest w.0 w.1) [
        | inl named ↦ or_left (covers c q) (is_covered takes.rest q) (under_named q (covered_by takes.named w.0 q named w.2)).0
        | inr rest ↦ or_right (covers c q) (is_covered takes.rest q) (covered_by takes.rest w.0 q rest w.2)
      ])

  -- and the cut itself isn't any more
  pub gone : is_covered new.wanted c ≡ true → ⊥
  gone h =
      let w = coverer (takes.named ++ takes.rest) c (now_covered c h) in
      elim (Contains-append_cases takes.named takes.rest w.0 w.1) [
        | inl named ↦ (under_named c (covered_by takes.named w.0 c named w.2)).1 refl
        | inr rest ↦ (subst AreApart takes.is on.apart).0 w.0 rest (or_right (covers c w.0.path) (covers w.0.path c) w.2)
      ]

  weaker : (q : Path) → is_left new q ≡ true → is_left s q ≡ true
  weaker q h =
      let both = and_parts (overlap new.path q) (is_covered new.wanted q) h in
      and_from (overlap s.path q) (is_covered s.wanted q) (subst (λ (p : Path). overlap p q ≡ true) takes.path_is both.0) (still_covered q both.1)

  pub falls : left_in t new < left_in t s
  falls =
      fewer (is_left new) (is_left s) weaker (cuts_of t) c (cut_of_tree t c on.tree i.wanted.toward.cut)
      (and_from (overlap s.path c) (is_covered s.wanted c) i.wanted.toward.near (before_covered c (or_left (covers c c) (is_covered takes.rest c) (covers_itself c))))
      (false_from_ne_true (is_left new c) (λ h. gone (and_parts (overlap new.path c) (is_covered new.wanted c) h).1))

-- a catalogue that is taken leaves fewer
pub leaves_fewer : (t : Nodes) (s new : Progress) (bytes : List ℕ) → IsOn t s → AreOwn t (bytes ∷ []) → Takes s bytes new → left_in t new < left_in t s
leaves_fewer t s new bytes on own takes = falls t s new bytes on takes (taken_in t s new bytes on own takes)

-- it is never wanted again
pub wanted_once : (t : Nodes) (s new : Progress) (bytes : List ℕ) → IsOn t s → AreOwn t (bytes ∷ []) → (takes : Takes s bytes new) → is_covered new.wanted takes.first.path ≡ false
wanted_once t s new bytes on own takes = false_from_ne_true (is_covered new.wanted takes.first.path) (gone t s new bytes on takes (taken_in t s new bytes on own takes))

pub not_again : (t : Nodes) (s new : Progress) (bytes : List ℕ) (q : Path) → IsOn t s → AreOwn t (bytes ∷ []) → Takes s bytes new → is_covered s.wanted q ≡ false → is_covered new.wanted q ≡ false
not_again t s new bytes q on own takes free =
    false_from_ne_true (is_covered new.wanted q) (λ h. let wrong : true ≡ false = sym (still_covered t s new bytes on takes (taken_in t s new bytes on own takes) q h) ∙ free in cc)
