-- Paths by their last names, and what is between the root and a path.
use Rattle.std.proofs.Common.{◌≡◌, ◌≢◌, Bool, true, false, not, ◌&&◌, List, [], ◌∷◌, ◌++◌, map, refl, sym, ap, ◌∙◌, ◌⊎◌, inl, inr}
use Rattle.std.proofs.lemmas.List.{map-append}
use Rattle.std.proofs.lemmas.List.Folds.{list_all-append}
use Rattle.std.specs.List.{list_all}
use Rattle.cv_base.specs.Path.{Path, key_of, parent_key_of, last_name_of}
use Rattle.cv_base.proofs.Laws.{first_true, second_true, parent-append}
use Rattle.cv_tree.specs.Tree.{Nodes}
use Rattle.cv_cut.specs.Cuts.{between, is_near, is_marked}

-- a path is the root, or a path with one more name
pub record HasLast (q : Path) : Type 0 where
  pub front : Path
  pub name : List _
  pub is : q ≡ front ++ name ∷ []

pub root_or_last : (q : Path) → (q ≡ []) ⊎ HasLast q
root_or_last [] = inl refl
root_or_last (a ∷ q) =
    elim (root_or_last q) [
      | inl none ↦ inr (record { front = []; name = a; is = ap (λ (w : Path). a ∷ w) none })
      | inr l ↦ inr (record { front = a ∷ l.front; name = l.name; is = ap (λ (w : Path). a ∷ w) l.is })
    ]

pub some_last : (q : Path) → q ≢ [] → HasLast q
some_last q some = elim (root_or_last q) [ inl none ↦ absurd (some none) | inr l ↦ l ]

pub last_some : (q : Path) (a : List _) → q ++ a ∷ [] ≢ []
last_some [] a h = cc
last_some (b ∷ q) a h = cc

-- the parent key and the name of a path with one more name
pub parent_key-append : (q : Path) (a : List _) → parent_key_of (q ++ a ∷ []) ≡ key_of q
parent_key-append [] a = refl
parent_key-append (b ∷ q) a = ap key_of (parent-append (b ∷ q) a)

pub last_name-append : (q : Path) (a : List _) → last_name_of (q ++ a ∷ []) ≡ a
last_name-append [] a = refl
last_name-append (b ∷ []) a = refl
last_name-append (b ∷ c ∷ q) a = last_name-append (c ∷ q) a

-- what is above a path with one more name
pub between-append : (b : List _) (q : Path) (a : List _) → between (b ∷ q ++ a ∷ []) ≡ between (b ∷ q) ++ (b ∷ q) ∷ []
between-append b [] a = refl
between-append b (c ∷ q) a =
    ap (λ (w : List Path). (b ∷ []) ∷ map (λ (r : Path). b ∷ r) w) (between-append c q a)
    ∙ ap (λ (w : List Path). (b ∷ []) ∷ w) (map-append (λ (r : Path). b ∷ r) (between (c ∷ q)) ((c ∷ q) ∷ []))

-- a path with one more name is near where its parent is and isn't marked
near-append : (u : Nodes) (b : List _) (q : Path) (a : List _) → is_near u (b ∷ q ++ a ∷ []) ≡ (is_near u (b ∷ q) && (not (is_marked u (b ∷ q)) && true))
near-append u b q a =
    ap (list_all (λ r. not (is_marked u r))) (between-append b q a)
    ∙ list_all-append (λ r. not (is_marked u r)) (between (b ∷ q)) ((b ∷ q) ∷ [])

unmarked : (m : Bool) → (not m && true) ≡ true → m ≡ false
unmarked true h = cc
unmarked false h = refl

pub near_parent : (u : Nodes) (q : Path) (a : List _) → is_near u (q ++ a ∷ []) ≡ true → is_near u q ≡ true
near_parent u [] a h = refl
near_parent u (b ∷ q) a h = first_true (is_near u (b ∷ q)) _ (sym (near-append u b q a) ∙ h)

pub parent_unmarked : (u : Nodes) (q : Path) (a : List _) → is_near u (q ++ a ∷ []) ≡ true → q ≢ [] → is_marked u q ≡ false
parent_unmarked u [] a h some = absurd (some refl)
parent_unmarked u (b ∷ q) a h some = unmarked (is_marked u (b ∷ q)) (second_true (is_near u (b ∷ q)) _ (sym (near-append u b q a) ∙ h))

pub near_below : (u : Nodes) (q : Path) (a : List _) → is_near u q ≡ true → (q ≢ [] → is_marked u q ≡ false) → is_near u (q ++ a ∷ []) ≡ true
near_below u [] a h free = refl
near_below u (b ∷ q) a h free = near-append u b q a ∙ rw (h, free (λ e. cc)) refl

-- what is behind one path is one path
pub same_rest : (p a b : Path) → p ++ a ≡ p ++ b → a ≡ b
same_rest [] a b h = h
same_rest (x ∷ p) a b h = same_rest p a b cc
