-- A pair is added to a known set.
use Rattle.std.proofs.Common.{◌≡◌, ℕ, Bool, true, false, cond, List, [], Option, Some, Ok, Err, Result, refl, sym, ap, subst, ◌∙◌, inl, inr}
use Rattle.std.specs.Prelude.{◌⊎◌, OnErr}
use Rattle.std.specs.Ordering.{eq_by_cmp, is_eq}
use Rattle.std.specs.Cmp.{tied_itself}
use Rattle.std.specs.BTreeSet.{BTreeSet, contains}
use Rattle.std.specs.BTreeMap.{BTreeMap}
use Rattle.std.specs.BTreeMap as tree
use Rattle.cv_base.specs.BytesOrder.{bytes_cmp}
use Rattle.cv_base.specs.Path.{Path, path_cmp}
use Rattle.cv_base.specs.declared.id.ObjectId.{ObjectId}
use Rattle.cv_base.proofs.Laws.{path_total, same_name_is, same_name_itself, same_path_is}
use Rattle.cv_load.specs.declared.known_set.KnownSet.{KnownSet}
use Rattle.cv_ports.specs.Shelf.{Shelf, HasMore}
use Rattle.cv_load.proofs.GoodLaws.{good_more}
use Rattle.cv_load.specs.Known.{knows, with_pair, is_known, HasPair, AreKnown, IsWholePair, AreWhole}
use Rattle.cv_load.proofs.Growing.{each_all}
use Rattle.cv_cut.specs.Good.{IsWholeAt}

abbrev pub Paths : Type 0
Paths = BTreeMap Path (BTreeSet (List ℕ))

pub on_err : {X E A B : Type 0} (r : Result X E) → (A → B) → OnErr r A → OnErr r B
on_err (Ok x) f a = tt
on_err (Err e) f a = f a

-- a hash comes to a set of none
pub first_hash : (hash : List ℕ) (none more : BTreeSet (List ℕ)) → none.keys ≡ []
    → ((h : List ℕ) → contains bytes_cmp more h ≡ cond (eq_by_cmp bytes_cmp hash h) true (contains bytes_cmp none h)) → (h : List ℕ) → contains bytes_cmp more h ≡ cond (eq_by_cmp bytes_cmp hash h) true false
first_hash hash none more empty has h = has h ∙ ap (λ (ks : List (List ℕ)). cond (eq_by_cmp bytes_cmp hash h) true (contains bytes_cmp (record { keys = ks }) h)) empty

module _ (old new : Paths) (path : Path) (o : Option (BTreeSet (List ℕ))) (more : BTreeSet (List ℕ)) (value : o ≡ tree.get path_cmp old path) (updates : tree.UpdatesBy path_cmp (path_cmp path) old new (Some more)) where
  -- the path has one hash more
  pub pair_added : (hash : List ℕ) → ((h : List ℕ) → contains bytes_cmp more h ≡ cond (eq_by_cmp bytes_cmp hash h) true (knows o h))
      → (h : List ℕ) (p : Path) → knows (tree.get path_cmp new p) h ≡ with_pair hash path h p (knows (tree.get path_cmp old p) h)
  pair_added hash has h p = ap (λ (x : Option (BTreeSet (List ℕ))). knows x h) (updates.0 p) ∙ go (eq_by_cmp path_cmp path p) refl
    where
      go : (b : Bool) → eq_by_cmp path_cmp path p ≡ b → knows (cond b (Some more) (tree.get path_cmp old p)) h ≡ cond b (cond (eq_by_cmp bytes_cmp hash h) true (knows (tree.get path_cmp old p) h)) (knows (tree.get path_cmp old p) h)
      go true e = has h ∙ ap (λ (x : Option (BTreeSet (List ℕ))). cond (eq_by_cmp bytes_cmp hash h) true (knows x h)) (value ∙ ap (tree.get path_cmp old) (same_path_is path p e))
      go false e = refl

  -- or the hashes that it had
  pub pair_kept : ((h : List ℕ) → contains bytes_cmp more h ≡ knows o h) → (h : List ℕ) (p : Path) → knows (tree.get path_cmp new p) h ≡ knows (tree.get path_cmp old p) h
  pair_kept has h p = ap (λ (x : Option (BTreeSet (List ℕ))). knows x h) (updates.0 p) ∙ go (eq_by_cmp path_cmp path p) refl
    where
      go : (b : Bool) → eq_by_cmp path_cmp path p ≡ b → knows (cond b (Some more) (tree.get path_cmp old p)) h ≡ knows (tree.get path_cmp old p) h
      go true e = has h ∙ ap (λ (x : Option (BTreeSet (List ℕ))). knows x h) (value ∙ ap (tree.get path_cmp old) (same_path_is path p e))
      go false e = refl

-- ---- what is known with one pair more

-- it was known, or is that pair
pub with_pair_is : (hash : List ℕ) (path : Path) (h : List ℕ) (p : Path) (was : Bool) → with_pair hash path h p was ≡ true → (was ≡ true) ⊎ ((hash ≡ h) × (path ≡ p))
with_pair_is hash path h p was = at_path (eq_by_cmp path_cmp path p) refl
  where
    at_hash : path ≡ p → (b : Bool) → eq_by_cmp bytes_cmp hash h ≡ b → cond b true was ≡ true → (was ≡ true) ⊎ ((hash ≡ h) × (path ≡ p))
    at_hash same true e is = inr (same_name_is hash h e, same)
    at_hash same false e is = inl is

    at_path : (b : Bool) → eq_by_cmp path_cmp path p ≡ b → cond b (cond (eq_by_cmp bytes_cmp hash h) true was) was ≡ true → (was ≡ true) ⊎ ((hash ≡ h) × (path ≡ p))
    at_path true e is = at_hash (same_path_is path p e) (eq_by_cmp bytes_cmp hash h) refl is
    at_path false e is = inl is

pub with_pair_itself : (hash : List ℕ) (path : Path) (was : Bool) → with_pair hash path hash path was ≡ true
with_pair_itself hash path was = ap (λ b. cond b (cond (eq_by_cmp bytes_cmp hash hash) true was) was) (ap is_eq (tied_itself path_total path)) ∙ ap (λ b. cond b true was) (same_name_itself hash)

pub with_pair_kept : (hash : List ℕ) (path : Path) (h : List ℕ) (p : Path) (was : Bool) → was ≡ true → with_pair hash path h p was ≡ true
with_pair_kept hash path h p was e = go (eq_by_cmp path_cmp path p) (eq_by_cmp bytes_cmp hash h)
  where
    go : (b c : Bool) → cond b (cond c true was) was ≡ true
    go true true = refl
    go true false = e
    go false c = e

-- ---- known pairs stay whole

pub known_more : (old new : Shelf) (known : KnownSet) → HasMore old new → AreKnown old known → AreKnown new known
known_more old new known more all = λ h p told. good_more new more (all h p told)

pub known_with : (shelf : Shelf) (old new : KnownSet) (hash : List ℕ) (path : Path) → IsWholeAt shelf hash path → ((h : List ℕ) (p : Path) → is_known new h p ≡ with_pair hash path h p (is_known old h p)) → AreKnown shelf old → AreKnown shelf new
known_with shelf old new hash path whole added all h p told = elim (with_pair_is hash path h p (is_known old h p) (sym (added h p) ∙ told)) [
  | inl was ↦ all h p was
  | inr same ↦ subst (λ (x : List ℕ). IsWholeAt shelf x p) same.0 (subst (λ (x : Path). IsWholeAt shelf hash x) same.1 whole)
]

-- pairs that are whole are added
pub known_with_all : (shelf : Shelf) (old new : KnownSet) (pairs : List (ObjectId × Path)) → AreWhole shelf pairs → ((h : List ℕ) (p : Path) → is_known new h p ≡ true → (is_known old h p ≡ true) ⊎ HasPair pairs h p) → AreKnown shelf old → AreKnown shelf new
known_with_all shelf old new pairs whole only all h p told = elim (only h p told) [
  | inl was ↦ all h p was
  | inr has ↦ subst (λ (x : List ℕ). IsWholeAt shelf x p) has.hash_ (subst (λ (x : Path). IsWholeAt shelf has.pair.0.hash x) has.path_ (each_all (IsWholePair shelf) pairs whole has.pair has.among).whole)
]
