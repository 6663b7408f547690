-- Paths that are not near a cut stand behind another cut of its region.
use Rattle.std.proofs.Common.{◌≡◌, Bool, true, false, not, ◌&&◌, List, [], ◌∷◌, ◌++◌, map, IsTrue, refl, sym, ap, ◌∙◌}
use Rattle.std.specs.List.{list_all}
use Rattle.std.proofs.lemmas.List.Folds.{list_all-map}
use Rattle.cv_base.specs.Path.{Path}
use Rattle.cv_tree.specs.Tree.{Nodes}
use Rattle.cv_cut.specs.Cuts.{is_marked, between, is_near, is_inner}

-- the path has a first place properly between that passes the test, and none before it
record HasFirst (test : Path → Bool) (q : Path) : Type 0 where
  name : List _
  names : Path
  rest : Path
  is : q ≡ (name ∷ names) ++ rest
  passes : test (name ∷ names) ≡ true
  none : list_all (λ r. not (test r)) (between (name ∷ names)) ≡ true

further : (test : Path → Bool) (a b : List _) (names : Path) → test (a ∷ []) ≡ false → list_all (λ r. not (test (a ∷ r))) (between (b ∷ names)) ≡ true
    → list_all (λ r. not (test r)) (between (a ∷ b ∷ names)) ≡ true
further test a b names fails none = rw (fails, list_all-map (λ r. not (test r)) (λ r. a ∷ r) (between (b ∷ names))) none

has_first : (test : Path → Bool) (q : Path) → list_all (λ r. not (test r)) (between q) ≡ false → HasFirst test q
has_first test [] h = cc
has_first test (a ∷ []) h = cc
has_first test (a ∷ b ∷ q) h =
    elim (test (a ∷ [])) as (λ t. test (a ∷ []) ≡ t → (not t && list_all (λ r. not (test r)) (map (λ r. a ∷ r) (between (b ∷ q)))) ≡ false → HasFirst test (a ∷ b ∷ q)) [
      | true ↦ λ e _. record { name = a; names = []; rest = b ∷ q; is = refl; passes = e; none = refl }
      | false ↦ λ e rest.
          let f = has_first (λ r. test (a ∷ r)) (b ∷ q) (sym (list_all-map (λ r. not (test r)) (λ r. a ∷ r) (between (b ∷ q))) ∙ rest) in
          record {
            name = a;
            names = f.name ∷ f.names;
            rest = f.rest;
            is = ap (λ (w : Path). a ∷ w) f.is;
            passes = f.passes;
            none = further test a f.name f.names e f.none;
          }
    ] refl h

-- a path that is not near stands behind another cut of the region
pub record IsBehind (u : Nodes) (q : Path) : Type 0 where
  pub cut : Path
  pub rest : Path
  pub is : q ≡ cut ++ rest
  pub inner : IsTrue (is_inner u cut)
  pub near : IsTrue (is_near u cut)

pub is_behind : (u : Nodes) (q : Path) → is_near u q ≡ false → IsBehind u q
is_behind u q h =
    let f = has_first (is_marked u) q h in
    record { cut = f.name ∷ f.names; rest = f.rest; is = f.is; inner = f.passes; near = f.none }
