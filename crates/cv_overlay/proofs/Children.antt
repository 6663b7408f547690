-- The children of a directory by their names.
use Rattle.std.proofs.Common.{◌≡◌, true, false, List, ℕ, [], ◌∷◌, ◌++◌, is_some, refl, sym, ap, ◌∙◌, length, ◌<◌, ◌+◌, suc, drop, get_or, add-one, drop-cons}
use Rattle.std.specs.Prelude.{Result, Ok, Err}
use Rattle.std.specs.declared.option.Option.TheVariants.{None, Some}
use Rattle.std.specs.FinMap.{get}
use Rattle.cv_base.specs.Path.{Path, last_name_of}
use Rattle.cv_base.specs.PathText.{joined}
use Rattle.cv_base.specs.declared.path_fault.PathFault.{PathFault}
use Rattle.cv_base.proofs.Laws.{joined_path}
use Rattle.cv_tree.specs.Tree.{Nodes, IsTree}
use Rattle.cv_overlay.specs.Whiteout.{is_whiteout}
use Rattle.cv_overlay.specs.Overlay.{named, is_leaf, hides, hidden_from, hidden}
use Rattle.cv_tree.proofs.Laws.{joined-Ok}

pub last_of : (p : Path) (a : List ℕ) → last_name_of (p ++ a ∷ []) ≡ a
last_of [] a = refl
last_of (b ∷ []) a = refl
last_of (b ∷ c ∷ p) a = last_of (c ∷ p) a

-- no node has a path that isn't joined
pub none_joined : (t : Nodes) (p : Path) (name : List ℕ) (fault : PathFault) → IsTree t → joined p name ≡ Err fault → get t (p ++ name ∷ []) ≡ None
none_joined t p name fault h refused =
    elim (get t (p ++ name ∷ [])) as (λ o. get t (p ++ name ∷ []) ≡ o → o ≡ None) [
      | None ↦ λ _. refl
      | Some node ↦ λ there. let ok = joined_path p name (h.part.paths (p ++ name ∷ []) (ap is_some there)) in
          let no : ◌≡◌ {A = Result Path PathFault} (Ok (p ++ name ∷ [])) (Err fault) = sym ok ∙ refused in cc
    ] refl

-- a whiteout is nothing that the folder puts
pub whiteout_unnamed : (c : Nodes) (p : Path) (name : List ℕ) → is_whiteout name ≡ true → is_leaf (named c (p ++ name ∷ [])) ≡ false
whiteout_unnamed c p name h = rw (last_of p name, h) refl

pub other_named : (c : Nodes) (p : Path) (name : List ℕ) → is_whiteout name ≡ false → named c (p ++ name ∷ []) ≡ get c (p ++ name ∷ [])
other_named c p name h = rw (last_of p name, h) refl

pub refused_child : (t : Nodes) (p : Path) (name : List ℕ) (fault : PathFault) → IsTree t → Err fault ≡ joined p name → None ≡ get t (p ++ name ∷ [])
refused_child t p name fault h e = sym (none_joined t p name fault h (sym e))

-- one name more on the way
pub next_hidden : (c : Nodes) (above longer path : Path) (i : ℕ) (name : List ℕ) → Ok longer ≡ joined above name → hides c above name ≡ false → i < length path → name ≡ get_or path i name
    → hidden_from c above (drop i path) ≡ hidden c path → hidden_from c longer (drop (i + 1) path) ≡ hidden c path
next_hidden c above longer path i name join shown more is h =
    let split : drop i path ≡ name ∷ drop (i + 1) path = rw add-one (drop-cons path i name more ∙ ap (λ w. w ∷ drop (suc i) path) (sym is)) in
    let all : hidden_from c above (name ∷ drop (i + 1) path) ≡ hidden c path = ap (hidden_from c above) (sym split) ∙ h in
    rw (joined-Ok above name longer join) (rw shown at all)
