-- What one hidden path, and one that isn't, tell of the next.
use Rattle.std.proofs.Common.{◌≡◌, ◌≢◌, Bool, true, false, List, ℕ, [], ◌∷◌, ◌++◌, refl, sym, ap, ◌∙◌}
use Rattle.std.specs.declared.option.Option.{Option}
use Rattle.std.specs.declared.option.Option.TheVariants.{None, Some}
use Rattle.std.specs.Prelude.{is_some, ◌==◌, length, Result, Ok, Err, IfOk}
use Rattle.cv_base.specs.Path.{Path, parent, last_name_of, behind, covers}
use Rattle.cv_base.proofs.Laws.{behind-Some, first_false}
use Rattle.cv_tree.specs.Tree.{Nodes}
use Rattle.cv_overlay.specs.Overlay.{hidden, hides}
use Rattle.cv_overlay.proofs.Over.{hidden-append, hidden-split}

pub behind_hidden : (c : Nodes) (p q : Path) → hidden c p ≡ true → covers p q ≡ true → true ≡ hidden c q
behind_hidden c p q h covered =
    elim (behind p q) as (λ (o : Option Path). behind p q ≡ o → is_some o ≡ true → true ≡ hidden c q) [
      | None ↦ λ _ e. cc
      | Some r ↦ λ is _. sym (ap (hidden c) (behind-Some p q r is) ∙ hidden-split c [] p r ∙ rw h refl)
    ] refl covered

pub front_shown : (c : Nodes) (p q : Path) → hidden c q ≡ false → covers p q ≡ true → hidden c p ≡ false
front_shown c p q h covered =
    elim (behind p q) as (λ (o : Option Path). behind p q ≡ o → is_some o ≡ true → hidden c p ≡ false) [
      | None ↦ λ _ e. cc
      | Some r ↦ λ is _. first_false _ _ (sym (hidden-split c [] p r) ∙ ap (hidden c) (sym (behind-Some p q r is)) ∙ h)
    ] refl covered

pub split_last : (q : Path) → q ≢ [] → q ≡ parent q ++ last_name_of q ∷ []
split_last [] some = absurd (some refl)
split_last (a ∷ []) some = refl
split_last (a ∷ b ∷ q) some = ap (λ (w : Path). a ∷ w) (split_last (b ∷ q) (λ e. cc))

-- behind a path that isn't hidden one step tells
pub one_step : (c : Nodes) (shown q : Path) → q ≢ [] → hidden c shown ≡ false → covers (parent q) shown ≡ true → hides c (parent q) (last_name_of q) ≡ hidden c q
one_step c shown q some h covered =
    sym (ap (hidden c) (split_last q some) ∙ hidden-append c [] (parent q) (last_name_of q) ∙ rw (front_shown c (parent q) shown h covered) refl)

pub some_path : (q names : Path) → names ≡ q → (length names == 0) ≡ false → q ≢ []
some_path q names same h e =
    let n : names ≡ [] = same ∙ e in
    let no : true ≡ false = sym (ap (λ (p : Path). length p == 0) n) ∙ h in cc

pub step_ok : {E : Type 0} (r : Result Bool E) (c : Nodes) (above shown q : Path) (name : List ℕ) → above ≡ parent q → name ≡ last_name_of q → q ≢ [] → hidden c shown ≡ false
    → covers above shown ≡ true → IfOk r (λ f. f ≡ hides c above name) → IfOk r (λ f. f ≡ hidden c q)
step_ok (Ok b) c above shown q name is last some h covered answer =
    answer ∙ ap (λ (w : Path). hides c w name) is ∙ ap (hides c (parent q)) last ∙ one_step c shown q some h (sym (ap (λ (w : Path). covers w shown) is) ∙ covered)
step_ok (Err e) c above shown q name is last some h covered answer = tt
