-- Events as they are put in order.
use Rattle.std.proofs.Common.{◌≡◌, ℕ, ◌+◌, suc, Bool, true, false, cond, List, [], ◌∷◌, ◌++◌, take, drop, refl, sym, ap, ◌∙◌, arith}
use Rattle.cv_ports.specs.declared.folder.FolderItem.{FolderItem}
use Rattle.cv_overlay.specs.declared.event.Event.{Event}
use Rattle.cv_overlay.specs.declared.event.Event.TheVariants.{Below}
use Rattle.cv_base.specs.Path.{with_slash}
use Rattle.cv_overlay.specs.EventsInner.{goes_before, place_in, put_below, placed, placed_all}

-- the walk of a directory at its place
pub put_at : (name : List ℕ) (es : List Event) → take (place_in (with_slash name) es) es ++ Below name ∷ drop (place_in (with_slash name) es) es ≡ put_below name es
put_at name [] = refl
put_at name (e ∷ es) =
    elim (goes_before (with_slash name) e) as (λ (b : Bool). take (cond b 0 (1 + place_in (with_slash name) es)) (e ∷ es) ++ Below name ∷ drop (cond b 0 (1 + place_in (with_slash name) es)) (e ∷ es) ≡ cond b (Below name ∷ e ∷ es) (e ∷ put_below name es)) [
      | true ↦ refl
      | false ↦ let one : 1 + place_in (with_slash name) es ≡ suc (place_in (with_slash name) es) = omega arith in rw one (ap (λ (l : List Event). e ∷ l) (put_at name es))
    ]

pub put_is : (key name copy : List ℕ) (place : ℕ) (old new : List Event) → key ≡ with_slash name → place ≡ place_in key old → copy ≡ name
    → new ≡ take place old ++ Below copy ∷ drop place old → new ≡ put_below name old
put_is key name copy place old new k p c is = is ∙ rw (p, k, c) (put_at name old)

-- an item more before the events
pub placed_last : (items : List FolderItem) (item : FolderItem) (es : List Event) → placed_all (items ++ item ∷ []) es ≡ placed_all items (placed item es)
placed_last [] item es = refl
placed_last (first ∷ items) item es = ap (placed first) (placed_last items item es)

pub one_placed : (all left : List FolderItem) (item : FolderItem) (es after now : List Event) → all ≡ left ++ item ∷ [] → after ≡ placed item es
    → placed_all all es ≡ now → placed_all left after ≡ now
one_placed all left item es after now split is h = ap (placed_all left) is ∙ sym (placed_last left item es) ∙ ap (λ (l : List FolderItem). placed_all l es) (sym split) ∙ h
