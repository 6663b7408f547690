-- The walk of a directory, event by event.
use Rattle.std.proofs.Common.{◌≡◌, ℕ, suc, ◌+◌, ◌-◌, ◌≤◌, Bool, true, cond, inl, inr, List, [], ◌∷◌, ◌++◌, length, sym, ap, subst, ◌∙◌, append-nil, append_assoc, arith}
use Rattle.std.specs.Prelude.{Result, Ok, Err}
use Rattle.cv_base.specs.Path.{Path, IsPath}
use Rattle.cv_base.specs.Sequence.{◌>>=◌}
use Rattle.cv_ports.specs.declared.folder.FolderItem.{FolderItem}
use Rattle.cv_ports.specs.Folder.{FolderView, IsOrdered}
use Rattle.cv_tree.specs.Changes.{FitsUnder}
use Rattle.cv_overlay.specs.declared.event.Event.{Event}
use Rattle.cv_overlay.specs.declared.event.Event.TheVariants.{Item, Below}
use Rattle.cv_overlay.specs.Walk.{Visit, takes, Reads}
use Rattle.cv_overlay.specs.Changes.{ChangesView}
use Rattle.cv_overlay.specs.EventsInner.{placed_all, visits_of, visits_deep}
use Rattle.cv_overlay.specs.FoundInner.{FoundView, step, run, Ends, IsWithin}
use Rattle.cv_overlay.specs.declared.read_fault.ReadFault.{ReadFault}
use Rattle.cv_overlay.specs.declared.read_fault.ReadFault.TheVariants as faults
use Rattle.cv_overlay.proofs.Limits.{takes_path, takes_depth}
use Rattle.cv_overlay.proofs.Runs.{run-append, nothing_found, all_read, first_read}

deep_is : (left : ℕ) (f : FolderView) (at p : Path) → visits_deep (left + 1) f at p ≡ visits_of (visits_deep left f at) at p (placed_all (f.items p) [])
unfolding visits_deep
deep_is left f at p = ap (λ (n : ℕ). visits_deep n f at p) (let e : left + 1 ≡ suc left = omega arith in e)

-- the directory was listed
pub listed : (left : ℕ) (f : FolderView) (at p : Path) (items : List FolderItem) (events : List Event) (s : FoundView) → items ≡ f.items p → events ≡ placed_all items []
    → run f at (visits_of (visits_deep left f at) at p events) s ≡ run f at (visits_deep (left + 1) f at p) s
listed left f at p items events s is order =
    ap (λ (es : List Event). run f at (visits_of (visits_deep left f at) at p es) s) (order ∙ ap (λ (l : List FolderItem). placed_all l []) is) ∙ ap (λ (vs : List Visit). run f at vs s) (sym (deep_is left f at p))

-- an item was visited
pub item_visited : (deeper : Path → List Visit) (f : FolderView) (at p : Path) (es rest : List Event) (item : FolderItem) (s t : FoundView) (end : Result FoundView ReadFault) → es ≡ Item item ∷ rest
    → step f at (record { above = p; item = item }) s ≡ Ok t → run f at (visits_of deeper at p es) s ≡ end → run f at (visits_of deeper at p rest) t ≡ end
item_visited deeper f at p es rest item s t end is one h =
    sym (ap (λ (r : Result FoundView ReadFault). r >>= run f at (visits_of deeper at p rest)) one) ∙ sym (ap (λ (w : List Event). run f at (visits_of deeper at p w) s) is) ∙ h

ends_here : (fault : ReadFault) (r end : Result FoundView ReadFault) (next : FoundView → Result FoundView ReadFault) → Ends (Err fault) r → (r >>= next) ≡ end → Ends (Err fault) end
ends_here faults.Failed r end next h e = tt
ends_here faults.NoMemory r end next h e = tt
ends_here (faults.Special q) r end next h e = sym e ∙ ap (λ (x : Result FoundView ReadFault). x >>= next) h
ends_here (faults.BadName q) r end next h e = sym e ∙ ap (λ (x : Result FoundView ReadFault). x >>= next) h
ends_here (faults.TooLarge q) r end next h e = sym e ∙ ap (λ (x : Result FoundView ReadFault). x >>= next) h

-- a directory in it was walked
below_is : (deeper : Path → List Visit) (f : FolderView) (at p : Path) (es rest : List Event) (name : List ℕ) (s : FoundView) → es ≡ Below name ∷ rest → takes (at ++ p) name ≡ true
    → run f at (visits_of deeper at p es) s ≡ (run f at (deeper (p ++ name ∷ [])) s >>= run f at (visits_of deeper at p rest))
below_is deeper f at p es rest name s is taken =
    ap (λ (w : List Event). run f at (visits_of deeper at p w) s) is
    ∙ ap (λ (b : Bool). run f at (cond b (deeper (p ++ name ∷ [])) [] ++ visits_of deeper at p rest) s) taken
    ∙ run-append f at (deeper (p ++ name ∷ [])) (visits_of deeper at p rest) s

pub below_walked : (deeper : Path → List Visit) (f : FolderView) (at p : Path) (es rest : List Event) (name : List ℕ) (s t : FoundView) (end : Result FoundView ReadFault) → es ≡ Below name ∷ rest → takes (at ++ p) name ≡ true
    → run f at (deeper (p ++ name ∷ [])) s ≡ Ok t → run f at (visits_of deeper at p es) s ≡ end → run f at (visits_of deeper at p rest) t ≡ end
below_walked deeper f at p es rest name s t end is taken one h =
    sym (ap (λ (r : Result FoundView ReadFault). r >>= run f at (visits_of deeper at p rest)) one) ∙ sym (below_is deeper f at p es rest name s is taken) ∙ h

pub below_refused : (deeper : Path → List Visit) (f : FolderView) (at p : Path) (es rest : List Event) (name : List ℕ) (s : FoundView) (fault : ReadFault) (end : Result FoundView ReadFault) → es ≡ Below name ∷ rest → takes (at ++ p) name ≡ true
    → Ends (Err fault) (run f at (deeper (p ++ name ∷ [])) s) → run f at (visits_of deeper at p es) s ≡ end → Ends (Err fault) end
below_refused deeper f at p es rest name s fault end is taken one h =
    ends_here fault _ end (run f at (visits_of deeper at p rest)) one (sym (below_is deeper f at p es rest name s is taken) ∙ h)

-- the same, as the walk of the directory says it, one level less deep
pub as_deeper : (left : ℕ) (f : FolderView) (at p q : Path) (name : List ℕ) (s : FoundView) (r : Result FoundView ReadFault) → 1 ≤ left → q ≡ p ++ name ∷ []
    → Ends r (run f at (visits_deep ((left - 1) + 1) f at q) s) → Ends r (run f at (visits_deep left f at (p ++ name ∷ [])) s)
as_deeper left f at p q name s r some is h =
    let same : (left - 1) + 1 ≡ left = omega arith in
    subst (λ (w : Path). Ends r (run f at (visits_deep left f at w) s)) is (subst (λ (n : ℕ). Ends r (run f at (visits_deep n f at q) s)) same h)

pub place_below : (published at p next q : Path) (name : List ℕ) → published ≡ at ++ p → next ≡ published ++ name ∷ [] → q ≡ p ++ name ∷ [] → next ≡ at ++ q
place_below published at p next q name place n is = n ∙ ap (λ (w : Path). w ++ name ∷ []) place ∙ append_assoc at p (name ∷ []) ∙ ap (λ (w : Path). at ++ w) (sym is)

-- each path keeps the limits behind the published one
pub fits_more : (published at p : Path) (name : List ℕ) (s t : FoundView) → published ≡ at ++ p → IsPath published → takes published name ≡ true → IsWithin (p ++ name ∷ []) s (Ok t) → FitsUnder at s.nodes → FitsUnder at t.nodes
fits_more published at p name s t place is taken more fits = λ q some. elim (more q some) [
  | inl new ↦ subst IsPath (ap (λ (w : Path). w ++ name ∷ []) place ∙ append_assoc at p (name ∷ []) ∙ ap (λ (w : Path). at ++ w) (sym new)) (takes_path published name is taken)
  | inr old ↦ fits q old
]

-- a path that takes a name has one level more below it
pub some_left : (published : Path) (name : List ℕ) (left : ℕ) → left + length published ≡ 64 → takes published name ≡ true → 1 ≤ left
some_left published name left e taken = omega (arith, e, takes_depth published name taken)

pub takes_so : (published : Path) (text name : List ℕ) (b : Bool) → b ≡ takes published text → text ≡ name → b ≡ true → takes published name ≡ true
takes_so published text name b is same so = ap (takes published) (sym same) ∙ sym is ∙ so

-- the walk from the folder on
pub from_root : (left : ℕ) (f : FolderView) (at root : Path) (s : FoundView) (r : Result FoundView ReadFault) → root ≡ [] → Ends r (run f at (visits_deep (left + 1) f at root) s) → Ends r (run f at (visits_deep (suc left) f at []) s)
from_root left f at root s r is h =
    let one : left + 1 ≡ suc left = omega arith in
    subst (λ (n : ℕ). Ends r (run f at (visits_deep n f at []) s)) one (subst (λ (w : Path). Ends r (run f at (visits_deep (left + 1) f at w) s)) is h)

pub root_place : (at root : Path) → root ≡ [] → at ≡ at ++ root
root_place at root is = sym (append-nil at) ∙ ap (λ (w : Path). at ++ w) (sym is)

fuel_is : (at : Path) → IsPath at → (64 - length at) + length at ≡ 64
fuel_is at is = omega (arith, is.depth)

as_named : (f : FolderView) (at root names : Path) (s : FoundView) (r : Result FoundView ReadFault) → names ≡ at → root ≡ []
    → Ends r (run f at (visits_deep ((64 - length names) + 1) f at root) s) → Ends r (run f at (visits_deep (suc (64 - length at)) f at []) s)
as_named f at root names s r same is h =
    from_root (64 - length at) f at root s r is (subst (λ (w : Path). Ends r (run f at (visits_deep ((64 - length w) + 1) f at root) s)) same h)

-- what reading answers of the walk from the folder on
pub read_whole : (f : FolderView) (at root names : Path) (s t : FoundView) (c : ChangesView) → names ≡ at → IsPath at → root ≡ [] → s ≡ nothing_found → IsOrdered f
    → Ends (Ok t) (run f at (visits_deep ((64 - length names) + 1) f at root) s) → c.nodes ≡ t.nodes → c.objects ≡ t.objects → Reads at (Ok c) f
read_whole f at root names s t c same is root_is start h ends nodes objects =
    all_read (64 - length at) f at s t c start h is (fuel_is at is) (as_named f at root names s (Ok t) same root_is ends) nodes objects

pub read_first : (f : FolderView) (at root names : Path) (s : FoundView) (fault : ReadFault) → names ≡ at → IsPath at → root ≡ [] → s ≡ nothing_found → IsOrdered f
    → Ends (Err fault) (run f at (visits_deep ((64 - length names) + 1) f at root) s) → Reads at (Err fault) f
read_first f at root names s fault same is root_is start h ends =
    first_read (64 - length at) f at fault s start h is (fuel_is at is) (as_named f at root names s (Err fault) same root_is ends)
