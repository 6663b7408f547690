-- What comes of the catalogues on the way to a path, one by one from the last upwards.
use Rattle.std.proofs.Common.{◌≡◌, ◌≢◌, ℕ, List, [], ◌∷◌, ◌++◌, map, None, Some, Result, Ok, Err, ap, subst, ◌∙◌, append_assoc}
use Rattle.std.specs.Prelude.{IsErrOf}
use Rattle.cv_base.specs.Path.{Path}
use Rattle.cv_base.specs.ObjectId.{object_id}
use Rattle.cv_base.specs.declared.id.Kind.TheVariants.{Catalogue}
use Rattle.cv_base.specs.declared.id.ObjectId.{ObjectId}
use Rattle.cv_base.specs.declared.object.Object.{Object}
use Rattle.cv_ports.specs.Shelf.{Shelf}
use Rattle.cv_rows.specs.Catalogue.{Contents}
use Rattle.cv_rows.specs.Renewed as rows
use Rattle.cv_rows.specs.declared.nested.Nested.{Nested}
use Rattle.cv_cut.specs.Opening.{IsNestedCatalogue, below_id}
use Rattle.cv_cut.specs.Reached.{HasCatalogue, root_place}
use Rattle.cv_cut.specs.declared.load_fault.LoadFault.{LoadFault}
use Rattle.cv_cut.specs.declared.load_fault.LoadFault.TheVariants as load
use Rattle.cv_graft.specs.Directories.{IsHolder}
use Rattle.cv_graft.specs.Faults.{of_load}
use Rattle.cv_graft.specs.Makes.{joins, names, as_object, naming}
use Rattle.cv_graft.specs.MakesInner.{IsKept, IsRegrafted, IsRemade, Joins, Outcomes, RefusesOn, Rejoins, Remakes}
use Rattle.cv_graft.specs.Way.{HasNone, IsNext, IsOnWay, TellsDamage}
use Rattle.cv_graft.specs.declared.grafted.Grafted.{Grafted}
use Rattle.cv_graft.specs.declared.made.Made.{Made}
use Rattle.cv_graft.specs.declared.graft_fault.GraftFault.{GraftFault}
use Rattle.cv_graft.specs.declared.graft_fault.GraftFault.TheVariants as fault
use Rattle.cv_graft.proofs.Holders.{on_below, top_at}

-- ---- the catalogue that holds the path

refuses : (shelf : Shelf) (x : Outcomes) (root : List ℕ) (p : Path) (c : Contents) (f : GraftFault) → IsHolder shelf root p c → Joins x c (Err f) → RefusesOn shelf root p x f
refuses shelf x root p c (fault.PathCollision a b) holder h = (c, holder, h)
refuses shelf x root p c (fault.CatalogueFull d) holder h = (c, holder, h)
refuses shelf x root p c fault.Failed holder h = tt
refuses shelf x root p c (fault.Damaged id found) holder h = tt
refuses shelf x root p c fault.NoMemory holder h = tt

pub remade_here : (shelf : Shelf) (x : Outcomes) (p : Path) (id : ObjectId) (c : Contents) (own before after : List Object) (result : Result Made GraftFault) → HasNone c p → Rejoins x c own before after result
    → Remakes shelf x p id c own before after result
remade_here shelf x p id c own before after (Ok made) none h =
    record { is = h.is; objects = as_object h.is ∷ []; makes = joins none h.joined; hash = h.kept.hash; size = h.kept.size; added = h.kept.added }
remade_here shelf x p id c own before after (Err f) none h = λ root place on has. refuses shelf x root p c f (record { hash = id.hash; place = place; on = on; has = has; none = none }) h

-- it wasn't for the shelf
pub rejoins_unread : (x : Outcomes) (c : Contents) (own before after : List Object) (result : Result Made GraftFault) → Rejoins x c own before after result → IsErrOf result fault.Failed → ⊥
rejoins_unread x c own before after (Ok made) h is = cc
rejoins_unread x c own before after (Err (fault.PathCollision a b)) h is = cc
rejoins_unread x c own before after (Err (fault.CatalogueFull d)) h is = cc
rejoins_unread x c own before after (Err fault.Failed) h is = h
rejoins_unread x c own before after (Err (fault.Damaged id found)) h is = h
rejoins_unread x c own before after (Err fault.NoMemory) h is = cc

pub rejoins_tells : (shelf : Shelf) (which : ObjectId → Type 0) (x : Outcomes) (c : Contents) (own before after : List Object) (result : Result Made GraftFault) → Rejoins x c own before after result → TellsDamage shelf which result
rejoins_tells shelf which x c own before after (Ok made) h = tt
rejoins_tells shelf which x c own before after (Err (fault.PathCollision a b)) h = tt
rejoins_tells shelf which x c own before after (Err (fault.CatalogueFull d)) h = tt
rejoins_tells shelf which x c own before after (Err fault.Failed) h = tt
rejoins_tells shelf which x c own before after (Err (fault.Damaged id found)) h = absurd h
rejoins_tells shelf which x c own before after (Err fault.NoMemory) h = tt

-- kept behind the objects of what came there
pub kept_behind : (k : Contents) (own before between after : List Object) (made : Made) → between ≡ before ++ own → IsKept k [] between after made → IsKept k own before after made
kept_behind k own before between after made first h =
    record { hash = h.hash; size = h.size; added = h.added ∙ ap (λ (l : List Object). l ++ as_object k ∷ []) first ∙ append_assoc before own (as_object k ∷ []) }

-- ---- a catalogue further above

pub remade_above : (shelf : Shelf) (x : Outcomes) (p : Path) (c below k : Contents) (n : Nested) (own before between after : List Object) (made kept : Made) → IsNext c p n → IsNestedCatalogue shelf c n below
    → IsRemade shelf x p below own before between made → k ≡ record c { nested = map (rows.renewed n.path made.hash made.size) c.nested } → IsKept k [] between after kept → IsRemade shelf x p c own before after kept
remade_above shelf x p c below k n own before between after made kept next opened m is h =
    let same : k ≡ naming c n.path m.is = is ∙ (λ i. record c { nested = map (rows.renewed n.path (m.hash i) (m.size i)) c.nested }) in
    let last : IsKept (naming c n.path m.is) [] between after kept = subst (λ (x : Contents). IsKept x [] between after kept) same h in
    let object : List Object = as_object (naming c n.path m.is) ∷ [] in
    record {
      is = naming c n.path m.is;
      objects = m.objects ++ as_object (naming c n.path m.is) ∷ [];
      makes = names next opened m.makes;
      hash = last.hash;
      size = last.size;
      added = last.added ∙ ap (λ (l : List Object). l ++ object) m.added ∙ append_assoc before (own ++ m.objects) object ∙ ap (λ (l : List Object). before ++ l) (append_assoc own m.objects object);
    }

pub unread_refuses : (shelf : Shelf) (x : Outcomes) (root : List ℕ) (p : Path) (f : LoadFault) → RefusesOn shelf root p x (of_load f)
unread_refuses shelf x root p (load.Missing id) = tt
unread_refuses shelf x root p (load.Bad id) = tt
unread_refuses shelf x root p load.Failed = tt
unread_refuses shelf x root p (load.Damaged id found) = tt
unread_refuses shelf x root p load.NoMemory = tt

-- where the next one isn't opened
pub unread_remakes : (shelf : Shelf) (x : Outcomes) (p : Path) (id : ObjectId) (c : Contents) (own before after : List Object) (f : LoadFault) → Remakes shelf x p id c own before after (Err (of_load f))
unread_remakes shelf x p id c own before after f = λ root place on has. unread_refuses shelf x root p f

-- a fault of the next one
pub fault_remakes : (shelf : Shelf) (x : Outcomes) (p : Path) (id : ObjectId) (c below : Contents) (n : Nested) (own before after : List Object) (f : GraftFault) → IsNext c p n → IsNestedCatalogue shelf c n below
    → Remakes shelf x p (below_id n) below own before after (Err f) → Remakes shelf x p id c own before after (Err f)
fault_remakes shelf x p id c below n own before after f next opened h = λ root place on there. h root (record { path = n.path; row = Some opened.row }) (on_below on there next opened) opened.opened

-- ---- from the root on

pub regrafted_top : (shelf : Shelf) (x : Outcomes) (root : ObjectId) (top p : Path) (c : Contents) (own before after : List Object) (made : Made) (g : Grafted) → top ≡ [] → HasCatalogue shelf root.hash (record { path = top; row = None }) c
    → IsRemade shelf x p c own before after made → before ≡ [] → g ≡ record { root = object_id made.hash Catalogue; size = made.size; added = after } → IsRegrafted shelf root.hash x p own g
regrafted_top shelf x root top p c own before after made g none there m first is = record {
  top = c;
  there = top_at shelf root.hash top c none there;
  made = m.is;
  objects = m.objects;
  makes = m.makes;
  added = ap (λ (y : Grafted). y.added) is ∙ m.added ∙ ap (λ (l : List Object). l ++ (own ++ m.objects)) first;
  root = ap (λ (y : Grafted). y.root) is ∙ ap (λ (y : List ℕ). object_id y Catalogue) m.hash;
  size = ap (λ (y : Grafted). y.size) is ∙ m.size;
}

pub refused_top : (shelf : Shelf) (x : Outcomes) (root : ObjectId) (top p : Path) (c : Contents) (own before after : List Object) (f : GraftFault) → p ≢ [] → top ≡ [] → HasCatalogue shelf root.hash (record { path = top; row = None }) c
    → Remakes shelf x p root c own before after (Err f) → RefusesOn shelf root.hash p x f
refused_top shelf x root top p c own before after f some none there h = h root.hash root_place (IsOnWay.top some) (top_at shelf root.hash top c none there)
