-- What a gate reads through its line.
use Rattle.std.specs.Prelude.{IfErr, IfOk}
use Rattle.std.proofs.Common.{◌≡◌, ◌≢◌, Bool, true, ℕ, List, length, [], ◌∷◌, refl, sym, ap, subst, ◌∙◌, arith}
use Rattle.std.specs.Option.{option_map}
use Rattle.std.specs.declared.option.Option.{Option}
use Rattle.std.specs.declared.result.Result.{Result}
use Rattle.std.specs.declared.result.Result.TheVariants.{Err, Ok}
use Rattle.std.specs.FinMap.{get}
use Rattle.cv_base.specs.Path.{Path, parent}
use Rattle.cv_base.specs.Told.{WhereTold}
use Rattle.cv_ports.specs.Calls.{RaisedAtMost}
use Rattle.cv_ports.specs.Shelf.{Shelf}
use Rattle.cv_vault.specs.Disk.{Disk}
use Rattle.cv_tree.specs.Tree.{Nodes, is_directory}
use Rattle.cv_tree.specs.Changes.{has_place}
use Rattle.cv_cut.specs.Above.{cuts_above}
use Rattle.cv_cut.specs.Means.{Means}
use Rattle.cv_cut.specs.declared.load_fault.LoadFault.{LoadFault}
use Rattle.cv_cut.specs.declared.load_fault.LoadFault.TheVariants as load
use Rattle.cv_graft.specs.Directories.{IsFound}
use Rattle.cv_graft.specs.Graft.{HasWay}
use Rattle.cv_graft.specs.Way.{BlamesWay, IsOfWay, Tells}
use Rattle.cv_objects.specs.Names.{standing_on}
use Rattle.cv_gate.specs.declared.reply.Reply.{Reply}
use Rattle.cv_desk.specs.Gate.{StateView}
use Rattle.cv_desk.specs.Ends.{BlamesParent, IsPlaced, IsPlacedOn, FetchesWay}
use Rattle.cv_desk.specs.ActingInner.{FindsPlace}
use Rattle.cv_desk.specs.SendingInner.{reply_from}

pub way_of : (shelf : Shelf) (hash : List ℕ) (t : Nodes) (p : Path) → Means shelf hash t → HasWay shelf hash t p
way_of shelf hash t p m = record { tree = m.tree; fits = m.fits; root = m.root; catalogues = λ c cut covered apart. m.catalogues c cut }

below_root : (t : Nodes) (p : Path) → p ≢ [] → has_place t p ≡ is_directory (get t (parent p))
below_root t [] some = absurd (some refl)
below_root t (name ∷ names) some = refl

module _ {V S : Type 0} (disk : V → Option Disk) (s : StateView V S) (p above : Path) (hash : List ℕ) (some : p ≢ []) (is : above ≡ parent p) (root : hash ≡ s.line.head.root) where
  abbrev Answers : Result Bool LoadFault → Type 0
  Answers r = WhereTold (option_map standing_on (disk s.line.vault)) (λ standing. (t : Nodes) → HasWay standing hash t above → Tells t above r)

  pub place_found : (there : Bool) → Answers (Ok there) → FindsPlace disk s p (Ok there)
  place_found there told = λ d e t m.
      below_root t p some ∙ sym (told (standing_on d) (ap (option_map standing_on) e) t (way_of (standing_on d) hash t above (subst (λ h. Means (standing_on d) h t) (sym root) m)) ∙ ap (λ q. is_directory (get t q)) is)

  -- what was fetched on the way
  pub fetched_way : (v : V) (before after : ℕ) → v ≡ s.line.vault → before ≡ s.line.taken
      → RaisedAtMost (length above) before after → WhereTold (option_map standing_on (disk v)) (λ standing. (t : Nodes) → HasWay standing hash t above → RaisedAtMost (length (cuts_above t above)) before after)
      → RaisedAtMost (length (parent p)) s.line.taken after × WhereTold (disk s.line.vault) (λ d. (t : Nodes) → HasWay (standing_on d) s.line.head.root t (parent p) → RaisedAtMost (length (cuts_above t (parent p))) s.line.taken after)
  fetched_way v before after vaults from most told = (
    subst (λ (q : Path). RaisedAtMost (length q) s.line.taken after) is (subst (λ n. RaisedAtMost (length above) n after) from most),
    λ d e t way.
        let there : HasWay (standing_on d) hash t above = subst (λ (q : Path). HasWay (standing_on d) hash t q) (sym is) (subst (λ h. HasWay (standing_on d) h t (parent p)) (sym root) way) in
        subst (λ (q : Path). RaisedAtMost (length (cuts_above t q)) s.line.taken after) is (subst (λ n. RaisedAtMost (length (cuts_above t above)) n after) from
        (told (standing_on d) (ap (option_map standing_on) (ap disk vaults ∙ e)) t there)),
  )

-- nothing was fetched
pub fetched_none : {V S : Type 0} (disk : V → Option Disk) (s s' : StateView V S) (p : Path) → s'.line.taken ≡ s.line.taken → FetchesWay disk p s s'
fetched_none disk s s' p same = ((0, omega arith, same), λ d told t way. (0, omega arith, same))

-- ---- by the catalogues alone

pub placed_root : (shelf : Shelf) (root : List ℕ) (p : Path) → length p ≡ 0 → IsPlaced shelf root p true
placed_root shelf root [] none = refl
placed_root shelf root (name ∷ names) none = cc

at_parent : (shelf : Shelf) (root : List ℕ) (p : Path) (there : Bool) → p ≢ [] → IsFound shelf root (parent p) there → IsPlaced shelf root p there
at_parent shelf root [] there some found = absurd (some refl)
at_parent shelf root (name ∷ names) there some found = found

pub placed_below : {V S : Type 0} (disk : V → Option Disk) (s : StateView V S) (v : V) (p above : Path) (hash : List ℕ) → p ≢ [] → above ≡ parent p → hash ≡ s.line.head.root → v ≡ s.line.vault
    → (r : Result Bool LoadFault) (there : Bool) → r ≡ Ok there → WhereTold (option_map standing_on (disk v)) (λ standing. IfOk r (IsFound standing hash above)) → IsPlacedOn (disk s.line.vault) s.line.head.root p there
placed_below disk s v p above hash some is root vaults r there answered told = λ d e.
    let seen : IfOk r (IsFound (standing_on d) hash above) = told (standing_on d) (ap (option_map standing_on) (ap disk vaults ∙ e)) in
    let found : IsFound (standing_on d) hash above there = subst (λ x. IfOk x (IsFound (standing_on d) hash above)) answered seen in
    at_parent (standing_on d) s.line.head.root p there some (subst (λ (q : Path). IsFound (standing_on d) s.line.head.root q there) is (subst (λ h. IsFound (standing_on d) h above there) root found))

pub sees : {V S : Type 0} (disk : V → Option Disk) (s : StateView V S) (p : Path) (r : Result Bool Reply) (there : Bool) → r ≡ Ok there
    → WhereTold (disk s.line.vault) (λ d. IfOk r (IsPlaced (standing_on d) s.line.head.root p)) → IsPlacedOn (disk s.line.vault) s.line.head.root p there
sees disk s p r there is told = λ d e. subst (λ x. IfOk x (IsPlaced (standing_on d) s.line.head.root p)) is (told d e)

-- what a fault on the way to the parent blames
pub blames_parent : {V S : Type 0} (disk : V → Option Disk) (s : StateView V S) (v : V) (p above : Path) (hash : List ℕ) → above ≡ parent p → hash ≡ s.line.head.root → v ≡ s.line.vault
    → (r : Result Bool LoadFault) (x : LoadFault) → r ≡ Err x → WhereTold (option_map standing_on (disk v)) (λ standing. IfErr r (BlamesWay standing hash above)) → BlamesParent (disk s.line.vault) s.line.head.root p (reply_from x)
blames_parent disk s v p above hash is root vaults r (load.Missing id) answered told = tt
blames_parent disk s v p above hash is root vaults r (load.Bad id) answered told = tt
blames_parent disk s v p above hash is root vaults r load.Failed answered told = tt
blames_parent disk s v p above hash is root vaults r (load.Damaged id found) answered told = λ d e.
    let seen : IfErr r (BlamesWay (standing_on d) hash above) = told (standing_on d) (ap (option_map standing_on) (ap disk vaults ∙ e)) in
    let blamed : BlamesWay (standing_on d) hash above (load.Damaged id found) = subst (λ x. IfErr x (BlamesWay (standing_on d) hash above)) answered seen in
    subst (λ (q : Path). IsOfWay (standing_on d) s.line.head.root q id) is (subst (λ h. IsOfWay (standing_on d) h above id) root blamed.0)
blames_parent disk s v p above hash is root vaults r load.NoMemory answered told = tt
