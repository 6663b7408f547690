-- A batch that is brought to the shelf, and one that stands there.
use Rattle.std.proofs.Common.{◌≡◌, ◌≢◌, ℕ, zero, suc, List, [], ◌∷◌, refl, sym, ap, subst, cond, ◌∙◌, inl, inr, arith}
use Rattle.std.specs.List.{Contains, filter}
use Rattle.std.specs.Prelude.{⊤, Vec, not, is_none}
use Rattle.std.specs.declared.option.Option.{Option}
use Rattle.std.specs.declared.option.Option.TheVariants.{None, Some}
use Rattle.std.specs.declared.result.Result.{Result}
use Rattle.std.specs.declared.result.Result.TheVariants.{Ok, Err}
use Rattle.cv_base.specs.Told.{WhereTold}
use Rattle.cv_base.specs.declared.id.ObjectId.{ObjectId}
use Rattle.cv_base.specs.declared.object.Object.{Object}
use Rattle.cv_ports.specs.Objects.{same_id}
use Rattle.cv_ports.specs.Shelf.{Shelf}
use Rattle.cv_vault.specs.Names.{on_way}
use Rattle.cv_vault.specs.Disk.{Disk, Files}
use Rattle.cv_vault.specs.Walks.{Gains, Walks, Nothing, BringsNothing}
use Rattle.cv_vault.proofs.Laws.{bind, looser}
use Rattle.cv_objects.specs.Names.{standing_on}
use Rattle.cv_objects.specs.Fresh.{each_once, lacking, fresh_of}
use Rattle.cv_base.specs.Objects.{AreNamed}
use Rattle.cv_objects.specs.Batches.{Agrees, Has, Brings, Brought, GivesFresh, WroteAll, IsOne, ShownIn, IsOutside, IsRefusal, Stored}
use Rattle.cv_objects.specs.declared.store_fault.StoreFault.{StoreFault}
use Rattle.cv_objects.specs.declared.store_fault.StoreFault.TheVariants.{Collision, Failed, Damaged, NoMemory}
use Rattle.cv_objects.proofs.Lemmas.{brings_nothing, brings_later, is_digest_of, standing_is, refusal_inside}
use Rattle.cv_swap.specs.Publishing.{Shelved}

-- ---- a store that fails

pub failed_refused : (d : Disk) (batch : List Object) (d' : Disk) (e : StoreFault) → (e ≡ Failed → IsOne batch) → ShownIn d batch e → Gains on_way Nothing d d' → Stored d batch {X = Unit {0}} (Err e) d'
failed_refused d batch d' (Collision id) one h g = record { shown = h; same = g }
failed_refused d batch d' Failed one h g = one refl
failed_refused d batch d' (Damaged id found) one h g = record { shown = h; same = g }
failed_refused d batch d' NoMemory one h g = inr g

pub failed_outside : (d : Disk) (batch : List Object) (d' : Disk) (e : StoreFault) → IsOne batch → IsOutside e → Stored d batch {X = Unit {0}} (Err e) d'
failed_outside d batch d' (Collision id) one h = absurd h
failed_outside d batch d' Failed one h = one
failed_outside d batch d' (Damaged id found) one h = absurd h
failed_outside d batch d' NoMemory one h = inl one

pub shelved_failed : {X : Type 0} (d : Disk) (batch : List Object) (d' : Disk) (r : Result X StoreFault) (e : StoreFault) → r ≡ Err e → Stored d batch {X = Unit {0}} (Err e) d' → Shelved d batch r d'
shelved_failed d batch d' r e is h = rw is h

-- ---- a batch that is brought

shelved_brought : {X : Type 0} (d d1 : Disk) (batch : List Object) (d' : Disk) (r : Result X StoreFault) → IsOne batch → Brought d1 batch r d' → Shelved d batch r d'
shelved_brought d d1 batch d' (Ok x) one b = (one, b.0)
shelved_brought d d1 batch d' (Err e) one b = failed_outside d batch d' e one b

module _ {V : Type 0} {disk : V → Option Disk} {count : V → ℕ} {left : V → ℕ → Files → Type 0} (batch : List Object) {X : Type 0} (r : Result X StoreFault) {d : Disk} {v0 v v' : V} where
  pub then_shelved : {u : Unit {0}} → IsOne batch → Walks disk count left on_way Nothing (WroteAll d batch {X = Unit {0}} (Ok u)) d v0 v → WhereTold (disk v) (λ d1. Walks disk count left on_way (Brings d1 batch) (Brought d1 batch r) d1 v v')
      → Walks disk count left on_way (Brings d batch) (Shelved d batch r) d v0 v'
  then_shelved one w h = bind w brings_nothing (λ d1 told g put. looser (h d1 told) (brings_later g) (λ d2 g2 b. shelved_brought d d1 batch d2 r one b))

  -- it isn't refused any more
  pub then_unrefused : {E : Disk → Type 0} → Walks disk count left on_way Nothing E d v0 v → WhereTold (disk v) (λ d1. Walks disk count left on_way (Brings d1 batch) (Brought d1 batch r) d1 v v') → IsRefusal r → ⊥
  then_unrefused w h refusal = by r (h w.end w.told).is refusal
    where
      by : (x : Result X StoreFault) → Brought w.end batch x (h w.end w.told).end → IsRefusal x → ⊥
      by (Ok x) b refusal = refusal
      by (Err e) b refusal = refusal_inside {X = X} (Err e) e refl b refusal

  -- what stands was looked at before
  pub looked_shelved : Walks disk count left on_way Nothing (λ d1. d1 ≡ d) d v0 v → WhereTold (disk v) (λ d1. Walks disk count left on_way (Brings d1 batch) (Shelved d1 batch r) d1 v v')
      → Walks disk count left on_way (Brings d batch) (Shelved d batch r) d v0 v'
  looked_shelved w h = bind w brings_nothing (λ d1 told g same. looser (h d1 told) (brings_later g) (λ d2 g2 s. subst (λ (x : Disk). Shelved x batch r d2) same s))

  pub looked_refused : Walks disk count left on_way Nothing (λ d1. d1 ≡ d) d v0 v → BringsNothing disk count left v v' → Walks disk count left on_way Nothing (λ end. ⊤) d v0 v'
  looked_refused w h = bind w (λ n f b. b) (λ d1 told g same. h d1 told)

-- ---- a batch of which nothing is fresh

lacking_at : (shelf : Shelf) (o : Object) (os : List Object) (x : Option (List ℕ)) → shelf o.id ≡ x → lacking (o ∷ os) shelf ≡ cond (is_none x) (o.id ∷ lacking os shelf) (lacking os shelf)
lacking_at shelf o os x e = ap (λ (y : Option (List ℕ)). cond (is_none y) (o.id ∷ lacking os shelf) (lacking os shelf)) e

none_lacking : (batch : List Object) (shelf : Shelf) → ((o : Object) → Contains batch o → shelf o.id ≡ Some o.bytes) → lacking batch shelf ≡ []
none_lacking [] shelf h = refl
none_lacking (o ∷ os) shelf h = lacking_at shelf o os (Some o.bytes) (h o (0, omega arith, refl)) ∙ none_lacking os shelf (λ a c. h a (suc c.0, (let lt = c.1 in omega arith), c.2))

none_fresh : (d : Disk) (batch : List Object) → AreNamed batch → Has d batch → fresh_of batch (standing_on d) ≡ []
none_fresh d batch named h = ap each_once (none_lacking batch (standing_on d) (λ o c. standing_is d o.id (is_digest_of batch o named c) ∙ h.each o c))

lacks_behind : (shelf : Shelf) (a : Object) (os : List Object) (x : Option (List ℕ)) → shelf a.id ≡ x → lacking os shelf ≢ [] → lacking (a ∷ os) shelf ≢ []
lacks_behind shelf a os None n more = λ e. let k : a.id ∷ lacking os shelf ≡ [] = sym (lacking_at shelf a os None n) ∙ e in cc
lacks_behind shelf a os (Some bytes) n more = λ e. more (sym (lacking_at shelf a os (Some bytes) n) ∙ e)

lacks : (batch : List Object) (shelf : Shelf) (o : Object) → Contains batch o → shelf o.id ≡ None → lacking batch shelf ≢ []
lacks [] shelf o c none = absurd (let lt = c.1 in omega arith)
lacks (a ∷ os) shelf o (zero, lt, is) none = λ e. let k : a.id ∷ lacking os shelf ≡ [] = sym (lacking_at shelf a os None (ap (λ (x : Object). shelf x.id) is ∙ none)) ∙ e in cc
lacks (a ∷ os) shelf o (suc k, lt, is) none = lacks_behind shelf a os (shelf a.id) refl (lacks os shelf o (k, omega arith, is) none)

none_of : (ids : List ObjectId) → each_once ids ≡ [] → ids ≡ []
none_of [] e = refl
none_of (id ∷ ids) e = let k : id ∷ filter (λ other. not (same_id id other)) (each_once ids) ≡ [] = e in absurd (cc)

fresh_none : (d : Disk) (batch : List Object) → AreNamed batch → fresh_of batch (standing_on d) ≡ [] → Agrees batch (standing_on d) → Has d batch
fresh_none d batch named e agrees = record { each = λ o c. sym (standing_is d o.id (is_digest_of batch o named c)) ∙ by o c (standing_on d o.id) refl }
  where
    by : (o : Object) → Contains batch o → (x : Option (List ℕ)) → standing_on d o.id ≡ x → standing_on d o.id ≡ Some o.bytes
    by o c None n = absurd (lacks batch (standing_on d) o c n (none_of (lacking batch (standing_on d)) e))
    by o c (Some bytes) n = n ∙ ap Some (agrees.each o c bytes n)

module _ {V : Type 0} {disk : V → Option Disk} {count : V → ℕ} {left : V → ℕ → Files → Type 0} {Z : Type 0} (batch : List Object) (ids : Vec ObjectId Z) {d : Disk} {v v' : V}
    (w : Walks disk count left on_way Nothing (GivesFresh d batch {Z = Z} (Ok ids)) d v v') where
  -- the disk is as it was
  pub looked : Walks disk count left on_way Nothing (λ d1. d1 ≡ d) d v v'
  looked = looser w (λ n f b. b) (λ d1 g f. f.0)

  -- nothing of it is given where it stands
  pub none_given : AreNamed batch → Has d batch → ids.items ≡ []
  none_given named has = w.is.1 ∙ none_fresh d batch named has

  -- all of it stands where nothing is given
  pub stands_all : AreNamed batch → IsOne batch → ids.items ≡ [] → Walks disk count left on_way (Brings d batch) (Shelved d batch {X = Unit {0}} (Ok tt)) d v v'
  stands_all named one none = looser w brings_nothing (λ d1 g f. (one, subst (λ (x : Disk). Has x batch) (sym f.0) (fresh_none d batch named (sym f.1 ∙ none) f.3)))
