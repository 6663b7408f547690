-- What is found, and what is blamed, on the way to a path, by what stands on a shelf.
use Rattle.std.proofs.Common.{◌≡◌, ◌≢◌, [], List, ℕ, Result, Ok, Err, Some, None, inl, inr, refl, sym, subst}
use Rattle.std.specs.Prelude.{IfErr, IfOk}
use Rattle.cv_base.specs.Path.{Path}
use Rattle.cv_base.specs.declared.id.ObjectId.{ObjectId}
use Rattle.cv_base.specs.declared.id.Kind.TheVariants.{Catalogue}
use Rattle.cv_ports.specs.Shelf.{Shelf, HasOtherDigest}
use Rattle.cv_rows.specs.Catalogue.{Contents}
use Rattle.cv_rows.specs.declared.nested.Nested.{Nested}
use Rattle.cv_rows.specs.declared.row.Row.{Row}
use Rattle.cv_cut.specs.Opening.{Opens, OpensNested, IsNestedCatalogue, IsTransitionOf, IsBadNested, of_size, undecodable, below_id}
use Rattle.cv_cut.specs.Reached.{Place, HasCatalogue, root_place}
use Rattle.cv_cut.specs.declared.load_fault.LoadFault.{LoadFault}
use Rattle.cv_cut.specs.declared.load_fault.LoadFault.TheVariants as fault
use Rattle.cv_cut.proofs.Lemmas.{transition_of}
use Rattle.cv_graft.specs.Directories.{IsHolder}
use Rattle.cv_graft.specs.DirectoriesInner.{HoldsFrom}
use Rattle.cv_graft.specs.Faults.{of_load}
use Rattle.cv_graft.specs.Way.{HasNone, IsNext, IsOnWay, IsOfWay, IsOfEither, IsBadOnWay, BlamesWay, TellsDamage}
use Rattle.cv_graft.specs.WayInner.{IsOfWayOf, FailsFrom}
use Rattle.cv_graft.specs.declared.graft_fault.GraftFault.{GraftFault}
use Rattle.cv_graft.specs.declared.graft_fault.GraftFault.TheVariants as graft

-- ---- one step

pub on_below : {shelf : Shelf} {root : List ℕ} {p : Path} {hash : List ℕ} {place : Place} {c below : Contents} {n : Nested} → IsOnWay shelf root p hash place → HasCatalogue shelf hash place c → IsNext c p n
    → (o : IsNestedCatalogue shelf c n below) → IsOnWay shelf root p n.hash (record { path = n.path; row = Some o.row })
on_below on there next o = IsOnWay.next {r = o.row} on there next (record { kind = o.kind_; stands = o.stands })

pub top_at : (shelf : Shelf) (hash : List ℕ) (top : Path) (c : Contents) → top ≡ [] → HasCatalogue shelf hash (record { path = top; row = None }) c → HasCatalogue shelf hash root_place c
top_at shelf hash top c none has = subst (λ (q : Path). HasCatalogue shelf hash (record { path = q; row = None }) c) none has

-- ---- the holder

-- the catalogue itself, where it has no nested entry properly above the path
pub holds_itself : (shelf : Shelf) (id : ObjectId) (c : Contents) (p : Path) → HasNone c p → HoldsFrom shelf id c p (Ok c)
holds_itself shelf id c p none = λ root place on has. record { hash = id.hash; place = place; on = on; has = has; none = none }

-- the one that is found from a nested catalogue on
pub holds_below : (shelf : Shelf) (id : ObjectId) (c below : Contents) (n : Nested) (p : Path) (result : Result Contents LoadFault) → IsNext c p n → IsNestedCatalogue shelf c n below
    → HoldsFrom shelf (below_id n) below p result → HoldsFrom shelf id c p result
holds_below shelf id c below n p (Ok k) next o h = λ root place on there. h root (record { path = n.path; row = Some o.row }) (on_below on there next o) o.opened
holds_below shelf id c below n p (Err f) next o h = tt

-- from the root of the repository on
pub holds_top : (shelf : Shelf) (root : ObjectId) (top : Path) (c : Contents) (p : Path) (result : Result Contents LoadFault) → p ≢ [] → top ≡ [] → HasCatalogue shelf root.hash (record { path = top; row = None }) c
    → HoldsFrom shelf root c p result → IfOk result (IsHolder shelf root.hash p)
holds_top shelf root top c p (Ok k) some none has h = h root.hash root_place (IsOnWay.top some) (top_at shelf root.hash top c none has)
holds_top shelf root top c p (Err f) some none has h = tt

-- ---- what is blamed

-- where a catalogue on the way isn't opened
blames : (shelf : Shelf) (root : List ℕ) (p : Path) (id : ObjectId) (f : LoadFault) (on : IsOfWay shelf root p id) → Opens shelf id on.place (Err f) → BlamesWay shelf root p f
blames shelf root p id (fault.Missing x) on h = subst (λ (y : ObjectId). BlamesWay shelf root p (fault.Missing y)) (sym h.0) (on, h.1)
blames shelf root p id (fault.Bad x) on h = subst (λ (y : ObjectId). BlamesWay shelf root p (fault.Bad y)) (sym h.0) (IsBadOnWay.undecodable on h.1)
blames shelf root p id fault.Failed on h = tt
blames shelf root p id (fault.Damaged x found) on h = subst (λ (y : ObjectId). BlamesWay shelf root p (fault.Damaged y found)) (sym h.0) (on, h.1)
blames shelf root p id fault.NoMemory on h = tt

-- where the next one isn't
module _ (shelf : Shelf) (root : List ℕ) (p : Path) (id : ObjectId) (c : Contents) (n : Nested) (of : IsOfWay shelf root p id) (there : HasCatalogue shelf id.hash of.place c) (next : IsNext c p n) where
  abbrev below : (r : Row) → IsTransitionOf c n r → IsOfWay shelf root p (below_id n)
  below r t = record { kind = refl; place = record { path = n.path; row = Some r }; on = IsOnWay.next of.on there next t }

  bad_next : (x : ObjectId) → IsBadNested shelf id c n x → IsBadOnWay shelf root p x
  bad_next x (of_size h) = IsBadOnWay.misstates of there next h
  bad_next x (undecodable r t u) = IsBadOnWay.undecodable (below r t) u

  some_below : IsOfWay shelf root p (below_id n)
  some_below = let t = transition_of c n there.decodes.is next.has in below t.0 t.1

  blames_next : (f : LoadFault) → OpensNested shelf id c n (Err f) → BlamesWay shelf root p f
  blames_next (fault.Missing x) h = subst (λ (y : ObjectId). BlamesWay shelf root p (fault.Missing y)) (sym h.0) (some_below, h.1)
  blames_next (fault.Bad x) h = bad_next x h
  blames_next fault.Failed h = tt
  blames_next (fault.Damaged x found) h = subst (λ (y : ObjectId). BlamesWay shelf root p (fault.Damaged y found)) (sym h.0) (some_below, h.1)
  blames_next fault.NoMemory h = tt

pub fails_next : (X : Type 0) (shelf : Shelf) (id : ObjectId) (c : Contents) (n : Nested) (p : Path) (f : LoadFault) → id.kind ≡ Catalogue → IsNext c p n → OpensNested shelf id c n (Err f) → FailsFrom shelf id c p {X = X} (Err f)
fails_next X shelf id c n p f kind next h = λ root place on there. blames_next shelf root p id c n (record { kind = kind; place = place; on = on }) there next f h

-- what is blamed from a nested catalogue on
pub fails_below : {X : Type 0} (shelf : Shelf) (id : ObjectId) (c below : Contents) (n : Nested) (p : Path) (result : Result X LoadFault) → IsNext c p n → IsNestedCatalogue shelf c n below
    → FailsFrom shelf (below_id n) below p result → FailsFrom shelf id c p result
fails_below shelf id c below n p (Ok x) next o h = tt
fails_below shelf id c below n p (Err f) next o h = λ root place on there. h root (record { path = n.path; row = Some o.row }) (on_below on there next o) o.opened

-- from the root of the repository on
pub fails_top : {X : Type 0} (shelf : Shelf) (root : ObjectId) (top : Path) (c : Contents) (p : Path) (result : Result X LoadFault) → p ≢ [] → top ≡ [] → HasCatalogue shelf root.hash (record { path = top; row = None }) c
    → FailsFrom shelf root c p result → IfErr result (BlamesWay shelf root.hash p)
fails_top shelf root top c p (Ok x) some none has h = tt
fails_top shelf root top c p (Err f) some none has h = h root.hash root_place (IsOnWay.top some) (top_at shelf root.hash top c none has)

pub top_blamed : (shelf : Shelf) (root : ObjectId) (p top : Path) (f : LoadFault) → root.kind ≡ Catalogue → p ≢ [] → top ≡ [] → Opens shelf root (record { path = top; row = None }) (Err f) → BlamesWay shelf root.hash p f
top_blamed shelf root p top f kind some none h =
    blames shelf root.hash p root f (record { kind = kind; place = root_place; on = IsOnWay.top some }) (subst (λ (q : Path). Opens shelf root (record { path = q; row = None }) (Err f)) none h)

-- ---- what is told of damage

tells_more : {X : Type 0} (shelf : Shelf) (which more : ObjectId → Type 0) (result : Result X GraftFault) → ((id : ObjectId) → which id → more id) → TellsDamage shelf which result → TellsDamage shelf more result
tells_more shelf which more (Ok x) each h = tt
tells_more shelf which more (Err (graft.PathCollision a b)) each h = tt
tells_more shelf which more (Err (graft.CatalogueFull c)) each h = tt
tells_more shelf which more (Err graft.Failed) each h = tt
tells_more shelf which more (Err (graft.Damaged id found)) each h = (each id h.0, h.1)
tells_more shelf which more (Err graft.NoMemory) each h = tt

pub tells_way : (X : Type 0) (shelf : Shelf) (root : List ℕ) (p : Path) (f : LoadFault) → BlamesWay shelf root p f → TellsDamage shelf (IsOfWay shelf root p) {X = X} (Err (of_load f))
tells_way X shelf root p (fault.Missing x) h = tt
tells_way X shelf root p (fault.Bad x) h = tt
tells_way X shelf root p fault.Failed h = tt
tells_way X shelf root p (fault.Damaged id found) h = h
tells_way X shelf root p fault.NoMemory h = tt

pub tells_next : (X : Type 0) (shelf : Shelf) (id : ObjectId) (c : Contents) (n : Nested) (p : Path) (f : LoadFault) → id.kind ≡ Catalogue → IsNext c p n → OpensNested shelf id c n (Err f)
    → TellsDamage shelf (IsOfWayOf shelf id c p) {X = X} (Err (of_load f))
tells_next X shelf id c n p (fault.Missing x) kind next h = tt
tells_next X shelf id c n p (fault.Bad x) kind next h = tt
tells_next X shelf id c n p fault.Failed kind next h = tt
tells_next X shelf id c n p (fault.Damaged x found) kind next h = (
  λ root place on there. (blames_next shelf root p id c n (record { kind = kind; place = place; on = on }) there next (fault.Damaged x found) h).0,
  subst (λ (y : ObjectId). HasOtherDigest shelf y found) (sym h.0) h.1,
)
tells_next X shelf id c n p fault.NoMemory kind next h = tt

-- from a nested catalogue on
pub tells_below : (X : Type 0) (shelf : Shelf) (id : ObjectId) (c below : Contents) (n : Nested) (p : Path) (f : GraftFault) → IsNext c p n → IsNestedCatalogue shelf c n below
    → TellsDamage shelf (IsOfWayOf shelf (below_id n) below p) {X = X} (Err f) → TellsDamage shelf (IsOfWayOf shelf id c p) {X = X} (Err f)
tells_below X shelf id c below n p f next o =
    tells_more {X = X} shelf (IsOfWayOf shelf (below_id n) below p) (IsOfWayOf shelf id c p) (Err f) (λ x h root place on there. h root (record { path = n.path; row = Some o.row }) (on_below on there next o) o.opened)

-- from the root of the repository on
pub tells_top : (X : Type 0) (shelf : Shelf) (root : ObjectId) (top : Path) (c : Contents) (p : Path) (f : GraftFault) → p ≢ [] → top ≡ [] → HasCatalogue shelf root.hash (record { path = top; row = None }) c
    → TellsDamage shelf (IsOfWayOf shelf root c p) {X = X} (Err f) → TellsDamage shelf (IsOfWay shelf root.hash p) {X = X} (Err f)
tells_top X shelf root top c p f some none has =
    tells_more {X = X} shelf (IsOfWayOf shelf root c p) (IsOfWay shelf root.hash p) (Err f) (λ x h. h root.hash root_place (IsOnWay.top some) (top_at shelf root.hash top c none has))

-- of one of two trees
pub tells_left : {X : Type 0} (shelf : Shelf) (root other : List ℕ) (p : Path) (result : Result X GraftFault) → TellsDamage shelf (IsOfWay shelf root p) result → TellsDamage shelf (IsOfEither shelf root other p) result
tells_left shelf root other p result = tells_more shelf (IsOfWay shelf root p) (IsOfEither shelf root other p) result (λ id. inl)

pub tells_right : {X : Type 0} (shelf : Shelf) (root other : List ℕ) (p : Path) (result : Result X GraftFault) → TellsDamage shelf (IsOfWay shelf other p) result → TellsDamage shelf (IsOfEither shelf root other p) result
tells_right shelf root other p result = tells_more shelf (IsOfWay shelf other p) (IsOfEither shelf root other p) result (λ id. inr)

-- of none
pub tells_none : {X : Type 0} (shelf : Shelf) (which : ObjectId → Type 0) (result : Result X GraftFault) → TellsDamage shelf (λ id. ⊥) result → TellsDamage shelf which result
tells_none shelf which result = tells_more shelf (λ id. ⊥) which result (λ id none. absurd none)
