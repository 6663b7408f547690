-- What is said of the vault inside a line, said of the line as it is seen.
use Rattle.std.proofs.Common.{◌≡◌, ◌≤◌, ℕ, zero, suc, List, [], ◌∷◌, ◌++◌, take, length, refl, sym, ap, subst, ◌∙◌, inr, arith}
use Rattle.std.specs.List.{Contains}
use Rattle.std.specs.declared.option.Option.{Option}
use Rattle.std.specs.declared.option.Option.TheVariants.{Some}
use Rattle.std.specs.declared.result.Result.{Result}
use Rattle.std.specs.declared.result.Result.TheVariants.{Ok, Err}
use Rattle.std.proofs.lemmas.List.{take_at, length-take-le}
use Rattle.cv_base.specs.declared.object.Object.{Object}
use Rattle.cv_history.specs.declared.record.Record.{Record}
use Rattle.cv_vault.proofs.Laws.{looser, stand, gains_none}
use Rattle.cv_base.specs.Objects.{AreNamed}
use Rattle.cv_objects.specs.Batches.{Brings, Has, IsOne, IsRefusal}
use Rattle.cv_objects.specs.declared.store_fault.StoreFault.{StoreFault}
use Rattle.cv_objects.specs.declared.store_fault.StoreFault.TheVariants.{Collision, Failed, Damaged, NoMemory}
use Rattle.cv_objects.proofs.Lemmas.{named_more}
use Rattle.cv_swap.specs.Kept.{object_of}
use Rattle.cv_swap.specs.Publishing.{ArePrepared, Prepared, Shelved, OnlyPutsHead}
use Rattle.cv_swap.specs.Line.{AreKept, IsDropped, published}
use Rattle.cv_swap.specs.declared.stage.Stage.TheVariants.{Calm, Ready}
use Rattle.cv_base.specs.Told.{WhereTold}
use Rattle.cv_vault.specs.declared.vault.VaultFault.{VaultFault}
use Rattle.cv_vault.specs.Names.{on_way}
use Rattle.cv_vault.specs.Disk.{Disk, Files, ImageOf}
use Rattle.cv_vault.specs.Walks.{Walks, ComesTo}
use Rattle.cv_vault.specs.Replace.{MovedIn, IsWaiting}
use Rattle.cv_swap.specs.Stands.{head_name, head_way}
use Rattle.cv_swap.specs.Line.{LineView}
use Rattle.cv_swap.proofs.Publish.{prepared_failed}
use Rattle.cv_swap.proofs.Shelving.{shelved_failed}

-- a manifest that waits where the line is ready comes to its name
pub swap_walks : {V S : Type 0} {disk : V → Option Disk} {count : V → ℕ} {left : V → ℕ → Files → Type 0} {v' : V} (r : Result (Unit {0}) VaultFault) (inside seen : LineView V S) → inside ≡ seen → seen.stage ≡ Ready
    → (inside.stage ≡ Ready → WhereTold (disk inside.vault) (IsWaiting head_way head_name inside.manifest))
    → WhereTold (disk inside.vault) (λ d. (manifest : List ℕ) → IsWaiting head_way head_name manifest d → Walks disk count left on_way (ComesTo head_name (Some manifest)) (MovedIn d head_name manifest r) d inside.vault v')
    → WhereTold (disk seen.vault) (λ d. Walks disk count left on_way (ComesTo head_name (Some seen.manifest)) (MovedIn d head_name seen.manifest r) d seen.vault v')
swap_walks {disk = disk} {count = count} {left = left} {v' = v'} r inside seen e ready waits walks =
    subst (λ l. l.stage ≡ Ready → WhereTold (disk l.vault) (λ d. Walks disk count left on_way (ComesTo head_name (Some l.manifest)) (MovedIn d head_name l.manifest r) d l.vault v')) e
    (λ is d told. walks d told inside.manifest (waits is d told)) ready

pub vault_seen : {V S : Type 0} (inside seen : LineView V S) → inside ≡ seen → inside.vault ≡ seen.vault
vault_seen inside seen e = ap (λ l. l.vault) e

-- nothing was asked of the vault
stands_still : {V : Type 0} {disk : V → Option Disk} {count : V → ℕ} {left : V → ℕ → Files → Type 0} (batch : List Object) (E : Disk → Disk → Type 0) → ((d : Disk) → E d d)
    → (v seen : V) → v ≡ seen → ((f : Files) → left v (count v) f → ImageOf (disk v) f) → WhereTold (disk seen) (λ d. Walks disk count left on_way (Brings d batch) (E d) d seen v)
stands_still {disk = disk} {count = count} {left = left} batch E so v seen same only = subst (λ s. WhereTold (disk s) (λ d. Walks disk count left on_way (Brings d batch) (E d) d s v)) same (λ d told. stand only told (so d))

-- since memory was wanted
module _ {V : Type 0} {disk : V → Option Disk} {count : V → ℕ} {left : V → ℕ → Files → Type 0} {X : Type 0} (batch : List Object) (r : Result X StoreFault) (is : r ≡ Err NoMemory)
    (v seen : V) (same : v ≡ seen) (only : (f : Files) → left v (count v) f → ImageOf (disk v) f) where
  pub prepare_stands : (manifest : List ℕ) → WhereTold (disk seen) (λ d. Walks disk count left on_way (Brings d batch) (Prepared d batch manifest r) d seen v)
  prepare_stands manifest = stands_still batch (λ d. Prepared d batch manifest r) (λ d. prepared_failed d batch manifest d r NoMemory is (inr (gains_none refl))) v seen same only

  pub shelve_stands : WhereTold (disk seen) (λ d. Walks disk count left on_way (Brings d batch) (Shelved d batch r) d seen v)
  shelve_stands = stands_still batch (λ d. Shelved d batch r) (λ d. shelved_failed d batch d r NoMemory is (inr (gains_none refl))) v seen same only

-- since a batch inside, which is this one, was prepared
module _ {V : Type 0} {disk : V → Option Disk} {count : V → ℕ} {left : V → ℕ → Files → Type 0} {inside batch : List Object} (is : inside ≡ batch) {v seen v' : V} (same : v ≡ seen) where
  walks_seen : (E : List Object → Disk → Disk → Type 0) → WhereTold (disk v) (λ d. Walks disk count left on_way (Brings d inside) (E inside d) d v v') → WhereTold (disk seen) (λ d. Walks disk count left on_way (Brings d batch) (E batch d) d seen v')
  walks_seen E w = subst (λ s. WhereTold (disk s) (λ d. Walks disk count left on_way (Brings d batch) (E batch d) d s v')) same
      (subst (λ (b : List Object). WhereTold (disk v) (λ d. Walks disk count left on_way (Brings d b) (E b d) d v v')) is w)

  pub prepared_seen : {u : Unit {0}} {text manifest : List ℕ} → text ≡ manifest → WhereTold (disk v) (λ d. Walks disk count left on_way (Brings d inside) (Prepared d inside text {X = Unit {0}} (Ok u)) d v v')
      → WhereTold (disk seen) (λ d. Walks disk count left on_way (Brings d batch) (ArePrepared batch manifest) d seen v')
  prepared_seen {text = text} {manifest = manifest} written w = walks_seen (λ b d. ArePrepared b manifest)
      (subst (λ (t : List ℕ). WhereTold (disk v) (λ d. Walks disk count left on_way (Brings d inside) (ArePrepared inside t) d v v')) written w)

  pub unprepared_seen : {X : Type 0} (text manifest : List ℕ) (r : Result X StoreFault) (e : StoreFault) → r ≡ Err e → WhereTold (disk v) (λ d. Walks disk count left on_way (Brings d inside) (Prepared d inside text {X = Unit {0}} (Err e)) d v v')
      → WhereTold (disk seen) (λ d. Walks disk count left on_way (Brings d batch) (Prepared d batch manifest r) d seen v')
  unprepared_seen text manifest r e fails w = walks_seen (λ b d. Prepared d b manifest r) (λ d told. looser (w d told) (λ n f b. b) (λ d1 g s. prepared_failed d inside manifest d1 r e fails s))

  pub free_seen : {text manifest : List ℕ} → text ≡ manifest → WhereTold (disk v) (λ d. Has d inside → OnlyPutsHead disk count left text v v') → WhereTold (disk seen) (λ d. Has d batch → OnlyPutsHead disk count left manifest seen v')
  free_seen {manifest = manifest} written free = subst (λ s. WhereTold (disk s) (λ d. Has d batch → OnlyPutsHead disk count left manifest s v')) same
      (λ d told has. subst (λ (t : List ℕ). OnlyPutsHead disk count left t v v') written (free d told (subst (Has d) (sym is) has)))

-- the object of a record has its id
pub named_push : (objects : List Object) (r : Record) → AreNamed objects → AreNamed (objects ++ object_of r ∷ [])
named_push objects r h = named_more objects (object_of r) h refl

-- a record alone
pub one_alone : (o : Object) → IsOne (o ∷ [])
one_alone o = record { each = λ a b ha hb same. ap (λ (x : Object). x.bytes) (sym (is a ha) ∙ is b hb) }
  where
    is : (a : Object) → Contains (o ∷ []) a → o ≡ a
    is a (zero, lt, e) = e
    is a (suc k, lt, e) = absurd (omega arith)

-- what is published stays so with a record behind it
pub published_seen : {V S : Type 0} (inside seen new : LineView V S) (next : Record) → inside ≡ seen → inside.made ≤ length inside.all → new.all ≡ take inside.made inside.all ++ next ∷ [] → new.made ≡ inside.made → published new ≡ published seen
published_seen {V} {S} inside seen new next same counted all made = subst (λ (l : LineView V S). published new ≡ published l) same
    (rw (made, all) (take_at (take inside.made inside.all) (next ∷ []) inside.made (length-take-le inside.made inside.all counted)))

-- a record behind the published ones is dropped
pub dropped_seen : {V S : Type 0} (inside seen new : LineView V S) (next : Record) → inside ≡ seen → inside.made ≤ length inside.all → new.all ≡ take inside.made inside.all ++ next ∷ [] → new.stage ≡ Calm → AreKept inside new → IsDropped seen new
dropped_seen {V} {S} inside seen new next same counted all stage kept = subst (λ (l : LineView V S). IsDropped l new) same (record {
  published_ = published_seen inside inside new next refl counted all kept.made_;
  stage = stage;
  others = kept;
})

-- what was ready before is dropped, and nothing else changed but the vault
pub dropped_here : {V S : Type 0} (inside seen new : LineView V S) → inside ≡ seen → new ≡ record inside { vault = new.vault; taken = new.taken; stage = Calm } → new.taken ≡ inside.taken → IsDropped seen new
dropped_here {V} {S} inside seen new same e taken = subst (λ (l : LineView V S). IsDropped l new) same (record {
  published_ = ap published e;
  stage = ap (λ (l : LineView V S). l.stage) e;
  others = record {
    name_ = ap (λ (l : LineView V S). l.name) e;
    signer_ = ap (λ (l : LineView V S). l.signer) e;
    made_ = ap (λ (l : LineView V S). l.made) e;
    head_ = ap (λ (l : LineView V S). l.head) e;
    epoch_ = ap (λ (l : LineView V S). l.epoch) e;
    taken_ = taken;
  };
})

-- a refusal that is handed on is one
pub refusal_as : {X : Type 0} (Y : Type 0) (r : Result X StoreFault) (e : StoreFault) → r ≡ Err e → IsRefusal r → IsRefusal {X = Y} (Err e)
refusal_as {X = X} Y r e is refusal = by e (subst (λ (x : Result X StoreFault). IsRefusal x) is refusal)
  where
    by : (e : StoreFault) → IsRefusal {X = X} (Err e) → IsRefusal {X = Y} (Err e)
    by (Collision id) h = h
    by Failed h = h
    by (Damaged id found) h = h
    by NoMemory h = h
