-- Ids that are noted.
use Rattle.std.proofs.Common.{◌≡◌, ℕ, true, List, take, length, ◌<◌, ◌+◌, get_or, refl, sym, subst, ap, ◌∙◌, inl, inr}
use Rattle.std.specs.Prelude.{Vec, is_none}
use Rattle.std.proofs.lemmas.Option.{same_Some}
use Rattle.std.specs.declared.option.Option.{Option}
use Rattle.std.specs.declared.option.Option.TheVariants.{None, Some}
use Rattle.std.specs.declared.result.Result.{Result}
use Rattle.std.specs.declared.result.Result.TheVariants.{Ok, Err}
use Rattle.cv_base.specs.Digest.{IsDigest}
use Rattle.cv_base.specs.declared.id.ObjectId.{ObjectId}
use Rattle.cv_base.specs.declared.object.Object.{Object}
use Rattle.cv_base.proofs.Laws.{item_there}
use Rattle.cv_vault.specs.Names.{on_way}
use Rattle.cv_vault.specs.Disk.{Disk, Files}
use Rattle.cv_vault.specs.Walks.{Walks, Nothing}
use Rattle.cv_vault.proofs.Laws.{looser}
use Rattle.cv_objects.specs.Names.{standing_on}
use Rattle.cv_objects.specs.Fresh.{lacking}
use Rattle.cv_objects.specs.PlacesInner.{is_noted}
use Rattle.cv_objects.specs.Batches.{GivesFresh, Agrees, Shows, by_one, by_itself}
use Rattle.cv_objects.specs.BatchesInner.{Noted, Looked, again, anew, has_file, has_none}
use Rattle.cv_objects.specs.declared.places.Places.{Places}
use Rattle.cv_objects.specs.declared.store_fault.StoreFault.{StoreFault}
use Rattle.cv_objects.specs.declared.store_fault.StoreFault.TheVariants.{NoMemory}
use Rattle.cv_objects.proofs.Lists.{last_or_earlier}
use Rattle.cv_objects.proofs.Once.{AreOnce, once_there, once_again, once_anew}
use Rattle.cv_objects.proofs.Telling.{standing_is}

-- an object more was looked at
pub fresh_more : (d : Disk) (batch : List Object) (i : ℕ) (o : Object) (ids new : List ObjectId) (was are : Places) → i < length batch → o ≡ get_or batch i o
    → AreOnce (lacking (take i batch) (standing_on d)) ids (is_noted was) → Noted d o ids was new are → AreOnce (lacking (take (i + 1) batch) (standing_on d)) new (is_noted are)
fresh_more d batch i o ids new was are lt is once (has_file there same kept) = rw (same, kept) (once_there (standing_on d) batch i o ids (is_noted was) lt is (ap is_none there) once)
fresh_more d batch i o ids new was are lt is once (has_none absent (again noted same kept)) = rw (same, kept) (once_again (standing_on d) batch i o ids (is_noted was) lt is (ap is_none absent) noted once)
fresh_more d batch i o ids new was are lt is once (has_none absent (anew other end more)) = rw end (once_anew (standing_on d) batch i o ids (is_noted was) (is_noted are) lt is (ap is_none absent) other more once)

-- what stands under its id is its own
pub agrees_more : (d : Disk) (batch : List Object) (i : ℕ) (o : Object) (ids new : List ObjectId) (was are : Places) → i < length batch → o ≡ get_or batch i o
    → Agrees (take i batch) (standing_on d) → Noted d o ids was new are → Agrees (take (i + 1) batch) (standing_on d)
agrees_more d batch i o ids new was are lt is agrees noted = record {
  each = λ a h. elim (last_or_earlier batch i o a lt is h) [
    | inl old ↦ agrees.each a old
    | inr e ↦ subst (λ (x : Object). (bytes : List ℕ) → standing_on d x.id ≡ Some bytes → bytes ≡ x.bytes) e (own noted)
  ];
}
  where
    own : Noted d o ids was new are → (bytes : List ℕ) → standing_on d o.id ≡ Some bytes → bytes ≡ o.bytes
    own (has_file there same kept) bytes e = same_Some _ _ (sym e ∙ there)
    own (has_none absent notes) bytes e = absurd (let k : None ≡ Some bytes = sym absent ∙ e in cc)

module _ {V : Type 0} {disk : V → Option Disk} {count : V → ℕ} {left : V → ℕ → Files → Type 0} {d : Disk} {v v1 : V} (o : Object) (ids : List ObjectId) (was : Places) where
  pub notes_there : IsDigest o.id.hash → Walks disk count left on_way Nothing (Looked d o (Ok true)) d v v1 → Walks disk count left on_way Nothing (λ d'. (d' ≡ d) × Noted d o ids was ids was) d v v1
  notes_there digest w = looser w (λ n f b. b) (λ d' g l. (l.0, has_file (standing_is d o.id digest ∙ l.1) refl refl))

-- an object that shows a fault, after others
pub fresh_shows : {Z : Type 0} (d : Disk) (batch : List Object) (i : ℕ) (o : Object) (r : Result (Vec ObjectId Z) StoreFault) (e : StoreFault) (d' : Disk) → i < length batch → o ≡ get_or batch i o → r ≡ Err e → (d' ≡ d) → Shows d o e → GivesFresh d batch r d'
fresh_shows d batch i o r e d' lt is fails same h = rw fails (same, by_one (record { object = o; among = item_there batch i o lt is; shows = h }))

-- there was no memory to look at all
pub fresh_wants : {Z : Type 0} (d : Disk) (batch : List Object) (r : Result (Vec ObjectId Z) StoreFault) → r ≡ Err NoMemory → GivesFresh d batch r d
fresh_wants d batch r is = rw is (refl, by_itself tt)
