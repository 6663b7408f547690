-- What a refusal shows, and what a store leaves, over the shelf of what stands on a disk.
use Rattle.std.proofs.Common.{◌≡◌, ◌⊎◌, ℕ, List, sym, ap, subst, ◌∙◌, inl, inr}
use Rattle.std.proofs.lemmas.Option.{same_Some}
use Rattle.std.specs.List.{Contains}
use Rattle.std.specs.declared.option.Option.TheVariants.{None, Some}
use Rattle.cv_base.specs.ObjectId.{file_name}
use Rattle.cv_base.specs.declared.id.ObjectId.{ObjectId}
use Rattle.cv_base.specs.declared.object.Object.{Object}
use Rattle.cv_ports.specs.Shelf.{Shelf, IsShelf}
use Rattle.cv_vault.specs.Names.{on_way}
use Rattle.cv_vault.specs.Disk.{Disk}
use Rattle.cv_vault.specs.Walks.{Gains}
use Rattle.cv_objects.specs.Names.{standing_on}
use Rattle.cv_base.specs.Objects.{AreNamed}
use Rattle.cv_objects.specs.Batches.{AreStored, Agrees, Brings, IsGained, IsOne, ShownIn, by_one, by_two, by_itself}
use Rattle.cv_objects.specs.Coming.{ShelfGains, HasAll, ClashesOn}
use Rattle.cv_objects.specs.declared.store_fault.StoreFault.TheVariants.{Collision, Damaged}
use Rattle.cv_objects.proofs.Batching.{is_digest_of}
use Rattle.cv_objects.proofs.Meaning.{adds_batch}
use Rattle.cv_objects.proofs.Telling.{standing_is}

-- under the id of an object of the batch stands what its file has
stands_as : (d : Disk) (batch : List Object) (o : Object) → AreNamed batch → Contains batch o → standing_on d o.id ≡ (d (file_name o.id)).now
stands_as d batch o named h = standing_is d o.id (is_digest_of batch o named h)

pub collision_clashes : (d : Disk) (batch : List Object) (id : ObjectId) → AreNamed batch → ShownIn d batch (Collision id) → ClashesOn (standing_on d) batch id
collision_clashes d batch id named (by_one s) = record {
  object = s.object;
  among = s.among;
  is = sym s.shows.0;
  bytes = s.shows.1.bytes;
  other = s.shows.1.other;
  there = inl (ap (standing_on d) s.shows.0 ∙ stands_as d batch s.object named s.among ∙ s.shows.1.present);
}
collision_clashes d batch id named (by_two c) = record {
  object = c.a;
  among = c.has_a;
  is = c.is_a;
  bytes = c.b.bytes;
  other = λ e. c.differ (sym e);
  there = inr (subst (λ (x : ObjectId). Contains batch (record { id = x; bytes = c.b.bytes })) c.is_b c.has_b);
}
collision_clashes d batch id named (by_itself h) = absurd h

pub damage_is_none : (d : Disk) (batch : List Object) (id : ObjectId) (found : List ℕ) → AreNamed batch → IsShelf (standing_on d) → ShownIn d batch (Damaged id found) → ⊥
damage_is_none d batch id found named hashed (by_one s) = s.shows.1.other (s.shows.1.digest ∙ sym (hashed.hash s.object.id s.shows.1.bytes (stands_as d batch s.object named s.among ∙ s.shows.1.present)))
damage_is_none d batch id found named hashed (by_itself h) = absurd h

pub agreeing_clash : (shelf : Shelf) (batch : List Object) (id : ObjectId) → IsOne batch → Agrees batch shelf → ClashesOn shelf batch id → ⊥
agreeing_clash shelf batch id one agrees c = c.other (by c.there)
  where
    by : (shelf id ≡ Some c.bytes) ⊎ Contains batch (record { id = id; bytes = c.bytes }) → c.bytes ≡ c.object.bytes
    by (inl there) = agrees.each c.object c.among c.bytes (ap shelf c.is ∙ there)
    by (inr also) = one.each (record { id = id; bytes = c.bytes }) c.object also c.among (sym c.is)

pub gains_some : (d d' : Disk) (batch : List Object) → AreNamed batch → Gains on_way (Brings d batch) d d' → ShelfGains batch (standing_on d) (standing_on d')
gains_some d d' batch named g = record { each = λ id. adds_batch d d' batch id named g }

pub has_all : (d' : Disk) (batch : List Object) → AreNamed batch → AreStored batch d' → HasAll batch (standing_on d')
has_all d' batch named s = record { each = λ o h. stands_as d' batch o named h ∙ s.has.each o h }

-- what stood was the batch's own
stored_agrees : (d d' : Disk) (batch : List Object) → AreNamed batch → Gains on_way (Brings d batch) d d' → AreStored batch d' → Agrees batch (standing_on d)
stored_agrees d d' batch named g s = record { each = λ o h bytes e. by o h bytes e (adds_batch d d' batch o.id named g) }
  where
    by : (o : Object) → Contains batch o → (bytes : List ℕ) → standing_on d o.id ≡ Some bytes → (standing_on d' o.id ≡ standing_on d o.id) ⊎ IsGained batch (standing_on d) o.id (standing_on d' o.id) → bytes ≡ o.bytes
    by o h bytes e (inl same) = same_Some _ _ (sym e ∙ sym same ∙ (has_all d' batch named s).each o h)
    by o h bytes e (inr gained) = absurd (let k : None ≡ Some bytes = sym gained.absent ∙ e in cc)

stored_one : (d' : Disk) (batch : List Object) → AreNamed batch → AreStored batch d' → IsOne batch
stored_one d' batch named s = record { each = λ a b x y e. same_Some _ _ (sym ((has_all d' batch named s).each a x) ∙ ap (standing_on d') e ∙ (has_all d' batch named s).each b y) }

pub stored_clash : (d d' : Disk) (batch : List Object) (id : ObjectId) → AreNamed batch → Gains on_way (Brings d batch) d d' → AreStored batch d' → ClashesOn (standing_on d) batch id → ⊥
stored_clash d d' batch id named g s c = agreeing_clash (standing_on d) batch id (stored_one d' batch named s) (stored_agrees d d' batch named g s) c
