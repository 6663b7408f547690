-- A repository with its first revision alone is sound.
use Rattle.std.proofs.Common.{◌≡◌, ◌&&◌, ℕ, Bool, true, false, cond, List, [], ◌∷◌, refl, sym, ap, subst, ◌∙◌, inl, inr, arith}
use Rattle.std.specs.declared.option.Option.TheVariants.{Some}
use Rattle.std.specs.Str.{bytes_eq}
use Rattle.sha1.specs.Sha1.{sha1}
use Rattle.cv_base.specs.declared.id.ObjectId.{ObjectId}
use Rattle.cv_base.specs.declared.object.Object.{Object}
use Rattle.cv_base.proofs.Laws.{bytes_are, bytes_eq-own}
use Rattle.cv_base.specs.Moment.{IsMoment}
use Rattle.cv_ports.specs.Shelf.{Shelf, IsShelf}
use Rattle.cv_ports.specs.Objects.{same_kind, same_id, shelf_of}
use Rattle.cv_cut.proofs.Lemmas.{first_there, later_there, none_there, first_or_later}
use Rattle.cv_swap.specs.Kept.{Revision, record_object, AreSound, IsKept}
use Rattle.cv_cut.specs.Cut.{catalogue_object}
use Rattle.cv_base.specs.Objects.{AreNamed}
use Rattle.cv_objects.specs.Coming.{HasAll}
use Rattle.cv_swap.specs.First.{first_revision}
use Rattle.cv_swap.proofs.Lemmas.{first_sound as first_alone}

-- its record and its catalogue
abbrev pub first_objects : Revision → List Object
first_objects first = record_object first ∷ catalogue_object first.tree [] ∷ []

pub first_sound : (s : Shelf) (now : ℕ) → IsMoment now → IsShelf s → HasAll (first_objects (first_revision now)) s → AreSound s (first_revision now ∷ [])
first_sound s now limit hashes has =
    let first : Revision = first_revision now in
    let catalogue : Object = catalogue_object first.tree [] in
    first_alone s now limit hashes (has.each catalogue (later_there (record_object first) (catalogue ∷ []) catalogue (first_there catalogue []))) (has.each (record_object first) (first_there (record_object first) (catalogue ∷ [])))

-- ---- a shelf that has just these objects

same_id_hash : (a b : ObjectId) → same_id a b ≡ true → a.hash ≡ b.hash
same_id_hash a b h =
    elim (bytes_eq a.hash b.hash) as (λ t. bytes_eq a.hash b.hash ≡ t → (t && same_kind a.kind b.kind) ≡ true → a.hash ≡ b.hash) [
      | true ↦ λ e _. bytes_are a.hash b.hash e
      | false ↦ λ _ none. absurd cc
    ] refl h

hashed_shelf : (objects : List Object) → AreNamed objects → IsShelf (shelf_of objects)
hashed_shelf objects h = record { hash = by objects h }
  where
    by : (objects : List Object) → AreNamed objects → (id : ObjectId) (bytes : List ℕ) → shelf_of objects id ≡ Some bytes → id.hash ≡ sha1 bytes
    by [] h id bytes is = absurd cc
    by (o ∷ os) h id bytes is =
        elim (same_id o.id id) as (λ t. same_id o.id id ≡ t → cond t (Some o.bytes) (shelf_of os id) ≡ Some bytes → id.hash ≡ sha1 bytes) [
          | true ↦ λ same there. (let own : o.bytes ≡ bytes = cc in sym (same_id_hash o.id id same) ∙ h.each o (first_there o os) ∙ ap sha1 own)
          | false ↦ λ _ there. by os (record { each = λ x among. h.each x (later_there o os x among) }) id bytes there
        ] refl is

first_shelf : (first : Revision) → HasAll (first_objects first) (shelf_of (first_objects first))
first_shelf first = record {
  each = λ object among. elim (first_or_later (record_object first) (catalogue_object first.tree [] ∷ []) object among) [
    | inl same ↦ subst (λ (o : Object). shelf_of (first_objects first) o.id ≡ Some o.bytes) same record_there
    | inr later ↦ elim (first_or_later (catalogue_object first.tree []) [] object later) [
      | inl same ↦ subst (λ (o : Object). shelf_of (first_objects first) o.id ≡ Some o.bytes) same catalogue_there
      | inr none ↦ absurd (none_there object none)
    ]
  ];
}
  where
    either : (b : Bool) → (b && false) ≡ false
    either true = refl
    either false = refl

    record_there : shelf_of (first_objects first) (record_object first).id ≡ Some (record_object first).bytes
    record_there = rw (bytes_eq-own (sha1 (record_object first).bytes)) refl

    catalogue_there : shelf_of (first_objects first) (catalogue_object first.tree []).id ≡ Some (catalogue_object first.tree []).bytes
    catalogue_there = rw (either (bytes_eq (sha1 (record_object first).bytes) (sha1 (catalogue_object first.tree []).bytes)), bytes_eq-own (sha1 (catalogue_object first.tree []).bytes)) refl

-- so there is something sound
pub first_kept : (now : ℕ) → IsMoment now → IsKept (record { history = first_revision now ∷ []; shelf = shelf_of (first_objects (first_revision now)); epoch = 0 })
first_kept now limit =
    let first : Revision = first_revision now in
    let hashed : AreNamed (first_objects first) = record {
      each = λ object among. elim (first_or_later (record_object first) (catalogue_object first.tree [] ∷ []) object among) [
        | inl same ↦ subst (λ (o : Object). o.id.hash ≡ sha1 o.bytes) same refl
        | inr later ↦ elim (first_or_later (catalogue_object first.tree []) [] object later) [
          | inl same ↦ subst (λ (o : Object). o.id.hash ≡ sha1 o.bytes) same refl
          | inr none ↦ absurd (none_there object none)
        ]
      ];
    } in
    record { sound = first_sound (shelf_of (first_objects first)) now limit (hashed_shelf (first_objects first) hashed) (first_shelf first); epoch = omega arith }
