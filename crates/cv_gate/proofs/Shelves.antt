-- Shelves that gain objects.
use Rattle.std.proofs.Common.{◌≡◌, ◌⊎◌, is_some, IsSome, true, false, cond, List, ℕ, refl, sym, ap, ◌∙◌, inl, inr}
use Rattle.std.proofs.lemmas.Option.{same_Some}
use Rattle.std.specs.declared.option.Option.TheVariants.{None, Some}
use Rattle.sha1.specs.Sha1.{sha1}
use Rattle.cv_base.specs.declared.id.ObjectId.{ObjectId}
use Rattle.cv_base.specs.declared.object.Object.{Object}
use Rattle.cv_ports.specs.Shelf.{Shelf, IsShelf, HasMore}
use Rattle.cv_gate.specs.State.{State}
use Rattle.cv_base.specs.Objects.{AreNamed}
use Rattle.cv_objects.specs.Batches.{IsGained}
use Rattle.cv_gate.specs.Objects.{GainsSome, GainsAll}
use Rattle.cv_gate.specs.Sound.{sure}

pub some_of_all : (objects : List Object) (st st' : State) → GainsAll objects st st' → GainsSome objects st st'
some_of_all objects st st' g = record {
  shelf = g.shelf;
  loose = λ id is. (let not : st'.loose id ≡ false = g.loose id in cc);
  others = g.others;
}

stays : (objects : List Object) (s s' : Shelf) (id : ObjectId) (bytes : List ℕ) → (s' id ≡ s id) ⊎ IsGained objects s id (s' id) → s id ≡ Some bytes → s' id ≡ Some bytes
stays objects s s' id bytes (inl same) is = same ∙ is
stays objects s s' id bytes (inr gained) is = let absent = gained.absent in cc

-- what stood there stands there still
pub keeps : (objects : List Object) (st st' : State) → GainsSome objects st st' → HasMore st.shelf st'.shelf
keeps objects st st' g = λ id bytes is. stays objects st.shelf st'.shelf id bytes (g.shelf.each id) is

-- and so it is with what stood there for sure
pub keeps_sure : (objects : List Object) (st st' : State) → GainsSome objects st st' → HasMore (sure st) (sure st')
keeps_sure objects st st' g = λ id bytes is.
    elim (st.loose id) as (λ l. st.loose id ≡ l → cond l None (st.shelf id) ≡ Some bytes → sure st' id ≡ Some bytes) [
      | true ↦ λ _ none. cc
      | false ↦ λ tight there.
          elim (st'.loose id) as (λ l. st'.loose id ≡ l → cond l None (st'.shelf id) ≡ Some bytes) [
            | true ↦ λ now. elim (g.loose id now) [
              | inl was ↦ absurd cc
              | inr gained ↦ (let absent = gained.absent in absurd cc)
            ]
            | false ↦ λ _. stays objects st.shelf st'.shelf id bytes (g.shelf.each id) there
          ] refl
    ] refl is

-- where nothing is loose all is sure
pub keeps_all_sure : (st : State) → ((id : ObjectId) → st.loose id ≡ false) → HasMore st.shelf (sure st)
keeps_all_sure st tight = λ id bytes is. elim (st.loose id) as (λ l. l ≡ false → cond l None (st.shelf id) ≡ Some bytes) [
  | true ↦ λ e. absurd cc
  | false ↦ λ _. is
] (tight id)

-- what is loose is on the shelf
pub loose_more : (objects : List Object) (st st' : State) → GainsSome objects st st' → ((id : ObjectId) → st.loose id ≡ true → IsSome (st.shelf id)) → (id : ObjectId) → st'.loose id ≡ true → IsSome (st'.shelf id)
loose_more objects st st' g h id is = elim (g.loose id is) [
  | inl was ↦ elim (g.shelf.each id) [
    | inl same ↦ ap is_some same ∙ h id was
    | inr gained ↦ ap is_some gained.file
  ]
  | inr gained ↦ ap is_some gained.file
]

pub shelf_more : (objects : List Object) (st st' : State) → AreNamed objects → GainsSome objects st st' → IsShelf st.shelf → IsShelf st'.shelf
shelf_more objects st st' hashed g h = record {
  hash = λ id bytes is. elim (g.shelf.each id) [
    | inl same ↦ h.hash id bytes (sym same ∙ is)
    | inr gained ↦ (
        let own = hashed.each gained.object gained.among in
        let bytes_are : gained.object.bytes ≡ bytes = same_Some _ _ (sym gained.file ∙ is) in
        ap (λ (x : ObjectId). x.hash) gained.is ∙ own ∙ ap sha1 bytes_are)
  ];
}
