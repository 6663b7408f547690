-- Objects that come to the shelf of a state.
use Rattle.std.specs.Prelude.{◌≡◌, ◌⊎◌, true, false, List}
use Rattle.cv_base.specs.declared.id.ObjectId.{ObjectId}
use Rattle.cv_base.specs.declared.object.Object.{Object}
use Rattle.cv_objects.specs.Batches.{IsGained}
use Rattle.cv_objects.specs.Coming.{ShelfGains, HasAll}
use Rattle.cv_gate.specs.State.{State}

-- the shelf gained some of these objects and nothing else, and only they may be loose besides what was
pub record GainsSome (objects : List Object) (st st' : State) : Type 0 where
  pub shelf : ShelfGains objects st.shelf st'.shelf
  pub loose : (id : ObjectId) → st'.loose id ≡ true → (st.loose id ≡ true) ⊎ IsGained objects st.shelf id (st'.shelf id)
  pub others : st' ≡ record st { shelf = st'.shelf; loose = st'.loose }

-- the shelf has all of these objects, of which it gained those that it lacked and nothing else; nothing is loose
pub record GainsAll (objects : List Object) (st st' : State) : Type 0 where
  pub shelf : ShelfGains objects st.shelf st'.shelf
  pub has : HasAll objects st'.shelf
  pub loose : (id : ObjectId) → st'.loose id ≡ false
  pub others : st' ≡ record st { shelf = st'.shelf; loose = st'.loose }
