-- When a disk holds a state, and what a crash of it leaves. What only this crate's own functions say.
use Rattle.std.specs.Prelude.{◌&&◌, ◌||◌, is_some, is_none, false}
use Rattle.cv_vault.specs.Disk.{Disk}
use Rattle.cv_objects.specs.Names.{standing_on}
use Rattle.cv_gate.specs.State.{State}

-- ---- the state that a disk holds after a store

-- the store failed, and some objects may have come, which are loose then
abbrev pub after_failure : State → Disk → State
after_failure st d = record st { shelf = standing_on d; loose = λ id. st.loose id || (is_none (st.shelf id) && is_some (standing_on d id)) }

-- the store was done, and nothing is loose
abbrev pub after_store : State → Disk → State
after_store st d = record st { shelf = standing_on d; loose = λ id. false }
