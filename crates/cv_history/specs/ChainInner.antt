-- The chain of records that a last id names. What only this crate's own functions say.
use Rattle.std.specs.Prelude.{◌≡◌, ℕ, List, reverse, Vec, Result, Ok, Err}
use Rattle.cv_base.specs.declared.id.ObjectId.{ObjectId}
use Rattle.cv_ports.specs.Shelf.{Shelf}
use Rattle.cv_history.specs.Record.{Spells}
use Rattle.cv_history.specs.declared.chain_fault.ChainFault.{ChainFault}
use Rattle.cv_history.specs.declared.chain_fault.ChainFault.TheVariants.{BadRecord, Failed, NoMemory}
use Rattle.cv_history.specs.declared.record.Record.{Record}
use Rattle.cv_history.specs.Chain.{Chain, IsAmiss, MayBreak, StandsAt}

-- the same, from the last record back
abbrev pub GivesBack : Shelf → ℕ → ObjectId → {Z : Type 0} → Result (Vec Record Z) ChainFault → Type 0
GivesBack shelf n id (Ok rs) = Chain (StandsAt shelf) n id (reverse rs.items)
GivesBack shelf n id (Err fault) = MayBreak shelf n id fault

-- what is read under an id: its record, or what is amiss there whatever revision is wanted
abbrev pub Reads : Shelf → ObjectId → Result Record ChainFault → Type 0
Reads shelf id (Ok r) = StandsAt shelf id r
Reads shelf id (Err Failed) = Unit {0}
Reads shelf id (Err NoMemory) = Unit {0}
Reads shelf id (Err fault) = (wanted : ℕ) → IsAmiss shelf wanted id fault

-- what is read of the bytes under an id: the record that they spell, or that they are none
abbrev pub IsParsed : ObjectId → List ℕ → Result Record ChainFault → Type 0
IsParsed id bytes (Ok r) = Spells bytes r
IsParsed id bytes (Err (BadRecord at)) = (at ≡ id) × ((r : Record) → Spells bytes r → ⊥)
IsParsed id bytes (Err NoMemory) = Unit {0}
IsParsed id bytes (Err fault) = ⊥
