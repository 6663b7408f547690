-- Reading the fields of a record, one after another from its first byte on. What only this crate's own functions say.
use Rattle.std.specs.Prelude.{ℕ, List, [], ◌∷◌, codes}
use Rattle.std.specs.Int.{w64, to_be_bytes}
use Rattle.std.specs.List.{concat}
use Rattle.cv_history.specs.declared.record.Record.{Record}

-- the bytes of the fields before the texts
abbrev pub front_bytes : Record → List ℕ
front_bytes r =
    concat (codes "CVH1" ∷ to_be_bytes w64 r.revision ∷ r.previous ∷ r.root ∷ r.offered
    ∷ to_be_bytes w64 r.token.epoch ∷ to_be_bytes w64 r.token.number ∷ [])
