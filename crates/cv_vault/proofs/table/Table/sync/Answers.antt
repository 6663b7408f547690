use Rattle.std.proofs.Common.{◌≡◌, Bool, true, false, not, refl, sym, ◌∙◌}
use Rattle.cv_vault.specs.Table.{Rows, entries_of}
use Rattle.cv_vault.specs.Events.{any_unsettled}
use Rattle.std.specs.List.{list_all}
use Rattle.cv_vault.specs.PlacesInner.{is_settled_place}
use Rattle.cv_vault.specs.declared.table.Entry.{Entry}
use Rattle.cv_vault.proofs.Settling.{calm_is, calm_disk}
use Rattle.cv_vault.proofs.table.Table.sync.Goals as goal

turned : (b r : Bool) → not b ≡ not r → b ≡ r
turned true true e = refl
turned true false e = cc
turned false true e = cc
turned false false e = refl

calm_told : (t : Rows) (r : Bool) → r ≡ list_all (λ (e : Entry). is_settled_place e.place) t.entries → not (any_unsettled (entries_of t)) ≡ r
calm_told t r e = sym (e ∙ calm_is t.names t.contents t.entries)

pub settle-requires : goal.settle-requires
settle-requires c = record { room = c.requires.room (turned _ true (calm_told c.args.self.now false c.if-is_calm.ensures.calm)) }

pub returns-then-is_calm-clause-changes : goal.returns-then-is_calm-clause-changes
returns-then-is_calm-clause-changes c = sym (turned _ false (calm_told c.args.self.now true c.if-is_calm.ensures.calm))

pub returns-then-is_calm-clause-calm : goal.returns-then-is_calm-clause-calm
returns-then-is_calm-clause-calm c = turned _ false (calm_told c.args.self.now true c.if-is_calm.ensures.calm)

pub returns-then-is_calm-clause-disk : goal.returns-then-is_calm-clause-disk
returns-then-is_calm-clause-disk c = calm_disk (entries_of c.args.self.now) (turned _ false (calm_told c.args.self.now true c.if-is_calm.ensures.calm))

pub returns-then-is_calm-clause-settles : goal.returns-then-is_calm-clause-settles
returns-then-is_calm-clause-settles c = rw (turned (any_unsettled (entries_of c.args.self.now)) false (calm_told c.args.self.now true c.if-is_calm.ensures.calm)) tt

pub returns-clause-changes : goal.returns-clause-changes
returns-clause-changes c = sym (turned _ true (calm_told c.args.self.now false c.if-is_calm.ensures.calm))

pub returns-clause-settles : goal.returns-clause-settles
returns-clause-settles c = rw (turned (any_unsettled (entries_of c.args.self.now)) true (calm_told c.args.self.now false c.if-is_calm.ensures.calm)) c.settle.ensures.adds

pub returns-clause-unchanged : goal.returns-clause-unchanged
returns-clause-unchanged c = rw (turned (any_unsettled (entries_of c.args.self.now)) true (calm_told c.args.self.now false c.if-is_calm.ensures.calm)) tt
