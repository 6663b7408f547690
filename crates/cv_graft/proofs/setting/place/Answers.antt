use Rattle.std.proofs.Common.{rules, ◌≡◌, ◌≢◌, [], length, refl, sym, ◌∙◌, arith}
use Rattle.std.proofs.lemmas.Bool.Decides.{Decides-eqb}
use Rattle.std.proofs.lemmas.List.{nil_from_length}
use Rattle.std.specs.Option.{option_copied}
use Rattle.cv_tree.specs.Changes.{nodes_of}
use Rattle.cv_graft.specs.Way.{IsOfWay}
use Rattle.cv_graft.proofs.Holders.{tells_none}
use Rattle.cv_graft.proofs.Parentless.{nothing_placed, some_below}
use Rattle.cv_graft.proofs.PlacedWay.{places_tree}
use Rattle.cv_graft.proofs.PlacedWhole.{placed_root}
use Rattle.cv_graft.proofs.setting.place.Goals as goal

pub at_root-requires-clause-path : goal.at_root-requires-clause-path
at_root-requires-clause-path g c =
    let size = (Decides-eqb (length c.names.result.now) 0).0 (sym c.is_empty.ensures ∙ c.if-is_empty.true) in
    sym c.names.ensures.names ∙ nil_from_length c.names.result.now size

pub returns-then-is_empty-clause-told : goal.returns-then-is_empty-clause-told
returns-then-is_empty-clause-told g c = λ standing told t way place.
    let size = (Decides-eqb (length c.names.result.now) 0).0 (sym c.is_empty.ensures ∙ c.if-is_empty.true) in
    let root : c.args.path.now ≡ [] = sym c.names.ensures.names ∙ nil_from_length c.names.result.now size in
    placed_root t (nodes_of (option_copied c.args.part)) c.args.path.now _ root c.at_root.ensures.placed

pub returns-then-is_empty-clause-damaged : goal.returns-then-is_empty-clause-damaged
returns-then-is_empty-clause-damaged g c = λ standing told. tells_none standing (IsOfWay standing c.args.base.now.hash c.args.path.now) c.at_root.result (c.at_root.ensures.undamaged standing)

pub returns-then-is_empty-clause-cause : goal.returns-then-is_empty-clause-cause
returns-then-is_empty-clause-cause g c = record { later = omega arith; failed = λ is. absurd (c.at_root.ensures.unread is) }

pub returns-then-is_empty-clause-taken : goal.returns-then-is_empty-clause-taken
returns-then-is_empty-clause-taken g c = λ standing told t way. (0, omega arith, refl)

pub returns-then-is_empty-clause-most : goal.returns-then-is_empty-clause-most
returns-then-is_empty-clause-most g c = (0, omega arith, refl)

pub returns-then-is_empty-clause-way : goal.returns-then-is_empty-clause-way
returns-then-is_empty-clause-way g c = λ standing told some.
    let size = (Decides-eqb (length c.names.result.now) 0).0 (sym c.is_empty.ensures ∙ c.if-is_empty.true) in
    absurd (some (sym c.names.ensures.names ∙ nil_from_length c.names.result.now size))

pub returns-clause-told : goal.returns-clause-told
returns-clause-told g c = λ standing told t way place.
    let some : c.args.path.now ≢ [] = search rules in
    places_tree standing c.args.base.now.hash t c.args.path.now (nodes_of (option_copied c.args.part)) way some place c.requires.unmarked c.below_root_with.result
    (c.below_root_with.ensures.way standing told) (c.below_root_with.ensures.damaged standing told)

pub returns-clause-way : goal.returns-clause-way
returns-clause-way g c = λ standing told some. c.below_root_with.ensures.way standing told

pub returns-then-is_empty-clause-parentless : goal.returns-then-is_empty-clause-parentless
returns-then-is_empty-clause-parentless g c = λ standing told t way none.
    let size = (Decides-eqb (length c.names.result.now) 0).0 (sym c.is_empty.ensures ∙ c.if-is_empty.true) in
    absurd (some_below t c.args.path.now none (sym c.names.ensures.names ∙ nil_from_length c.names.result.now size))

pub returns-clause-parentless : goal.returns-clause-parentless
returns-clause-parentless g c = λ standing told t way none.
    nothing_placed standing c.args.base.now.hash t c.args.path.now way (nodes_of (option_copied c.args.part)) c.below_root_with.result none (c.below_root_with.ensures.way standing told)
