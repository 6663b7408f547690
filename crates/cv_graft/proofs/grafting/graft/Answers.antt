use Rattle.std.proofs.Common.{rules, ◌≡◌, ◌≢◌, [], length, sym, ◌∙◌, arith}
use Rattle.std.proofs.lemmas.Bool.Decides.{Decides-eqb}
use Rattle.std.proofs.lemmas.List.{nil_from_length}
use Rattle.cv_graft.specs.Way.{IsOfEither}
use Rattle.cv_graft.proofs.Both.{at_root, grafts_tree}
use Rattle.cv_graft.proofs.Finding.{cuts_way}
use Rattle.cv_graft.proofs.Holders.{tells_none}
use Rattle.cv_graft.proofs.Parentless.{nothing_made, some_below}
use Rattle.cv_graft.proofs.grafting.graft.Goals as goal

pub returns-then-is_empty-clause-told : goal.returns-then-is_empty-clause-told
returns-then-is_empty-clause-told g c = λ standing told t n ways place.
    let size = (Decides-eqb (length c.names.result.now) 0).0 (sym c.is_empty.ensures ∙ c.if-is_empty.true) in
    let root : c.args.path.now ≡ [] = sym c.names.ensures.names ∙ nil_from_length c.names.result.now size in
    at_root standing c.args.newest.now.hash c.args.offered.now t n c.args.path.now c.whole.result root c.requires.offered ways (c.whole.ensures.gives standing told)

pub returns-then-is_empty-clause-way : goal.returns-then-is_empty-clause-way
returns-then-is_empty-clause-way g c = λ standing told some.
    let size = (Decides-eqb (length c.names.result.now) 0).0 (sym c.is_empty.ensures ∙ c.if-is_empty.true) in
    absurd (some (sym c.names.ensures.names ∙ nil_from_length c.names.result.now size))

pub returns-then-is_empty-clause-parentless : goal.returns-then-is_empty-clause-parentless
returns-then-is_empty-clause-parentless g c = λ standing told t way none.
    let size = (Decides-eqb (length c.names.result.now) 0).0 (sym c.is_empty.ensures ∙ c.if-is_empty.true) in
    absurd (some_below t c.args.path.now none (sym c.names.ensures.names ∙ nil_from_length c.names.result.now size))

pub returns-then-is_empty-clause-damaged : goal.returns-then-is_empty-clause-damaged
returns-then-is_empty-clause-damaged g c = λ standing told. tells_none standing (IsOfEither standing c.args.newest.now.hash c.args.offered.now.hash c.args.path.now) c.whole.result (c.whole.ensures.undamaged standing)

pub returns-then-is_empty-clause-most : goal.returns-then-is_empty-clause-most
returns-then-is_empty-clause-most g c = (0, omega arith, c.whole.ensures.taken)

pub returns-clause-told : goal.returns-clause-told
returns-clause-told g c = λ standing told t n ways place.
    let some : c.args.path.now ≢ [] = search rules in
    grafts_tree standing c.args.newest.now.hash c.args.offered.now.hash t n c.args.path.now ways.way ways.other some place c.requires.unmarked c.below_root.result
    (c.below_root.ensures.way standing told) (c.below_root.ensures.damaged standing told)

pub returns-clause-way : goal.returns-clause-way
returns-clause-way g c = λ standing told some. c.below_root.ensures.way standing told

pub returns-clause-parentless : goal.returns-clause-parentless
returns-clause-parentless g c = λ standing told t way none.
    nothing_made standing c.args.newest.now.hash t c.args.path.now (cuts_way way) c.args.offered.now.hash c.below_root.result none (c.below_root.ensures.way standing told)
