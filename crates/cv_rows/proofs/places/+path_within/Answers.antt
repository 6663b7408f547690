use Rattle.std.proofs.Common.{ℕ, ◌-◌, List, Option, sym, ap, subst, ◌∙◌, arith}
use Rattle.std.specs.Prelude.{IfOk}
use Rattle.cv_base.specs.Path.{Path}
use Rattle.cv_rows.specs.declared.row.Row.{Row}
use Rattle.cv_rows.specs.Parents.{IsBelow}
use Rattle.cv_rows.specs.ParentsInner.{step, IsPathOf}
use Rattle.cv_rows.proofs.Walks.{root_stands, none_left, parent_inside, above_none, if_below}
use Rattle.cv_rows.proofs.places.+path_within.Goals as goal

pub returns-then-row-root : goal.returns-then-row-root
returns-then-row-root t c =
    root_stands c.args.at.now c.args.rows.now c.args.root c.args.parents.now c.args.row c.args.left c.requires.place c.requires.placing c.if-row-root.true c.in_ok-copy.field-0 c.in_ok-copy.ensures

pub returns-then-left-eq0 : goal.returns-then-left-eq0
returns-then-left-eq0 t c =
    none_left c.args.at.now c.args.rows.now c.args.root c.args.parents.now c.args.row c.args.left c.requires.placing c.requires.row c.if-row-root.false c.if-left-eq0.true

pub path_within-requires : goal.path_within-requires
path_within-requires t c = (
  omega arith,
  (
    c.requires.place,
    (
      c.requires.placing,
      (
        c.requires.stand,
        parent_inside c.args.at.now c.args.rows.now c.args.root c.args.parents.now c.requires.placing c.requires.stand c.args.row c.requires.row c.if-row-root.false,
      ),
    ),
  ),
)

pub returns-in-Some : goal.returns-in-Some
returns-in-Some t c =
    if_below c.args.at.now c.args.rows.now c.args.root c.args.parents.now c.args.row c.args.left _ c.requires.placing c.requires.stand c.requires.row c.if-row-root.false c.index-rows-row.is c.in-Some.above
    (subst (λ (o : Option Path). IsPathOf c.args.at.now c.args.rows.now (step c.args.parents.now c.args.row) (c.args.left - 1) o) c.in-Some.is c.in_ok-above.ensures)
    c.further.result (subst (λ (n : List ℕ). IfOk c.further.result (IsBelow c.in-Some.above n)) (c.text.ensures.text ∙ ap (λ (r : Row). r.name) (sym c.index-rows-row.is)) c.further.ensures)

pub returns-in-None : goal.returns-in-None
returns-in-None t c =
    above_none c.args.at.now c.args.rows.now c.args.root c.args.parents.now c.args.row c.args.left c.requires.placing c.requires.row c.if-row-root.false (omega arith)
    (subst (λ (o : Option Path). IsPathOf c.args.at.now c.args.rows.now (step c.args.parents.now c.args.row) (c.args.left - 1) o) c.in-None.is c.in_ok-above.ensures)
