use Rattle.std.proofs.Common.{◌≡◌, ℕ, List, get_or, set, None, Some, refl, arith, sym, ◌∙◌, ap, subst}
use Rattle.std.proofs.lemmas.List.{get_or_default}
use Rattle.cv_rows.specs.DigestsInner.{IsDigestBelow, IsFound}
use Rattle.cv_rows.specs.ParentsInner.{step}
use Rattle.cv_rows.specs.declared.row.Row.{Row}
use Rattle.cv_rows.proofs.Spelled.{kept_more, kept_path, kept_below, found_below, not_found}
use Rattle.cv_rows.proofs.Walks.{none_left, parent_inside, above_none, root_stands}
use Rattle.cv_rows.proofs.spelling.+spell.Goals as goal

pub returns-then-row-root-clause-kept : goal.returns-then-row-root-clause-kept
returns-then-row-root-clause-kept t c =
    kept_more c.args.at.now c.args.rows.now c.args.kept.now.items c.args.row (Some c.of.result) c.requires.kept c.requires.row
    (c.args.at.now, c.of.ensures, root_stands c.args.at.now c.args.rows.now c.args.root c.args.parents.now c.args.row 0 c.requires.place c.requires.placing c.if-row-root.true c.args.at.now refl)

pub spell-requires : goal.spell-requires
spell-requires t c = (
  omega arith,
  (
    c.requires.place,
    (
      c.requires.placing,
      (
        c.requires.stand,
        (
          parent_inside c.args.at.now c.args.rows.now c.args.root c.args.parents.now c.requires.placing c.requires.stand c.args.row c.requires.row c.if-row-root.false,
          (c.requires.named, c.requires.kept),
        ),
      ),
    ),
  ),
)

pub returns-then-left-eq0-clause-found : goal.returns-then-left-eq0-clause-found
returns-then-left-eq0-clause-found t c = none_left c.args.at.now c.args.rows.now c.args.root c.args.parents.now c.args.row c.args.left c.requires.placing c.requires.row c.if-row-root.false c.if-left-eq0.true

pub returns-then-not-branch-clause-found : goal.returns-then-not-branch-clause-found
returns-then-not-branch-clause-found t c =
    above_none c.args.at.now c.args.rows.now c.args.root c.args.parents.now c.args.row c.args.left c.requires.placing c.requires.row c.if-row-root.false (omega arith)
    (not_found c.args.at.now c.args.rows.now _ _ _ _ c.in_ok-spell.ensures.found c.if-not-branch.true)

-- the path above, and what is kept of the row's
pub returns-clause-kept : goal.returns-clause-kept
returns-clause-kept t c =
    let at = c.args.at.now in
    let rows = c.args.rows.now in
    let inside = parent_inside at rows c.args.root c.args.parents.now c.requires.placing c.requires.stand c.args.row c.requires.row c.if-row-root.false in
    let j = step c.args.parents.now c.args.row in
    let found : get_or c.spell.new.kept.items j None ≡ Some c.in-Some.above = sym (c.index-2.ensures ∙ get_or_default c.spell.new.kept.items j c.index-2.result.now None (omega (arith, inside, c.in_ok-spell.ensures.kept.size))) ∙ c.in-Some.is in
    let h = kept_path at rows c.spell.new.kept.items (step c.args.parents.now c.args.row) c.in-Some.above c.in_ok-spell.ensures.kept inside found in
    let is = subst (λ (n : List ℕ). IsDigestBelow h.0 n c.in_ok-more.more) (c.text.ensures.text ∙ ap (λ (r : Row). r.name) (sym c.index-rows-row.is)) (c.in_ok-more.ensures h.0 h.2.0 h.1) in
    kept_more at rows c.spell.new.kept.items c.args.row c.in_ok-more.more c.in_ok-spell.ensures.kept c.requires.row
    (kept_below at rows c.args.root c.args.parents.now c.args.row c.args.left _ c.requires.placing c.requires.stand c.requires.row c.if-row-root.false c.index-rows-row.is c.in-Some.above h c.in_ok-more.more is)

pub returns-clause-found : goal.returns-clause-found
returns-clause-found t c =
    let at = c.args.at.now in
    let rows = c.args.rows.now in
    let kept = c.spell.new.kept.items in
    let inside = parent_inside at rows c.args.root c.args.parents.now c.requires.placing c.requires.stand c.args.row c.requires.row c.if-row-root.false in
    let j = step c.args.parents.now c.args.row in
    let found : get_or kept j None ≡ Some c.in-Some.above = sym (c.index-2.ensures ∙ get_or_default kept j c.index-2.result.now None (omega (arith, inside, c.in_ok-spell.ensures.kept.size))) ∙ c.in-Some.is in
    let h = kept_path at rows kept (step c.args.parents.now c.args.row) c.in-Some.above c.in_ok-spell.ensures.kept inside found in
    let is = subst (λ (n : List ℕ). IsDigestBelow h.0 n c.in_ok-more.more) (c.text.ensures.text ∙ ap (λ (r : Row). r.name) (sym c.index-rows-row.is)) (c.in_ok-more.ensures h.0 h.2.0 h.1) in
    subst (IsFound at rows c.args.row c.args.left (set kept c.args.row c.in_ok-more.more)) (sym c.is_some-is_path.ensures)
    (found_below at rows c.args.root c.args.parents.now c.args.row c.args.left _ c.requires.placing c.requires.stand c.requires.row c.if-row-root.false c.index-rows-row.is c.in-Some.above h kept c.in_ok-more.more c.in_ok-spell.ensures.kept.size is)
