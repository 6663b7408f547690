use Rattle.std.proofs.Common.{ℕ, ◌<◌, List, [], length, ap, sym, subst, ◌∙◌, arith}
use Rattle.std.proofs.lemmas.List.{get_or-map, length-map, take_all}
use Rattle.cv_rows.specs.Made.{AreApart, keys_of}
use Rattle.cv_rows.specs.declared.row.Row.{Row}
use Rattle.cv_rows.proofs.Apart.{apart_more, known_more, twice_at, told_false, told_true}
use Rattle.cv_rows.proofs.judging.key_twice.Goals as goal

pub returns-then-not-branch : goal.returns-then-not-branch
returns-then-not-branch c =
    let f = λ (r : Row). r.key.0 in
    let key = c.row-item.result.key.0 in
    let i = c.loop-row.row-index in
    twice_at (keys_of c.args.rows.now) i key (omega (arith, length-map c.args.rows.now f)) (get_or-map f c.args.rows.now i c.row-item.result [] c.loop-row-test.true ∙ ap f (sym c.row-item.is))
    (sym (c.loop-row.invariant.known key) ∙ told_true _ _ c.in_ok-add.ensures.is_new c.if-not-branch.true)

pub loop-row-preserved : goal.loop-row-preserved
loop-row-preserved c =
    let f = λ (r : Row). r.key.0 in
    let ks = keys_of c.args.rows.now in
    let key = c.row-item.result.key.0 in
    let i = c.loop-row.row-index in
    let lt : i < length ks = omega (arith, length-map c.args.rows.now f) in
    let is = get_or-map f c.args.rows.now i c.row-item.result [] c.loop-row-test.true ∙ ap f (sym c.row-item.is) in
    record {
      known = λ k. known_more ks i key k _ _ lt is (c.loop-row.invariant.known k) (c.in_ok-add.ensures.added k);
      apart = apart_more ks i key lt is c.loop-row.invariant.apart (sym (c.loop-row.invariant.known key) ∙ told_false _ _ c.in_ok-add.ensures.is_new c.if-not-branch.false);
    }

pub returns : goal.returns
returns c =
    subst (λ (ks : List (List ℕ)). AreApart ks) (take_all c.loop-row.row-index (keys_of c.args.rows.now) (omega (arith, length-map c.args.rows.now (λ (r : Row). r.key.0)))) c.loop-row.invariant.apart
