use Rattle.std.proofs.Common.{◌≡◌, ℕ, List, get_or, ap, sym, ◌∙◌, ◌||◌, true, false, bytes_eq}
use Rattle.std.specs.BTreeSet.{BTreeSet, contains}
use Rattle.std.proofs.lemmas.List.{get_or_default}
use Rattle.cv_base.specs.BytesOrder.{bytes_cmp}
use Rattle.cv_base.specs.Path.{Path, covers}
use Rattle.cv_rows.specs.Places.{StandsAt}
use Rattle.cv_rows.specs.declared.row.Row.{Row}
use Rattle.cv_rows.proofs.Covering.{covered_is, known_more, nothing_more, all_known}
use Rattle.cv_rows.proofs.covered.covered_keys.Goals as goal
use Rattle.cv_rows.proofs.covered.covered_keys.Goals.{then-is_covered+in_ok-add, else-is_covered}

pub returns : goal.returns
returns c = all_known _ _ _ _ _ c.loop-row-test.false c.loop-row.invariant

pub loop-row-preserved : goal.loop-row-preserved
loop-row-preserved c =
    let i = c.loop-row.row in
    let rows = c.args.rows.now in
    let knows = λ (keys : BTreeSet (List ℕ)). contains bytes_cmp keys in
    let so : (d : Row) (q : Path) → StandsAt c.args.at.now rows (get_or rows i d) q → c.is_covered.result ≡ covers c.args.path.now q = λ d q s.
    c.is_covered.ensures ∙ covered_is c.args.at.now rows c.args.path.now i c.in_ok-found.found c.requires.ordered c.requires.fit c.in_ok-found.ensures d q s in
    elim c.if-is_covered.branch [
      | then-is_covered+in_ok-add w ↦
          rw w.keys-is (known_more c.args.at.now rows c.args.path.now i (knows c.loop-row.keys) (knows w.add.new.keys) true c.requires.ordered c.loop-row-test.true (λ d q s. sym w.if-is_covered.true ∙ so d q s)
          (λ d key. w.in_ok-add.ensures.added key ∙ ap (λ (r : Row). knows c.loop-row.keys key || bytes_eq r.key.0 key) (get_or_default rows i w.index-rows-row.result d c.loop-row-test.true)) c.loop-row.invariant)
      | else-is_covered w ↦
          rw w.keys-is (known_more c.args.at.now rows c.args.path.now i (knows c.loop-row.keys) (knows c.loop-row.keys) false c.requires.ordered c.loop-row-test.true (λ d q s. sym w.if-is_covered.false ∙ so d q s)
          (λ d key. nothing_more (knows c.loop-row.keys key) (bytes_eq (get_or rows i d).key.0 key)) c.loop-row.invariant)
    ]
