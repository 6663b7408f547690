use Rattle.std.proofs.Common.{List, [], ◌∷◌, ◌++◌, length, sym, ap, ◌∙◌, arith, inr}
use Rattle.cv_base.specs.Path.{Path}
use Rattle.cv_base.proofs.Laws.{left_by}
use Rattle.cv_rows.specs.declared.nested.Nested.{Nested}
use Rattle.cv_load.specs.KnownInner.{ChecksFrom}
use Rattle.cv_load.proofs.Growing.{item_of}
use Rattle.cv_load.proofs.Checks.{checks_known, checks_unopened, checks_more, checks_all, checks_broken, checks_none}
use Rattle.cv_load.proofs.Listing.{lists_none, lists_known, lists_more, lists_all, has_added}
use Rattle.cv_load.proofs.NewFetching.{new_none, new_ended, new_opened, new_all}
use Rattle.cv_load.proofs.NewPairs.{added_none, added_known, added_more, added_all}
use Rattle.cv_load.proofs.checking.+check.Goals as goal

pub loop-nested-preserved-then-is_known : goal.loop-nested-preserved-then-is_known
loop-nested-preserved-then-is_known g t c =
    let item = item_of c.args.catalogue.now.nested c.nested-nested-items.result.now c.loop-nested.nested-index c.nested-item.result c.nested-nested-items.ensures c.loop-nested-test.true c.nested-item.is in
    record {
      checks = λ standing told all.
          checks_known standing c.args.known.now c.args.catalogue.now c.in_ok-below.below c.nested-item.result c.args.pairs.now.items c.loop-nested.pairs.items c.loop-nested.nested-index c.requires.rules item.0 item.1
          all (sym c.is_known.ensures ∙ c.if-is_known.true) (c.loop-nested.invariant.checks standing told all) (c.in_ok-below.ensures.told standing (c.loop-nested.invariant.unchanged ∙ told));
      fetches = λ standing told. new_ended standing c.args.known.now c.args.id.now c.args.catalogue.now c.nested-item.result c.loop-nested.nested-index _ _ _ c.requires.rules item.0 item.1 (c.loop-nested.invariant.fetches standing told) (inr c.in_ok-below.ensures.taken);
      keeps = c.loop-nested.invariant.keeps;
      adds = λ standing told. added_known standing c.args.known.now c.args.id.now c.args.catalogue.now c.loop-nested.nested-index c.args.pairs.now.items c.loop-nested.pairs.items (c.loop-nested.invariant.adds standing told);
      lists = λ standing told. lists_known standing c.args.known.now c.args.catalogue.now c.nested-item.result c.loop-nested.pairs.items c.loop-nested.nested-index item.0 item.1 (sym c.is_known.ensures ∙ c.if-is_known.true) (c.loop-nested.invariant.lists standing told);
      reads = g.met.S.Shelf.reads_then _ _ _ c.loop-nested.invariant.reads c.nested_catalogue.ensures.reads;
      unchanged = c.nested_catalogue.ensures.unchanged ∙ c.loop-nested.invariant.unchanged;
      later = (let first = c.loop-nested.invariant.later in let second = c.nested_catalogue.ensures.cause.later in omega (arith, first, second));
    }

pub returns-in_err-check-clause-told : goal.returns-in_err-check-clause-told
returns-in_err-check-clause-told g t c = λ standing told all.
    let item = item_of c.args.catalogue.now.nested c.nested-nested-items.result.now c.loop-nested.nested-index c.nested-item.result c.nested-nested-items.ensures c.loop-nested-test.true c.nested-item.is in
    let there = c.loop-nested.invariant.unchanged ∙ told in
    left_by (ChecksFrom standing c.args.id.now c.args.catalogue.now c.args.pairs.now.items c.check.new.pairs.items) _ _ c.from_residual-in_err-check.ensures.1
    (checks_broken standing c.args.id.now c.args.catalogue.now c.in_ok-below.below c.nested-item.result c.args.pairs.now.items c.loop-nested.pairs.items c.check.new.pairs.items c.loop-nested.nested-index (Unit {0}) _ item.0 item.1
    (c.loop-nested.invariant.checks standing told all) (c.in_ok-below.ensures.told standing there) (c.in_err-check.ensures.told standing (c.nested_catalogue.ensures.unchanged ∙ there) all))

pub loop-nested-preserved : goal.loop-nested-preserved
loop-nested-preserved g t c =
    let item = item_of c.args.catalogue.now.nested c.nested-nested-items.result.now c.loop-nested.nested-index c.nested-item.result c.nested-nested-items.ensures c.loop-nested-test.true c.nested-item.is in
    record {
      checks = λ standing told all.
          let there = c.loop-nested.invariant.unchanged ∙ told in
          checks_more standing c.args.catalogue.now c.in_ok-below.below c.nested-item.result c.args.pairs.now.items c.loop-nested.pairs.items c.check.new.pairs.items c.loop-nested.nested-index (tt {0}) c.requires.rules item.0 item.1
          (c.loop-nested.invariant.checks standing told all) (c.in_ok-below.ensures.told standing there) (c.in_ok-check.ensures.told standing (c.nested_catalogue.ensures.unchanged ∙ there) all);
      fetches = λ standing told. new_opened standing c.args.known.now c.args.id.now c.args.catalogue.now c.in_ok-below.below c.nested-item.result c.loop-nested.nested-index _ _ _ _ c.requires.rules item.0 item.1 (sym c.is_known.ensures ∙ c.if-is_known.false)
          (c.loop-nested.invariant.fetches standing told) (c.in_ok-below.ensures.told standing (c.loop-nested.invariant.unchanged ∙ told)) c.in_ok-below.ensures.taken (c.check.ensures.fetches standing (c.nested_catalogue.ensures.unchanged ∙ c.loop-nested.invariant.unchanged ∙ told));
      keeps = λ p has. c.in_ok-check.ensures.keeps p (c.loop-nested.invariant.keeps p has);
      adds = λ standing told. added_more standing c.args.known.now c.args.id.now c.args.catalogue.now c.in_ok-below.below c.nested-item.result c.loop-nested.nested-index c.args.pairs.now.items c.loop-nested.pairs.items c.check.new.pairs.items c.requires.rules item.0 item.1
          (sym c.is_known.ensures ∙ c.if-is_known.false) (c.loop-nested.invariant.adds standing told) (c.in_ok-below.ensures.told standing (c.loop-nested.invariant.unchanged ∙ told)) (c.in_ok-check.ensures.only standing (c.nested_catalogue.ensures.unchanged ∙ c.loop-nested.invariant.unchanged ∙ told));
      lists = λ standing told. lists_more standing c.args.known.now c.args.catalogue.now c.in_ok-below.below c.nested-item.result c.loop-nested.pairs.items c.check.new.pairs.items c.loop-nested.nested-index c.requires.rules item.0 item.1 c.in_ok-check.ensures.keeps
          (c.loop-nested.invariant.lists standing told) (c.in_ok-below.ensures.told standing (c.loop-nested.invariant.unchanged ∙ told)) (c.in_ok-check.ensures.given standing (c.nested_catalogue.ensures.unchanged ∙ c.loop-nested.invariant.unchanged ∙ told));
      reads = g.met.S.Shelf.reads_then _ _ _ c.loop-nested.invariant.reads (g.met.S.Shelf.reads_then _ _ _ c.nested_catalogue.ensures.reads c.check.ensures.reads);
      unchanged = c.check.ensures.unchanged ∙ c.nested_catalogue.ensures.unchanged ∙ c.loop-nested.invariant.unchanged;
      later = (let first = c.loop-nested.invariant.later in let second = c.nested_catalogue.ensures.cause.later in let third = c.check.ensures.cause.later in omega (arith, first, second, third));
    }

pub returns-clause-told : goal.returns-clause-told
returns-clause-told g t c = λ standing told all.
    let size = ap (λ (ns : List Nested). length ns) c.nested-nested-items.ensures in
    let end = c.loop-nested-test.false in
    checks_all standing c.args.id.now c.args.catalogue.now c.args.pairs.now.items c.loop-nested.pairs.items c.add_pair.new.pairs.items c.loop-nested.nested-index c.at.result.now (tt {0}) (tt {0}) c.requires.kind (sym c.at.ensures) (omega (arith, size, end))
    (c.in_ok-check_files.ensures.told standing told) (c.loop-nested.invariant.checks standing told all)
    (c.in_ok-add_pair.ensures ∙ ap (λ (p : Path). c.loop-nested.pairs.items ++ (c.args.id.now, p) ∷ []) c.in_ok-path.ensures)

pub returns-in_err-check_files-clause-fetches : goal.returns-in_err-check_files-clause-fetches
returns-in_err-check_files-clause-fetches g t c =
    λ standing told. new_all standing c.args.known.now c.args.id.now c.args.catalogue.now 0 _ _ (new_none standing c.args.known.now c.args.id.now c.args.catalogue.now _ _ c.check_files.ensures.taken)

pub loop-nested-init : goal.loop-nested-init
loop-nested-init g t c =
    record {
      checks = λ standing told all. checks_none standing c.args.catalogue.now c.args.pairs.now.items;
      fetches = λ standing told. new_none standing c.args.known.now c.args.id.now c.args.catalogue.now _ _ c.check_files.ensures.taken;
      keeps = λ p has. has;
      adds = λ standing told. added_none standing c.args.known.now c.args.id.now c.args.catalogue.now c.args.pairs.now.items;
      lists = λ standing told. lists_none standing c.args.known.now c.args.catalogue.now c.args.pairs.now.items;
      reads = c.check_files.ensures.reads;
      unchanged = c.check_files.ensures.unchanged;
      later = c.check_files.ensures.cause.later;
    }

pub returns-in_err-below-clause-fetches : goal.returns-in_err-below-clause-fetches
returns-in_err-below-clause-fetches g t c =
    let item = item_of c.args.catalogue.now.nested c.nested-nested-items.result.now c.loop-nested.nested-index c.nested-item.result c.nested-nested-items.ensures c.loop-nested-test.true c.nested-item.is in
    λ standing told. new_all standing c.args.known.now c.args.id.now c.args.catalogue.now _ _ _ (new_ended standing c.args.known.now c.args.id.now c.args.catalogue.now c.nested-item.result c.loop-nested.nested-index _ _ _ c.requires.rules item.0 item.1 (c.loop-nested.invariant.fetches standing told) c.in_err-below.ensures.taken)

pub returns-in_err-check-clause-fetches : goal.returns-in_err-check-clause-fetches
returns-in_err-check-clause-fetches g t c =
    let item = item_of c.args.catalogue.now.nested c.nested-nested-items.result.now c.loop-nested.nested-index c.nested-item.result c.nested-nested-items.ensures c.loop-nested-test.true c.nested-item.is in
    λ standing told. new_all standing c.args.known.now c.args.id.now c.args.catalogue.now _ _ _ (new_opened standing c.args.known.now c.args.id.now c.args.catalogue.now c.in_ok-below.below c.nested-item.result c.loop-nested.nested-index _ _ _ _ c.requires.rules item.0 item.1 (sym c.is_known.ensures ∙ c.if-is_known.false)
    (c.loop-nested.invariant.fetches standing told) (c.in_ok-below.ensures.told standing (c.loop-nested.invariant.unchanged ∙ told)) c.in_ok-below.ensures.taken (c.check.ensures.fetches standing (c.nested_catalogue.ensures.unchanged ∙ c.loop-nested.invariant.unchanged ∙ told)))

pub returns-in_err-path-clause-fetches : goal.returns-in_err-path-clause-fetches
returns-in_err-path-clause-fetches g t c =
    λ standing told. new_all standing c.args.known.now c.args.id.now c.args.catalogue.now _ _ _ (c.loop-nested.invariant.fetches standing told)

pub returns-in_err-add_pair-clause-fetches : goal.returns-in_err-add_pair-clause-fetches
returns-in_err-add_pair-clause-fetches g t c =
    λ standing told. new_all standing c.args.known.now c.args.id.now c.args.catalogue.now _ _ _ (c.loop-nested.invariant.fetches standing told)

pub returns-clause-fetches : goal.returns-clause-fetches
returns-clause-fetches g t c =
    λ standing told. new_all standing c.args.known.now c.args.id.now c.args.catalogue.now _ _ _ (c.loop-nested.invariant.fetches standing told)

pub returns-clause-keeps : goal.returns-clause-keeps
returns-clause-keeps g t c = λ p has. has_added c.loop-nested.pairs.items c.add_pair.new.pairs.items _ c.in_ok-add_pair.ensures p (c.loop-nested.invariant.keeps p has)

pub returns-clause-given : goal.returns-clause-given
returns-clause-given g t c = λ standing told.
    let size = ap (λ (ns : List Nested). length ns) c.nested-nested-items.ensures in
    let end = c.loop-nested-test.false in
    lists_all standing c.args.known.now c.args.id.now c.args.catalogue.now c.loop-nested.pairs.items c.add_pair.new.pairs.items c.loop-nested.nested-index c.at.result.now c.requires.kind (sym c.at.ensures) (omega (arith, size, end))
    (c.loop-nested.invariant.lists standing told) (c.in_ok-add_pair.ensures ∙ ap (λ (p : Path). c.loop-nested.pairs.items ++ (c.args.id.now, p) ∷ []) c.in_ok-path.ensures)

pub returns-clause-only : goal.returns-clause-only
returns-clause-only g t c = λ standing told.
    added_all standing c.args.known.now c.args.id.now c.args.catalogue.now c.loop-nested.nested-index c.args.pairs.now.items c.loop-nested.pairs.items c.add_pair.new.pairs.items c.at.result.now c.requires.kind (sym c.at.ensures)
    (c.loop-nested.invariant.adds standing told) (c.in_ok-add_pair.ensures ∙ ap (λ (p : Path). c.loop-nested.pairs.items ++ (c.args.id.now, p) ∷ []) c.in_ok-path.ensures)

pub returns-in_err-check-clause-reads : goal.returns-in_err-check-clause-reads
returns-in_err-check-clause-reads g t c = g.met.S.Shelf.reads_then _ _ _ c.loop-nested.invariant.reads (g.met.S.Shelf.reads_then _ _ _ c.nested_catalogue.ensures.reads c.check.ensures.reads)

pub returns-in_err-below-clause-told : goal.returns-in_err-below-clause-told
returns-in_err-below-clause-told g t c = λ standing told all.
    let item = item_of c.args.catalogue.now.nested c.nested-nested-items.result.now c.loop-nested.nested-index c.nested-item.result c.nested-nested-items.ensures c.loop-nested-test.true c.nested-item.is in
    left_by (ChecksFrom standing c.args.id.now c.args.catalogue.now c.args.pairs.now.items c.loop-nested.pairs.items) _ _ c.from_residual-in_err-below.ensures.1
    (checks_unopened standing c.args.id.now c.args.catalogue.now c.nested-item.result c.args.pairs.now.items c.loop-nested.pairs.items (Unit {0}) _ c.requires.kind (c.loop-nested.nested-index, item.0, sym item.1) (c.in_err-below.ensures.told standing (c.loop-nested.invariant.unchanged ∙ told)))
