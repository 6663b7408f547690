use Rattle.std.proofs.Common.{List, length, Ok, Err, Result, sym, ap, subst, ◌∙◌, arith, rules}
use Rattle.std.specs.Prelude.{Contains}
use Rattle.cv_base.specs.Path.{Path}
use Rattle.cv_base.proofs.Laws.{left_by}
use Rattle.cv_rows.specs.declared.nested.Nested.{Nested}
use Rattle.cv_cut.specs.declared.load_fault.LoadFault.{LoadFault}
use Rattle.cv_load.specs.GrowthInner.{FillsFrom, IsClear, ChangesBelow}
use Rattle.cv_load.specs.FetchesInner.{FetchesBelow}
use Rattle.cv_load.proofs.Growing.{item_of}
use Rattle.cv_load.proofs.Filling.{fills_none, fills_unopened, fills_more, fills_all, fills_broken}
use Rattle.cv_load.proofs.Clearing.{clear_first, clear_more, grows_within, changes_more}
use Rattle.cv_load.proofs.Fetching.{first_none, first_unopened, first_opened, first_all}
use Rattle.cv_load.proofs.loading.+fill.Goals as goal

pub returns-in_err-check_files-clause-fetches : goal.returns-in_err-check_files-clause-fetches
returns-in_err-check_files-clause-fetches g t c = λ standing told.
    let Below = λ (r : Result (Unit {0}) LoadFault). FetchesBelow standing c.args.id.now c.args.catalogue.now (g.S.Shelf.taken c.args.shelf.now) (g.S.Shelf.taken c.check_files.new.shelf) r in
    left_by Below _ _ c.from_residual.ensures.1
    (first_all standing c.args.id.now c.args.catalogue.now 0 _ _ (Err _) tt (first_none standing c.args.id.now c.args.catalogue.now _ _ (Err _) c.check_files.ensures.taken))

pub returns-in_err-place_rows-clause-fetches : goal.returns-in_err-place_rows-clause-fetches
returns-in_err-place_rows-clause-fetches g t c = λ standing told.
    let Below = λ (r : Result (Unit {0}) LoadFault). FetchesBelow standing c.args.id.now c.args.catalogue.now (g.S.Shelf.taken c.args.shelf.now) (g.S.Shelf.taken c.check_files.new.shelf) r in
    left_by Below _ _ c.from_residual-in_err-place_rows.ensures.1
    (first_all standing c.args.id.now c.args.catalogue.now 0 _ _ (Err _) tt (first_none standing c.args.id.now c.args.catalogue.now _ _ (Err _) c.check_files.ensures.taken))

pub returns-in_err-place_rows-clause-within : goal.returns-in_err-place_rows-clause-within
returns-in_err-place_rows-clause-within g t c = grows_within c.args.catalogue.now.at c.args.catalogue.now.rows c.args.tree.now c.place_rows.new.tree c.in_err-place_rows.ensures.grows

pub loop-nested-init : goal.loop-nested-init
loop-nested-init g t c = record {
  fills = λ standing told. fills_none standing c.args.id.now c.args.catalogue.now c.args.tree.now c.place_rows.new.tree c.in_ok-place_rows.ensures.grows c.in_ok-place_rows.ensures.there;
  reads = c.check_files.ensures.reads;
  unchanged = c.check_files.ensures.unchanged;
  clear = clear_first c.args.catalogue.now c.args.tree.now c.place_rows.new.tree c.requires.rules c.requires.clear c.in_ok-place_rows.ensures.grows c.in_ok-place_rows.ensures.there;
  within = grows_within c.args.catalogue.now.at c.args.catalogue.now.rows c.args.tree.now c.place_rows.new.tree c.in_ok-place_rows.ensures.grows;
  later = c.check_files.ensures.cause.later;
  fetches = λ standing told. first_none standing c.args.id.now c.args.catalogue.now _ _ (Ok (tt {0})) c.check_files.ensures.taken;
}

pub returns-in_err-below-clause-fetches : goal.returns-in_err-below-clause-fetches
returns-in_err-below-clause-fetches g t c = λ standing told.
    let item = item_of c.args.catalogue.now.nested c.nested-nested-items.result.now c.loop-nested.nested-index c.nested-item.result c.nested-nested-items.ensures c.loop-nested-test.true c.nested-item.is in
    let Below = λ (r : Result (Unit {0}) LoadFault). FetchesBelow standing c.args.id.now c.args.catalogue.now (g.S.Shelf.taken c.args.shelf.now) (g.S.Shelf.taken c.nested_catalogue.new.shelf) r in
    left_by Below _ _ c.from_residual-in_err-below.ensures.1
    (first_all standing c.args.id.now c.args.catalogue.now _ _ _ (Err _) tt
    (first_unopened standing c.args.id.now c.args.catalogue.now c.nested-item.result c.loop-nested.nested-index _ _ _ _ c.requires.rules item.0 item.1 (c.loop-nested.invariant.fetches standing told) c.in_err-below.ensures.taken))

pub returns-in_err-fill-clause-told : goal.returns-in_err-fill-clause-told
returns-in_err-fill-clause-told g t c = λ standing told.
    let item = item_of c.args.catalogue.now.nested c.nested-nested-items.result.now c.loop-nested.nested-index c.nested-item.result c.nested-nested-items.ensures c.loop-nested-test.true c.nested-item.is in
    let there = c.loop-nested.invariant.unchanged ∙ told in
    left_by (FillsFrom standing c.args.id.now c.args.catalogue.now c.args.tree.now c.fill.new.tree) _ _ c.from_residual-in_err-fill.ensures.1
    (fills_broken standing c.args.id.now c.args.catalogue.now c.in_ok-below.below c.nested-item.result c.args.tree.now c.loop-nested.tree c.fill.new.tree c.loop-nested.nested-index (Unit {0}) _ item.0 item.1
    (c.loop-nested.invariant.fills standing told) (c.in_ok-below.ensures.told standing there) (c.in_err-fill.ensures.told standing (c.nested_catalogue.ensures.unchanged ∙ there)))

pub returns-in_err-fill-clause-within : goal.returns-in_err-fill-clause-within
returns-in_err-fill-clause-within g t c =
    let item = item_of c.args.catalogue.now.nested c.nested-nested-items.result.now c.loop-nested.nested-index c.nested-item.result c.nested-nested-items.ensures c.loop-nested-test.true c.nested-item.is in
    changes_more c.args.catalogue.now c.nested-item.result c.args.tree.now c.loop-nested.tree c.fill.new.tree c.requires.rules (c.loop-nested.nested-index, item.0, sym item.1) c.loop-nested.invariant.within
    (subst (λ (p : Path). ChangesBelow p c.loop-nested.tree c.fill.new.tree) c.in_ok-below.ensures.place c.fill.ensures.within)

pub returns-in_err-fill-clause-fetches : goal.returns-in_err-fill-clause-fetches
returns-in_err-fill-clause-fetches g t c = λ standing told.
    let item = item_of c.args.catalogue.now.nested c.nested-nested-items.result.now c.loop-nested.nested-index c.nested-item.result c.nested-nested-items.ensures c.loop-nested-test.true c.nested-item.is in
    let there = c.loop-nested.invariant.unchanged ∙ told in
    let Below = λ (r : Result (Unit {0}) LoadFault). FetchesBelow standing c.args.id.now c.args.catalogue.now (g.S.Shelf.taken c.args.shelf.now) (g.S.Shelf.taken c.fill.new.shelf) r in
    left_by Below _ _ c.from_residual-in_err-fill.ensures.1
    (first_all standing c.args.id.now c.args.catalogue.now _ _ _ (Err _) tt
    (first_opened standing c.args.id.now c.args.catalogue.now c.in_ok-below.below c.nested-item.result c.loop-nested.nested-index _ _ _ _ (Err _) c.requires.rules item.0 item.1 (c.loop-nested.invariant.fetches standing told)
    (c.in_ok-below.ensures.told standing there) c.in_ok-below.ensures.taken (c.in_err-fill.ensures.fetches standing (c.nested_catalogue.ensures.unchanged ∙ there))))

pub loop-nested-preserved : goal.loop-nested-preserved
loop-nested-preserved g t c =
    let item = item_of c.args.catalogue.now.nested c.nested-nested-items.result.now c.loop-nested.nested-index c.nested-item.result c.nested-nested-items.ensures c.loop-nested-test.true c.nested-item.is in
    let has : Contains c.args.catalogue.now.nested c.nested-item.result = (c.loop-nested.nested-index, item.0, sym item.1) in
    let within : ChangesBelow c.nested-item.result.path c.loop-nested.tree c.fill.new.tree = subst (λ (p : Path). ChangesBelow p c.loop-nested.tree c.fill.new.tree) c.in_ok-below.ensures.place c.fill.ensures.within in
    record {
      fills = λ standing told.
          let there = c.loop-nested.invariant.unchanged ∙ told in
          fills_more standing c.args.id.now c.args.catalogue.now c.in_ok-below.below c.nested-item.result c.args.tree.now c.loop-nested.tree c.fill.new.tree c.loop-nested.nested-index (tt {0}) c.requires.rules item.0 item.1
          (c.loop-nested.invariant.fills standing told) (c.in_ok-below.ensures.told standing there) (c.in_ok-fill.ensures.told standing (c.nested_catalogue.ensures.unchanged ∙ there));
      reads = g.met.S.Shelf.reads_then _ _ _ c.loop-nested.invariant.reads (g.met.S.Shelf.reads_then _ _ _ c.nested_catalogue.ensures.reads c.fill.ensures.reads);
      unchanged = c.fill.ensures.unchanged ∙ c.nested_catalogue.ensures.unchanged ∙ c.loop-nested.invariant.unchanged;
      clear = clear_more c.args.catalogue.now c.nested-item.result c.loop-nested.nested-index c.loop-nested.tree c.fill.new.tree c.requires.rules item.0 item.1 within c.loop-nested.invariant.clear;
      within = changes_more c.args.catalogue.now c.nested-item.result c.args.tree.now c.loop-nested.tree c.fill.new.tree c.requires.rules has c.loop-nested.invariant.within within;
      later = (let first = c.loop-nested.invariant.later in let second = c.nested_catalogue.ensures.cause.later in let third = c.fill.ensures.cause.later in omega (arith, first, second, third));
      fetches = λ standing told.
          let there = c.loop-nested.invariant.unchanged ∙ told in
          first_opened standing c.args.id.now c.args.catalogue.now c.in_ok-below.below c.nested-item.result c.loop-nested.nested-index _ _ _ _ (Ok (tt {0})) c.requires.rules item.0 item.1 (c.loop-nested.invariant.fetches standing told)
          (c.in_ok-below.ensures.told standing there) c.in_ok-below.ensures.taken (c.in_ok-fill.ensures.fetches standing (c.nested_catalogue.ensures.unchanged ∙ there));
    }

pub fill-requires : goal.fill-requires
fill-requires g t c =
    let item = item_of c.args.catalogue.now.nested c.nested-nested-items.result.now c.loop-nested.nested-index c.nested-item.result c.nested-nested-items.ensures c.loop-nested-test.true c.nested-item.is in
    let clear : IsClear c.in_ok-below.below.at c.loop-nested.tree =
    subst (λ (p : Path). IsClear p c.loop-nested.tree) (sym c.in_ok-below.ensures.place) (c.loop-nested.invariant.clear c.loop-nested.nested-index c.nested-item.result (omega arith) item.0 (sym item.1)) in
    search (rules, clear)

pub returns-clause-told : goal.returns-clause-told
returns-clause-told g t c = λ standing told.
    let size = ap (λ (ns : List Nested). length ns) c.nested-nested-items.ensures in
    let end = c.loop-nested-test.false in
    fills_all standing c.args.id.now c.args.catalogue.now c.args.tree.now c.loop-nested.tree c.loop-nested.nested-index (tt {0}) (tt {0}) (omega (arith, size, end)) (c.in_ok-check_files.ensures.told standing told) (c.loop-nested.invariant.fills standing told)

pub returns-clause-fetches : goal.returns-clause-fetches
returns-clause-fetches g t c = λ standing told.
    let size = ap (λ (ns : List Nested). length ns) c.nested-nested-items.ensures in
    let end = c.loop-nested-test.false in
    first_all standing c.args.id.now c.args.catalogue.now _ _ _ (Ok (tt {0})) (omega (arith, size, end)) (c.loop-nested.invariant.fetches standing told)

pub returns-in_err-fill-clause-reads : goal.returns-in_err-fill-clause-reads
returns-in_err-fill-clause-reads g t c = g.met.S.Shelf.reads_then _ _ _ c.loop-nested.invariant.reads (g.met.S.Shelf.reads_then _ _ _ c.nested_catalogue.ensures.reads c.fill.ensures.reads)

pub returns-in_err-below-clause-told : goal.returns-in_err-below-clause-told
returns-in_err-below-clause-told g t c = λ standing told.
    let item = item_of c.args.catalogue.now.nested c.nested-nested-items.result.now c.loop-nested.nested-index c.nested-item.result c.nested-nested-items.ensures c.loop-nested-test.true c.nested-item.is in
    left_by (FillsFrom standing c.args.id.now c.args.catalogue.now c.args.tree.now c.loop-nested.tree) _ _ c.from_residual-in_err-below.ensures.1
    (fills_unopened standing c.args.id.now c.args.catalogue.now c.nested-item.result c.args.tree.now c.loop-nested.tree (Unit {0}) _ c.requires.kind (c.loop-nested.nested-index, item.0, sym item.1) (c.in_err-below.ensures.told standing (c.loop-nested.invariant.unchanged ∙ told)))
