use Rattle.std.proofs.Common.{◌<◌, ℕ, length, IsSome, IsTrue, get_or, ap, arith}
use Rattle.std.specs.FinMap.{get}
use Rattle.cv_base.specs.Path.{Path}
use Rattle.cv_rows.specs.Row.{holds_rows}
use Rattle.cv_rows.specs.Places.{StandsAt}
use Rattle.cv_rows.specs.declared.row.Row.{Row}
use Rattle.cv_rows.proofs.Lemmas.{each_long, row_stands, stands_contained}
use Rattle.cv_load.proofs.Growing.{grows_more, still_there, row_there, each_more, each_all, item_of}
use Rattle.cv_load.proofs.Clearing.{ready_grown}
use Rattle.cv_load.proofs.placing.place_holders.Goals as goal

pub place_holder-requires-clause-ready : goal.place_holder-requires-clause-ready
place_holder-requires-clause-ready c =
    ready_grown c.args.catalogue.now.at c.args.catalogue.now.rows c.args.tree.now c.loop-row.tree c.requires.ready c.loop-row.invariant.grows

pub bounds-paths-row : goal.bounds-paths-row
bounds-paths-row c =
    let long = each_long c.args.catalogue.now.at c.args.catalogue.now.rows c.args.catalogue.now.rows c.args.paths.now c.requires.paths in
    omega (arith, long, c.loop-row-test.true, ap length c.rows-rows.ensures.rows)

pub place_holder-requires-clause-stands : goal.place_holder-requires-clause-stands
place_holder-requires-clause-stands c =
    let item = item_of c.args.catalogue.now.rows c.rows-rows.result.now c.loop-row.row c.index-rows-row.result c.rows-rows.ensures.rows c.loop-row-test.true c.index-rows-row.is in
    row_stands c.args.catalogue.now.at c.args.catalogue.now.rows c.args.catalogue.now.rows c.args.paths.now c.loop-row.row c.index-rows-row.result c.index-paths-row.result c.requires.paths item.0 item.1 c.index-paths-row.is

pub loop-row-preserved : goal.loop-row-preserved
loop-row-preserved c =
    let at = c.args.catalogue.now.at in
    let rows = c.args.catalogue.now.rows in
    let item = item_of rows c.rows-rows.result.now c.loop-row.row c.index-rows-row.result c.rows-rows.ensures.rows c.loop-row-test.true c.index-rows-row.is in
    let There : Row → Type 0 = λ (r : Row). (q : Path) → IsTrue (holds_rows r.kind) → StandsAt at rows r q → IsSome (get c.place_holder.new.tree q) in
    let before : (k : ℕ) (d : Row) → k < c.loop-row.row → There (get_or rows k d) =
    λ k d lt q holds s. still_there c.loop-row.tree c.place_holder.new.tree q c.in_ok-place_holder.ensures.grows.grows (c.loop-row.invariant.there k d q lt holds s) in
    let stands = row_stands at rows rows c.args.paths.now c.loop-row.row c.index-rows-row.result c.index-paths-row.result c.requires.paths item.0 item.1 c.index-paths-row.is in
    let here : There c.index-rows-row.result = λ q holds s. row_there c.args.catalogue.now c.index-rows-row.result c.index-paths-row.result q c.place_holder.new.tree c.requires.rules stands (c.in_ok-place_holder.ensures.there holds) s in
    record {
      grows = grows_more at rows c.args.tree.now c.loop-row.tree c.place_holder.new.tree c.loop-row.invariant.grows c.in_ok-place_holder.ensures.grows;
      there = λ k d q le holds s. each_more There rows c.loop-row.row c.index-rows-row.result before item.0 item.1 here k d le q holds s;
    }

pub returns-clause-there : goal.returns-clause-there
returns-clause-there c = λ r q holds s.
    let rows = c.args.catalogue.now.rows in
    let There : Row → Type 0 = λ (x : Row). (p : Path) → IsTrue (holds_rows x.kind) → StandsAt c.args.catalogue.now.at rows x p → IsSome (get c.loop-row.tree p) in
    each_all There rows (λ k d lt p kind t. c.loop-row.invariant.there k d p (omega (arith, lt, c.loop-row-test.false, ap length c.rows-rows.ensures.rows)) kind t) r (stands_contained s) q holds s
