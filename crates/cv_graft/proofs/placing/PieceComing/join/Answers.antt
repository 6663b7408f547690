use Rattle.std.proofs.Common.{◌≤◌, List, [], ◌++◌, map, Result, Ok, Err, ap, sym, subst, ◌∙◌}
use Rattle.std.specs.Prelude.{OnOk}
use Rattle.std.specs.List.{All, AllByRecursion, filter}
use Rattle.cv_base.specs.declared.object.Object.{Object}
use Rattle.cv_base.specs.Path.{Path}
use Rattle.cv_base.proofs.Laws.{left_by}
use Rattle.cv_tree.specs.declared.node.Node.{Node}
use Rattle.cv_rows.specs.Catalogue.{Contents}
use Rattle.cv_rows.specs.Made.{AreApart, keys_of, texts_of}
use Rattle.cv_rows.specs.Nested.{IsNested}
use Rattle.cv_rows.specs.Row.{IsRow}
use Rattle.cv_rows.specs.declared.nested.Nested.{Nested}
use Rattle.cv_rows.specs.declared.row.Row.{Row}
use Rattle.cv_cut.specs.Cut.{is_other, nested_in, row_in}
use Rattle.cv_cut.proofs.Lemmas.{entries_spelled, rows_spelled}
use Rattle.cv_graft.specs.MakesInner.{Joins}
use Rattle.cv_graft.specs.PlacedInner.{from_part}
use Rattle.cv_graft.specs.PlacedWay.{ArePathsCrossed, Rests}
use Rattle.cv_graft.specs.declared.graft_fault.GraftFault.{GraftFault}
use Rattle.cv_graft.proofs.Crossing.{place_before}
use Rattle.cv_graft.proofs.PlacedParts.{all_keys, all_texts, meets_at, full_at, none_full, lists_join, own_more}
use Rattle.cv_graft.proofs.placing.PieceComing.join.Goals as goal

pub cut_piece-requires : goal.cut_piece-requires
cut_piece-requires c = record { path = c.args.path.now; is = c.requires.ready.is; only = c.requires.ready.only }

pub returns-in_err-check_paths-clause-joins : goal.returns-in_err-check_paths-clause-joins
returns-in_err-check_paths-clause-joins c =
    left_by (Joins (from_part c.args.self.now.tree c.args.path.now) c.args.catalogue) _ _ c.from_residual-in_err-check_paths.ensures.1
    (meets_at c.args.catalogue c.in_ok-rest.rest c.args.path.now c.args.self.now.tree c.as_slice.result.now _
    (place_before c.args.catalogue c.in_ok-rest.rest c.args.path.now c.args.path.now c.in_ok-rest.ensures.left (c.in_ok-has_place.ensures c.if-not-branch.false))
    c.in_ok-rest.ensures.left (c.as_slice.ensures ∙ c.requires.ready.is.region_is) c.in_err-check_paths.ensures.err)

pub returns-in_err-made-clause-joins : goal.returns-in_err-made-clause-joins
returns-in_err-made-clause-joins c =
    let m = c.args.self.now.tree in
    let p = c.args.path.now in
    let crossed = subst (ArePathsCrossed c.in_ok-rest.rest.rows) (c.as_slice.ensures ∙ c.requires.ready.is.region_is) c.in_ok-check_paths.ensures.ok in
    let place = place_before c.args.catalogue c.in_ok-rest.rest p p c.in_ok-rest.ensures.left (c.in_ok-has_place.ensures c.if-not-branch.false) in
    let rests : Rests c.args.catalogue p m = record { place = place; rest = c.in_ok-rest.rest; is_ = c.in_ok-rest.ensures.rules; without = c.in_ok-rest.ensures.left; crossed = crossed } in
    left_by (Joins (from_part m p) c.args.catalogue) _ _ c.from_residual-in_err-made.ensures.1
    (full_at c.args.catalogue p m c.args.self.now.cuts _ rests c.requires.ready.is.cuts_are c.in_err-made.ensures.fault)

pub with_part-requires-clause-place : goal.with_part-requires-clause-place
with_part-requires-clause-place c = c.in_ok-rest.ensures.left.at ∙ c.requires.place

pub with_part-requires-clause-spelled : goal.with_part-requires-clause-spelled
with_part-requires-clause-spelled c =
    let m = c.args.self.now.tree in
    let is = c.into_vec-rows.ensures ∙ c.in_ok-made.ensures.rows ∙ ap (map (row_in m [])) c.requires.ready.is.region_is in
    subst (AllByRecursion IsRow) (sym is) (rows_spelled m c.args.path.now c.requires.ready.is.whole)

pub with_part-requires-clause-nested_spelled : goal.with_part-requires-clause-nested_spelled
with_part-requires-clause-nested_spelled c =
    let m = c.args.self.now.tree in
    let from = c.in_ok-made.ensures.nested ∙ ap (λ (es : List (Path × Node)). map (λ (e : Path × Node). nested_in m e.0) (filter (λ (e : Path × Node). is_other m [] e.0) es)) c.requires.ready.is.region_is in
    subst (AllByRecursion IsNested) (sym (c.into_vec-nested.ensures ∙ from)) (entries_spelled m c.args.path.now c.requires.ready.is.whole (subst (All (λ (n : Nested). n.size ≤ 16777216)) from c.in_ok-made.ensures.sizes))

pub with_part-requires-clause-texts : goal.with_part-requires-clause-texts
with_part-requires-clause-texts c =
    let m = c.args.self.now.tree in
    let from = c.in_ok-made.ensures.nested ∙ ap (λ (es : List (Path × Node)). map (λ (e : Path × Node). nested_in m e.0) (filter (λ (e : Path × Node). is_other m [] e.0) es)) c.requires.ready.is.region_is in
    subst (λ (l : List Nested). AreApart (texts_of (c.in_ok-rest.rest.nested ++ l))) (sym (c.into_vec-nested.ensures ∙ from)) (all_texts c.args.catalogue c.in_ok-rest.rest m c.args.path.now c.requires.ready.is.whole c.in_ok-rest.ensures.rules c.in_ok-rest.ensures.left)

pub with_part-requires-clause-keys : goal.with_part-requires-clause-keys
with_part-requires-clause-keys c =
    let m = c.args.self.now.tree in
    let is = c.into_vec-rows.ensures ∙ c.in_ok-made.ensures.rows ∙ ap (map (row_in m [])) c.requires.ready.is.region_is in
    let crossed = subst (ArePathsCrossed c.in_ok-rest.rest.rows) (c.as_slice.ensures ∙ c.requires.ready.is.region_is) c.in_ok-check_paths.ensures.ok in
    subst (λ (l : List Row). AreApart (keys_of (c.in_ok-rest.rest.rows ++ l))) (sym is) (all_keys c.in_ok-rest.rest m c.args.path.now c.requires.ready.is.whole c.in_ok-rest.ensures.rules crossed c.requires.ready.is.keys)

pub returns-clause-joins : goal.returns-clause-joins
returns-clause-joins c =
    let m = c.args.self.now.tree in
    let p = c.args.path.now in
    let rows = c.into_vec-rows.ensures ∙ c.in_ok-made.ensures.rows ∙ ap (map (row_in m [])) c.requires.ready.is.region_is in
    let nested = c.into_vec-nested.ensures ∙ c.in_ok-made.ensures.nested ∙ ap (λ (es : List (Path × Node)). map (λ (e : Path × Node). nested_in m e.0) (filter (λ (e : Path × Node). is_other m [] e.0) es)) c.requires.ready.is.region_is in
    let crossed = subst (ArePathsCrossed c.in_ok-rest.rest.rows) (c.as_slice.ensures ∙ c.requires.ready.is.region_is) c.in_ok-check_paths.ensures.ok in
    let place = place_before c.args.catalogue c.in_ok-rest.rest p p c.in_ok-rest.ensures.left (c.in_ok-has_place.ensures c.if-not-branch.false) in
    let rests : Rests c.args.catalogue p m = record { place = place; rest = c.in_ok-rest.rest; is_ = c.in_ok-rest.ensures.rules; without = c.in_ok-rest.ensures.left; crossed = crossed } in
    lists_join c.args.catalogue p m c.into_vec-rows.result.items c.into_vec-nested.result.items c.with_part.result rests
    (none_full m p c.args.self.now.cuts c.requires.ready.is.whole c.requires.ready.is.cuts_are c.in_ok-made.ensures.fits) rows nested c.with_part.ensures

whenever : {P : Type 0} (r : Result Contents GraftFault) → P → OnOk r P
whenever (Ok made) h = h
whenever (Err f) h = tt

pub returns-clause-named : goal.returns-clause-named
returns-clause-named c =
    let old = c.args.added.now.items in
    whenever c.with_part.result (own_more c.args.self.now.tree c.args.self.now.cuts old c.add_all.new.added.items
    (c.in_ok-add_all.ensures ∙ ap (λ (l : List Object). old ++ l) (c.into_vec.ensures ∙ c.in_ok-made.ensures.catalogues)))
