-- What this crate proves for those above it: the catalogues of a tree, how they are opened, and what becomes of them where a
-- subtree is replaced.
pub use Rattle.cv_cut.proofs.Behind.{IsBehind, is_behind}
pub use Rattle.cv_cut.proofs.Bools.{so}
pub use Rattle.cv_cut.proofs.Canonical.{cat_is}
pub use Rattle.cv_cut.proofs.CanonicalRules.{canonical, canonical_at, cut_some, fits_at_cut, order_count, other_cut, region_apart}
pub use Rattle.cv_cut.proofs.Collisions.{among_within, cut_of_tree, within_among, within_root}
pub use Rattle.cv_cut.proofs.Ends.{same_rest, HasLast, last_name-append, last_some, near_below, parent_key-append, some_last}
pub use Rattle.cv_cut.proofs.Fitting.{apart_after, fits_after, passes_of, put-root}
pub use Rattle.cv_cut.proofs.Grafts.{Means-more, Means-put, cut_covers}
pub use Rattle.cv_cut.proofs.Holder.{AreCrossed, at_cut, cat_after, covers_p, cut_after, full_after, goes_at, here, holders, keys_after, not_full_after, stays_at, there}
pub use Rattle.cv_cut.proofs.Joined.{AreHolders, covers-shift, is_near-in, is_near-out, joined, path-in, rest_behind}
pub use Rattle.cv_cut.proofs.KindLaws.{rest_is}
pub use Rattle.cv_cut.proofs.Lists.{apart_append, kept_apart, sorted_apart}
pub use Rattle.cv_cut.proofs.Between.{marked-at}
pub use Rattle.cv_cut.proofs.MarkLaws.{covers_append, longer_covers_not, marked-out, near-here, near-out}
pub use Rattle.cv_cut.proofs.MeansAfter.{means_after, part_means}
pub use Rattle.cv_cut.proofs.Members.{comes_from, first_or_later, first_there, goes_to, later_there, none_there, passes, passing}
pub use Rattle.cv_cut.proofs.Opening.{IsThere, Unsized, misstated, misstating_bad, nested_long, nested_there, nested_unopened, opens_there, transition_long, transition_of, unopened, transition_at}
pub use Rattle.cv_cut.proofs.Over.{more_over, nearest, same_ends, same_over}
pub use Rattle.cv_cut.proofs.PieceLaws.{fits_subtree, own_only, own_piece, put_whole, ready_of}
pub use Rattle.cv_cut.proofs.PieceRows.{entries_spelled, entry_there, keys_are, rows_spelled, texts_apart_within}
pub use Rattle.cv_cut.proofs.PlacedCuts.{come_apart, full_below, part_objects, shares_over}
pub use Rattle.cv_cut.proofs.PlacedLaws.{alone_holds, fits_over, holder_of, keys_over}
pub use Rattle.cv_cut.proofs.Placing.{AreCrossed as ArePlacedCrossed, ComeApart, Inside, Placing, all_nested, all_rows, holders as placed_holders, at_cut as placed_at_cut, covers_p as placed_covers_p, stays_at as placed_stays_at, keys_after as placed_keys_after, cat_after as placed_cat_after, full_after as placed_full_after, not_full_after as placed_not_full_after, inside_each as placed_inside_each, cut_after as placed_cut_after}
pub use Rattle.cv_cut.proofs.RegionLists.{keys_apart, keys_once, nested_list, nested_of-by_text, row_list, rows_of-by_key, texts_apart}
pub use Rattle.cv_cut.proofs.RegionRules.{StandsAtCut, stands_at_cut, file_kind, file_some}
pub use Rattle.cv_cut.proofs.Regions.{IsAbove, IsRowThere, above, root_node, stands, stands_only, directory_node}
pub use Rattle.cv_cut.proofs.Renewed.{differs, renewed}
pub use Rattle.cv_cut.proofs.RowFacts.{marked_transition, root_not, root_row, row_key, row_kind, transition_marked, root_holds, root_no_file}
pub use Rattle.cv_cut.proofs.Sameness.{same_list}
pub use Rattle.cv_cut.proofs.Single.{Fits-single, cut_single, entries_single}
pub use Rattle.cv_cut.proofs.Sorted.{in_order_of, order_rises}
pub use Rattle.cv_cut.proofs.Told.{entries_are, entry_tells, nested_decodes, nested_decodes_at, no_row_tells, one_decoding, root_decodes, root_decodes_at, row_tells, row_tells_cut, rows_are, same_fields}
pub use Rattle.cv_cut.proofs.Twice.{StandOnce}
pub use Rattle.cv_cut.proofs.Upper.{above_contents, above_cut, at_cut as upper_at_cut, unmarked_r as upper_unmarked_r}
pub use Rattle.cv_cut.proofs.WayCuts.{at-root, cuts_some, holder_way, made_all, made_deeper, made_here, pass_way}
pub use Rattle.cv_cut.proofs.ToldNodes.{holder_directory}
