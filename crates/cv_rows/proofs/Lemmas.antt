-- What this crate proves for those above it: how rows stand, and how row files are spelled and put in order.
pub use Rattle.cv_rows.proofs.Covers.{covers_last, ends_so, not_above}
pub use Rattle.cv_rows.proofs.FileLaws.{HasFile, one_file}
pub use Rattle.cv_rows.proofs.NestedLaws.{fits_there}
pub use Rattle.cv_rows.proofs.PlaceLaws.{one_place, same_by_key, stands_contained}
pub use Rattle.cv_rows.proofs.Placed.{each_long, each_stands, row_stands}
pub use Rattle.cv_rows.proofs.Regions.{file_len, same_test, stands_among}
pub use Rattle.cv_rows.proofs.RenewedLaws.{entry_len}
pub use Rattle.cv_rows.proofs.RuleLaws.{has_file}
pub use Rattle.cv_rows.proofs.Sorting.{nested_total, row_total}
pub use Rattle.cv_rows.proofs.TestLaws.{lacking_back, lacking_there, lacks, lacks_is, left_there, parts_again, parts_more, parts_moved}
pub use Rattle.cv_rows.proofs.Texts.{path_name-target}
pub use Rattle.cv_rows.proofs.Walks.{no_longer, stands_long}
pub use Rattle.cv_rows.proofs.Left.{no_root}
