-- What this crate proves for those above it: an id of a list has parts of the list on its sides, by which `IsNext`,
-- `IsPutAfter` and `IsTakenOut` are read; an id of a list is live; an empty chain is of every arena. Then what
-- lists of ids without a second copy are.
pub use Rattle.cv_links.proofs.Lists.{split, live_in, rest_first, rest_none, id_cases, held_in, puts_with_value, links_of_value}
pub use Rattle.cv_links.proofs.OneList.{empty_list}
pub use Rattle.cv_links.proofs.Segments.{here, later, cons_cases, none_within, apart_right, apart_between}
