-- What this crate proves for those above it: the text and the file name of an id tell the id, and the text of a path the path; a SHA-1 is
-- a digest; kinds that compare as the same are one; a path is the one of its text; what a path covers, and what is behind it; paths and
-- their names are in a total order; facts of booleans, of the parts of a list and of sets of texts; and a field that is read is the field
-- that was written, and what was written is read again.
pub use Rattle.cv_base.proofs.Digests.{IsByte, digest_sha1, byte_small, bytes_at}
pub use Rattle.cv_base.proofs.FileNames.{one_id_text, one_file_name, same_digits}
pub use Rattle.cv_base.proofs.IdTexts.{length-digits}
pub use Rattle.cv_base.proofs.SameKinds.{same_kind-eq, same_kind-own}
pub use Rattle.cv_base.proofs.PathGrammar.{text_of-injective, Spells-path_of}
pub use Rattle.cv_base.proofs.Bools.{first_true, second_true, or_swap}
pub use Rattle.cv_base.proofs.Decimals.{decimal-no_dash}
pub use Rattle.cv_base.proofs.Parts.{same_parts}
pub use Rattle.cv_base.proofs.PathPrefixes.{behind-Some, behind-append, eq_by_cmp-append, is_behind, overlap-from_covers}
pub use Rattle.cv_base.proofs.FieldLaws.{bind_ok, guard_ended, passes, ok_is, accepted_ok, IsBytes-drop, IsBytes-take, Takes-then, wide16, wide32, wide64, number_takes, number_again, bytes_take, bytes_again, length_takes, length_again, text_taken}
pub use Rattle.cv_base.proofs.NamedPaths.{IsNamed, path_named-own, path_named-is}
pub use Rattle.cv_base.proofs.Sets.{contains-more}
pub use Rattle.cv_base.proofs.SameIds.{same_id-eq, same_id-own}
pub use Rattle.cv_base.proofs.Values.{some_same, not_both, some_there, not_there, chosen, OnOk-map, on_err_only, handed_on, one_fault, left_by, first_false, either, unchosen, same_or_other, is_less, is_equal, then_equal}
pub use Rattle.cv_base.proofs.Lists.{all_push, all_append, all_weaker, each_all, item_there, stands_there, goes_to, image_at, last_push, last_map, fields_length, drop_is, rest_all, bytes_itself, bytes_eq-own, bytes_are, not_less}
pub use Rattle.cv_base.proofs.PathFacts.{parent-append, last_same, all_last, joined_path, same_name-symm, rising, same_path-itself, cmp-behind, covers_below, covers_itself, only_root, second_covers, not_before, covers_through}
pub use Rattle.cv_base.proofs.Targets.{no_target}
pub use Rattle.cv_base.specs.PathOrder.{path_total}
pub use Rattle.cv_base.proofs.PathOrder.{name_exact, path_exact, same_name_is, same_name_itself, same_path_is}
