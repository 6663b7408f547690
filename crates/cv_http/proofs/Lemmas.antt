-- What this crate proves for those above it: how what was read goes on, and that bytes are read in one way.
pub use Rattle.cv_http.proofs.Streams.{begins_on, gets_same, gets_moved, gets_on, draws_of, draws_as, draws_none, draws_then, draws_reads, looks_none, looks_still, looks_as, looks_then, body_looks}
pub use Rattle.cv_http.proofs.OneReading.{one_head, not_refused, not_cut, empty_begun, empty_refused, one_refusal, refused_in_target}
