-- What this crate proves for those above it: calls of a desk follow calls. The desk's implementation gives them as laws, so they stand
-- in specs/.
pub use Rattle.cv_desk.specs.Calls.{calls_none, calls_one, calls_more}
