-- What this crate proves for those above it: tokens and digests are read back, and nothing else is read.
pub use Rattle.cv_messages.proofs.Spellings.{token_of-token_text, token_of-None, digest_of-encode_lower, digest_of-Some}
