-- What this crate proves for those above it, which cite it from here.

-- what a fault shows of a shelf, and what a shelf has behind a store
pub use Rattle.cv_objects.proofs.Clashing.{collision_clashes, damage_is_none, stored_clash, gains_some, has_all}
-- the names of objects, and the digests of their ids
pub use Rattle.cv_objects.proofs.Naming.{data_off_way, digest_back}
pub use Rattle.cv_objects.proofs.Telling.{standing_is}
pub use Rattle.cv_objects.proofs.Batching.{is_digest_of, named_none, named_more}
-- where nothing came, and where objects of the batch may
pub use Rattle.cv_objects.proofs.Batching.{kept, brings_nothing, brings_later}
-- a batch that is there still is after a sync, and a fault of the vault refuses none
pub use Rattle.cv_objects.proofs.Stores.{has_then, refusal_inside}
-- faults that are handed on
pub use Rattle.cv_objects.proofs.Looking.{handed_on, same_fault, outside}
