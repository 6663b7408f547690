-- What this crate proves for those above it, which cite it from here.

-- a good root means a tree
pub use Rattle.cv_load.proofs.GoodTree.{a_tree_is_meant}
-- where a hash means a tree nothing that is reached is lacking or bad
pub use Rattle.cv_load.proofs.GoodLaws.{none_lacking, none_bad}
-- where rows and nested entries of a catalogue stand, and what is below them
pub use Rattle.cv_load.proofs.Below.{entries_apart, entry_below}
-- the only node of a single node's tree
pub use Rattle.cv_load.proofs.LoadedTree.{single_entry}
-- a loop over a list has come to one element more, and to all
pub use Rattle.cv_load.proofs.Growing.{each_all, each_more}
-- known pairs stay whole while the shelf grows
pub use Rattle.cv_load.proofs.Knowing.{known_more}
