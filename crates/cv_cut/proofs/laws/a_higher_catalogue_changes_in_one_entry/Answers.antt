use Rattle.cv_cut.proofs.Upper.{above_contents, above_size, above_keys, above_full}
use Rattle.cv_cut.proofs.laws.a_higher_catalogue_changes_in_one_entry.Goals as goal

pub returns-clause-contents : goal.returns-clause-contents
returns-clause-contents _ = λ t s p c r e f a. above_contents t p s c r e f a

pub returns-clause-size : goal.returns-clause-size
returns-clause-size _ = λ t s p c r e f a. above_size t p s c r e f a

pub returns-clause-keys : goal.returns-clause-keys
returns-clause-keys _ = λ t s p c r e f a. above_keys t p s c r e f a

pub returns-clause-full : goal.returns-clause-full
returns-clause-full _ = λ t s p c r e f a. above_full t p s c r e f a
