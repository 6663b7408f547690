use Rattle.std.proofs.Common.{◌∙◌, arith, rules}
use Rattle.cv_base.proofs.IdTexts.{cut, cut_name, cut_back, name_long}
use Rattle.cv_base.proofs.id.ObjectId.read_file_name.Goals as goal

pub returns-then-name-lt-FILE_NAME_SIZE-clause-found :
    goal.returns-then-name-lt-FILE_NAME_SIZE-clause-found
returns-then-name-lt-FILE_NAME_SIZE-clause-found c = λ id is named.
    let long = name_long _ id is named in
    absurd (omega (arith, long))

pub returns-clause-value : goal.returns-clause-value
returns-clause-value c =
    let parts = cut _ _ _ _ _ _ _ _ _ (omega arith) c.split_at.ensures.front c.split_at.ensures.back c.split_at-2.ensures.front c.split_at-2.ensures.back c.split_at-3.ensures.front c.split_at-3.ensures.back c.split_at-4.ensures.front c.split_at-4.ensures.back in
    cut_back _ _ _ _ _ _ _ parts (search (rules, c.ne.ensures)) (search (rules, c.ne-else-ne.ensures)) (rw (← c.join_digits.ensures) c.of_parts.ensures.value)

pub returns-clause-found : goal.returns-clause-found
returns-clause-found c = λ id is named.
    let parts = cut _ _ _ _ _ _ _ _ _ (omega arith) c.split_at.ensures.front c.split_at.ensures.back c.split_at-2.ensures.front c.split_at-2.ensures.back c.split_at-3.ensures.front c.split_at-3.ensures.back c.split_at-4.ensures.front c.split_at-4.ensures.back in
    let is-cut = cut_name _ _ _ _ _ _ id parts is named in
    c.of_parts.ensures.found id is (c.join_digits.ensures ∙ is-cut.0) is-cut.1
