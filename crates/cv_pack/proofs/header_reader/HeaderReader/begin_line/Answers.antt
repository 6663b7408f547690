use Rattle.std.proofs.Common.{◌≡◌, eqb, true, false, inr, sym, arith, rules}
use Rattle.cv_pack.specs.Pack.{total_size}
use Rattle.cv_pack.proofs.Steps.{lines_end, lines_wrong, lines_more}
use Rattle.cv_pack.proofs.header_reader.HeaderReader.begin_line.Goals as goal

pub returns-then-self-gt0-clause-begins : goal.returns-then-self-gt0-clause-begins
returns-then-self-gt0-clause-begins c = rw (← c.self.view_is) (λ at text. lines_more _ _ _ _ at text c.if-self-gt0.true c.clear.ensures.items)

pub returns-then-sum_of_sizes-from-clause-begins :
    goal.returns-then-sum_of_sizes-from-clause-begins
returns-then-sum_of_sizes-from-clause-begins c = rw (← c.self.view_is) (λ at text.
    let differs : eqb (total_size c.self.inside.entries) c.self.inside.total ≡ false = search rules in
    inr (sym (lines_wrong _ _ _ at text (omega arith) differs)))

pub returns-clause-begins : goal.returns-clause-begins
returns-clause-begins c = rw (← c.self.view_is) (λ at text.
    let same : eqb (total_size c.self.inside.entries) c.self.inside.total ≡ true = search rules in
    lines_end _ _ _ at text (omega arith) same)
