use Rattle.std.proofs.Common.{◌≡◌, codes, sym, subst, rules}
use Rattle.cv_resolver.specs.declared.question.Question.{Question}
use Rattle.cv_shell.specs.Line.{Says, PathIn, asks, renews}
use Rattle.cv_shell.specs.declared.line.Line.TheVariants.{Ask}
use Rattle.cv_shell.proofs.line.read_line.Goals as goal

pub returns-then-eq-clause-says : goal.returns-then-eq-clause-says
returns-then-eq-clause-says c = let same : c.args.text.now ≡ codes "renew" = search (rules, c.eq.ensures, c.as_slice.ensures) in renews same

pub returns-in-Some-2-clause-says : goal.returns-in-Some-2-clause-says
returns-in-Some-2-clause-says c =
    let path : PathIn c.in-Some.bytes.now c.in-Some-2.path = rw c.in-Some-2.is at c.in_ok-path.ensures in
    subst (λ (q : Question). Says c.args.text.now (Ask q)) (sym c.question.ensures)
    (asks c.in-Some.verb c.in-Some.bytes.now c.in-Some-2.path c.in-Some.ensures path)
