use Rattle.std.proofs.Common.{rules}
use Rattle.cv_answers.specs.AnswerText.{repo_in}
use Rattle.cv_answers.proofs.Lists.{behind-more, behind-fault}
use Rattle.cv_answers.proofs.read_answer.read_names.Goals as goal

pub loop-value-preserved : goal.loop-value-preserved
loop-value-preserved c =
    behind-more repo_in c.args.values.now c.loop-value.value-index c.value-item.result c.in_ok-name.name c.loop-value.names.items c.push.new.self.items _
    c.loop-value-test.true c.value-item.is c.in_ok-name.ensures (search rules) c.loop-value.invariant

pub returns-in_err-name : goal.returns-in_err-name
returns-in_err-name c =
    behind-fault repo_in c.args.values.now c.loop-value.value-index c.value-item.result c.in_err-name.field-0.0 c.loop-value.names.items _ c.from_residual.result _
    c.loop-value-test.true c.value-item.is c.in_err-name.ensures c.loop-value.invariant c.from_residual.ensures.1
