use Rattle.std.proofs.Common.{◌∙◌, ap}
use Rattle.std.specs.Prelude.{Some}
use Rattle.std.proofs.lemmas.Result.{IfOk-weaker}
use Rattle.serde_json.specs.Data.{Data}
use Rattle.cv_messages.specs.CommitAsk.{commit_ask_in}
use Rattle.cv_messages.proofs.CommitAsks.{commit_back}
use Rattle.cv_messages.proofs.commit_ask.CommitAsk.write.Goals as goal

pub returns-clause-reads_back : goal.returns-clause-reads_back
returns-clause-reads_back c =
    let value = c.in_ok-value.ensures in
    IfOk-weaker c.write_object.result _ _
    (λ bytes object. ap commit_ask_in (object ∙ ap (λ (d : Data). Some d) value.json) ∙ commit_back c.args.self.now value.digests.0 value.digests.1 c.requires)
    c.write_object.ensures.reads_back
