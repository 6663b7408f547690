use Rattle.std.proofs.Common.{◌∙◌, ap}
use Rattle.std.specs.Prelude.{Some}
use Rattle.std.proofs.lemmas.Result.{IfOk-weaker}
use Rattle.serde_json.specs.Data.{Data}
use Rattle.cv_messages.specs.PayloadAsk.{payload_ask_in}
use Rattle.cv_messages.proofs.PayloadAsks.{payload_back}
use Rattle.cv_messages.proofs.payload_ask.PayloadAsk.write.Goals as goal

pub returns-clause-reads_back : goal.returns-clause-reads_back
returns-clause-reads_back c =
    IfOk-weaker c.write_object.result _ _
    (λ bytes object. ap payload_ask_in (object ∙ ap (λ (d : Data). Some d) c.in_ok-value.ensures.json) ∙ payload_back c.args.self.now c.in_ok-value.ensures.digest)
    c.write_object.ensures.reads_back
