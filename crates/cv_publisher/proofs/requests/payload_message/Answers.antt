use Rattle.std.proofs.Common.{◌≡◌, ◌∙◌, length, subst}
use Rattle.std.specs.Prelude.{IfOk}
use Rattle.serde_json.specs.Written.{compact_text}
use Rattle.sha1.specs.Sha1.{sha1}
use Rattle.cv_base.specs.Token.{token_text}
use Rattle.cv_messages.specs.PayloadAsk.{payload_ask_data}
use Rattle.cv_messages.specs.declared.payload_ask.PayloadAsk.{PayloadAsk}
use Rattle.cv_publisher.proofs.requests.payload_message.Goals as goal

pub returns : goal.returns
returns c =
    let header = c.args.header.now in
    let token : c.new.result ≡ token_text c.args.token = c.new.ensures ∙ c.in_ok-text.ensures in
    let ask : ◌≡◌ {A = PayloadAsk} (record { token = c.new.result; digest = c.digest.result; header_size = length header })
    (record { token = token_text c.args.token; digest = sha1 header; header_size = length header }) =
    λ i. record { token = token i; digest = c.digest.ensures i; header_size = length header } in
    subst (λ (a : PayloadAsk). IfOk c.write.result (λ m. m.items ≡ compact_text (payload_ask_data a))) ask c.write.ensures.text
