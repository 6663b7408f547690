use Rattle.cv_base.proofs.Laws.{left_by}
use Rattle.cv_http.specs.ReplyTexts.{HasFinal, ReplyRead}
use Rattle.cv_http.specs.Wires.{HasEnded, Draws}
use Rattle.cv_http.proofs.Replying.{body_lost, body_looks, replied}
use Rattle.cv_http.proofs.Streams.{draws_then}
use Rattle.cv_http.proofs.wire.Wire.read_reply.Goals as goal

pub returns-in_err-body-clause-reads : goal.returns-in_err-body-clause-reads
returns-in_err-body-clause-reads g c =
    left_by (λ r. Draws g.R.Source.left g.R.Source.given c.args.self.now c.reply_body.new.self
    (λ b. ReplyRead (HasEnded (g.R.Source.left c.reply_body.new.self.source)) b c.reply_body.new.self.held r)) c.from_residual-in_err-body.result _ c.from_residual-in_err-body.ensures.1
    (draws_then g.R.Source.left g.R.Source.given c.args.self.now c.final_head.new.self c.reply_body.new.self (λ b. HasFinal b c.in_ok-head.head c.final_head.new.self.held) _ _ c.in_ok-head.ensures.reads c.in_err-body.ensures.reads
    (λ b more final is. body_lost (HasEnded (g.R.Source.left c.reply_body.new.self.source)) b more c.final_head.new.self.held c.reply_body.new.self.held c.in_ok-head.head _ final is))

pub returns-in_err-body-clause-looks : goal.returns-in_err-body-clause-looks
returns-in_err-body-clause-looks g c =
    body_looks g.R.Source.left g.R.Source.given g.R.Source.looks c.args.self.now c.final_head.new.self c.reply_body.new.self _ c.in_ok-head.head c.in_ok-head.ensures.reads c.final_head.ensures.looks c.reply_body.ensures.looks

pub returns-clause-reads : goal.returns-clause-reads
returns-clause-reads g c =
    draws_then g.R.Source.left g.R.Source.given c.args.self.now c.final_head.new.self c.reply_body.new.self (λ b. HasFinal b c.in_ok-head.head c.final_head.new.self.held) _ _ c.in_ok-head.ensures.reads c.in_ok-body.ensures.reads
    (λ b more final is. replied (HasEnded (g.R.Source.left c.reply_body.new.self.source)) b more c.final_head.new.self.held c.reply_body.new.self.held c.in_ok-body.body c.in_ok-head.head final is)

pub returns-clause-looks : goal.returns-clause-looks
returns-clause-looks g c =
    body_looks g.R.Source.left g.R.Source.given g.R.Source.looks c.args.self.now c.final_head.new.self c.reply_body.new.self _ c.in_ok-head.head c.in_ok-head.ensures.reads c.final_head.ensures.looks c.reply_body.ensures.looks
