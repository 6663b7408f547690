use Rattle.std.proofs.Common.{take}
use Rattle.std.proofs.lemmas.Result.{IfOk-weaker}
use Rattle.cv_http.specs.JudgementsInner.{Judges}
use Rattle.cv_http.proofs.Windows.{seen_is, judged_all}
use Rattle.cv_http.proofs.judge.judge.Goals as goal

pub returns : goal.returns
returns g c =
    let seen = seen_is c.args.held.now c.min-count.result c.min-count.ensures in
    IfOk-weaker c.parse.result (Judges g.H.Head.form (take c.min-count.result c.args.held.now)) (Judges g.H.Head.form c.args.held.now)
    (λ judgement is. judged_all g.H.Head.form c.args.held.now (take c.min-count.result c.args.held.now) judgement seen is) c.parse.ensures
