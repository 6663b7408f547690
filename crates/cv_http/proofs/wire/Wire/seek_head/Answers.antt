use Rattle.std.proofs.Common.{◌<◌, ◌≤◌, ◌∙◌, sym, ap, refl, length, arith}
use Rattle.cv_http.specs.Forms.{large}
use Rattle.cv_http.specs.declared.judge.TheConstants.{HEAD_LIMIT}
use Rattle.cv_http.proofs.HeadEnds.{none_there, awaited}
use Rattle.cv_http.proofs.wire.Wire.seek_head.Goals as goal

pub returns-then-not-may_end-clause-found : goal.returns-then-not-may_end-clause-found
returns-then-not-may_end-clause-found g c =
    (none_there g.H.Head.form g.met.H.Head.ends c.args.seen c.args.self.now.held c.requires.none (sym c.may_end.ensures ∙ c.if-not-may_end.true), refl)

pub returns-in-None-clause-found : goal.returns-in-None-clause-found
returns-in-None-clause-found g c =
    let found = rw c.in-None.is at c.in_ok-head.ensures.found in
    let size = ap length (c.bytes.ensures ∙ found.1) in
    let long : HEAD_LIMIT ≤ length c.args.self.now.held = omega (arith, size, c.if-bytes-ge-HEAD_LIMIT.true) in
    (large long found.0, found.1)

pub returns-in-None-2-clause-found : goal.returns-in-None-2-clause-found
returns-in-None-2-clause-found g c =
    let found = rw c.in-None.is at c.in_ok-head.ensures.found in
    let size = ap length (c.bytes.ensures ∙ found.1) in
    let short : length c.args.self.now.held < HEAD_LIMIT = omega (arith, size, c.if-bytes-ge-HEAD_LIMIT.false) in
    (awaited g.H.Head.form c.args.self.now.held short found.0, found.1)
