use Rattle.std.proofs.Common.{Some, None, sym, ◌∙◌, arith, lit<}
use Rattle.std.proofs.lemmas.Str.Pattern.{split_parts}
use Rattle.cv_client.proofs.Urls.{no_host, with_port, without_port, port_stated, port_left}
use Rattle.cv_client.proofs.url.read_authority.Goals as goal
use Rattle.cv_client.proofs.url.read_authority.Goals.{in-Some+in_ok-read_port-in-Some, in-None}

pub returns-in_err-read_port-in-Some : goal.returns-in_err-read_port-in-Some
returns-in_err-read_port-in-Some c =
    let cut = split_parts 58 c.args.text.now (Some (c.in-Some.host, c.in-Some.port)) c.in-Some.ensures.cases (lit< tt) in
    rw c.from_residual.ensures (λ host port a.
    let same = with_port c.args.text.now c.in-Some.host.now c.in-Some.port.now host port cut.0 cut.1 a in
    let some = c.read_port.ensures.found port a.low a.high same.1 in
    let none = c.in_err-read_port-in-Some.was in
    cc)

pub returns-then-not-is_host : goal.returns-then-not-is_host
returns-then-not-is_host c =
    let none = sym c.is_host.ensures ∙ c.if-not-is_host.true in
    elim c.match-split_once.branch [
      | in-Some+in_ok-read_port-in-Some w ↦ λ host port a.
          let cut = split_parts 58 c.args.text.now (Some (w.in-Some.host, w.in-Some.port)) w.in-Some.ensures.cases (lit< tt) in
          let same = with_port c.args.text.now w.in-Some.host.now w.in-Some.port.now host port cut.0 cut.1 a in
          no_host w.in-Some.host.now host same.0 a.grammar (rw w.port-is at none)
      | in-None w ↦ λ host port a.
          let lacks = split_parts 58 c.args.text.now None w.in-None.ensures.cases (lit< tt) in
          let same = without_port c.args.text.now host port lacks a in
          no_host c.args.text.now host same.0 a.grammar (rw w.port-is at none)
    ]

pub returns : goal.returns
returns c =
    let is = sym c.is_host.ensures ∙ c.if-not-is_host.false in
    elim c.match-split_once.branch [
      | in-Some+in_ok-read_port-in-Some w ↦
          let cut = split_parts 58 c.args.text.now (Some (w.in-Some.host, w.in-Some.port)) w.in-Some.ensures.cases (lit< tt) in
          let value = w.in_ok-read_port-in-Some.ensures.value in
          rw w.port-is (port_stated c.args.text.now w.in-Some.host.now w.in-Some.port.now w.in_ok-read_port-in-Some.field-0 cut.0 value.1 value.0 (omega arith) (rw w.port-is at is))
      | in-None w ↦ rw w.port-is (port_left c.args.text.now (rw w.port-is at is))
    ]
