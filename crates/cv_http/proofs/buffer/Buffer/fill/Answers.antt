use Rattle.std.proofs.Common.{rules, ◌≡◌, [], ap}
use Rattle.cv_http.proofs.Streams.{gets_same, looks_one}
use Rattle.cv_http.proofs.buffer.Buffer.fill.Goals as goal

pub returns-in_err-map_err-clause-gets : goal.returns-in_err-map_err-clause-gets
returns-in_err-map_err-clause-gets g c =
    let same : c.drop-drain.new.self.0.items ≡ c.args.self.now.held = search (rules, c.drop-drain.ensures.items, c.self.view_is) in
    let source : c.self.inside.source ≡ c.args.self.now.source = search (rules, c.self.view_is) in
    gets_same g.R.Source.left g.R.Source.given c.args.self.now (record { source = c.self.inside.source; held = c.drop-drain.new.self.0.items })
    (ap g.R.Source.left source) (ap g.R.Source.given source) same

pub returns-clause-looks : goal.returns-clause-looks
returns-clause-looks g c =
    let source : c.args.self.now.source ≡ c.self.inside.source = search (rules, c.self.view_is) in
    looks_one g.R.Source.left g.R.Source.looks c.args.self.now (record { source = c.read_piece.new.source; held = [] }) (g.R.Beside.Sink.passed c.args.beside.now)
    (rw source c.read_piece.ensures.looks)
