use Rattle.std.proofs.Common.{◌++◌, ◌∙◌, ap, refl, take, List, ℕ}
use Rattle.cv_ports.specs.Streams.{front}
use Rattle.cv_http.specs.Wires.{rest, WireView}
use Rattle.cv_http.proofs.Streams.{parts_on}
use Rattle.cv_http.proofs.wire.Wire.take_part.Goals as goal

pub returns-clause-stream : goal.returns-clause-stream
returns-clause-stream g c =
    ap (λ (w : WireView g.row.R.Denot). front c.extend_from_slice.new.self.items (rest g.R.Source.left w)) c.skip.ensures
    ∙ parts_on c.args.body.now.items _ c.args.self.now.held (g.R.Source.left c.args.self.now.source) _ c.min-count.result
    (c.in_ok-extend_from_slice.ensures.items ∙ ap (λ (x : List ℕ). c.args.body.now.items ++ take c.min-count.result x) c.bytes-2.ensures) refl
