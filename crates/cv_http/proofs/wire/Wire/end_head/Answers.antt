use Rattle.std.proofs.Common.{◌≡◌, Err, refl}
use Rattle.cv_base.proofs.Laws.{left_by}
use Rattle.cv_http.specs.Wires.{HeadReadAs}
use Rattle.cv_http.specs.declared.fault.HttpFault.TheVariants.{ReadFault}
use Rattle.cv_http.proofs.Streams.{read_lost}
use Rattle.cv_http.proofs.wire.Wire.end_head.Goals as goal

pub returns-in_err-head-clause-read : goal.returns-in_err-head-clause-read
returns-in_err-head-clause-read g c =
    left_by (λ r. HeadReadAs g.H.Head.form c.args.self.now.held c.take_head.new.self.held r) c.from_residual.result _ c.from_residual.ensures.1
    (read_lost g.H.Head.form g.met.H.Head.refusal c.args.self.now.held c.take_head.new.self.held _ c.in_err-head.ensures.found).0

pub returns-in_err-head-clause-faults : goal.returns-in_err-head-clause-faults
returns-in_err-head-clause-faults g c =
    left_by (λ r. r ≡ Err ReadFault → ⊥) c.from_residual.result _ c.from_residual.ensures.1
    ((read_lost g.H.Head.form g.met.H.Head.refusal c.args.self.now.held c.take_head.new.self.held _ c.in_err-head.ensures.found).2 _ refl)
