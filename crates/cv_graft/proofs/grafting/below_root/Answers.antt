use Rattle.std.proofs.Common.{Result, Err, ◌∙◌, arith}
use Rattle.cv_base.proofs.Laws.{left_by}
use Rattle.cv_ports.proofs.Laws.{raised_both}
use Rattle.cv_graft.specs.Both.{GraftsBoth}
use Rattle.cv_graft.specs.Way.{IsOfEither, TellsDamage}
use Rattle.cv_graft.specs.declared.grafted.Grafted.{Grafted}
use Rattle.cv_graft.specs.declared.graft_fault.GraftFault.{GraftFault}
use Rattle.cv_graft.proofs.Both.{grafts_way, unread_both}
use Rattle.cv_graft.proofs.Finding.{cuts_way}
use Rattle.cv_graft.proofs.Holders.{tells_way, tells_left, tells_right}
use Rattle.cv_graft.proofs.grafting.below_root.Goals as goal

pub returns-in_err-other-clause-taken : goal.returns-in_err-other-clause-taken
returns-in_err-other-clause-taken g c = λ standing told t n way other.
    let p = c.args.path.now in
    let one = c.holder.ensures.taken standing told n (cuts_way other) in
    let le = one.1 in
    (one.0, omega (arith, le), one.2)

pub returns-in_err-other-clause-damaged : goal.returns-in_err-other-clause-damaged
returns-in_err-other-clause-damaged g c = λ standing told.
    let one = c.args.newest.now.hash in
    let other = c.args.offered.now.hash in
    left_by (λ (x : Result Grafted GraftFault). TellsDamage standing (IsOfEither standing one other c.args.path.now) x) _ _ c.from_residual.ensures.1
    (tells_right {X = Grafted} standing one other c.args.path.now (Err _) (tells_way Grafted standing c.args.offered.now.hash c.args.path.now _ (c.in_err-other.ensures.fault standing told)))

pub returns-in_err-other-clause-way : goal.returns-in_err-other-clause-way
returns-in_err-other-clause-way g c = λ standing told.
    let one = c.args.newest.now.hash in
    let other = c.args.offered.now.hash in
    left_by (GraftsBoth standing one other c.args.path.now) _ _ c.from_residual.ensures.1 (unread_both standing one other c.args.path.now _)

pub returns-in_err-other-clause-most : goal.returns-in_err-other-clause-most
returns-in_err-other-clause-most g c =
    let le = c.holder.ensures.most.1 in
    (c.holder.ensures.most.0, omega (arith, le), c.holder.ensures.most.2)

pub returns-clause-taken : goal.returns-clause-taken
returns-clause-taken g c = λ standing told t n way other.
    raised_both _ _ _ _ _ (c.holder.ensures.taken standing told n (cuts_way other)) (c.from_root.ensures.taken standing (c.holder.ensures.unchanged ∙ told) t (cuts_way way))

pub returns-clause-reads : goal.returns-clause-reads
returns-clause-reads g c = g.met.S.Shelf.reads_then _ _ _ c.holder.ensures.reads c.from_root.ensures.reads

pub returns-clause-damaged : goal.returns-clause-damaged
returns-clause-damaged g c = λ standing told.
    tells_left standing c.args.newest.now.hash c.args.offered.now.hash c.args.path.now c.from_root.result (c.from_root.ensures.damaged standing (c.holder.ensures.unchanged ∙ told))

pub returns-clause-way : goal.returns-clause-way
returns-clause-way g c = λ standing told.
    grafts_way standing c.args.newest.now.hash c.args.offered.now.hash c.args.path.now c.in_ok-other.other c.from_root.result (c.in_ok-other.ensures.holder standing told)
    (c.from_root.ensures.way standing (c.holder.ensures.unchanged ∙ told))

pub returns-clause-most : goal.returns-clause-most
returns-clause-most g c = raised_both _ _ _ _ _ c.holder.ensures.most c.from_root.ensures.most
