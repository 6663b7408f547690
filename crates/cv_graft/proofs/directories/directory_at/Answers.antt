use Rattle.std.proofs.Common.{inr}
use Rattle.cv_base.proofs.Laws.{left_by}
use Rattle.cv_graft.specs.Way.{Tells}
use Rattle.cv_graft.proofs.Finding.{cuts_way}
use Rattle.cv_graft.proofs.directories.directory_at.Goals as goal

pub returns-in_err-catalogue-clause-told : goal.returns-in_err-catalogue-clause-told
returns-in_err-catalogue-clause-told g c = λ standing told t way. left_by (Tells t c.args.path.now) _ _ c.from_residual.ensures.1 (c.in_err-catalogue.ensures.told standing told t (cuts_way way))

pub returns-in_err-catalogue-clause-taken : goal.returns-in_err-catalogue-clause-taken
returns-in_err-catalogue-clause-taken g c = λ standing told t way. c.in_err-catalogue.ensures.taken standing told t (cuts_way way)

pub returns-clause-told : goal.returns-clause-told
returns-clause-told g c = λ standing told t way.
    let h = c.in_ok-catalogue.ensures.told standing told t (cuts_way way) in
    c.directory_in.ensures.tree t h.0 h.1 way.tree way.fits h.2 h.3

pub returns-clause-taken : goal.returns-clause-taken
returns-clause-taken g c = λ standing told t way. c.in_ok-catalogue.ensures.taken standing told t (cuts_way way)

pub returns-clause-found : goal.returns-clause-found
returns-clause-found g c = λ standing told. inr (c.in_ok-catalogue.catalogue, c.in_ok-catalogue.ensures.holder standing told, c.directory_in.ensures.row)
